use Rattle.std.proofs.Common.{◌≡◌, ℕ, ◌*◌, ◌<◌, ◌≤◌, slice_index, slice_set, subst, ◌∙◌, ⊎_elim, arith}
use Rattle.std.proofs.lemmas.Bool.{cases_lt}
use Rattle.std.proofs.lemmas.List.{get_or-set_other, get_or-set_same}
use Rattle.gba_ppu_dot.proofs.paint.clear_firsts.Goals as goal

pub loop-number-preserved : goal.loop-number-preserved
loop-number-preserved c =
    let paints = c.loop-number.paints in
    let number = c.loop-number.number in
    let was = c.loop-number.invariant in
    record {
      firsts = λ k h.
          ⊎_elim
          (λ (low : k < number). get_or-set_other paints (16 * number) (16 * k) 0x8000 0 (λ e. omega (arith, e, low))
          ∙ was.firsts k low)
          (λ (high : number ≤ k).
          let e : number ≡ k = omega arith in
          let P : ℕ → Type 0 = λ j. slice_index (slice_set paints (16 * number) 0x8000) (16 * j) ≡ 0x8000 in
          subst P e (get_or-set_same paints (16 * number) 0x8000 0 (omega arith)))
          (cases_lt k number);
      others = λ k h.
          get_or-set_other paints (16 * number) k 0x8000 0 (λ e. h (omega (arith, e))) ∙ was.others k h;
    }
