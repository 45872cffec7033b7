use Rattle.std.proofs.Common.{◌≡◌, ◌≢◌, ℕ, ◌*◌, ◌/◌, ◌%◌, ◌<◌, List, length, slice_index, slice_set, refl, subst, sym, ◌∙◌, ⊎_elim, arith}
use Rattle.std.proofs.lemmas.Bool.{cases_eq, eq-eqb, ne_eqb}
use Rattle.std.proofs.lemmas.List.{get_or-set_other, get_or-set_same}
use Rattle.gba_ppu_dot.specs.Paints.{byte_paint, nibble_paint, palette_colour}
use Rattle.gba_ppu_dot.proofs.paint.BackgroundPaints.of.Goals as goal

nibble_at : (palette paints colours : List ℕ) (entry : ℕ) → ((q : ℕ) → q < 16 → slice_index paints (16 * q) ≡ 0x8000)
    → ((k : ℕ) → k % 16 ≢ 0 → slice_index paints k ≡ slice_index colours k)
    → slice_index colours entry ≡ palette_colour palette entry → entry < 256
    → slice_index paints entry ≡ nibble_paint palette entry
nibble_at palette paints colours entry firsts others is h =
    ⊎_elim
    (λ (e : entry % 16 ≡ 0).
    let f : 16 * (entry / 16) ≡ entry = omega (arith, e) in
    let P : ℕ → Type 0 = λ k. slice_index paints k ≡ 0x8000 in
    subst P f (firsts (entry / 16) (omega arith)) ∙ sym (rw (eq-eqb (entry % 16) 0 e) refl))
    (λ (n : entry % 16 ≢ 0). others entry n ∙ is ∙ sym (rw (ne_eqb (entry % 16) 0 n) refl))
    (cases_eq (entry % 16) 0)

byte_at : (palette colours : List ℕ) (entry : ℕ) → length colours ≡ 256
    → slice_index colours entry ≡ palette_colour palette entry
    → slice_index (slice_set colours 0 0x8000) entry ≡ byte_paint palette entry
byte_at palette colours entry long is =
    ⊎_elim
    (λ (e : entry ≡ 0).
    let P : ℕ → Type 0 = λ k. slice_index (slice_set colours 0 0x8000) k ≡ 0x8000 in
    subst P (sym e) (get_or-set_same colours 0 0x8000 0 (omega (arith, long))) ∙ sym (rw (eq-eqb entry 0 e) refl))
    (λ (n : entry ≢ 0). get_or-set_other colours 0 entry 0x8000 0 (λ e. n e) ∙ is ∙ sym (rw (ne_eqb entry 0 n) refl))
    (cases_eq entry 0)

pub returns : goal.returns
returns c =
    let palette = c.args.palette.now in
    let colours = c.put_colours.new.paints in
    let long : length colours ≡ 256 = omega (arith, c.put_colours.auto.paints) in
    record {
      by_nibble = λ entry h.
          nibble_at palette c.clear_firsts.new.paints colours entry c.clear_firsts.ensures.firsts
          c.clear_firsts.ensures.others (c.put_colours.ensures entry h) h;
      by_byte = λ entry h. byte_at palette colours entry long (c.put_colours.ensures entry h);
    }
