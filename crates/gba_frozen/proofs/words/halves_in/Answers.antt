use Rattle.std.proofs.Common.{◌≡◌, ℕ, suc, ◌+◌, ◌-◌, ◌*◌, ◌++◌, List, drop, sym, ap, ◌∙◌, arith}
use Rattle.std.proofs.lemmas.List.{append-nil, drop-drop}
use Rattle.gba_frozen.proofs.Loops.{grown, numbers_in-none}
use Rattle.gba_frozen.proofs.words.halves_in.Goals as goal

pub loop-place-preserved : goal.loop-place-preserved
loop-place-preserved c =
    let place : ℕ = c.loop-place.place in
    let digits : List ℕ = c.args.digits.now in
    let more : 240 - place ≡ suc (240 - (place + 1)) = omega arith in
    let behind : 4 * place + 4 ≡ 4 * (place + 1) = omega arith in
    let rest : drop (4 * (place + 1)) digits ≡ drop 4 (drop (4 * place) digits) =
    sym (drop-drop 4 (4 * place) digits ∙ ap (λ n. drop n digits) behind) in
    record {
      numbers =
          grown 4 (240 - place) (240 - (place + 1)) c.half_in.result (drop (4 * place) digits) c.loop-place.halves.items
          c.push.new.self.items (drop (4 * (place + 1)) digits) _ more c.half_in.ensures c.push.ensures.items rest
          c.loop-place.invariant.numbers;
      count = omega (arith, c.push.ensures.len, c.loop-place.invariant.count);
    }

pub returns : goal.returns
returns c =
    let place : ℕ = c.loop-place.place in
    let none : 240 - place ≡ 0 = omega arith in
    sym (append-nil c.loop-place.halves.items)
    ∙ ap (λ t. c.loop-place.halves.items ++ t)
    (sym (numbers_in-none 4 (240 - place) (drop (4 * place) c.args.digits.now) none))
    ∙ c.loop-place.invariant.numbers
