use Rattle.std.proofs.Common.{◌≡◌, ℕ, suc, ◌+◌, ◌-◌, ◌*◌, ◌++◌, List, drop, sym, ap, ◌∙◌, arith}
use Rattle.std.proofs.lemmas.List.{append-nil, drop-drop}
use Rattle.gba_frozen.proofs.Loops.{grown, numbers_in-none}
use Rattle.gba_frozen.proofs.words.bytes_in.Goals as goal

pub loop-place-preserved : goal.loop-place-preserved
loop-place-preserved c =
    let place : ℕ = c.loop-place.place in
    let digits : List ℕ = c.args.digits.now in
    let more : c.args.count - place ≡ suc (c.args.count - (place + 1)) = omega arith in
    let behind : 2 * place + 2 ≡ 2 * (place + 1) = omega arith in
    let rest : drop (2 * (place + 1)) digits ≡ drop 2 (drop (2 * place) digits) =
    sym (drop-drop 2 (2 * place) digits ∙ ap (λ n. drop n digits) behind) in
    record {
      numbers =
          grown 2 (c.args.count - place) (c.args.count - (place + 1)) c.byte_in.result (drop (2 * place) digits)
          c.loop-place.bytes.items c.push.new.self.items (drop (2 * (place + 1)) digits) _ more c.byte_in.ensures
          c.push.ensures.items rest c.loop-place.invariant.numbers;
      count = omega (arith, c.push.ensures.len, c.loop-place.invariant.count);
    }

pub returns-clause-items : goal.returns-clause-items
returns-clause-items c =
    let place : ℕ = c.loop-place.place in
    let none : c.args.count - place ≡ 0 = omega arith in
    sym (append-nil c.loop-place.bytes.items)
    ∙ ap (λ t. c.loop-place.bytes.items ++ t)
    (sym (numbers_in-none 2 (c.args.count - place) (drop (2 * place) c.args.digits.now) none))
    ∙ c.loop-place.invariant.numbers
