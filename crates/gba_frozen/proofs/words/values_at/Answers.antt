use Rattle.std.proofs.Common.{◌≡◌, ℕ, suc, ◌+◌, ◌-◌, [], ◌∷◌, ◌++◌, List, Ok, Err, refl, sym, ap, ◌∙◌, arith}
use Rattle.gba_text.specs.Steps.{taken}
use Rattle.gba_frozen.specs.Words.{value_at, values_at}
use Rattle.gba_frozen.proofs.Loops.{values_at-more, values_at-none}
use Rattle.gba_frozen.proofs.words.values_at.Goals as goal

pub returns-in-Err-clause-words : goal.returns-in-Err-clause-words
returns-in-Err-clause-words c =
    let left : ℕ = c.args.count - c.loop.counter in
    let more : left ≡ suc (c.args.count - (c.loop.counter + 1)) = omega arith in
    let step =
    values_at-more c.args.spelling left (c.args.count - (c.loop.counter + 1)) c.loop.values.items c.loop.words more in
    let failed : value_at c.args.spelling c.loop.words ≡ Err c.in-Err.kind = c.in-Err.ensures in
    sym c.loop.invariant.said ∙ (rw (step, failed) refl)

pub loop-preserved : goal.loop-preserved
loop-preserved c =
    let left : ℕ = c.args.count - c.loop.counter in
    let count : ℕ = c.args.count - (c.loop.counter + 1) in
    let more : left ≡ suc count = omega arith in
    let items : List ℕ = c.loop.values.items in
    let step = values_at-more c.args.spelling left count items c.loop.words more in
    let found : value_at c.args.spelling c.loop.words ≡ Ok (taken c.in-Ok.value c.value_at.new.words) =
    c.in-Ok.ensures in
    let moved : values_at c.args.spelling left items c.loop.words
    ≡ values_at c.args.spelling count (items ++ c.in-Ok.value ∷ []) c.value_at.new.words = rw (step, found) refl in
    record {
      said = ap (λ xs. values_at c.args.spelling count xs c.value_at.new.words) c.push.ensures.items ∙ sym moved
          ∙ c.loop.invariant.said;
      number = omega (arith, c.push.ensures.len, c.loop.invariant.number);
    }

pub returns-clause-words : goal.returns-clause-words
returns-clause-words c =
    let none : c.args.count - c.loop.counter ≡ 0 = omega arith in
    sym c.loop.invariant.said
    ∙ values_at-none c.args.spelling (c.args.count - c.loop.counter) c.loop.values.items c.loop.words none
