use Rattle.std.proofs.Common.{◌≡◌, ℕ, List, ◌-◌, ◌≤◌, ◌++◌, length, take, ap, ◌∙◌, arith}
use Rattle.std.specs.Prelude.{replicate}
use Rattle.std.proofs.lemmas.List.{take-replicate}
use Rattle.gba_numbers.proofs.numbers.resize.Goals as goal

abbrev zeros : ℕ → List ℕ
zeros count = replicate count 0

pub returns-clause-items : goal.returns-clause-items
returns-clause-items c =
    let bytes = c.args.queue.now.items in
    let more : ℕ = c.args.count - c.len.result in
    let same : more ≡ c.args.count - length bytes = omega (arith, c.truncate.ensures.len, c.len.ensures.value) in
    let few : more ≤ 32 = omega (arith, c.requires) in
    c.in-Ok.ensures.ok ∙ ap (λ t. t ++ take more (zeros 32)) c.truncate.ensures.items
    ∙ ap (λ t. take c.args.count bytes ++ t) (take-replicate more 32 0 few ∙ ap zeros same)
