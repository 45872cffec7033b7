use Rattle.std.proofs.Common.{◌∙◌, ◌+◌, rules, subst, sym, drop}
use Rattle.gba_arm_table.proofs.Packing.{Packs, Packs-next, Packs-small}
use Rattle.gba_arm_table.proofs.parts.pack.Goals as goal

pub overflow_add-word : goal.overflow_add-word
overflow_add-word c =
    let next =
    Packs-next c.args.parts.now c.loop-part.part-index c.loop-part.word _ c.from.result c.loop-part-test.true
    c.loop-part.invariant (c.from.ensures ∙ c.bits.ensures) in
    let small = Packs-small _ _ _ next.1 in
    rw next.0 (search rules)

pub loop-part-preserved : goal.loop-part-preserved
loop-part-preserved c =
    let next =
    Packs-next c.args.parts.now c.loop-part.part-index c.loop-part.word _ c.from.result c.loop-part-test.true
    c.loop-part.invariant (c.from.ensures ∙ c.bits.ensures) in
    subst (λ n. Packs c.args.parts.now (n + c.from.result) (drop (c.loop-part.part-index + 1) c.args.parts.now))
    (sym next.0) next.1

pub overflow_cast-result : goal.overflow_cast-result
overflow_cast-result c =
    let small = Packs-small _ _ _ c.loop-part.invariant in
    search rules
