use Rattle.std.proofs.Common.{List, ℕ, ap, sym, subst, ◌∙◌}
use Rattle.gba_filling.specs.Loose.{LooseConsole}
use Rattle.gba_filling.specs.Memories.{HaveLengths, with_memory}
use Rattle.gba_filling.proofs.MemoryPuts.{lengths-kept}
use Rattle.gba_filling.proofs.loose.Loose.set_memory.Goals as goal

pub returns-clause-lengths : goal.returns-clause-lengths
returns-clause-lengths c backup long =
    let now : LooseConsole = c.args.self.now in
    subst (λ (memories : List (List ℕ)). HaveLengths backup memories)
    (ap (λ (memories : List (List ℕ)).
    with_memory (record { name = c.args.memory; offset = c.args.offset }) c.args.bytes.now memories)
    (ap (λ (one : LooseConsole). one.memories) (sym c.self.view_is)) ∙ sym c.put.ensures)
    (lengths-kept backup (record { name = c.args.memory; offset = c.args.offset }) c.args.bytes.now now.memories
    c.requires.within long)
