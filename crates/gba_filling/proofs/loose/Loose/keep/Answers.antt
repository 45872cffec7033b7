use Rattle.std.proofs.Common.{ℕ, List, [], ◌∷◌, ◌++◌, length, ap, sym, subst, arith, rules}
use Rattle.gba_frozen.specs.Places.{backup_of}
use Rattle.gba_frozen.specs.Views.{said_value}
use Rattle.gba_filling.specs.Consoles.{IsFilled}
use Rattle.gba_filling.specs.Drawn.{AreLines}
use Rattle.gba_filling.specs.Loose.{LooseConsole}
use Rattle.gba_filling.proofs.ConsoleLines.{drawn-kept, live-kept, memory-kept, memory-within, nothing-kept, queue-kept, row-kept, wave-kept}
use Rattle.gba_filling.proofs.loose.Loose.keep.Goals as goal

pub set_memory-requires : goal.set_memory-requires
set_memory-requires c =
    let setup = c.requires.0 in
    let said = said_value c.args.said.now in
    let within = memory-within setup c.requires.1 c.requires.2 c.args.self.now said c.in-Memory.place
    c.in-Memory.bytes.items
    (ap said_value c.in-Memory.is) c.requires.3 c.requires.4 in
    omega (arith, within, ap length c.as_slice-in-Memory.ensures.value)

pub returns-in-Nothing : goal.returns-in-Nothing
returns-in-Nothing c setup player draft fits h =
    nothing-kept (backup_of setup player) draft c.args.self.now (said_value c.args.said.now)
    (ap said_value c.in-Nothing.is) h

pub returns-in-Values : goal.returns-in-Values
returns-in-Values c setup player draft fits h =
    row-kept (backup_of setup player) draft c.args.self.now c.set_row.new.console (said_value c.args.said.now)
    c.in-Values.row c.in-Values.values.items (ap said_value c.in-Values.is) (search rules) h

pub returns-in-Queue : goal.returns-in-Queue
returns-in-Queue c setup player draft fits h =
    queue-kept (backup_of setup player) draft c.args.self.now c.set_queue.new.console (said_value c.args.said.now)
    c.in-Queue.queue c.in-Queue.current c.in-Queue.bytes.items (ap said_value c.in-Queue.is) (search rules) h

pub returns-in-Wave : goal.returns-in-Wave
returns-in-Wave c setup player draft fits h =
    wave-kept (backup_of setup player) draft c.args.self.now c.set_wave.new.console (said_value c.args.said.now)
    c.in-Wave.bank c.in-Wave.bytes.items (ap said_value c.in-Wave.is) (search rules) h

pub returns-in-Memory : goal.returns-in-Memory
returns-in-Memory c setup player draft fits h =
    memory-kept setup player draft c.args.self.now c.set_memory.new.self (said_value c.args.said.now) c.in-Memory.place
    c.in-Memory.bytes.items (ap said_value c.in-Memory.is) (search rules) fits h

pub returns-in-Drawn : goal.returns-in-Drawn
returns-in-Drawn c setup player draft fits h =
    let before : LooseConsole = record {
      numbers = c.self.inside.numbers;
      memories = c.self.inside.memories;
      drawn = c.self.inside.drawn;
    } in
    let held : IsFilled (backup_of setup player) draft before =
    subst (λ (f : LooseConsole). IsFilled (backup_of setup player) draft f) (sym c.self.view_is) h in
    let next : AreLines (draft.drawn ++ (c.in-Drawn.line, c.in-Drawn.colours.items) ∷ []) c.keep.new.self =
    subst (λ (colours : List ℕ). AreLines (draft.drawn ++ (c.in-Drawn.line, colours) ∷ []) c.keep.new.self)
    c.as_slice-in-Drawn.ensures.value (c.keep.ensures draft.drawn held.drawn) in
    drawn-kept (backup_of setup player) draft before (said_value c.args.said.now) c.in-Drawn.line
    c.in-Drawn.colours.items
    c.keep.new.self (ap said_value c.in-Drawn.is) next held

pub returns-in-Live : goal.returns-in-Live
returns-in-Live c setup player draft fits h =
    live-kept (backup_of setup player) draft c.args.self.now (said_value c.args.said.now) c.in-Live.sender
    c.in-Live.signal
    (ap said_value c.in-Live.is) h
