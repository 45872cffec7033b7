use Rattle.std.proofs.Common.{◌≡◌, drop}
use Rattle.gba_frozen.specs.Reading.{with_values}
use Rattle.gba_filling.specs.Loose.{with_numbers}
use Rattle.gba_filling.proofs.rows.set_row.Given as goal

-- the values that are left make of the console what all make of it at first
abbrev pub invariant-loop-part : goal.invariant-loop-part
invariant-loop-part l =
    with_numbers (with_values l.row l.part (drop l.part l.values) l.console.numbers) l.console
    ≡ with_numbers (with_values l.row 0 l.values l.fn.console.numbers) l.fn.console
