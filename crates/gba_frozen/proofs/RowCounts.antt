-- How many numbers a row has.
use Rattle.std.proofs.Common.{◌≤◌, arith}
use Rattle.gba_frozen.specs.Rows.{count_of}
use Rattle.gba_frozen.specs.declared.rows.Row.{Row}
use Rattle.gba_frozen.specs.declared.rows.Row.TheVariants as row

pub count_few : (which : Row) → count_of which ≤ 8
unfolding count_of
count_few row.Heading = omega arith
count_few (row.Console n) = omega arith
count_few row.Clock = omega arith
count_few row.Halted = omega arith
count_few (row.Register n) = omega arith
count_few (row.Timer n) = omega arith
count_few (row.Dma n) = omega arith
count_few row.Sequencer = omega arith
count_few (row.Tone n) = omega arith
count_few row.Position = omega arith
count_few (row.Affine n) = omega arith
count_few row.Serial = omega arith
count_few row.Known = omega arith
count_few row.Flash = omega arith
count_few row.Was = omega arith
count_few row.Applied = omega arith
count_few row.Counts = omega arith
