use Rattle.std.proofs.Common.{◌≡◌, ◌<◌, ℕ, true, drop, length}
use Rattle.gba_frozen.specs.Reading.{queue_byte, with_bytes}
use Rattle.gba_numbers.specs.Fields.{place_of}
use Rattle.gba_numbers.specs.Numbers.{is_there}
use Rattle.gba_filling.specs.Loose.{with_numbers}
use Rattle.gba_filling.proofs.rows.set_queue_bytes.Given as goal

-- the bytes that are left make of the console what all make of it at first
abbrev pub invariant-loop-place : goal.invariant-loop-place
invariant-loop-place l = record {
  left : with_numbers (with_bytes (queue_byte l.queue) l.place (drop l.place l.bytes) l.console.numbers) l.console
      ≡ with_numbers (with_bytes (queue_byte l.queue) 0 l.bytes l.fn.console.numbers) l.fn.console;
  there : (place : ℕ) → place < length l.bytes
      → is_there (place_of (queue_byte l.queue place)) l.console.numbers ≡ true;
}
