use Rattle.std.proofs.Common.{◌≡◌, ◌==◌, ◌*◌, ◌≤◌, true, false, ◌&&◌, ℕ, List, length, ◌/◌, ◌%◌, arith}
use Rattle.std.specs.List.{list_all}
use Rattle.std.proofs.lemmas.Bool.Decides.{nat_tests}
use Rattle.gba_text.proofs.Spans.{first_of_all, rest_of_all}
use Rattle.gba_frozen.specs.Lines.{are_bytes}
use Rattle.gba_frozen.specs.Spelling.{is_digit}
use Rattle.gba_frozen.proofs.Loops.{numbers_in-none}
use Rattle.gba_frozen.proofs.lines.queue_bytes.Goals as goal

are_bytes-inside : (count : ℕ) (word : List ℕ) → (count == 0) ≡ false → are_bytes count word ≡ true
    → 2 * count ≤ length word
unfolding are_bytes
are_bytes-inside count word some h =
    let parts = rw some at h in
    let front = first_of_all (length word % 2 == 0 && length word / 2 == count) (list_all is_digit word) parts in
    grind (arith, nat_tests)

are_bytes-digits : (count : ℕ) (word : List ℕ) → (count == 0) ≡ false → are_bytes count word ≡ true
    → list_all is_digit word ≡ true
unfolding are_bytes
are_bytes-digits count word some h =
    let parts = rw some at h in
    rest_of_all (length word % 2 == 0 && length word / 2 == count) (list_all is_digit word) parts

pub returns-then-count-eq0 : goal.returns-then-count-eq0
returns-then-count-eq0 c = grind (arith, numbers_in-none 2 c.args.count c.args.word.now (omega arith))

pub bytes_in-requires-clause-inside : goal.bytes_in-requires-clause-inside
bytes_in-requires-clause-inside c =
    are_bytes-inside c.args.count c.args.word.now (grind (arith, nat_tests)) c.requires.bytes

pub bytes_in-requires-clause-digits : goal.bytes_in-requires-clause-digits
bytes_in-requires-clause-digits c =
    are_bytes-digits c.args.count c.args.word.now (grind (arith, nat_tests)) c.requires.bytes
