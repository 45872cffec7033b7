-- The numbers of a row, of a sound queue and of the wave, one after another.
use Rattle.std.proofs.Common.{◌≡◌, ◌<◌, ◌≤◌, ℕ, zero, suc, ◌+◌, ◌*◌, ◌-◌, Bool, true, false, cond, ◌&&◌, nat_lt, List, [], ◌∷◌, length, take, drop, get_or, refl, ap, arith}
use Rattle.std.specs.Prelude.{replicate, slice_set}
use Rattle.std.proofs.lemmas.Bool.Decides.{nat_tests}
use Rattle.std.proofs.lemmas.Bool.{lt-ltb}
use Rattle.std.proofs.lemmas.List.{drop_all, drop_more, length-append, length-replicate, length-set, length-take}
use Rattle.gba_text.proofs.Spans.{first_of_all, rest_of_all}
use Rattle.gba_numbers.specs.Fields.{place_of}
use Rattle.gba_numbers.specs.Numbers.{ConsoleNumbers, is_there, resized, with_at, with_single, with_value}
use Rattle.gba_numbers.specs.Ranges.{field_fits}
use Rattle.gba_numbers.specs.declared.fields.Field.{Field}
use Rattle.gba_numbers.specs.Fields.{board_place}
use Rattle.gba_numbers.specs.declared.fields.BoardField.TheVariants as board
use Rattle.gba_numbers.specs.declared.fields.Field.TheVariants as console
use Rattle.gba_frozen.specs.Reading.{queue_byte, with_bytes, with_values}
use Rattle.gba_frozen.specs.Rows.{all_fit, field_of, in_time}
use Rattle.gba_frozen.specs.declared.rows.Row.{Row}

-- each value of a row is in its range
pub fits-at : (until : ℕ) (which : Row) (from place : ℕ) (values : List ℕ) → all_fit until which from values ≡ true
    → place < length values → field_fits (field_of which (from + place)) (get_or values place 0) ≡ true
unfolding all_fit
fits-at until which from place [] h below = absurd (omega arith)
fits-at until which from zero (value ∷ values) h below =
    let here : from + 0 ≡ from = omega arith in
    let field = field_of which from in
    let both = first_of_all (field_fits field value && in_time until field value)
    (all_fit until which (from + 1) values) h in
    rw here (first_of_all (field_fits field value) (in_time until field value) both)
fits-at until which from (suc place) (value ∷ values) h below =
    let there : from + suc place ≡ from + 1 + place = omega arith in
    let field = field_of which from in
    let more = rest_of_all (field_fits field value && in_time until field value)
    (all_fit until which (from + 1) values) h in
    rw there (fits-at until which (from + 1) place values more (omega arith))

-- one value more
pub values-more : (which : Row) (place : ℕ) (values : List ℕ) (n : ConsoleNumbers) → place < length values
    → with_values which place (drop place values) n
    ≡ with_values which (place + 1) (drop (place + 1) values)
    (with_value (field_of which place) (get_or values place 0) n)
unfolding with_values
values-more which place values n below =
    ap (λ (left : List ℕ). with_values which place left n) (drop_more values place 0 below)

pub values-none : (which : Row) (place : ℕ) (values : List ℕ) (n : ConsoleNumbers) → length values ≤ place
    → with_values which place (drop place values) n ≡ n
unfolding with_values
values-none which place values n over = rw (drop_all place values over) refl

-- one byte more
pub bytes-more : (field : ℕ → Field) (place : ℕ) (bytes : List ℕ) (n : ConsoleNumbers) → place < length bytes
    → with_bytes field place (drop place bytes) n
    ≡ with_bytes field (place + 1) (drop (place + 1) bytes) (with_value (field place) (get_or bytes place 0) n)
unfolding with_bytes
bytes-more field place bytes n below =
    ap (λ (left : List ℕ). with_bytes field place left n) (drop_more bytes place 0 below)

pub bytes-none : (field : ℕ → Field) (place : ℕ) (bytes : List ℕ) (n : ConsoleNumbers) → length bytes ≤ place
    → with_bytes field place (drop place bytes) n ≡ n
unfolding with_bytes
bytes-none field place bytes n over = rw (drop_all place bytes over) refl

-- a number that stands by itself is there
pub single-there : (place : ℕ) (n : ConsoleNumbers) → place < 138 → is_there place n ≡ true
unfolding is_there
single-there place n below = let inside : nat_lt place 138 ≡ true = lt-ltb place 138 below in rw inside refl

-- and so is a byte of the wave
pub wave-there : (place : ℕ) (n : ConsoleNumbers) → 202 ≤ place → place < 234 → is_there place n ≡ true
unfolding is_there
wave-there place n from below =
    let p1 : nat_lt place 138 ≡ false = grind (arith, nat_tests) in
    let p2 : nat_lt place 170 ≡ false = grind (arith, nat_tests) in
    let p3 : nat_lt place 202 ≡ false = grind (arith, nat_tests) in
    let p4 : nat_lt place 234 ≡ true = grind (arith, nat_tests) in
    rw (p1, p2, p3, p4) refl

-- which bytes are there is a matter of how many the queues hold
there-by : (n m : ConsoleNumbers) (place : ℕ) → length n.queue_a ≡ length m.queue_a
    → length n.queue_b ≡ length m.queue_b
    → is_there place n ≡ is_there place m
unfolding is_there
there-by n m place a b = rw (a, b) refl

-- so a byte that is set changes nothing in it
pub there-kept : (place other value : ℕ) (n : ConsoleNumbers) → 138 ≤ place
    → is_there other (with_at place value n) ≡ is_there other n
unfolding with_at
there-kept place other value n behind =
    let p1 : nat_lt place 138 ≡ false = grind (arith, nat_tests) in
    rw p1 (by_place (nat_lt place 170) (nat_lt place 202) (nat_lt place 218)) where
      by_place : (a b w : Bool) → is_there other
          (cond a (record n { queue_a = slice_set n.queue_a (place - 138) value })
          (cond b (record n { queue_b = slice_set n.queue_b (place - 170) value })
          (cond w (record n { wave0 = slice_set n.wave0 (place - 202) value })
          (record n { wave1 = slice_set n.wave1 (place - 218) value }))))
          ≡ is_there other n
      by_place true b w = there-by _ n other (length-set n.queue_a (place - 138) value) refl
      by_place false true w = there-by _ n other refl (length-set n.queue_b (place - 170) value)
      by_place false false true = there-by _ n other refl refl
      by_place false false false = there-by _ n other refl refl

length-resized : (count : ℕ) (bytes : List ℕ) → length (resized count bytes) ≡ count
length-resized count bytes =
    let zeros : length (replicate {A = ℕ} (count - length bytes) 0) ≡ count - length bytes =
    length-replicate (count - length bytes) 0 in
    omega (arith, length-append (take count bytes) (replicate (count - length bytes) 0), length-take count bytes)

-- with a queue's length its bytes are there
pub queue-there : (queue place count : ℕ) (n : ConsoleNumbers) → queue < 2 → count ≤ 32 → place < count
    → is_there (place_of (queue_byte queue place)) (with_value (console.Board (board.QueueLength queue)) count n) ≡ true
unfolding place_of board_place with_at with_single is_there
queue-there zero place count n two few below =
    let p1 : nat_lt (138 + 32 * 0 + place) 138 ≡ false = grind (arith, nat_tests) in
    let p2 : nat_lt (138 + 32 * 0 + place) 170 ≡ true = grind (arith, nat_tests) in
    let at : 138 + 32 * 0 + place - 138 ≡ place = omega arith in
    let long = length-resized count n.queue_a in
    rw (p1, p2, at, long) (lt-ltb place count below)
queue-there (suc zero) place count n two few below =
    let p1 : nat_lt (138 + 32 * 1 + place) 138 ≡ false = grind (arith, nat_tests) in
    let p2 : nat_lt (138 + 32 * 1 + place) 170 ≡ false = grind (arith, nat_tests) in
    let p3 : nat_lt (138 + 32 * 1 + place) 202 ≡ true = grind (arith, nat_tests) in
    let at : 138 + 32 * 1 + place - 170 ≡ place = omega arith in
    let long = length-resized count n.queue_b in
    rw (p1, p2, p3, at, long) (lt-ltb place count below)
queue-there (suc (suc queue)) place count n two few below = absurd (omega arith)

-- a byte of a queue stands behind the numbers that stand by themselves
pub queue-behind : (queue place : ℕ) → 138 ≤ place_of (queue_byte queue place)
unfolding place_of
queue-behind queue place = omega arith
