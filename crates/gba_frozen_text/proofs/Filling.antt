-- The numbers of a console, filled line by line in the order of the file.
use Rattle.std.proofs.Common.{◌≡◌, ◌≤◌, ◌<◌, ℕ, zero, suc, ◌+◌, ◌-◌, ◌*◌, ◌==◌, true, false, nat_lt, ◌⊎◌, inl, inr, List, [], ◌∷◌, ◌++◌, length, take, drop, refl, ap, sym, ◌∙◌, subst, append_assoc, arith}
use Rattle.std.specs.Prelude.{replicate, slice_index, slice_set}
use Rattle.std.proofs.lemmas.Bool.Decides.{nat_tests}
use Rattle.std.proofs.lemmas.Bool.{lt-ltb}
use Rattle.gba_numbers.specs.Fields.{board_place, place_of}
use Rattle.gba_numbers.specs.Numbers.{ConsoleNumbers, length_a, length_b, numbers_at_first, value_at, value_of, with_at, with_single, with_value}
use Rattle.gba_numbers.specs.declared.fields.Field.{Field}
use Rattle.gba_frozen.specs.Reading.{with_bytes, with_values}
use Rattle.gba_frozen.specs.Rows.{count_of, field_of}
use Rattle.gba_frozen.specs.declared.rows.Row.{Row}
use Rattle.gba_frozen.specs.declared.rows.Row.TheVariants as row
use Rattle.gba_frozen_text.specs.Text.{row_values}

-- the first ones are those of a console, and the others as at first
unfoldable pub firsts : List ℕ
firsts = numbers_at_first.values

abbrev pub partly : ConsoleNumbers → ℕ → List ℕ → List ℕ → List ℕ → List ℕ → ConsoleNumbers
partly n count a b w0 w1 = record {
  values = take count n.values ++ drop count firsts;
  queue_a = a;
  queue_b = b;
  wave0 = w0;
  wave1 = w1;
}

pub firsts-count : length firsts ≡ 138
unfolding firsts numbers_at_first
firsts-count = refl

pub set-joined : (k : ℕ) (xs ys : List ℕ) → k < length xs → length ys ≡ length xs
    → slice_set (take k xs ++ drop k ys) k (slice_index xs k) ≡ take (suc k) xs ++ drop (suc k) ys
set-joined k [] ys h e = absurd (omega arith)
set-joined k (x ∷ xs) [] h e = absurd (omega arith)
set-joined zero (x ∷ xs) (y ∷ ys) h e = refl
set-joined (suc k) (x ∷ xs) (y ∷ ys) h e = ap (λ (t : List ℕ). x ∷ t) (set-joined k xs ys (omega arith) (omega arith))

keep-joined : (k : ℕ) (xs ys : List ℕ) → k < length xs → length ys ≡ length xs → slice_index xs k ≡ slice_index ys k
    → take k xs ++ drop k ys ≡ take (suc k) xs ++ drop (suc k) ys
keep-joined k [] ys h e same = absurd (omega arith)
keep-joined k (x ∷ xs) [] h e same = absurd (omega arith)
keep-joined zero (x ∷ xs) (y ∷ ys) h e same = ap (λ (v : ℕ). v ∷ ys) (sym same)
keep-joined (suc k) (x ∷ xs) (y ∷ ys) h e same =
    ap (λ (t : List ℕ). x ∷ t) (keep-joined k xs ys (omega arith) (omega arith) same)

-- one number more
pub set-one : (n : ConsoleNumbers) (k : ℕ) (a b w0 w1 : List ℕ) → length n.values ≡ 138 → k < 138
    → (k == length_a) ≡ false → (k == length_b) ≡ false
    → with_at k (slice_index n.values k) (partly n k a b w0 w1) ≡ partly n (suc k) a b w0 w1
unfolding with_at with_single
set-one n k a b w0 w1 long below no_a no_b =
    let inside : nat_lt k 138 ≡ true = lt-ltb k 138 below in
    let values = set-joined k n.values firsts (omega arith) (omega (arith, firsts-count)) in
    rw (inside, no_a, no_b, values) refl

-- a number that is as at first
pub keep-one : (n : ConsoleNumbers) (k : ℕ) (a b w0 w1 : List ℕ) → length n.values ≡ 138 → k < 138
    → slice_index n.values k ≡ slice_index firsts k → partly n k a b w0 w1 ≡ partly n (suc k) a b w0 w1
keep-one n k a b w0 w1 long below same =
    ap (λ (values : List ℕ). record { values = values; queue_a = a; queue_b = b; wave0 = w0; wave1 = w1 })
    (keep-joined k n.values firsts (omega arith) (omega (arith, firsts-count)) same)

pub value-single : (n : ConsoleNumbers) (k : ℕ) → k < 138 → value_at k n ≡ slice_index n.values k
unfolding value_at
value-single n k below = let inside : nat_lt k 138 ≡ true = lt-ltb k 138 below in rw inside refl

-- where the lengths of the queues don't stand
abbrev pub Apart : ℕ → ℕ → Type 0
Apart from to = (to ≤ 76) ⊎ (79 ≤ from)

not_a : (k to : ℕ) → k < to → Apart k to → (k == length_a) ≡ false
not_a k to h (inl low) = grind (arith, nat_tests)
not_a k to h (inr high) = grind (arith, nat_tests)

not_b : (k to : ℕ) → k < to → Apart k to → (k == length_b) ≡ false
not_b k to h (inl low) = grind (arith, nat_tests)
not_b k to h (inr high) = grind (arith, nat_tests)

later : (k to : ℕ) → Apart k to → Apart (suc k) to
later k to (inl low) = inl low
later k to (inr high) = inr (omega arith)

-- the numbers of a row
pub row-filled : (n : ConsoleNumbers) (which : Row) (start part count to : ℕ) (a b w0 w1 : List ℕ)
    → length n.values ≡ 138 → ((p : ℕ) → p < part + count → place_of (field_of which p) ≡ start + p)
    → start + part + count ≡ to → to ≤ 138 → Apart (start + part) to
    → with_values which part (row_values which part count n) (partly n (start + part) a b w0 w1) ≡ partly n to a b w0 w1
unfolding with_values row_values
row-filled n which start part zero to a b w0 w1 long places end few apart =
    ap (λ (k : ℕ). partly n k a b w0 w1) (omega arith)
row-filled n which start part (suc count) to a b w0 w1 long places end few apart =
    let here = places part (omega arith) in
    let value : value_of (field_of which part) n ≡ slice_index n.values (start + part) =
    ap (λ (p : ℕ). value_at p n) here ∙ value-single n (start + part) (omega arith) in
    let next : suc (start + part) ≡ start + (part + 1) = omega arith in
    let set : with_value (field_of which part) (value_of (field_of which part) n) (partly n (start + part) a b w0 w1)
    ≡ partly n (start + (part + 1)) a b w0 w1
    = ap (λ (p : ℕ). with_at p (value_of (field_of which part) n) (partly n (start + part) a b w0 w1)) here
    ∙ ap (λ (v : ℕ). with_at (start + part) v (partly n (start + part) a b w0 w1)) value
    ∙ set-one n (start + part) a b w0 w1 long (omega arith) (not_a (start + part) to (omega arith) apart)
    (not_b (start + part) to (omega arith) apart)
    ∙ ap (λ (k : ℕ). partly n k a b w0 w1) next in
    ap (with_values which (part + 1) (row_values which (part + 1) count n)) set
    ∙ row-filled n which start (part + 1) count to a b w0 w1 long (λ p below. places p (omega arith)) (omega arith) few
    (subst (λ (k : ℕ). Apart k to) next (later (start + part) to apart))

-- bytes that are filled one by one
set-front : (front rest : List ℕ) (v w : ℕ) → slice_set (front ++ w ∷ rest) (length front) v ≡ front ++ v ∷ rest
set-front [] rest v w = refl
set-front (x ∷ front) rest v w = ap (λ (t : List ℕ). x ∷ t) (set-front front rest v w)

length-more : (front : List ℕ) (v : ℕ) → length (front ++ v ∷ []) ≡ length front + 1
length-more [] v = refl
length-more (x ∷ front) v = ap suc (length-more front v) ∙ omega arith

pub bytes-filled : (field : ℕ → Field) (made : List ℕ → ConsoleNumbers) (most : ℕ)
    → ((bytes : List ℕ) (place value : ℕ) → place < most
    → with_value (field place) value (made bytes) ≡ made (slice_set bytes place value))
    → (front bytes : List ℕ) → length front + length bytes ≤ most
    → with_bytes field (length front) bytes (made (front ++ replicate (length bytes) 0)) ≡ made (front ++ bytes)
unfolding with_bytes
bytes-filled field made most sets front [] few = refl
bytes-filled field made most sets front (byte ∷ bytes) few =
    let rest : List ℕ = replicate (length bytes) 0 in
    let set : with_value (field (length front)) byte (made (front ++ 0 ∷ rest)) ≡ made ((front ++ byte ∷ []) ++ rest) =
    sets (front ++ 0 ∷ rest) (length front) byte (omega arith)
    ∙ ap made (set-front front rest byte 0 ∙ sym (append_assoc front (byte ∷ []) rest)) in
    ap (with_bytes field (length front + 1) bytes) set
    ∙ ap (λ (p : ℕ). with_bytes field p bytes (made ((front ++ byte ∷ []) ++ rest))) (sym (length-more front byte))
    ∙ bytes-filled field made most sets (front ++ byte ∷ []) bytes (omega (arith, length-more front byte))
    ∙ ap made (append_assoc front (byte ∷ []) bytes)

-- where the numbers of a row begin
unfoldable pub row_start : Row → ℕ
row_start row.Heading = 0
row_start (row.Console player) = 0
row_start row.Clock = 0
row_start row.Halted = 1
row_start (row.Register register) = 2 + register
row_start (row.Timer timer) = 39 + 4 * timer
row_start (row.Dma channel) = 55 + 5 * channel
row_start row.Sequencer = 79
row_start (row.Tone tone) = 80 + 8 * (tone - 1)
row_start row.Position = 112
row_start (row.Affine background) = 114 + 2 * (background - 2)
row_start row.Serial = 118
row_start row.Known = 125
row_start row.Flash = 129
row_start row.Was = 133
row_start row.Applied = 134
row_start row.Counts = 135

pub row-place : (which : Row) (part : ℕ) → part < count_of which
    → place_of (field_of which part) ≡ row_start which + part
unfolding count_of field_of place_of board_place row_start
row-place row.Heading part h = absurd (omega arith)
row-place (row.Console player) part h = absurd (omega arith)
row-place row.Clock part h = omega arith
row-place row.Halted part h = omega arith
row-place (row.Register register) part h = omega arith
row-place (row.Timer timer) zero h = omega arith
row-place (row.Timer timer) (suc zero) h = omega arith
row-place (row.Timer timer) (suc (suc zero)) h = omega arith
row-place (row.Timer timer) (suc (suc (suc zero))) h = omega arith
row-place (row.Timer timer) (suc (suc (suc (suc part)))) h = absurd (omega arith)
row-place (row.Dma channel) zero h = omega arith
row-place (row.Dma channel) (suc zero) h = omega arith
row-place (row.Dma channel) (suc (suc zero)) h = omega arith
row-place (row.Dma channel) (suc (suc (suc zero))) h = omega arith
row-place (row.Dma channel) (suc (suc (suc (suc zero)))) h = omega arith
row-place (row.Dma channel) (suc (suc (suc (suc (suc part))))) h = absurd (omega arith)
row-place row.Sequencer part h = omega arith
row-place (row.Tone tone) part h = omega arith
row-place row.Position zero h = omega arith
row-place row.Position (suc zero) h = omega arith
row-place row.Position (suc (suc part)) h = absurd (omega arith)
row-place (row.Affine background) zero h = omega arith
row-place (row.Affine background) (suc zero) h = omega arith
row-place (row.Affine background) (suc (suc part)) h = absurd (omega arith)
row-place row.Serial zero h = omega arith
row-place row.Serial (suc zero) h = omega arith
row-place row.Serial (suc (suc zero)) h = omega arith
row-place row.Serial (suc (suc (suc zero))) h = omega arith
row-place row.Serial (suc (suc (suc (suc zero)))) h = omega arith
row-place row.Serial (suc (suc (suc (suc (suc zero))))) h = omega arith
row-place row.Serial (suc (suc (suc (suc (suc (suc zero)))))) h = omega arith
row-place row.Serial (suc (suc (suc (suc (suc (suc (suc part))))))) h = absurd (omega arith)
row-place row.Known part h = omega arith
row-place row.Flash zero h = omega arith
row-place row.Flash (suc zero) h = omega arith
row-place row.Flash (suc (suc zero)) h = omega arith
row-place row.Flash (suc (suc (suc zero))) h = omega arith
row-place row.Flash (suc (suc (suc (suc part)))) h = absurd (omega arith)
row-place row.Was part h = omega arith
row-place row.Applied part h = omega arith
row-place row.Counts zero h = omega arith
row-place row.Counts (suc zero) h = omega arith
row-place row.Counts (suc (suc zero)) h = omega arith
row-place row.Counts (suc (suc (suc part))) h = absurd (omega arith)
