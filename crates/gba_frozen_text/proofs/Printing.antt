-- What is left to print is the next piece and what is left behind it.
use Rattle.std.proofs.Common.{◌≡◌, ◌<◌, ℕ, zero, suc, ◌+◌, Bool, true, false, cond, List, [], ◌∷◌, ◌++◌, length, take, drop, get_or, refl, ap, sym, ◌∙◌, append_assoc, add-one, drop-cons, arith}
use Rattle.std.specs.Prelude.{map}
use Rattle.std.specs.List.{list_all}
use Rattle.std.proofs.lemmas.List.{append-nil}
use Rattle.std.proofs.lemmas.List.Folds.{list_all-append}
use Rattle.gba_text.proofs.Spans.{first_of_all, rest_of_all}
use Rattle.gba_numbers.specs.Numbers.{ConsoleNumbers, value_of}
use Rattle.gba_numbers.specs.declared.names.MemoryName.{MemoryName}
use Rattle.gba_frozen.specs.Lines.{Said, Values, WaveBytes, all_zero}
use Rattle.gba_frozen.specs.Rows.{count_of, field_of}
use Rattle.gba_frozen.specs.declared.places.MemoryPlace.{MemoryPlace}
use Rattle.gba_frozen.specs.declared.rows.Row.{Row}
use Rattle.gba_frozen.specs.declared.rows.Row.TheVariants as row
use Rattle.gba_frozen_print.specs.Printed.{ended}
use Rattle.gba_frozen_text.specs.Memories.{row_text, rows_in}
use Rattle.gba_frozen_text.specs.Text.{board_rows, memory_of, numbers_say, processor_rows, queue_of, row_of, row_values, said_line, says_text, text_of, tone_rows}

-- a list that grew by the next piece of what is left
pub grown : {A : Type 0} (old new piece left rest all : List A) → new ≡ old ++ piece → left ≡ piece ++ rest
    → old ++ left ≡ all → new ++ rest ≡ all
grown {A} old new piece left rest all grew split whole =
    ap (λ (t : List A). t ++ rest) grew ∙ append_assoc old piece rest ∙ ap (λ (t : List A). old ++ t) (sym split)
    ∙ whole

drop_nothing : {A : Type 0} (k : ℕ) → drop {A = A} k [] ≡ []
drop_nothing zero = refl
drop_nothing (suc k) = refl

pub drop_more : (k j : ℕ) (xs : List ℕ) → drop j (drop k xs) ≡ drop (k + j) xs
drop_more zero j xs = ap (λ n. drop n xs) (omega arith)
drop_more (suc k) j [] = drop_nothing j ∙ sym (drop_nothing (suc k + j))
drop_more (suc k) j (x ∷ xs) =
    let next : suc (k + j) ≡ suc k + j = omega arith in
    drop_more k j xs ∙ ap (λ n. drop n (x ∷ xs)) next

-- the lines of a memory
pub rows_in-more : (name : MemoryName) (offset left count : ℕ) (bytes : List ℕ) → left ≡ suc count
    → says_text (map memory_of (rows_in name offset left bytes))
    ≡ row_text (record { name = name; offset = offset }) (take 32 bytes)
    ++ says_text (map memory_of (rows_in name (offset + 32) count (drop 32 bytes)))
unfolding rows_in row_text text_of said_line
rows_in-more name offset left count bytes is =
    ap (λ n. says_text (map memory_of (rows_in name offset n bytes))) is ∙ by_zero (all_zero (take 32 bytes)) where
      next : List (MemoryPlace × List ℕ)
      next = rows_in name (offset + 32) count (drop 32 bytes)

      place : MemoryPlace
      place = record { name = name; offset = offset }

      by_zero : (z : Bool) → says_text (map memory_of (cond z next ((place, take 32 bytes) ∷ next)))
          ≡ cond z [] (ended (said_line (memory_of (place, take 32 bytes)))) ++ says_text (map memory_of next)
      by_zero true = refl
      by_zero false = refl

pub rows_in-none : (name : MemoryName) (offset left : ℕ) (bytes : List ℕ) → left ≡ 0
    → says_text (map memory_of (rows_in name offset left bytes)) ≡ []
unfolding rows_in text_of
rows_in-none name offset left bytes is = ap (λ n. says_text (map memory_of (rows_in name offset n bytes))) is

-- rows of a console
pub rows-more : (n : ConsoleNumbers) (rows : List Row) (i : ℕ) → i < length rows
    → says_text (map (row_of n) (drop i rows))
    ≡ ended (said_line (row_of n (get_or rows i row.Heading))) ++ says_text (map (row_of n) (drop (i + 1) rows))
unfolding text_of
rows-more n rows i inside =
    ap (λ rs. says_text (map (row_of n) rs)) (drop-cons rows i row.Heading inside)
    ∙ ap (λ k. ended (said_line (row_of n (get_or rows i row.Heading))) ++ says_text (map (row_of n) (drop k rows)))
    (sym (add-one i))

pub rows-none : (n : ConsoleNumbers) (rows : List Row) → rows ≡ [] → says_text (map (row_of n) rows) ≡ []
unfolding text_of
rows-none n rows none = ap (λ rs. says_text (map (row_of n) rs)) none

-- the numbers of a row
pub values-more : (which : Row) (part left count : ℕ) (n : ConsoleNumbers) → left ≡ suc count
    → row_values which part left n ≡ value_of (field_of which part) n ∷ row_values which (part + 1) count n
unfolding row_values
values-more which part left count n is = ap (λ c. row_values which part c n) is

pub values-none : (which : Row) (part left : ℕ) (n : ConsoleNumbers) → left ≡ 0 → row_values which part left n ≡ []
unfolding row_values
values-none which part left n is = ap (λ c. row_values which part c n) is

pub all-more : (p : ℕ → Bool) (xs : List ℕ) (x : ℕ) → list_all p xs ≡ true → p x ≡ true
    → list_all p (xs ++ x ∷ []) ≡ true
all-more p xs x h k = list_all-append p xs (x ∷ []) ∙ rw (h, k) refl

pub all-at : (p : Row → Bool) (rows : List Row) (i : ℕ) → list_all p rows ≡ true → i < length rows
    → p (get_or rows i row.Heading) ≡ true
all-at p [] i h inside = absurd (omega arith)
all-at p (which ∷ rows) zero h inside = first_of_all (p which) (list_all p rows) h
all-at p (which ∷ rows) (suc i) h inside = all-at p rows i (rest_of_all (p which) (list_all p rows) h) (omega arith)

-- a text to which lines were added
says_both : (one other : List Said) → says_text (one ++ other) ≡ says_text one ++ says_text other
unfolding text_of
says_both [] other = refl
says_both (said ∷ one) other =
    ap (λ (t : List ℕ). ended (said_line said) ++ t) (says_both one other)
    ∙ sym (append_assoc (ended (said_line said)) (says_text one) (says_text other))

pub plus : (old mid new : List ℕ) (one other : List Said) → mid ≡ old ++ says_text one → new ≡ mid ++ says_text other
    → new ≡ old ++ says_text (one ++ other)
plus old mid new one other h k =
    k ∙ ap (λ (t : List ℕ). t ++ says_text other) h ∙ append_assoc old (says_text one) (says_text other)
    ∙ ap (λ (t : List ℕ). old ++ t) (sym (says_both one other))

pub two : (old mid new : List ℕ) (one other : Said) → mid ≡ old ++ ended (said_line one)
    → new ≡ mid ++ ended (said_line other) → new ≡ old ++ says_text (one ∷ other ∷ [])
unfolding text_of
two old mid new one other h k =
    k ∙ ap (λ (t : List ℕ). t ++ ended (said_line other)) h
    ∙ append_assoc old (ended (said_line one)) (ended (said_line other))
    ∙ ap (λ (t : List ℕ). old ++ (ended (said_line one) ++ t)) (sym (append-nil (ended (said_line other))))

-- the lines of a console before its memories
pub numbers-added : (n : ConsoleNumbers) (player : ℕ) (old t1 t2 t3 t4 t5 t6 t7 t8 t9 : List ℕ)
    → t1 ≡ old ++ ended (said_line (Values row.Heading []))
    → t2 ≡ t1 ++ ended (said_line (Values (row.Console player) []))
    → t3 ≡ t2 ++ says_text (map (row_of n) processor_rows) → t4 ≡ t3 ++ ended (said_line (queue_of n 0 n.queue_a))
    → t5 ≡ t4 ++ ended (said_line (queue_of n 1 n.queue_b)) → t6 ≡ t5 ++ says_text (map (row_of n) tone_rows)
    → t7 ≡ t6 ++ ended (said_line (WaveBytes 0 n.wave0)) → t8 ≡ t7 ++ ended (said_line (WaveBytes 1 n.wave1))
    → t9 ≡ t8 ++ says_text (map (row_of n) board_rows) → t9 ≡ old ++ says_text (numbers_say player n)
unfolding numbers_say
numbers-added n player old t1 t2 t3 t4 t5 t6 t7 t8 t9 h1 h2 h3 h4 h5 h6 h7 h8 h9 =
    let s0 : List Said = Values row.Heading [] ∷ Values (row.Console player) [] ∷ [] in
    let s1 : List Said = s0 ++ map (row_of n) processor_rows in
    let q : List Said = queue_of n 0 n.queue_a ∷ queue_of n 1 n.queue_b ∷ [] in
    let s2 : List Said = s1 ++ q in
    let s3 : List Said = s2 ++ map (row_of n) tone_rows in
    let w : List Said = WaveBytes 0 n.wave0 ∷ WaveBytes 1 n.wave1 ∷ [] in
    let begin = two old t1 t2 (Values row.Heading []) (Values (row.Console player) []) h1 h2 in
    let processor = plus old t2 t3 s0 (map (row_of n) processor_rows) begin h3 in
    let queues = plus old t3 t5 s1 q processor (two t3 t4 t5 (queue_of n 0 n.queue_a) (queue_of n 1 n.queue_b) h4 h5) in
    let tones = plus old t5 t6 s2 (map (row_of n) tone_rows) queues h6 in
    let waves = plus old t6 t8 s3 w tones (two t6 t7 t8 (WaveBytes 0 n.wave0) (WaveBytes 1 n.wave1) h7 h8) in
    plus old t8 t9 (s3 ++ w) (map (row_of n) board_rows) waves h9
