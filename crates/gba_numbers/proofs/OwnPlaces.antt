-- A number is found again by its place: no two have the same.
use Rattle.std.proofs.Common.{◌≡◌, ℕ, ◌+◌, ◌-◌, ◌*◌, ◌/◌, ◌%◌, ◌==◌, nat_lt, true, refl, ap, sym, ◌∙◌, arith}
use Rattle.std.specs.Prelude.{if◌then◌else◌}
use Rattle.std.proofs.lemmas.Bool.Decides.{nat_tests}
use Rattle.gba_numbers.specs.Fields.{board_place, is_board_field, is_field, place_of}
use Rattle.gba_numbers.specs.Laws.{HaveOwnPlaces}
use Rattle.gba_numbers.specs.declared.fields.BoardField.TheVariants as board
use Rattle.gba_numbers.specs.declared.fields.Field.{Field}
use Rattle.gba_numbers.specs.declared.fields.Field.TheVariants.{Clock, Was, Applied, Register, Board, QueueByte, Frames, Samples, Words, FlashState, FlashArmed, FlashIdentify, FlashBank}

-- which kind of number stands at a place, and the numbers in its variant
kind_at : ℕ → ℕ
kind_at p =
    if nat_lt p 39 then (if p == 0 then 0 else if p == 1 then 1 else 2)
    else if nat_lt p 79
    then (if nat_lt p 55 then 3 + (p - 39) % 4 else if nat_lt p 75 then 7 + (p - 55) % 5 else 12 + (p - 75) % 2)
    else if nat_lt p 118
    then
    (if p == 79 then 14
    else if nat_lt p 112 then 15 else if p == 112 then 16 else if p == 113 then 17 else 18 + (p - 114) % 2)
    else if nat_lt p 138 then (if nat_lt p 125 then p - 98 else if nat_lt p 129 then 27 else p - 101)
    else if nat_lt p 202 then 37 else 38

first_at : ℕ → ℕ
first_at p =
    if nat_lt p 39 then p - 2
    else if nat_lt p 55 then (p - 39) / 4
    else if nat_lt p 75 then (p - 55) / 5
    else if nat_lt p 79 then (p - 75) / 2
    else if nat_lt p 112 then (p - 80) / 8 + 1
    else if nat_lt p 118 then (p - 114) / 2 + 2
    else if nat_lt p 138 then p - 125
    else if nat_lt p 202 then (p - 138) / 32 else (p - 202) / 16

second_at : ℕ → ℕ
second_at p = if nat_lt p 112 then (p - 80) % 8 else if nat_lt p 202 then (p - 138) % 32 else (p - 202) % 16

-- the number of a kind
board_made : ℕ → ℕ → ℕ → Field
board_made k a b =
    if k == 1 then Board board.Halted
    else if k == 3 then Board (board.TimerCounter a)
    else if k == 4 then Board (board.TimerReload a)
    else if k == 5 then Board (board.TimerControl a)
    else if k == 6 then Board (board.TimerPhase a)
    else if k == 7 then Board (board.DmaActive a)
    else if k == 8 then Board (board.DmaFirst a)
    else if k == 9 then Board (board.DmaSource a)
    else if k == 10 then Board (board.DmaTarget a)
    else if k == 11 then Board (board.DmaLeft a)
    else if k == 12 then Board (board.QueueCurrent a)
    else if k == 13 then Board (board.QueueLength a)
    else if k == 14 then Board board.Sequencer
    else if k == 15 then Board (board.Tone a b)
    else if k == 16 then Board board.Line
    else if k == 17 then Board board.Dot
    else if k == 18 then Board (board.ReferenceX a)
    else if k == 19 then Board (board.ReferenceY a)
    else if k == 20 then Board board.SerialMode
    else if k == 21 then Board board.SerialRunning
    else if k == 22 then Board board.SerialStarted
    else if k == 23 then Board board.SerialEnd
    else if k == 24 then Board board.SerialGot
    else if k == 25 then Board board.SerialSent
    else if k == 26 then Board board.SerialWord
    else if k == 27 then Board (board.Known a)
    else Board (board.WaveByte a b)

made : ℕ → ℕ → ℕ → Field
made k a b =
    if k == 0 then Clock
    else if k == 2 then Register a
    else if k == 28 then FlashState
    else if k == 29 then FlashArmed
    else if k == 30 then FlashIdentify
    else if k == 31 then FlashBank
    else if k == 32 then Was
    else if k == 33 then Applied
    else if k == 34 then Frames
    else if k == 35 then Samples
    else if k == 36 then Words
    else if k == 37 then QueueByte a b
    else board_made k a b

number_at : ℕ → Field
number_at p = made (kind_at p) (first_at p) (second_at p)

-- by the three
by : (p k a b : ℕ) (field : Field) → kind_at p ≡ k → first_at p ≡ a → second_at p ≡ b → made k a b ≡ field
    → number_at p ≡ field
unfolding number_at
by p k a b field e f g h =
    ap (λ (x : ℕ). made x (first_at p) (second_at p)) e ∙ ap (λ (x : ℕ). made k x (second_at p)) f ∙ ap (made k a) g ∙ h

found : (field : Field) → is_field field ≡ true → number_at (place_of field) ≡ field
unfolding is_field is_board_field place_of board_place kind_at first_at second_at made board_made number_at
found Clock is = refl
found Was is = refl
found Applied is = refl
found Frames is = refl
found Samples is = refl
found Words is = refl
found FlashState is = refl
found FlashArmed is = refl
found FlashIdentify is = refl
found FlashBank is = refl
found (Board board.Halted) is = refl
found (Board board.Sequencer) is = refl
found (Board board.Line) is = refl
found (Board board.Dot) is = refl
found (Board board.SerialMode) is = refl
found (Board board.SerialRunning) is = refl
found (Board board.SerialStarted) is = refl
found (Board board.SerialEnd) is = refl
found (Board board.SerialGot) is = refl
found (Board board.SerialSent) is = refl
found (Board board.SerialWord) is = refl
found (Register n) is = by (2 + n) 2 n _ (Register n) (grind (arith, nat_tests)) (grind (arith, nat_tests)) refl refl
found (Board (board.TimerCounter n)) is =
    by (39 + 4 * n) 3 n _ (Board (board.TimerCounter n)) (grind (arith, nat_tests)) (grind (arith, nat_tests)) refl refl
found (Board (board.TimerReload n)) is =
    by (40 + 4 * n) 4 n _ (Board (board.TimerReload n)) (grind (arith, nat_tests)) (grind (arith, nat_tests)) refl refl
found (Board (board.TimerControl n)) is =
    by (41 + 4 * n) 5 n _ (Board (board.TimerControl n)) (grind (arith, nat_tests)) (grind (arith, nat_tests)) refl refl
found (Board (board.TimerPhase n)) is =
    by (42 + 4 * n) 6 n _ (Board (board.TimerPhase n)) (grind (arith, nat_tests)) (grind (arith, nat_tests)) refl refl
found (Board (board.DmaActive n)) is =
    by (55 + 5 * n) 7 n _ (Board (board.DmaActive n)) (grind (arith, nat_tests)) (grind (arith, nat_tests)) refl refl
found (Board (board.DmaFirst n)) is =
    by (56 + 5 * n) 8 n _ (Board (board.DmaFirst n)) (grind (arith, nat_tests)) (grind (arith, nat_tests)) refl refl
found (Board (board.DmaSource n)) is =
    by (57 + 5 * n) 9 n _ (Board (board.DmaSource n)) (grind (arith, nat_tests)) (grind (arith, nat_tests)) refl refl
found (Board (board.DmaTarget n)) is =
    by (58 + 5 * n) 10 n _ (Board (board.DmaTarget n)) (grind (arith, nat_tests)) (grind (arith, nat_tests)) refl refl
found (Board (board.DmaLeft n)) is =
    by (59 + 5 * n) 11 n _ (Board (board.DmaLeft n)) (grind (arith, nat_tests)) (grind (arith, nat_tests)) refl refl
found (Board (board.QueueCurrent n)) is =
    by (75 + 2 * n) 12 n _ (Board (board.QueueCurrent n)) (grind (arith, nat_tests)) (grind (arith, nat_tests))
    refl refl
found (Board (board.QueueLength n)) is =
    by (76 + 2 * n) 13 n _ (Board (board.QueueLength n)) (grind (arith, nat_tests)) (grind (arith, nat_tests)) refl refl
found (Board (board.Tone n part)) is =
    by (80 + 8 * (n - 1) + part) 15 n part (Board (board.Tone n part)) (grind (arith, nat_tests))
    (grind (arith, nat_tests)) (grind (arith, nat_tests)) refl
found (Board (board.ReferenceX n)) is =
    by (114 + 2 * (n - 2)) 18 n _ (Board (board.ReferenceX n)) (grind (arith, nat_tests)) (grind (arith, nat_tests))
    refl refl
found (Board (board.ReferenceY n)) is =
    by (115 + 2 * (n - 2)) 19 n _ (Board (board.ReferenceY n)) (grind (arith, nat_tests)) (grind (arith, nat_tests))
    refl refl
found (Board (board.Known n)) is =
    by (125 + n) 27 n _ (Board (board.Known n)) (grind (arith, nat_tests)) (grind (arith, nat_tests)) refl refl
found (Board (board.WaveByte bank place)) is =
    by (202 + 16 * bank + place) 38 bank place (Board (board.WaveByte bank place)) (grind (arith, nat_tests))
    (grind (arith, nat_tests)) (grind (arith, nat_tests)) refl
found (QueueByte queue place) is =
    by (138 + 32 * queue + place) 37 queue place (QueueByte queue place) (grind (arith, nat_tests))
    (grind (arith, nat_tests)) (grind (arith, nat_tests)) refl

pub have_own_places : HaveOwnPlaces
have_own_places one other is also same = sym (found one is) ∙ ap number_at same ∙ found other also
