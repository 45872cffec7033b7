-- The transfer that runs, of its numbers.
use Rattle.std.proofs.Common.{◌≡◌, ℕ, ◌+◌, ◌^◌, ◌<◌, ◌==◌, ◌∙◌, ap, Bool, true, false, List, [], ◌∷◌, length, Option, None, Some, IfSome, is_some, if◌then◌else◌, arith, refl}
use Rattle.std.proofs.lemmas.Bool.Decides.{nat_tests}
use Rattle.gba_io.specs.Core.{Core}
use Rattle.gba_loose_devices.specs.Cable.{run_poured}
use Rattle.gba_numbers.specs.Fields.{is_board_field}
use Rattle.gba_numbers.specs.Ranges.{board_fits}
use Rattle.gba_numbers.specs.declared.fields.BoardField.TheVariants as board
use Rattle.gba_serial.specs.Making.{players_of}
use Rattle.gba_serial.specs.Numbers.{is_starter_of, received_mask, running_number}
use Rattle.gba_word.specs.Weights.{weight}
use Rattle.gba_serial.specs.SerialUnit.{was_received}
use Rattle.gba_serial.specs.declared.transfer.Running.{Running}
use Rattle.gba_loose.specs.Again.{AreInRange, RunAgain}
use Rattle.gba_loose.specs.Numbers.{board_number}
use Rattle.gba_loose.proofs.Made.{cut-again, truth-again}

players-again : (got : List Bool) → length got ≡ 4
    → players_of (weight 1 (was_received got 0) + weight 2 (was_received got 1) + weight 4 (was_received got 2)
    + weight 8 (was_received got 3)) ≡ got
unfolding players_of
players-again (true ∷ true ∷ true ∷ true ∷ []) four = refl
players-again (true ∷ true ∷ true ∷ false ∷ []) four = refl
players-again (true ∷ true ∷ false ∷ true ∷ []) four = refl
players-again (true ∷ true ∷ false ∷ false ∷ []) four = refl
players-again (true ∷ false ∷ true ∷ true ∷ []) four = refl
players-again (true ∷ false ∷ true ∷ false ∷ []) four = refl
players-again (true ∷ false ∷ false ∷ true ∷ []) four = refl
players-again (true ∷ false ∷ false ∷ false ∷ []) four = refl
players-again (false ∷ true ∷ true ∷ true ∷ []) four = refl
players-again (false ∷ true ∷ true ∷ false ∷ []) four = refl
players-again (false ∷ true ∷ false ∷ true ∷ []) four = refl
players-again (false ∷ true ∷ false ∷ false ∷ []) four = refl
players-again (false ∷ false ∷ true ∷ true ∷ []) four = refl
players-again (false ∷ false ∷ true ∷ false ∷ []) four = refl
players-again (false ∷ false ∷ false ∷ true ∷ []) four = refl
players-again (false ∷ false ∷ false ∷ false ∷ []) four = refl
players-again [] four = absurd (omega (arith, four))
players-again (a ∷ []) four = absurd (omega (arith, four))
players-again (a ∷ b ∷ []) four = absurd (omega (arith, four))
players-again (a ∷ b ∷ c ∷ []) four = absurd (omega (arith, four))
players-again (a ∷ b ∷ c ∷ d ∷ e ∷ more) four = absurd (omega (arith, four))

some-by : (a : Bool) (b c d : ℕ) (e : List Bool) (run : Running) → a ≡ run.starter → b ≡ run.end → c ≡ run.sent
    → d ≡ run.word → e ≡ run.got
    → (let one : Running = record { starter = a; end = b; sent = c; word = d; got = e } in one)
    ≡ (let other : Running =
    record { starter = run.starter; end = run.end; sent = run.sent; word = run.word; got = run.got } in other)
some-by a b c d e run p q r s t = cc

run-by : (run : Option Running) (running started end got sent word : ℕ) → (running == 1) ≡ is_some run
    → (started == 1) ≡ is_starter_of run → end ≡ running_number (λ r. r.end) run
    → got ≡ running_number received_mask run → sent ≡ running_number (λ r. r.sent) run
    → word ≡ running_number (λ r. r.word) run → IfSome run (λ r. length r.got ≡ 4)
    → (if running == 1
    then
    Some (let one : Running =
    record { starter = started == 1; end = end; sent = sent; word = word; got = players_of got } in one)
    else None) ≡ run
run-by None running started end got sent word a b c d e f four = rw a refl
run-by (Some run) running started end got sent word a b c d e f four =
    rw a
    (ap (λ (r : Running). Some r)
    (some-by (started == 1) end sent word (players_of got) run b c e f (ap players_of d ∙ players-again run.got four)))

module _ (b : Core) (fit : AreInRange b) where
  got-small : running_number received_mask b.serial.run < 2 ^ 32
  unfolding board_fits board_number is_board_field
  got-small = let h = fit board.SerialGot refl in grind (arith, nat_tests, h)

  sent-small : running_number (λ r. r.sent) b.serial.run < 2 ^ 32
  unfolding board_fits board_number is_board_field
  sent-small = let h = fit board.SerialSent refl in grind (arith, nat_tests, h)

  word-small : running_number (λ r. r.word) b.serial.run < 2 ^ 32
  unfolding board_fits board_number is_board_field
  word-small = let h = fit board.SerialWord refl in grind (arith, nat_tests, h)

pub run-made-again : RunAgain
unfolding board_number is_board_field run_poured
run-made-again b n are fit four =
    run-by b.serial.run _ _ _ _ _ _ (truth-again _ _ (are board.SerialRunning refl))
    (truth-again _ _ (are board.SerialStarted refl)) (are board.SerialEnd refl)
    (cut-again 32 _ _ (are board.SerialGot refl) (got-small b fit))
    (cut-again 32 _ _ (are board.SerialSent refl) (sent-small b fit))
    (cut-again 32 _ _ (are board.SerialWord refl) (word-small b fit)) four
