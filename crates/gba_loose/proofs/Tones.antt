-- The numbers of the tone channels.
use Rattle.std.proofs.Common.{◌≡◌, ℕ, ◌^◌, ◌<◌, true, List, ◌∷◌, arith, refl}
use Rattle.std.proofs.lemmas.Bool.Decides.{nat_tests}
use Rattle.gba_io.specs.Core.{Core}
use Rattle.gba_loose_devices.specs.Sound.{tone_field, tone_numbers}
use Rattle.gba_loose_devices.specs.Values.{number_cut}
use Rattle.gba_numbers.specs.Fields.{is_board_field}
use Rattle.gba_numbers.specs.Numbers.{ConsoleNumbers}
use Rattle.gba_numbers.specs.Ranges.{board_fits, tone_end}
use Rattle.gba_numbers.specs.declared.fields.BoardField.{BoardField}
use Rattle.gba_numbers.specs.declared.fields.BoardField.TheVariants as board
use Rattle.gba_psg.specs.Numbers.{numbers_of}
use Rattle.gba_loose.specs.Again.{AreInRange, AreNumbersOf, TonesAgain}
use Rattle.gba_loose.specs.Numbers.{board_number}
use Rattle.gba_loose.proofs.Made.{cut-again}

cons-again : {x y : ℕ} {xs ys : List ℕ} → x ≡ y → xs ≡ ys → (x ∷ xs) ≡ (y ∷ ys)
cons-again p q = cc

ends-small : (tone part value : ℕ) → value < tone_end tone part → value < 2 ^ 32
unfolding tone_end
ends-small tone part value below = grind (arith, nat_tests)

module _ (b : Core) (n : ConsoleNumbers) (are : AreNumbersOf b n) (fit : AreInRange b) where
  own : (field : BoardField) → is_board_field field ≡ true → board_number field b < 2 ^ 32
      → number_cut 32 field n ≡ board_number field b
  own field is small = cut-again 32 _ _ (are field is) small

  sequencer-small : board_number board.Sequencer b < 2 ^ 32
  unfolding board_fits is_board_field
  sequencer-small = let h = fit board.Sequencer refl in grind (arith, nat_tests, h)

  part-small : (tone part : ℕ) → is_board_field (board.Tone tone part) ≡ true
      → board_number (board.Tone tone part) b < 2 ^ 32
  unfolding board_fits
  part-small tone part is =
      let h = fit (board.Tone tone part) is in
      ends-small tone part _ (grind (arith, nat_tests, h))

  tones-again : tone_numbers n ≡ numbers_of b.devices.tones
  unfolding board_number is_board_field tone_field numbers_of
  tones-again =
      cons-again (own board.Sequencer refl sequencer-small)
      (cons-again (own (board.Tone 1 0) refl (part-small 1 0 refl))
      (cons-again (own (board.Tone 1 1) refl (part-small 1 1 refl))
      (cons-again (own (board.Tone 1 2) refl (part-small 1 2 refl))
      (cons-again (own (board.Tone 1 3) refl (part-small 1 3 refl))
      (cons-again (own (board.Tone 1 4) refl (part-small 1 4 refl))
      (cons-again (own (board.Tone 1 5) refl (part-small 1 5 refl))
      (cons-again (own (board.Tone 1 6) refl (part-small 1 6 refl))
      (cons-again (own (board.Tone 1 7) refl (part-small 1 7 refl))
      (cons-again (own (board.Tone 2 0) refl (part-small 2 0 refl))
      (cons-again (own (board.Tone 2 1) refl (part-small 2 1 refl))
      (cons-again (own (board.Tone 2 2) refl (part-small 2 2 refl))
      (cons-again (own (board.Tone 2 3) refl (part-small 2 3 refl))
      (cons-again (own (board.Tone 2 4) refl (part-small 2 4 refl))
      (cons-again (own (board.Tone 2 5) refl (part-small 2 5 refl))
      (cons-again (own (board.Tone 2 6) refl (part-small 2 6 refl))
      (cons-again (own (board.Tone 2 7) refl (part-small 2 7 refl))
      (cons-again (own (board.Tone 3 0) refl (part-small 3 0 refl))
      (cons-again (own (board.Tone 3 1) refl (part-small 3 1 refl))
      (cons-again (own (board.Tone 3 2) refl (part-small 3 2 refl))
      (cons-again (own (board.Tone 3 3) refl (part-small 3 3 refl))
      (cons-again (own (board.Tone 3 4) refl (part-small 3 4 refl))
      (cons-again (own (board.Tone 3 5) refl (part-small 3 5 refl))
      (cons-again (own (board.Tone 3 6) refl (part-small 3 6 refl))
      (cons-again (own (board.Tone 3 7) refl (part-small 3 7 refl))
      (cons-again (own (board.Tone 4 0) refl (part-small 4 0 refl))
      (cons-again (own (board.Tone 4 1) refl (part-small 4 1 refl))
      (cons-again (own (board.Tone 4 2) refl (part-small 4 2 refl))
      (cons-again (own (board.Tone 4 3) refl (part-small 4 3 refl))
      (cons-again (own (board.Tone 4 4) refl (part-small 4 4 refl))
      (cons-again (own (board.Tone 4 5) refl (part-small 4 5 refl))
      (cons-again (own (board.Tone 4 6) refl (part-small 4 6 refl))
      (cons-again (own (board.Tone 4 7) refl (part-small 4 7 refl)) refl))))))))))))))))))))))))))))))))

pub tones-made-again : TonesAgain
tones-made-again b n are fit = tones-again b n are fit
