-- What the numbers of a board make is that board again.
use Rattle.std.proofs.Common.{◌≡◌, ℕ, ◌%◌, ◌^◌, ◌<◌, ◌==◌, ◌∙◌, ap, Bool, true, false, List, arith, refl}
use Rattle.std.proofs.Math.Nat.{mod-eq_of_lt}
use Rattle.std.proofs.lemmas.Bool.Decides.{nat_tests}
use Rattle.gba_word.specs.Sums.{flag_number}
use Rattle.gba_dma.specs.Channels.{channel_at}
use Rattle.gba_io.specs.Core.{Core}
use Rattle.gba_loose_devices.specs.Devices.{channel_poured, timer_poured, timers_poured}
use Rattle.gba_loose_devices.specs.Picture.{place_poured, reference_poured}
use Rattle.gba_numbers.specs.Fields.{is_board_field}
use Rattle.gba_numbers.specs.Numbers.{ConsoleNumbers}
use Rattle.gba_numbers.specs.Ranges.{board_fits, control_fits}
use Rattle.gba_numbers.specs.declared.fields.BoardField.TheVariants as board
use Rattle.gba_ppu_reg.specs.Registers.{reference_of}
use Rattle.gba_ppu_reg.specs.declared.reference.Reference.{Reference}
use Rattle.gba_ppu_reg.specs.declared.position.Position.{Position}
use Rattle.gba_timer.specs.Timers.{FourTimers, timer_at}
use Rattle.gba_timer.specs.declared.timer.Timer.{Timer}
use Rattle.gba_loose.specs.Numbers.{board_number}
use Rattle.gba_loose.specs.Again.{AreInRange, AreNumbersOf, IsSameRun, MadeAgain, NumbersMakeAgain}

pub cut-again : (width x v : ℕ) → v ≡ x → x < 2 ^ width → v % 2 ^ width ≡ x
cut-again width x v same small = ap (λ (v : ℕ). v % 2 ^ width) same ∙ mod-eq_of_lt small

pub truth-again : (set : Bool) (v : ℕ) → v ≡ flag_number set → (v == 1) ≡ set
truth-again true v same = ap (λ (v : ℕ). v == 1) same
truth-again false v same = ap (λ (v : ℕ). v == 1) same

is-timer : (k : ℕ) → k < 4 → is_board_field (board.TimerCounter k) ≡ true
unfolding is_board_field
is-timer k inside = grind (arith, nat_tests)

timer-by : (a b c d e f g h : ℕ) → a ≡ e → b ≡ f → c ≡ g → d ≡ h
    → (let one : Timer = record { counter = a; reload = b; control = c; phase = d } in one)
    ≡ (let other : Timer = record { counter = e; reload = f; control = g; phase = h } in other)
timer-by a b c d e f g h p q r s = cc

small-half : (v : ℕ) → v < 0x10000 → v < 2 ^ 16
small-half v small = small

module _ (b : Core) (n : ConsoleNumbers) (are : AreNumbersOf b n) (fit : AreInRange b) where
  counter-small : (k : ℕ) → k < 4 → (timer_at k b.devices.timers).counter < 2 ^ 16
  unfolding board_fits board_number is_board_field
  counter-small k inside =
      let h = fit (board.TimerCounter k) (is-timer k inside) in grind (arith, nat_tests, h)

  reload-small : (k : ℕ) → k < 4 → (timer_at k b.devices.timers).reload < 2 ^ 16
  unfolding board_fits board_number is_board_field
  reload-small k inside =
      let h = fit (board.TimerReload k) (is-timer k inside) in grind (arith, nat_tests, h)

  control-small : (k : ℕ) → k < 4 → (timer_at k b.devices.timers).control < 2 ^ 16
  unfolding board_fits board_number control_fits is_board_field
  control-small k inside =
      let h = fit (board.TimerControl k) (is-timer k inside) in grind (arith, nat_tests, h)

  phase-small : (k : ℕ) → k < 4 → (timer_at k b.devices.timers).phase < 2 ^ 16
  unfolding board_fits board_number is_board_field
  phase-small k inside =
      let h = fit (board.TimerPhase k) (is-timer k inside) in grind (arith, nat_tests, h)

  timer-again : (k : ℕ) → k < 4 → timer_poured k n ≡ timer_at k b.devices.timers
  unfolding board_number is_board_field
  timer-again k inside =
      timer-by _ _ _ _ _ _ _ _
      (cut-again 16 _ _ (are (board.TimerCounter k) (is-timer k inside)) (counter-small k inside))
      (cut-again 16 _ _ (are (board.TimerReload k) (is-timer k inside)) (reload-small k inside))
      (cut-again 16 _ _ (are (board.TimerControl k) (is-timer k inside)) (control-small k inside))
      (cut-again 16 _ _ (are (board.TimerPhase k) (is-timer k inside)) (phase-small k inside))

  four-by : (a b c d e f g h : Timer) → a ≡ e → b ≡ f → c ≡ g → d ≡ h
      → (let one : FourTimers = record { timer0 = a; timer1 = b; timer2 = c; timer3 = d } in one)
      ≡ (let other : FourTimers = record { timer0 = e; timer1 = f; timer2 = g; timer3 = h } in other)
  four-by a b c d e f g h p q r s = cc

  timers-again : timers_poured n ≡ b.devices.timers
  unfolding timers_poured
  timers-again =
      four-by _ _ _ _ _ _ _ _ (timer-again 0 (omega arith)) (timer-again 1 (omega arith)) (timer-again 2 (omega arith))
      (timer-again 3 (omega arith))

  source-small : (k : ℕ) → k < 4 → (channel_at k b.devices.channels).inner_source < 2 ^ 32
  unfolding board_fits board_number is_board_field
  source-small k inside =
      let h = fit (board.DmaSource k) (is-timer k inside) in grind (arith, nat_tests, h)

  target-small : (k : ℕ) → k < 4 → (channel_at k b.devices.channels).inner_target < 2 ^ 32
  unfolding board_fits board_number is_board_field
  target-small k inside =
      let h = fit (board.DmaTarget k) (is-timer k inside) in grind (arith, nat_tests, h)

  left-small : (k : ℕ) → k < 4 → (channel_at k b.devices.channels).left < 2 ^ 32
  unfolding board_fits board_number is_board_field
  left-small k inside =
      let h = fit (board.DmaLeft k) (is-timer k inside) in grind (arith, nat_tests, h)

  run-again : (k : ℕ) (io : List ℕ) → k < 4 → IsSameRun (channel_poured k n io) (channel_at k b.devices.channels)
  unfolding board_number is_board_field
  run-again k io inside = record {
    active = truth-again _ _ (are (board.DmaActive k) (is-timer k inside));
    first = truth-again _ _ (are (board.DmaFirst k) (is-timer k inside));
    source = cut-again 32 _ _ (are (board.DmaSource k) (is-timer k inside)) (source-small k inside);
    target = cut-again 32 _ _ (are (board.DmaTarget k) (is-timer k inside)) (target-small k inside);
    left = cut-again 32 _ _ (are (board.DmaLeft k) (is-timer k inside)) (left-small k inside);
  }

  line-small : b.devices.place.line < 2 ^ 32
  unfolding board_fits board_number is_board_field
  line-small = let h = fit board.Line refl in grind (arith, nat_tests, h)

  dot-small : b.devices.place.dot < 2 ^ 32
  unfolding board_fits board_number is_board_field
  dot-small = let h = fit board.Dot refl in grind (arith, nat_tests, h)

  place-by : (l d k e : ℕ) → l ≡ k → d ≡ e
      → (let one : Position = record { line = l; dot = d } in one)
      ≡ (let other : Position = record { line = k; dot = e } in other)
  place-by l d k e p q = cc

  place-again : place_poured n ≡ b.devices.place
  unfolding board_number is_board_field
  place-again =
      place-by _ _ _ _ (cut-again 32 _ _ (are board.Line refl) line-small)
      (cut-again 32 _ _ (are board.Dot refl) dot-small)

  x-small : (k : ℕ) → is_board_field (board.ReferenceX k) ≡ true → (reference_of k b.devices.picture).x < 2 ^ 32
  unfolding board_fits board_number is_board_field
  x-small k is = let h = fit (board.ReferenceX k) is in grind (arith, nat_tests, h)

  y-small : (k : ℕ) → is_board_field (board.ReferenceY k) ≡ true → (reference_of k b.devices.picture).y < 2 ^ 32
  unfolding board_fits board_number is_board_field
  y-small k is = let h = fit (board.ReferenceY k) is in grind (arith, nat_tests, h)

  reference-by : (x y v w : ℕ) → x ≡ v → y ≡ w
      → (let one : Reference = record { x = x; y = y } in
      one) ≡ (let other : Reference = record { x = v; y = w } in other)
  reference-by x y v w p q = cc

  reference-again : (k : ℕ) → is_board_field (board.ReferenceX k) ≡ true → is_board_field (board.ReferenceY k) ≡ true
      → reference_poured k n ≡ reference_of k b.devices.picture
  unfolding board_number is_board_field
  reference-again k x y =
      reference-by _ _ _ _ (cut-again 32 _ _ (are (board.ReferenceX k) x) (x-small k x))
      (cut-again 32 _ _ (are (board.ReferenceY k) y) (y-small k y))

  all-again : NumbersMakeAgain b n
  unfolding board_number is_board_field
  all-again = record {
    timers = timers-again;
    runs = run-again;
    place = place-again;
    reference2 = reference-again 2 refl refl;
    reference3 = reference-again 3 refl refl;
    halted = truth-again _ _ (are board.Halted refl);
  }

pub made-again : MadeAgain
made-again b n are fit = all-again b n are fit
