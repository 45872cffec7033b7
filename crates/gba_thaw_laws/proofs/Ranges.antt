-- The numbers of a board that keeps its rules are in their ranges.
use Rattle.std.proofs.Common.{◌≡◌, ℕ, zero, suc, ◌-◌, ◌^◌, ◌<◌, ◌≤◌, sym, subst, Bool, true, false, ◌&&◌, ◌==◌, nat_lt, nat_le, ◌⊎◌, inl, inr, List, length, slice_index, Option, Some, None, IfSome, is_some, bit_and, if◌then◌else◌, refl, arith, lt-ltb, le-leb, eq-eqb, ltb-true, leb-true, lit<}
use Rattle.std.specs.List.{list_all}
use Rattle.std.proofs.lemmas.Bool.{and_parts, cases_lt, cond_both}
use Rattle.std.proofs.lemmas.List.{get_or_past}
use Rattle.gba_terms.specs.Bytes.{AreBytes}
use Rattle.gba_serial.specs.Timing.{is_word_of}
use Rattle.gba_word.specs.Sums.{flag_number}
use Rattle.gba_word.specs.Weights.{weight}
use Rattle.gba_dma.specs.Channels.{FourChannels, channel_at}
use Rattle.gba_dma.specs.declared.channel.Channel.{Channel}
use Rattle.gba_io.specs.Core.{Core}
use Rattle.gba_loose.specs.Again.{AreInRange}
use Rattle.gba_loose.specs.Numbers.{board_number, tone_part}
use Rattle.gba_numbers.specs.Fields.{is_board_field}
use Rattle.gba_numbers.specs.Ranges.{board_fits, control_fits, tone_end, tone_place_end}
use Rattle.gba_numbers.specs.declared.fields.BoardField.TheVariants as board
use Rattle.gba_psg.specs.Soundness.{IsSoundTone}
use Rattle.gba_psg.specs.Tones.{tone_at}
use Rattle.gba_psg.specs.declared.tone.Tone.{Tone}
use Rattle.gba_ppu_reg.specs.Registers.{reference_of}
use Rattle.gba_ppu_reg.specs.declared.reference.Reference.{Reference}
use Rattle.gba_register.specs.Rows.{row_at}
use Rattle.gba_serial.specs.Numbers.{is_starter_of, received_mask, running_number}
use Rattle.gba_serial.specs.SerialUnit.{SerialUnit, known_mode, mode_of, was_received}
use Rattle.gba_serial.specs.declared.transfer.Running.{Running}
use Rattle.gba_sound.specs.Queues.{DirectSound, queue_at}
use Rattle.gba_timer.specs.Timers.{FourTimers, timer_at, timer_kept, timer_rows}
use Rattle.gba_timer.specs.declared.timer.Timer.{Timer}
use Rattle.gba_device_laws.specs.Cable.{RunHolds, SerialHolds}
use Rattle.gba_device_laws.specs.Holding.{ChannelHolds, ChannelsHold, DevicesHold, QueueHolds, SoundHolds, TimersHold, TonesHold}
use Rattle.gba_thaw_laws.proofs.Bits.{is_half_row, stored-small}
use Rattle.link_node.specs.Packing.{mode_number}
use Rattle.link_node.specs.declared.signal.LinkMode.{LinkMode}
use Rattle.link_node.specs.declared.signal.LinkMode.TheVariants.{Normal8, Normal32, Multi, Other}

-- ---- one of four, or of eight

pub below-four : (P : ℕ → Type 0) → P 0 → P 1 → P 2 → P 3 → (k : ℕ) → k < 4 → P k
below-four P a b c d zero inside = a
below-four P a b c d (suc zero) inside = b
below-four P a b c d (suc (suc zero)) inside = c
below-four P a b c d (suc (suc (suc zero))) inside = d
below-four P a b c d (suc (suc (suc (suc k)))) inside = absurd (omega (arith, inside))

below-eight : (P : ℕ → Type 0) → P 0 → P 1 → P 2 → P 3 → P 4 → P 5 → P 6 → P 7 → (k : ℕ) → k < 8 → P k
below-eight P a b c d e f g h zero inside = a
below-eight P a b c d e f g h (suc zero) inside = b
below-eight P a b c d e f g h (suc (suc zero)) inside = c
below-eight P a b c d e f g h (suc (suc (suc zero))) inside = d
below-eight P a b c d e f g h (suc (suc (suc (suc zero)))) inside = e
below-eight P a b c d e f g h (suc (suc (suc (suc (suc zero))))) inside = f
below-eight P a b c d e f g h (suc (suc (suc (suc (suc (suc zero)))))) inside = g
below-eight P a b c d e f g h (suc (suc (suc (suc (suc (suc (suc zero))))))) inside = h
below-eight P a b c d e f g h (suc (suc (suc (suc (suc (suc (suc (suc k)))))))) inside = absurd (omega (arith, inside))

pub truth-below : (set : Bool) → nat_lt (flag_number set) 2 ≡ true
truth-below true = refl
truth-below false = refl

-- ---- timers

rows-halves : list_all is_half_row timer_rows ≡ true
unfolding timer_rows
rows-halves = refl

at-timer : (P : Timer → Type 0) (ts : FourTimers) → P ts.timer0 → P ts.timer1 → P ts.timer2 → P ts.timer3 → (k : ℕ)
    → P (timer_at k ts)
at-timer P ts a b c d k =
    cond_both (k == 0) ts.timer0 _ P (λ _. a)
    (λ _. cond_both (k == 1) ts.timer1 _ P (λ _. b) (λ _. cond_both (k == 2) ts.timer2 ts.timer3 P (λ _. c) (λ _. d)))

masked-fits : (value mask : ℕ) → value < 0x10000 → bit_and value mask ≡ value
    → (nat_lt value 0x10000 && (bit_and value mask == value)) ≡ true
masked-fits value mask small stored =
    let below = lt-ltb value 0x10000 small in
    let kept = eq-eqb (bit_and value mask) value stored in
    λ i. below i && kept i

module _ (ts : FourTimers) (h : TimersHold ts) where
  kept-small : (offset : ℕ) → timer_kept offset ts < 0x10000
  kept-small = stored-small timer_rows (λ offset. timer_kept offset ts) rows-halves h.stored

  counter-fits : (k : ℕ) → nat_lt (timer_at k ts).counter 0x10000 ≡ true
  counter-fits =
      at-timer (λ (t : Timer). nat_lt t.counter 0x10000 ≡ true) ts (lt-ltb _ _ h.timer0.counter)
      (lt-ltb _ _ h.timer1.counter)
      (lt-ltb _ _ h.timer2.counter) (lt-ltb _ _ h.timer3.counter)

  phase-fits : (k : ℕ) → nat_lt (timer_at k ts).phase 1024 ≡ true
  phase-fits =
      at-timer (λ (t : Timer). nat_lt t.phase 1024 ≡ true) ts (lt-ltb _ _ h.timer0.phase) (lt-ltb _ _ h.timer1.phase)
      (lt-ltb _ _ h.timer2.phase) (lt-ltb _ _ h.timer3.phase)

  reload-fits : (k : ℕ) → nat_lt (timer_at k ts).reload 0x10000 ≡ true
  reload-fits =
      at-timer (λ (t : Timer). nat_lt t.reload 0x10000 ≡ true) ts (lt-ltb _ _ (kept-small 0x100))
      (lt-ltb _ _ (kept-small 0x104))
      (lt-ltb _ _ (kept-small 0x108)) (lt-ltb _ _ (kept-small 0x10c))

  controls-fit : (k : ℕ) → k < 4 → control_fits k (timer_at k ts).control ≡ true
  unfolding control_fits timer_rows row_at
  controls-fit =
      below-four (λ k. control_fits k (timer_at k ts).control ≡ true)
      (masked-fits ts.timer0.control 0x00c3 (kept-small 0x102) (h.stored 0x102))
      (masked-fits ts.timer1.control 0x00c7 (kept-small 0x106) (h.stored 0x106))
      (masked-fits ts.timer2.control 0x00c7 (kept-small 0x10a) (h.stored 0x10a))
      (masked-fits ts.timer3.control 0x00c7 (kept-small 0x10e) (h.stored 0x10e))

-- ---- DMA channels

at-channel : (P : Channel → Type 0) (cs : FourChannels) → P cs.channel0 → P cs.channel1 → P cs.channel2 → P cs.channel3
    → (k : ℕ)
    → P (channel_at k cs)
at-channel P cs a b c d k =
    cond_both (k == 0) cs.channel0 _ P (λ _. a)
    (λ _. cond_both (k == 1) cs.channel1 _ P (λ _. b)
    (λ _. cond_both (k == 2) cs.channel2 cs.channel3 P (λ _. c) (λ _. d)))

channel-holds : (cs : FourChannels) → ChannelsHold cs → (k : ℕ) → ChannelHolds (channel_at k cs)
channel-holds cs h = at-channel ChannelHolds cs h.channel0 h.channel1 h.channel2 h.channel3

-- ---- sound queues and the wave

pub queue-holds : (s : DirectSound) → SoundHolds s → (k : ℕ) → QueueHolds (queue_at k s)
queue-holds s h k = cond_both (k == 0) s.queue_a s.queue_b QueueHolds (λ _. h.queue_a) (λ _. h.queue_b)

pub byte-below : (bytes : List ℕ) → AreBytes bytes → (place : ℕ) → slice_index bytes place < 0x100
byte-below bytes are place = by (cases_lt place (length bytes)) where
  by : (place < length bytes) ⊎ (length bytes ≤ place) → slice_index bytes place < 0x100
  by (inl inside) = are place inside
  by (inr past) = let none = get_or_past bytes place 0 past in omega (arith, none)

-- ---- tones

part-below : (tone places : ℕ) (t : Tone) → tone_place_end tone ≡ places → IsSoundTone places t → (part : ℕ) → part < 8
    → nat_lt (tone_part part t) (tone_end tone part) ≡ true
unfolding tone_end
part-below tone places t end s =
    below-eight (λ part. nat_lt (tone_part part t) (tone_end tone part) ≡ true) (truth-below t.on)
    (lt-ltb t.place (tone_place_end tone) (subst (λ (p : ℕ). t.place < p) (sym end) s.place)) (lt-ltb _ _ s.wait)
    (lt-ltb t.left 257 (omega (arith, s.left))) (lt-ltb _ _ s.volume)
    (lt-ltb _ _ s.fade) (lt-ltb _ _ s.sweep) (lt-ltb _ _ s.shadow)

tone-below : (tone part : ℕ) (b : Core) → TonesHold b.devices.tones → 1 ≤ tone → tone ≤ 4 → part < 8
    → nat_lt (tone_part part (tone_at (tone - 1) b.devices.tones)) (tone_end tone part) ≡ true
tone-below zero part b h least most inside = absurd (omega (arith, least))
tone-below (suc zero) part b h least most inside =
    part-below 1 8 b.devices.tones.square1.tone refl h.sound.square1 part inside
tone-below (suc (suc zero)) part b h least most inside =
    part-below 2 8 b.devices.tones.square2.tone refl h.sound.square2 part inside
tone-below (suc (suc (suc zero))) part b h least most inside =
    part-below 3 64 b.devices.tones.wave.tone refl h.sound.wave part inside
tone-below (suc (suc (suc (suc zero)))) part b h least most inside =
    part-below 4 0x8000 b.devices.tones.noise.tone refl h.sound.noise part inside
tone-below (suc (suc (suc (suc (suc more))))) part b h least most inside = absurd (omega (arith, most))

-- ---- the serial unit

pub mode-below : (mode : LinkMode) → nat_lt (mode_number mode) 4 ≡ true
mode-below Normal8 = refl
mode-below Normal32 = refl
mode-below Multi = refl
mode-below Other = refl

pub weight-most : (n : ℕ) (set : Bool) → weight n set ≤ n
weight-most n true = omega arith
weight-most n false = omega arith

mask-below : (run : Running) → received_mask run < 16
mask-below run =
    let one = weight-most 1 (was_received run.got 0) in
    let two = weight-most 2 (was_received run.got 1) in
    let three = weight-most 4 (was_received run.got 2) in
    let four = weight-most 8 (was_received run.got 3) in
    omega (arith, one, two, three, four)

word-below : (mode : LinkMode) (word : ℕ) → is_word_of mode word ≡ true → word < 2 ^ 32
unfolding is_word_of
word-below Normal8 word is = let below = ltb-true word 0x100 is in omega (arith, below)
word-below Normal32 word is = ltb-true word (2 ^ 32) is
word-below Multi word is = let below = ltb-true word 0x10000 is in omega (arith, below)
word-below Other word is = absurd cc

running-below : (number : Running → ℕ) (end : ℕ) (u : SerialUnit) (run : Option Running) → 0 < end
    → IfSome run (RunHolds (mode_of u))
    → ((r : Running) → RunHolds (mode_of u) r → number r < end) → nat_lt (running_number number run) end ≡ true
running-below number end u None some holds below = lt-ltb 0 end some
running-below number end u (Some run) some holds below = lt-ltb (number run) end (below run holds)

-- ---- all of them

module _ (b : Core) (d : DevicesHold b.devices) (s : SerialHolds b.serial) where
  channel : (k : ℕ) → ChannelHolds (channel_at k b.devices.channels)
  channel = channel-holds b.devices.channels d.channels

  queue : (k : ℕ) → QueueHolds (queue_at k b.devices.sound)
  queue = queue-holds b.devices.sound d.sound

  bank-below : (bank place : ℕ)
      → slice_index (if bank == 0 then b.devices.tones.wave.bank0 else b.devices.tones.wave.bank1) place < 0x100
  bank-below bank place =
      cond_both (bank == 0) b.devices.tones.wave.bank0 b.devices.tones.wave.bank1
      (λ (bytes : List ℕ). slice_index bytes place < 0x100)
      (λ _. byte-below b.devices.tones.wave.bank0 d.tones.bank0.bytes place)
      (λ _. byte-below b.devices.tones.wave.bank1 d.tones.bank1.bytes place)

  x-below : (background : ℕ) → (reference_of background b.devices.picture).x < 2 ^ 32
  x-below background =
      cond_both (background == 2) b.devices.picture.reference2 b.devices.picture.reference3
      (λ (r : Reference). r.x < 2 ^ 32)
      (λ _. d.picture.reference2.x) (λ _. d.picture.reference3.x)

  y-below : (background : ℕ) → (reference_of background b.devices.picture).y < 2 ^ 32
  y-below background =
      cond_both (background == 2) b.devices.picture.reference2 b.devices.picture.reference3
      (λ (r : Reference). r.y < 2 ^ 32)
      (λ _. d.picture.reference2.y) (λ _. d.picture.reference3.y)

  run-below : (number : Running → ℕ) (end : ℕ) → 0 < end
      → ((r : Running) → RunHolds (mode_of b.serial) r → number r < end)
      → nat_lt (running_number number b.serial.run) end ≡ true
  run-below number end some below = running-below number end b.serial b.serial.run some s.run below

  pub in-range : AreInRange b
  unfolding is_board_field board_fits board_number
  in-range board.Halted is = truth-below b.devices.halted
  in-range (board.TimerCounter k) is = counter-fits b.devices.timers d.timers k
  in-range (board.TimerReload k) is = reload-fits b.devices.timers d.timers k
  in-range (board.TimerControl k) is = controls-fit b.devices.timers d.timers k (ltb-true k 4 is)
  in-range (board.TimerPhase k) is = phase-fits b.devices.timers d.timers k
  in-range (board.DmaActive k) is = truth-below (channel_at k b.devices.channels).active
  in-range (board.DmaFirst k) is = truth-below (channel_at k b.devices.channels).first
  in-range (board.DmaSource k) is = lt-ltb _ _ (channel k).inner_source
  in-range (board.DmaTarget k) is = lt-ltb _ _ (channel k).inner_target
  in-range (board.DmaLeft k) is = le-leb _ _ (channel k).left
  in-range (board.QueueCurrent k) is = lt-ltb _ _ (queue k).current
  in-range (board.QueueLength k) is = le-leb _ _ (queue k).few
  in-range board.Sequencer is = lt-ltb _ _ d.tones.sound.sequencer
  in-range (board.Tone tone part) is =
      let both = and_parts (nat_le 1 tone && nat_le tone 4) (nat_lt part 8) is in
      let ends = and_parts (nat_le 1 tone) (nat_le tone 4) both.0 in
      tone-below tone part b d.tones (leb-true 1 tone ends.0) (leb-true tone 4 ends.1) (ltb-true part 8 both.1)
  in-range (board.WaveByte bank place) is = lt-ltb _ _ (bank-below bank place)
  in-range board.Line is = lt-ltb _ _ d.place.line
  in-range board.Dot is = lt-ltb _ _ d.place.dot
  in-range (board.ReferenceX background) is = lt-ltb _ _ (x-below background)
  in-range (board.ReferenceY background) is = lt-ltb _ _ (y-below background)
  in-range board.SerialMode is = mode-below (mode_of b.serial)
  in-range board.SerialRunning is = truth-below (is_some b.serial.run)
  in-range board.SerialStarted is = truth-below (is_starter_of b.serial.run)
  in-range board.SerialEnd is = run-below (λ r. r.end) (2 ^ 40) (lit< tt) (λ r h. h.end)
  in-range board.SerialGot is = run-below received_mask 16 (lit< tt) (λ r h. mask-below r)
  in-range board.SerialSent is =
      run-below (λ r. r.sent) (2 ^ 32) (lit< tt) (λ r h. word-below (mode_of b.serial) r.sent h.sent)
  in-range board.SerialWord is =
      run-below (λ r. r.word) (2 ^ 32) (lit< tt) (λ r h. word-below (mode_of b.serial) r.word h.word)
  in-range (board.Known player) is = mode-below (known_mode b.serial.known player)
