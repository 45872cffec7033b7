-- What the devices keep together.
use Rattle.std.proofs.Common.{◌≡◌, ◌≢◌, ℕ, ◌^◌, ◌<◌, ◌+◌, ◌*◌, ◌/◌, ◌%◌, ◌==◌, ◌||◌, Bool, true, false, ◌&&◌, refl, ap, sym, ◌∙◌, arith, mod-eq_of_lt, if◌then◌else◌}
use Rattle.std.specs.Prelude.{bit_and}
use Rattle.std.proofs.lemmas.Bool.{false≢true}
use Rattle.std.proofs.lemmas.Bool.Decides.{nat_tests}
use Rattle.std.proofs.lemmas.Nat.{and_mask, and_mod, and_shr}
use Rattle.gba_terms.specs.Bits.{bit, field}
use Rattle.gba_register.specs.Rows.{row_at}
use Rattle.gba_devices.proofs.Writing.{each-half}
use Rattle.gba_devices.specs.Cycles.{asked_by, asked_one, at_hblank, at_line, at_place, begins_vblank, device_cycle, is_seen, moved, placed, rung, sounded, status_of, toned, with_timer_requests}
use Rattle.gba_devices.specs.Registers.{keyed, owner_of, system_rows, whole_written, with_key_control}
use Rattle.gba_devices.specs.State.{Devices, after_dma_unit, begun, rested, woken}
use Rattle.gba_dma.specs.Channel.{requests_interrupt}
use Rattle.gba_dma.specs.Channels.{FourChannels, after_trigger, channel_at, dma_written}
use Rattle.gba_dma.specs.Consistency.{StaysConsistent}
use Rattle.gba_dma.specs.declared.event.DmaEvent.{DmaEvent}
use Rattle.gba_dma.specs.declared.event.DmaEvent.TheVariants.{HBlank, QueueA, QueueB, VBlank}
use Rattle.gba_irq.specs.Interrupts.{interrupt_written, with_request_if}
use Rattle.gba_irq.specs.Keypad.{becomes_true, with_control, with_pressed}
use Rattle.gba_ppu_reg.specs.Position.{IsPosition, begins_hblank, begins_line, is_matched, cycle as place_cycle}
use Rattle.gba_ppu_reg.specs.Registers.{Picture, after_line, after_reload, picture_written}
use Rattle.gba_ppu_reg.specs.declared.position.Position.{Position}
use Rattle.gba_psg.specs.Registers.{tone_set, is_wave_offset, mastered, tone_rows, tones_written, wave_place}
use Rattle.gba_psg.specs.Soundness.{StaysSound}
use Rattle.gba_psg.specs.Tones.{after_envelopes, after_lengths, after_sweeps, counted, cycle as tones_cycle, moved as moved_tones, ticked, with_lengths, with_sweeps}
use Rattle.gba_psg.specs.Wave.{with_wave_half}
use Rattle.gba_psg.specs.declared.four.FourTones.{FourTones}
use Rattle.gba_sound.specs.Queues.{after_word, asked, sound_rows, sound_written}
use Rattle.gba_sound.specs.declared.asked.Asked.{Asked}
use Rattle.gba_timer.specs.Timers.{FourTimers, overflow_mark, requests, timer_written, cycle as timer_cycle}
use Rattle.gba_device_laws.specs.Holding.{ChannelsHold, DevicesHold, PictureHolds}
use Rattle.gba_device_laws.specs.Staying.{DevicesStay}
use Rattle.gba_device_laws.proofs.Channels.{channels-event, channels-reset, channels-unit, channels-write}
use Rattle.gba_device_laws.proofs.Lines.{interrupts-request-if, interrupts-requests, interrupts-reset, interrupts-write, keys-control, keys-pressed, sound-overflow, sound-reset, sound-word, sound-write}
use Rattle.gba_device_laws.proofs.Masks.{and-twice, at-place}
use Rattle.gba_device_laws.proofs.Pictures.{picture-line, picture-reload, picture-reset, picture-write}
use Rattle.gba_device_laws.proofs.Timers.{timers-cycle, timers-reset, timers-write}
use Rattle.gba_device_laws.proofs.Tones.{tones-cycle, tones-reset, tones-write}

-- writes elsewhere leave the master enable and the ratio of direct sound
same-master : (offset value : ℕ) (ts : FourTones) → offset ≢ 0x084 → (tones_written offset value ts).is_on ≡ ts.is_on
unfolding tones_written
same-master offset value ts other = grind (arith, nat_tests, other)

-- the ratio alone
either-ratio : (test : Bool) (one other : FourTones) (ratio : ℕ) → one.ratio ≡ ratio → other.ratio ≡ ratio
    → (if test then one else other).ratio ≡ ratio
either-ratio true one other ratio first second = first
either-ratio false one other ratio first second = second

channel-ratio : (offset value : ℕ) (starts : Bool) (ts : FourTones)
    → (tone_set offset value starts ts).ratio ≡ ts.ratio
channel-ratio offset value starts ts =
    either-ratio (offset == 0x060) _ _ ts.ratio refl
    (either-ratio (offset == 0x062) _ _ ts.ratio refl
    (either-ratio (offset == 0x064) _ _ ts.ratio refl
    (either-ratio (offset == 0x068) _ _ ts.ratio refl
    (either-ratio (offset == 0x06c) _ _ ts.ratio refl
    (either-ratio (offset == 0x070) _ _ ts.ratio refl
    (either-ratio (offset == 0x072) _ _ ts.ratio refl
    (either-ratio (offset == 0x074) _ _ ts.ratio refl
    (either-ratio (offset == 0x078) _ _ ts.ratio refl
    (either-ratio (offset == 0x07c) _ _ ts.ratio refl
    (either-ratio (offset == 0x080) _ _ ts.ratio refl
    (refl)))))))))))

mastered-ratio : (on : Bool) (ts : FourTones) → (mastered on ts).ratio ≡ ts.ratio
mastered-ratio true ts = refl
mastered-ratio false ts = refl

same-ratio : (offset value : ℕ) (ts : FourTones) → offset ≢ 0x082 → (tones_written offset value ts).ratio ≡ ts.ratio
unfolding tones_written
same-ratio offset value ts other =
    let number = bit_and value (row_at tone_rows offset).write_mask in
    either-ratio (is_wave_offset offset) (record ts { wave = with_wave_half (wave_place offset) number ts.wave }) _
    ts.ratio refl (rw none
    (either-ratio (offset == 0x084) (mastered (bit number 7) ts) _ ts.ratio (mastered-ratio (bit number 7) ts)
    (either-ratio ts.is_on (tone_set offset number (bit value 15) ts) ts ts.ratio
    (channel-ratio offset number (bit value 15) ts) refl)))
  where
    none : offset == 0x082 ≡ false
    none = grind (arith, nat_tests, other)

-- requests of bits that IF has
request-bits : (number : ℕ) → number < 4 → bit_and (2 ^ (8 + number)) 0x3fff ≡ 2 ^ (8 + number)
request-bits number few =
    at-place holds 0 number refl (λ n0. at-place holds 1 number refl (λ n1. at-place holds 2 number refl
    (λ n2. at-place holds 3 number refl (λ n3. absurd (omega (arith, few, n0, n1, n2, n3))))))
  where
    holds : ℕ → Type 0
    holds k = bit_and (2 ^ (8 + k)) 0x3fff ≡ 2 ^ (8 + k)

timer-bits : (marked : ℕ) (ts : FourTimers) → bit_and (8 * requests marked ts) 0x3fff ≡ 8 * requests marked ts
timer-bits marked ts =
    let few : requests marked ts < 16 = grind (arith, nat_tests) in
    and_mask (8 * requests marked ts) 14 ∙ mod-eq_of_lt (omega (arith, few))

position-cycle : (p : Position) → IsPosition p → IsPosition (place_cycle p)
position-cycle p is = record { line = grind (arith, nat_tests, is.line); dot = grind (arith, nat_tests, is.dot) }

either-channels : (test : Bool) (one other : FourChannels) → ChannelsHold one → ChannelsHold other
    → ChannelsHold (if test then one else other)
either-channels true one other first second = first
either-channels false one other first second = second

either-picture : (test : Bool) (one other : Picture) → PictureHolds one → PictureHolds other
    → PictureHolds (if test then one else other)
either-picture true one other first second = first
either-picture false one other first second = second

either-devices : (test : Bool) (one other : Devices) → DevicesHold one → DevicesHold other
    → DevicesHold (if test then one else other)
either-devices true one other first second = first
either-devices false one other first second = second

-- SOUNDCNT_X's master enable, and SOUNDCNT_H's ratio
master-written : (value : ℕ) → bit (bit_and value 0x0080) 7 ≡ bit value 7
master-written value =
    ap (λ n. n % 2 == 1) (and_shr value 0x0080 7 ∙ and_mask (value / 2 ^ 7) 1)
    ∙ ap (λ n. n == 1) (twice (value / 2 ^ 7))
  where
    twice : (n : ℕ) → n % 2 ^ 1 % 2 ≡ n % 2
    twice n = omega arith

ratio-written : (value : ℕ) → bit_and value 0x0003 ≡ field (bit_and value 0x770f) 0 2
ratio-written value =
    let low = and_mask value 2 in
    let whole = and_mod value 0x770f 2 in
    let part = and_mask (value % 2 ^ 2) 2 in
    omega (arith, low, whole, part)

-- a cycle of the tones leaves the master enable and the ratio
cycle-enable : (ts : FourTones) → (tones_cycle ts).is_on ≡ ts.is_on
unfolding tones_cycle ticked
cycle-enable ts = grind (arith, nat_tests)

ticked-ratio : (ts : FourTones) → (ticked ts).ratio ≡ ts.ratio
unfolding ticked
ticked-ratio ts =
    let one = with_lengths ts in
    let two = with_sweeps one in
    let lengths : one.ratio ≡ ts.ratio =
    either-ratio (ts.sequencer % 0x10000 == 0) (after_lengths ts) ts ts.ratio refl refl in
    let sweeps : two.ratio ≡ ts.ratio =
    either-ratio (one.sequencer % 0x20000 == 0) (after_sweeps one) one ts.ratio lengths lengths in
    either-ratio (two.sequencer == 0) (after_envelopes two) two ts.ratio sweeps sweeps

cycle-ratio : (ts : FourTones) → (tones_cycle ts).ratio ≡ ts.ratio
unfolding tones_cycle
cycle-ratio ts =
    either-ratio ts.is_on (moved_tones (ticked (counted ts))) ts ts.ratio (ticked-ratio (counted ts)) refl

not-there : (offset place : ℕ) → offset ≢ place → offset == place ≡ false
not-there offset place other = grind (arith, nat_tests, other)

other-truth : (test one other : Bool) → test ≡ false → (if test then one else other) ≡ other
other-truth true one other none = absurd (false≢true (sym none))
other-truth false one other none = refl

other-number : (test : Bool) (one other : ℕ) → test ≡ false → (if test then one else other) ≡ other
other-number true one other none = absurd (false≢true (sym none))
other-number false one other none = refl

module _ (consistently : StaysConsistent) (soundly : StaysSound) (d : Devices) (hold : DevicesHold d) where
  picture-half : (offset value : ℕ) → DevicesHold (record d { picture = picture_written offset value d.picture })
  picture-half offset value = record {
    picture = picture-write offset value d.picture hold.picture;
    timers = hold.timers;
    channels = hold.channels;
    place = hold.place;
    sound = hold.sound;
    tones = hold.tones;
    master = hold.master;
    ratio = hold.ratio;
    interrupts = hold.interrupts;
    keys = hold.keys;
    waits = hold.waits;
  }

  tones-half : (offset value : ℕ) → offset ≢ 0x082 → offset ≢ 0x084
      → DevicesHold (record d { tones = tones_written offset value d.tones })
  tones-half offset value no_ratio no_master = record {
    tones = tones-write soundly offset value d.tones hold.tones;
    master = hold.master ∙ sym (same-master offset value d.tones no_master);
    ratio = same-ratio offset value d.tones no_ratio ∙ hold.ratio;
    timers = hold.timers;
    channels = hold.channels;
    place = hold.place;
    picture = hold.picture;
    sound = hold.sound;
    interrupts = hold.interrupts;
    keys = hold.keys;
    waits = hold.waits;
  }

  sound-half : (offset value : ℕ) → offset ≢ 0x082 → offset ≢ 0x084
      → DevicesHold (record d {
        sound = sound_written offset value d.sound;
        tones = tones_written offset value d.tones;
      })
  sound-half offset value no_ratio no_master = record {
    sound = sound-write offset value d.sound hold.sound;
    tones = tones-write soundly offset value d.tones hold.tones;
    master = same-enable ∙ hold.master ∙ sym (same-master offset value d.tones no_master);
    ratio = same-ratio offset value d.tones no_ratio ∙ hold.ratio ∙ sym (ap (λ n. field n 0 2) same-control);
    timers = hold.timers;
    channels = hold.channels;
    place = hold.place;
    picture = hold.picture;
    interrupts = hold.interrupts;
    keys = hold.keys;
    waits = hold.waits;
  }
    where
      same-enable : (sound_written offset value d.sound).is_on ≡ d.sound.is_on
      same-enable = other-truth (offset == 0x084) (bit value 7) d.sound.is_on (not-there offset 0x084 no_master)

      same-control : (sound_written offset value d.sound).control ≡ d.sound.control
      same-control =
          other-number (offset == 0x082) (bit_and value (row_at sound_rows 0x082).write_mask) d.sound.control
          (not-there offset 0x082 no_ratio)

  sound-control : (value : ℕ)
      → DevicesHold (record d { sound = sound_written 0x082 value d.sound; tones = tones_written 0x082 value d.tones })
  unfolding tones_written tone_rows sound_rows row_at
  sound-control value = record {
    sound = sound-write 0x082 value d.sound hold.sound;
    tones = tones-write soundly 0x082 value d.tones hold.tones;
    ratio = ratio-written value;
    timers = hold.timers;
    channels = hold.channels;
    place = hold.place;
    picture = hold.picture;
    master = hold.master;
    interrupts = hold.interrupts;
    keys = hold.keys;
    waits = hold.waits;
  }

  sound-master : (value : ℕ)
      → DevicesHold (record d { sound = sound_written 0x084 value d.sound; tones = tones_written 0x084 value d.tones })
  unfolding tones_written tone_rows sound_rows row_at
  sound-master value = record {
    sound = sound-write 0x084 value d.sound hold.sound;
    tones = tones-write soundly 0x084 value d.tones hold.tones;
    master = sym (enabled (bit (bit_and value 0x0080) 7) ∙ master-written value);
    ratio = ratio (bit (bit_and value 0x0080) 7);
    timers = hold.timers;
    channels = hold.channels;
    place = hold.place;
    picture = hold.picture;
    interrupts = hold.interrupts;
    keys = hold.keys;
    waits = hold.waits;
  }
    where
      enabled : (on : Bool) → (mastered on d.tones).is_on ≡ on
      enabled true = refl
      enabled false = refl

      ratio : (on : Bool) → (mastered on d.tones).ratio ≡ field d.sound.control 0 2
      ratio true = hold.ratio
      ratio false = hold.ratio

  channels-half : (offset value : ℕ) → DevicesHold (record d { channels = dma_written offset value d.channels })
  channels-half offset value = record {
    channels = channels-write consistently offset value d.channels hold.channels;
    timers = hold.timers;
    place = hold.place;
    picture = hold.picture;
    sound = hold.sound;
    tones = hold.tones;
    master = hold.master;
    ratio = hold.ratio;
    interrupts = hold.interrupts;
    keys = hold.keys;
    waits = hold.waits;
  }

  timers-half : (offset value : ℕ) → DevicesHold (record d { timers = timer_written offset value d.timers })
  timers-half offset value = record {
    timers = timers-write d.timers hold.timers offset value;
    channels = hold.channels;
    place = hold.place;
    picture = hold.picture;
    sound = hold.sound;
    tones = hold.tones;
    master = hold.master;
    ratio = hold.ratio;
    interrupts = hold.interrupts;
    keys = hold.keys;
    waits = hold.waits;
  }

  keys-half : (value : ℕ) → DevicesHold (with_key_control value d)
  keys-half value = record {
    interrupts =
        interrupts-request-if (becomes_true d.keys (with_control value d.keys)) 12 d.interrupts refl hold.interrupts;
    keys = keys-control value d.keys hold.keys;
    timers = hold.timers;
    channels = hold.channels;
    place = hold.place;
    picture = hold.picture;
    sound = hold.sound;
    tones = hold.tones;
    master = hold.master;
    ratio = hold.ratio;
    waits = hold.waits;
  }

  interrupts-half : (offset value : ℕ)
      → DevicesHold (record d { interrupts = interrupt_written offset value d.interrupts })
  interrupts-half offset value = record {
    interrupts = interrupts-write offset value d.interrupts hold.interrupts;
    timers = hold.timers;
    channels = hold.channels;
    place = hold.place;
    picture = hold.picture;
    sound = hold.sound;
    tones = hold.tones;
    master = hold.master;
    ratio = hold.ratio;
    keys = hold.keys;
    waits = hold.waits;
  }

  waits-half : (value : ℕ) → DevicesHold (record d { waits = bit_and value (row_at system_rows 0x204).write_mask })
  waits-half value = record {
    waits = and-twice value (row_at system_rows 0x204).write_mask;
    timers = hold.timers;
    channels = hold.channels;
    place = hold.place;
    picture = hold.picture;
    sound = hold.sound;
    tones = hold.tones;
    master = hold.master;
    ratio = hold.ratio;
    interrupts = hold.interrupts;
    keys = hold.keys;
  }

  posted-half : (posted halted : Bool) → DevicesHold (record d { posted = posted; halted = halted })
  posted-half posted halted = record {
    timers = hold.timers;
    channels = hold.channels;
    place = hold.place;
    picture = hold.picture;
    sound = hold.sound;
    tones = hold.tones;
    master = hold.master;
    ratio = hold.ratio;
    interrupts = hold.interrupts;
    keys = hold.keys;
    waits = hold.waits;
  }

  control-there : (value lanes : ℕ) → DevicesHold (whole_written 0x082 value lanes d)
  unfolding whole_written owner_of
  control-there value lanes = sound-control value

  master-there : (value lanes : ℕ) → DevicesHold (whole_written 0x084 value lanes d)
  unfolding whole_written owner_of
  master-there value lanes = sound-master value

  pub half-holds : (offset value lanes : ℕ) → DevicesHold (whole_written offset value lanes d)
  half-holds offset value lanes =
      at-place after 0x082 offset (control-there value lanes)
      (λ no_ratio. at-place after 0x084 offset (master-there value lanes)
      (λ no_master. each-half DevicesHold offset lanes d (picture-half offset)
      (λ number. tones-half offset number no_ratio no_master) (λ number. sound-half offset number no_ratio no_master)
      (channels-half offset) (timers-half offset)
      (λ number. either-devices (offset == 0x132) (with_key_control number d) d (keys-half number) hold)
      (interrupts-half offset) waits-half (λ number. posted-half (bit number 0) (d.halted || bit lanes 8)) hold value))
    where
      after : ℕ → Type 0
      after k = DevicesHold (whole_written k value lanes d)

  pub word-holds : (number word : ℕ) → DevicesHold (record d { sound = after_word number word d.sound })
  word-holds number word = record {
    sound = sound-word number word d.sound hold.sound;
    timers = hold.timers;
    channels = hold.channels;
    place = hold.place;
    picture = hold.picture;
    tones = hold.tones;
    master = hold.master;
    ratio = hold.ratio;
    interrupts = hold.interrupts;
    keys = hold.keys;
    waits = hold.waits;
  }

  asked-hold : (asks : Bool) (event : DmaEvent) (cs : FourChannels) → ChannelsHold cs
      → ChannelsHold (asked_one asks event cs)
  asked-hold asks event cs is =
      either-channels asks (after_trigger event cs) cs (channels-event consistently event cs is) is

  pub unit-holds : (number : ℕ) → number < 4 → DevicesHold (after_dma_unit number d)
  unfolding after_dma_unit
  unit-holds number few = record {
    channels = channels-unit consistently number d.channels hold.channels;
    interrupts = interrupts-request-if (requests_interrupt (channel_at number d.channels)) (8 + number) d.interrupts
        (request-bits number few) hold.interrupts;
    timers = hold.timers;
    place = hold.place;
    picture = hold.picture;
    sound = hold.sound;
    tones = hold.tones;
    master = hold.master;
    ratio = hold.ratio;
    keys = hold.keys;
    waits = hold.waits;
  }

  pub keys-hold : (pressed : ℕ) → DevicesHold (keyed pressed d)
  unfolding keyed
  keys-hold pressed = record {
    interrupts =
        interrupts-request-if (becomes_true d.keys (with_pressed pressed d.keys)) 12 d.interrupts refl hold.interrupts;
    keys = keys-pressed pressed d.keys hold.keys;
    timers = hold.timers;
    channels = hold.channels;
    place = hold.place;
    picture = hold.picture;
    sound = hold.sound;
    tones = hold.tones;
    master = hold.master;
    ratio = hold.ratio;
    waits = hold.waits;
  }

  pub transfer-holds : (asked : Bool) → DevicesHold (record d { interrupts = with_request_if asked 7 d.interrupts })
  transfer-holds asked = record {
    timers = hold.timers;
    channels = hold.channels;
    place = hold.place;
    picture = hold.picture;
    sound = hold.sound;
    tones = hold.tones;
    master = hold.master;
    ratio = hold.ratio;
    interrupts = interrupts-request-if asked 7 d.interrupts refl hold.interrupts;
    keys = hold.keys;
    waits = hold.waits;
  }

  pub begins-holds : DevicesHold (begun d)
  begins-holds = record {
    timers = hold.timers;
    channels = hold.channels;
    place = hold.place;
    picture = hold.picture;
    sound = hold.sound;
    tones = hold.tones;
    master = hold.master;
    ratio = hold.ratio;
    interrupts = hold.interrupts;
    keys = hold.keys;
    waits = hold.waits;
  }

  pub rests-hold : (cycles : ℕ) → DevicesHold (rested cycles d)
  rests-hold cycles = record {
    timers = hold.timers;
    channels = hold.channels;
    place = hold.place;
    picture = hold.picture;
    sound = hold.sound;
    tones = hold.tones;
    master = hold.master;
    ratio = hold.ratio;
    interrupts = hold.interrupts;
    keys = hold.keys;
    waits = hold.waits;
  }

  pub wakes-hold : DevicesHold (woken d)
  wakes-hold = record {
    timers = hold.timers;
    channels = hold.channels;
    place = hold.place;
    picture = hold.picture;
    sound = hold.sound;
    tones = hold.tones;
    master = hold.master;
    ratio = hold.ratio;
    interrupts = hold.interrupts;
    keys = hold.keys;
    waits = hold.waits;
  }

  -- the parts of a cycle
  moved-holds : DevicesHold (with_timer_requests (overflow_mark d.timers) (moved d))
  moved-holds = record {
    timers = timers-cycle d.timers hold.timers;
    interrupts = interrupts-requests (8 * requests (overflow_mark d.timers) (timer_cycle d.timers)) d.interrupts
        (timer-bits (overflow_mark d.timers) (timer_cycle d.timers)) hold.interrupts;
    channels = hold.channels;
    place = hold.place;
    picture = hold.picture;
    sound = hold.sound;
    tones = hold.tones;
    master = hold.master;
    ratio = hold.ratio;
    keys = hold.keys;
    waits = hold.waits;
  }

  asks-hold : (queues : Asked) → ChannelsHold (asked_by queues d.channels)
  unfolding asked_by
  asks-hold queues =
      asked-hold queues.b QueueB (asked_one queues.a QueueA d.channels)
      (asked-hold queues.a QueueA d.channels hold.channels)

  rung-holds : (timer : ℕ) (rings : Bool) → DevicesHold (rung timer rings d)
  unfolding rung
  rung-holds timer true = record {
    channels = asks-hold (asked timer d.sound);
    sound = sound-overflow timer d.sound hold.sound;
    timers = hold.timers;
    place = hold.place;
    picture = hold.picture;
    tones = hold.tones;
    master = hold.master;
    ratio = hold.ratio;
    interrupts = hold.interrupts;
    keys = hold.keys;
    waits = hold.waits;
  }
  rung-holds timer false = record {
    timers = hold.timers;
    channels = hold.channels;
    place = hold.place;
    picture = hold.picture;
    sound = hold.sound;
    tones = hold.tones;
    master = hold.master;
    ratio = hold.ratio;
    interrupts = hold.interrupts;
    keys = hold.keys;
    waits = hold.waits;
  }

  toned-holds : DevicesHold (toned d)
  toned-holds = record {
    tones = tones-cycle soundly d.tones hold.tones;
    master = hold.master ∙ sym (cycle-enable d.tones);
    ratio = cycle-ratio d.tones ∙ hold.ratio;
    timers = hold.timers;
    channels = hold.channels;
    place = hold.place;
    picture = hold.picture;
    sound = hold.sound;
    interrupts = hold.interrupts;
    keys = hold.keys;
    waits = hold.waits;
  }

  placed-holds : DevicesHold (placed d)
  placed-holds = record {
    place = position-cycle d.place hold.place;
    timers = hold.timers;
    channels = hold.channels;
    picture = hold.picture;
    sound = hold.sound;
    tones = hold.tones;
    master = hold.master;
    ratio = hold.ratio;
    interrupts = hold.interrupts;
    keys = hold.keys;
    waits = hold.waits;
  }

  hblank-holds : DevicesHold (at_hblank d)
  unfolding at_hblank
  hblank-holds = record {
    channels =
        either-channels (is_seen d.place) (after_trigger HBlank d.channels) d.channels
        (channels-event consistently HBlank d.channels hold.channels) hold.channels;
    picture =
        either-picture (is_seen d.place) (after_line d.picture) d.picture (picture-line d.picture hold.picture)
        hold.picture;
    interrupts = interrupts-request-if (bit (status_of d.picture) 4) 1 d.interrupts refl hold.interrupts;
    timers = hold.timers;
    place = hold.place;
    sound = hold.sound;
    tones = hold.tones;
    master = hold.master;
    ratio = hold.ratio;
    keys = hold.keys;
    waits = hold.waits;
  }

  line-holds : DevicesHold (at_line d)
  unfolding at_line
  line-holds = record {
    channels =
        either-channels (begins_vblank d.place) (after_trigger VBlank d.channels) d.channels
        (channels-event consistently VBlank d.channels hold.channels) hold.channels;
    picture =
        either-picture (begins_vblank d.place) (after_reload d.picture) d.picture
        (picture-reload d.picture hold.picture) hold.picture;
    interrupts = interrupts-request-if (begins_vblank d.place && bit (status_of d.picture) 3) 0
        (with_request_if (is_matched (status_of d.picture) d.place && bit (status_of d.picture) 5) 2 d.interrupts) refl
        (interrupts-request-if (is_matched (status_of d.picture) d.place && bit (status_of d.picture) 5) 2
        d.interrupts refl hold.interrupts);
    timers = hold.timers;
    place = hold.place;
    sound = hold.sound;
    tones = hold.tones;
    master = hold.master;
    ratio = hold.ratio;
    keys = hold.keys;
    waits = hold.waits;
  }

  place-holds : DevicesHold (at_place d)
  unfolding at_place
  place-holds =
      either-devices (begins_hblank d.place) (at_hblank d) (if begins_line d.place then at_line d else d) hblank-holds
      (either-devices (begins_line d.place) (at_line d) d line-holds hold)

module _ (consistently : StaysConsistent) (soundly : StaysSound) where
  sounded-hold : (d : Devices) → DevicesHold d → DevicesHold (sounded d)
  unfolding sounded
  sounded-hold d hold =
      let one = with_timer_requests (overflow_mark d.timers) (moved d) in
      let first = moved-holds consistently soundly d hold in
      let two = rung 0 (bit (overflow_mark d.timers) 0) one in
      let second = rung-holds consistently soundly one first 0 (bit (overflow_mark d.timers) 0) in
      let three = rung 1 (bit (overflow_mark d.timers) 1) two in
      let third = rung-holds consistently soundly two second 1 (bit (overflow_mark d.timers) 1) in
      toned-holds consistently soundly three third

  cycle-holds : (d : Devices) → DevicesHold d → DevicesHold (device_cycle d)
  unfolding device_cycle
  cycle-holds d hold =
      place-holds consistently soundly (placed (sounded d))
      (placed-holds consistently soundly (sounded d) (sounded-hold d hold))

  pub devices-stay : DevicesStay
  devices-stay = record {
    reset = record {
      timers = timers-reset;
      channels = channels-reset consistently;
      place = record { line = omega arith; dot = omega arith };
      picture = picture-reset;
      sound = sound-reset;
      tones = tones-reset soundly;
      master = refl;
      ratio = refl;
      interrupts = interrupts-reset;
      keys = record { pressed = omega arith; control = refl };
      waits = refl;
    };
    half = λ offset value lanes d hold. half-holds consistently soundly d hold offset value lanes;
    word = λ number word d hold. word-holds consistently soundly d hold number word;
    cycle = cycle-holds;
    unit = λ number d few hold. unit-holds consistently soundly d hold number few;
    keys = λ pressed d hold. keys-hold consistently soundly d hold pressed;
    transfer = λ asked d hold. transfer-holds consistently soundly d hold asked;
    begins = λ d hold. begins-holds consistently soundly d hold;
    rests = λ cycles d hold. rests-hold consistently soundly d hold cycles;
    wakes = λ d hold. wakes-hold consistently soundly d hold;
  }
