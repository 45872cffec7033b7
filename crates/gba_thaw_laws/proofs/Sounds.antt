-- Direct sound and the tones, which share SOUNDCNT_H and SOUNDCNT_X.
use Rattle.std.proofs.Common.{◌≡◌, ℕ, ◌+◌, ◌%◌, ◌^◌, ◌<◌, ◌∙◌, ap, sym, true, ◌==◌, List, [], ◌∷◌, bit_and, bit_or, if◌then◌else◌, refl, arith, lit<}
use Rattle.std.specs.List.{list_all}
use Rattle.gba_word.specs.Weights.{weight}
use Rattle.gba_terms.specs.Bits.{bit, field}
use Rattle.gba_register.specs.Rows.{row_at}
use Rattle.gba_devices.specs.Registers.{half_listed, owner_of}
use Rattle.gba_io.specs.Core.{Core, core_half_listed}
use Rattle.gba_loose.proofs.Bytes.{bytes-made-again}
use Rattle.gba_loose.proofs.Tones.{tones-made-again}
use Rattle.gba_loose_devices.specs.Sound.{tone_halves}
use Rattle.gba_loose_devices.specs.Values.{half_at}
use Rattle.gba_psg.specs.Numbers.{halves_of, tones_of}
use Rattle.gba_psg.specs.Registers.{tone_rows, tones_kept}
use Rattle.gba_psg.specs.Tones.{channels_on}
use Rattle.gba_psg.specs.declared.four.FourTones.{FourTones}
use Rattle.gba_psg.proofs.Again.{made-again}
use Rattle.gba_sound.specs.Queues.{sound_rows}
use Rattle.gba_device_laws.specs.Holding.{DevicesHold}
use Rattle.gba_thaw_laws.specs.Laws.{SoundThawsAgain}
use Rattle.gba_thaw_laws.specs.Said.{AreHalvesOf}
use Rattle.gba_thaw_laws.proofs.Ranges.{weight-most}
use Rattle.gba_thaw_laws.proofs.Bits.{is_half_row, master-again, sound-again, stored-small, uncut}

rows-halves : list_all is_half_row tone_rows ≡ true
unfolding tone_rows
rows-halves = refl

-- ---- the master enable

pub channels-few : (ts : FourTones) → channels_on ts < 16
channels-few ts =
    let one = weight-most 1 ts.square1.tone.on in
    let two = weight-most 2 ts.square2.tone.on in
    let three = weight-most 4 ts.wave.tone.on in
    let four = weight-most 8 ts.noise.tone.on in
    omega (arith, one, two, three, four)

pub master-bit : (ts : FourTones) → bit (weight 0x80 ts.is_on + channels_on ts) 7 ≡ ts.is_on
unfolding tones_of halves_of
master-bit ts = ap (λ (t : FourTones). t.is_on) (made-again ts)

module _ (b : Core) (io : List ℕ) (halves : AreHalvesOf b io) (holds : DevicesHold b.devices) where
  pub control-half : half_at 0x082 io ≡ b.devices.sound.control
  unfolding core_half_listed half_listed owner_of sound_rows tone_rows row_at
  control-half =
      sound-again (half_at 0x082 io) b.devices.sound.control b.devices.tones.ratio 0x770f (halves 0x41 (lit< tt))
      (holds.sound.stored 0x082) (lit< tt)

  pub master-half : half_at 0x084 io ≡ weight 0x80 b.devices.tones.is_on + channels_on b.devices.tones
  unfolding core_half_listed half_listed owner_of sound_rows tone_rows row_at
  master-half =
      let ts = b.devices.tones in
      halves 0x42 (lit< tt)
      ∙ ap (λ on. bit_or (bit_and (if on then 0x80 else 0) 0x80) (bit_and (weight 0x80 ts.is_on + channels_on ts) 0x8f)
      % 2 ^ 16) holds.master
      ∙ master-again ts.is_on (channels_on ts) (channels-few ts)

  pub bias-half : half_at 0x088 io ≡ b.devices.sound.bias
  unfolding core_half_listed half_listed owner_of sound_rows tone_rows row_at
  bias-half =
      sound-again (half_at 0x088 io) b.devices.sound.bias 0 0xc3fe (halves 0x44 (lit< tt)) (holds.sound.stored 0x088)
      (lit< tt)

  -- the tones' halfwords
  pub tone-halves : tone_halves io ≡ halves_of b.devices.tones
  unfolding tone_halves halves_of core_half_listed half_listed owner_of
  tone-halves =
      let ts = b.devices.tones in
      let small =
      stored-small tone_rows (λ offset. if offset == 0x084 then 0 else tones_kept offset ts) rows-halves
      holds.tones.stored in
      let sweep = uncut (half_at 0x060 io) ts.sweep (halves 0x30 (lit< tt)) (small 0x060) in
      let shape1 = uncut (half_at 0x062 io) ts.square1.shape (halves 0x31 (lit< tt)) (small 0x062) in
      let control1 = uncut (half_at 0x064 io) ts.square1.control (halves 0x32 (lit< tt)) (small 0x064) in
      let shape2 = uncut (half_at 0x068 io) ts.square2.shape (halves 0x34 (lit< tt)) (small 0x068) in
      let control2 = uncut (half_at 0x06c io) ts.square2.control (halves 0x36 (lit< tt)) (small 0x06c) in
      let select = uncut (half_at 0x070 io) ts.wave.select (halves 0x38 (lit< tt)) (small 0x070) in
      let level = uncut (half_at 0x072 io) ts.wave.level (halves 0x39 (lit< tt)) (small 0x072) in
      let control3 = uncut (half_at 0x074 io) ts.wave.control (halves 0x3a (lit< tt)) (small 0x074) in
      let shape4 = uncut (half_at 0x078 io) ts.noise.shape (halves 0x3c (lit< tt)) (small 0x078) in
      let control4 = uncut (half_at 0x07c io) ts.noise.control (halves 0x3e (lit< tt)) (small 0x07c) in
      let mixer = uncut (half_at 0x080 io) ts.mixer (halves 0x40 (lit< tt)) (small 0x080) in
      let ratio = ap (λ (h : ℕ). field h 0 2) control-half ∙ sym holds.ratio in
      λ i. sweep i ∷ shape1 i ∷ control1 i ∷ shape2 i ∷ control2 i ∷ select i ∷ level i ∷ control3 i ∷ shape4 i ∷
      control4 i
      ∷ mixer i ∷ ratio i ∷ master-half i ∷ []

pub sound-thaws-again : SoundThawsAgain
sound-thaws-again b n io says holds =
    let bytes = bytes-made-again b n says.numbers says.range says.bytes in
    let numbers = tones-made-again b n says.numbers says.range in
    let master =
    ap (λ (h : ℕ). bit h 7) (master-half b io says.halves holds) ∙ master-bit b.devices.tones ∙ sym holds.master in
    let tones = tone-halves b io says.halves holds in
    record {
      sound = λ i. record {
        queue_a = bytes.queue_a i;
        queue_b = bytes.queue_b i;
        control = control-half b io says.halves holds i;
        is_on = master i;
        bias = bias-half b io says.halves holds i;
      };
      tones = (λ i. tones_of (numbers i) (bytes.wave0 i) (bytes.wave1 i) (tones i)) ∙ made-again b.devices.tones;
    }
