-- The I/O registers have only bits that may be 1 in a frozen file.
use Rattle.std.proofs.Common.{◌≡◌, ℕ, ◌+◌, ◌*◌, ◌%◌, ◌^◌, ◌<◌, ◌≤◌, ◌∙◌, ap, sym, true, ◌&&◌, List, bit_and, slice_index, inl, inr, refl, lit<, lit≤}
use Rattle.gba_word.specs.Sums.{flag_number}
use Rattle.gba_word.specs.Weights.{weight}
use Rattle.gba_register.specs.Rows.{row_at}
use Rattle.gba_devices.specs.Registers.{half_listed, owner_of, system_rows}
use Rattle.gba_dma.specs.Channels.{dma_kept, dma_rows}
use Rattle.gba_io.specs.Core.{Core, core_half_listed}
use Rattle.gba_irq.specs.Interrupts.{interrupt_rows}
use Rattle.gba_irq.specs.Keypad.{keypad_rows}
use Rattle.gba_loose_devices.specs.Values.{half_at}
use Rattle.gba_ppu_reg.specs.Registers.{picture_rows}
use Rattle.gba_psg.specs.Numbers.{halves_of}
use Rattle.gba_psg.specs.Registers.{tone_rows}
use Rattle.gba_psg.specs.Tones.{channels_on}
use Rattle.gba_serial.specs.Registers.{serial_rows}
use Rattle.gba_sound.specs.Queues.{sound_rows}
use Rattle.gba_loose_devices.specs.Sound.{tone_halves}
use Rattle.gba_thaw.specs.Stored.{has_bits, has_channel_bits, has_stored_bits, has_picture_bits, has_other_bits, has_sound_bits}
use Rattle.gba_device_laws.specs.Cable.{SerialHolds}
use Rattle.gba_device_laws.specs.Holding.{DevicesHold}
use Rattle.gba_thaw_laws.specs.Laws.{BitsAreStored}
use Rattle.gba_thaw_laws.specs.Said.{AreHalvesOf}
use Rattle.gba_thaw_laws.proofs.Bits.{has-stored, master-stored, uncut}
use Rattle.gba_thaw_laws.proofs.Channels.{dma-small}
use Rattle.gba_thaw_laws.proofs.Control.{enabled-half, keys-control-half, master-half, posted-half, raised-half, truth-stored, waits-half}
use Rattle.gba_thaw_laws.proofs.Picture.{plain-half}
use Rattle.gba_thaw_laws.proofs.Serial.{select-half}
use Rattle.gba_thaw_laws.proofs.Sounds as sounds

module _ (b : Core) (io : List ℕ) (halves : AreHalvesOf b io) (holds : DevicesHold b.devices) where
  -- ---- the picture

  first : (half mask : ℕ) → half < 43 → half < 2
      → bit_and (slice_index b.devices.picture.halves half) mask ≡ slice_index b.devices.picture.halves half
      → has_bits (2 * half) mask io ≡ true
  first half mask inside below =
      has-stored (2 * half) mask (slice_index b.devices.picture.halves half) io
      (plain-half b io halves holds.picture half inside (inl below))

  behind : (half mask : ℕ) → half < 43 → 4 ≤ half
      → bit_and (slice_index b.devices.picture.halves half) mask ≡ slice_index b.devices.picture.halves half
      → has_bits (2 * half) mask io ≡ true
  behind half mask inside above =
      has-stored (2 * half) mask (slice_index b.devices.picture.halves half) io
      (plain-half b io halves holds.picture half inside (inr above))

  picture-stored : has_picture_bits io ≡ true
  unfolding has_picture_bits picture_rows row_at
  picture-stored =
      let stored = holds.picture.stored in
      λ i. first 0x00 0xfff7 (lit< tt) (lit< tt) (stored 0x000) i
      && first 0x01 0x0000 (lit< tt) (lit< tt) (stored 0x002) i
      && behind 0x04 0xdfff (lit< tt) (lit≤ tt) (stored 0x008) i
      && behind 0x05 0xdfff (lit< tt) (lit≤ tt) (stored 0x00a) i
      && behind 0x08 0x01ff (lit< tt) (lit≤ tt) (stored 0x010) i
      && behind 0x09 0x01ff (lit< tt) (lit≤ tt) (stored 0x012) i
      && behind 0x0a 0x01ff (lit< tt) (lit≤ tt) (stored 0x014) i
      && behind 0x0b 0x01ff (lit< tt) (lit≤ tt) (stored 0x016) i
      && behind 0x0c 0x01ff (lit< tt) (lit≤ tt) (stored 0x018) i
      && behind 0x0d 0x01ff (lit< tt) (lit≤ tt) (stored 0x01a) i
      && behind 0x0e 0x01ff (lit< tt) (lit≤ tt) (stored 0x01c) i
      && behind 0x0f 0x01ff (lit< tt) (lit≤ tt) (stored 0x01e) i
      && behind 0x15 0x0fff (lit< tt) (lit≤ tt) (stored 0x02a) i
      && behind 0x17 0x0fff (lit< tt) (lit≤ tt) (stored 0x02e) i
      && behind 0x1d 0x0fff (lit< tt) (lit≤ tt) (stored 0x03a) i
      && behind 0x1f 0x0fff (lit< tt) (lit≤ tt) (stored 0x03e) i
      && behind 0x24 0x3f3f (lit< tt) (lit≤ tt) (stored 0x048) i
      && behind 0x25 0x3f3f (lit< tt) (lit≤ tt) (stored 0x04a) i
      && behind 0x26 0x0000 (lit< tt) (lit≤ tt) (stored 0x04c) i
      && behind 0x27 0x0000 (lit< tt) (lit≤ tt) (stored 0x04e) i
      && behind 0x28 0x3fff (lit< tt) (lit≤ tt) (stored 0x050) i
      && behind 0x29 0x1f1f (lit< tt) (lit≤ tt) (stored 0x052) i
      && behind 0x2a 0x001f (lit< tt) (lit≤ tt) (stored 0x054) i

  -- ---- the sound

  tone : (offset mask place : ℕ) → half_at offset io ≡ slice_index (tone_halves io) place
      → bit_and (slice_index (halves_of b.devices.tones) place) mask ≡ slice_index (halves_of b.devices.tones) place
      → has_bits offset mask io ≡ true
  tone offset mask place is =
      has-stored offset mask (slice_index (halves_of b.devices.tones) place) io
      (is ∙ ap (λ (hs : List ℕ). slice_index hs place) (sounds.tone-halves b io halves holds))

  sound-stored : has_sound_bits io ≡ true
  unfolding has_sound_bits tone_halves halves_of tone_rows sound_rows row_at
  sound-stored =
      let ts = b.devices.tones in
      let stored = holds.tones.stored in
      let master =
      has-stored 0x084 0x008f (weight 0x80 ts.is_on + channels_on ts) io (sounds.master-half b io halves holds)
      (master-stored ts.is_on (channels_on ts) (sounds.channels-few ts)) in
      let ratio =
      has-stored 0x082 0x770f b.devices.sound.control io (sounds.control-half b io halves holds)
      (holds.sound.stored 0x082) in
      let bias =
      has-stored 0x088 0xc3fe b.devices.sound.bias io (sounds.bias-half b io halves holds) (holds.sound.stored 0x088) in
      λ i. tone 0x060 0x007f 0 refl (stored 0x060) i && tone 0x064 0x47ff 2 refl (stored 0x064) i
      && tone 0x06c 0x47ff 4 refl (stored 0x06c) i && tone 0x070 0x00e0 5 refl (stored 0x070) i
      && tone 0x072 0xe0ff 6 refl (stored 0x072) i && tone 0x074 0x47ff 7 refl (stored 0x074) i
      && tone 0x078 0xff3f 8 refl (stored 0x078) i && tone 0x07c 0x40ff 9 refl (stored 0x07c) i
      && tone 0x080 0xff77 10 refl (stored 0x080) i && ratio i && master i && bias i

  -- ---- the DMA channels

  channel : (half mask : ℕ) → half < 512
      → core_half_listed (2 * half) b ≡ dma_kept (2 * half) b.devices.channels % 2 ^ 16
      → (row_at dma_rows (2 * half)).write_mask ≡ mask → has_bits (2 * half) mask io ≡ true
  channel half mask inside is row =
      let cs = b.devices.channels in
      has-stored (2 * half) mask (dma_kept (2 * half) cs) io
      (uncut (half_at (2 * half) io) (dma_kept (2 * half) cs) (halves half inside ∙ is)
      (dma-small cs holds.channels (2 * half)))
      (ap (λ (m : ℕ). bit_and (dma_kept (2 * half) cs) m) (sym row) ∙ holds.channels.stored (2 * half))

  channels-stored : has_channel_bits io ≡ true
  unfolding has_channel_bits core_half_listed half_listed owner_of dma_rows row_at
  channels-stored =
      λ i. channel 0x59 0x07ff (lit< tt) refl refl i && channel 0x5b 0x07ff (lit< tt) refl refl i
      && channel 0x5c 0x3fff (lit< tt) refl refl i && channel 0x5d 0xf7e0 (lit< tt) refl refl i
      && channel 0x5f 0x0fff (lit< tt) refl refl i && channel 0x61 0x07ff (lit< tt) refl refl i
      && channel 0x62 0x3fff (lit< tt) refl refl i && channel 0x63 0xf7e0 (lit< tt) refl refl i
      && channel 0x65 0x0fff (lit< tt) refl refl i && channel 0x67 0x07ff (lit< tt) refl refl i
      && channel 0x68 0x3fff (lit< tt) refl refl i && channel 0x69 0xf7e0 (lit< tt) refl refl i
      && channel 0x6b 0x0fff (lit< tt) refl refl i && channel 0x6d 0x0fff (lit< tt) refl refl i
      && channel 0x6f 0xffe0 (lit< tt) refl refl i

  -- ---- the keypad, the cable, the interrupts and the system

  rest-stored : SerialHolds b.serial → has_other_bits io ≡ true
  unfolding has_other_bits keypad_rows serial_rows interrupt_rows system_rows row_at
  rest-stored serial =
      let d = b.devices in
      let keys = has-stored 0x132 0xc3ff d.keys.control io (keys-control-half b io halves holds) holds.keys.control in
      let select = has-stored 0x134 0xc000 b.serial.select io (select-half b io halves serial) (serial.stored 0x134) in
      let enabled =
      has-stored 0x200 0x3fff d.interrupts.enabled io (enabled-half b io halves holds) (holds.interrupts 0x200) in
      let raised =
      has-stored 0x202 0x3fff d.interrupts.raised io (raised-half b io halves holds) (holds.interrupts 0x202) in
      let waits = has-stored 0x204 0x5fff d.waits io (waits-half b io halves holds) holds.waits in
      let master =
      has-stored 0x208 0x0001 (bit_and (flag_number d.interrupts.master) 0x0001 % 2 ^ 16) io
      (master-half b io halves holds)
      (truth-stored d.interrupts.master) in
      let posted =
      has-stored 0x300 0x0001 (bit_and (flag_number d.posted) 0x0001 % 2 ^ 16) io (posted-half b io halves holds)
      (truth-stored d.posted) in
      λ i. keys i && select i && enabled i && raised i && waits i && master i && posted i

pub bits-stored : BitsAreStored
unfolding has_stored_bits
bits-stored b io halves devices serial =
    let picture = picture-stored b io halves devices in
    let sound = sound-stored b io halves devices in
    let channels = channels-stored b io halves devices in
    let rest = rest-stored b io halves devices serial in
    λ i. picture i && sound i && channels i && rest i
