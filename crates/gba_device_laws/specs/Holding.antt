-- The rules to which the numbers of a board's devices keep in each run.
use Rattle.std.specs.Prelude.{◌≡◌, ℕ, ◌^◌, ◌<◌, ◌≤◌, ◌==◌, List, length, bit_and, slice_index, if◌then◌else◌}
use Rattle.gba_terms.specs.Bits.{field}
use Rattle.gba_terms.specs.Bytes.{AreBytes}
use Rattle.gba_register.specs.Rows.{Row, row_at}
use Rattle.gba_devices.specs.Registers.{system_rows}
use Rattle.gba_devices.specs.State.{Devices}
use Rattle.gba_dma.specs.Channels.{FourChannels, dma_kept, dma_rows}
use Rattle.gba_dma.specs.Consistency.{AreConsistent}
use Rattle.gba_dma.specs.declared.channel.Channel.{Channel}
use Rattle.gba_irq.specs.Interrupts.{interrupt_rows, interrupt_shown}
use Rattle.gba_irq.specs.Keypad.{Keys, keypad_rows}
use Rattle.gba_ppu_reg.specs.Position.{IsPosition}
use Rattle.gba_ppu_reg.specs.Registers.{Picture, picture_kept, picture_rows}
use Rattle.gba_ppu_reg.specs.declared.reference.Reference.{Reference}
use Rattle.gba_psg.specs.Registers.{tone_rows, tones_kept}
use Rattle.gba_psg.specs.Soundness.{AreSound}
use Rattle.gba_psg.specs.declared.four.FourTones.{FourTones}
use Rattle.gba_sound.specs.Queue.{SoundQueue}
use Rattle.gba_sound.specs.Queues.{DirectSound, sound_rows, sound_shown}
use Rattle.gba_timer.specs.Timers.{FourTimers, timer_kept, timer_rows}
use Rattle.gba_timer.specs.declared.timer.Timer.{Timer}

-- so many bytes
pub record HasBytes (count : ℕ) (content : List ℕ) : Type 0 where
  pub long : length content ≡ count
  pub bytes : AreBytes content

-- What stands at each halfword of a device has no bits but those that a write stores there.
abbrev pub HasStoredBits : List Row → (ℕ → ℕ) → Type 0
HasStoredBits rows kept = (offset : ℕ) → bit_and (kept offset) (row_at rows offset).write_mask ≡ kept offset

-- A timer's counter has 16 bits, and the greatest prescaler is 1,024 (GBATEK, GBA Timers).
pub record TimerHolds (t : Timer) : Type 0 where
  pub counter : t.counter < 0x10000
  pub phase : t.phase < 1024

pub record TimersHold (ts : FourTimers) : Type 0 where
  pub timer0 : TimerHolds ts.timer0
  pub timer1 : TimerHolds ts.timer1
  pub timer2 : TimerHolds ts.timer2
  pub timer3 : TimerHolds ts.timer3
  pub stored : HasStoredBits timer_rows (λ offset. timer_kept offset ts)

-- A DMA channel's addresses are words, and it has at most 65,536 units left (GBATEK, GBA DMA Transfers).
pub record ChannelHolds (c : Channel) : Type 0 where
  pub source : c.source < 2 ^ 32
  pub target : c.target < 2 ^ 32
  pub inner_source : c.inner_source < 2 ^ 32
  pub inner_target : c.inner_target < 2 ^ 32
  pub left : c.left ≤ 0x10000

pub record ChannelsHold (cs : FourChannels) : Type 0 where
  pub channel0 : ChannelHolds cs.channel0
  pub channel1 : ChannelHolds cs.channel1
  pub channel2 : ChannelHolds cs.channel2
  pub channel3 : ChannelHolds cs.channel3
  pub consistent : AreConsistent cs
  pub stored : HasStoredBits dma_rows (λ offset. dma_kept offset cs)

-- The picture has its 43 halfwords, and the inner reference points are words.
pub record ReferenceHolds (point : Reference) : Type 0 where
  pub x : point.x < 2 ^ 32
  pub y : point.y < 2 ^ 32

pub record PictureHolds (r : Picture) : Type 0 where
  pub long : length r.halves ≡ 43
  pub reference2 : ReferenceHolds r.reference2
  pub reference3 : ReferenceHolds r.reference3
  pub stored : HasStoredBits picture_rows (λ offset. picture_kept offset r)

-- A sound queue holds at most 32 bytes.
pub record QueueHolds (q : SoundQueue) : Type 0 where
  pub few : length q.bytes ≤ 32
  pub bytes : AreBytes q.bytes
  pub current : q.current < 2 ^ 8

pub record SoundHolds (s : DirectSound) : Type 0 where
  pub queue_a : QueueHolds s.queue_a
  pub queue_b : QueueHolds s.queue_b
  pub stored : HasStoredBits sound_rows (λ offset. sound_shown offset s)

-- A bank of the wave has 32 digits, two in each byte. SOUNDCNT_X shows which tones are on, which no write stores.
pub record TonesHold (ts : FourTones) : Type 0 where
  pub sound : AreSound ts
  pub bank0 : HasBytes 16 ts.wave.bank0
  pub bank1 : HasBytes 16 ts.wave.bank1
  pub stored : HasStoredBits tone_rows (λ offset. if offset == 0x084 then 0 else tones_kept offset ts)

-- The keypad has ten keys.
pub record KeysHold (k : Keys) : Type 0 where
  pub pressed : k.pressed < 2 ^ 10
  pub control : bit_and k.control (row_at keypad_rows 0x132).write_mask ≡ k.control

-- The devices. SOUNDCNT_X's bit 7 and SOUNDCNT_H's bits 0 and 1 stand in direct sound and in the tones, and are the
-- same in both.
pub record DevicesHold (d : Devices) : Type 0 where
  pub timers : TimersHold d.timers
  pub channels : ChannelsHold d.channels
  pub place : IsPosition d.place
  pub picture : PictureHolds d.picture
  pub sound : SoundHolds d.sound
  pub tones : TonesHold d.tones
  pub master : d.sound.is_on ≡ d.tones.is_on
  pub ratio : d.tones.ratio ≡ field d.sound.control 0 2
  pub interrupts : HasStoredBits interrupt_rows (λ offset. interrupt_shown offset d.interrupts)
  pub keys : KeysHold d.keys
  pub waits : bit_and d.waits (row_at system_rows 0x204).write_mask ≡ d.waits
