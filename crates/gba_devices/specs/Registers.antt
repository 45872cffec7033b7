use Rattle.std.specs.Prelude.{ℕ, Option, None, Some, ◌-◌, ◌%◌, ◌^◌, ◌==◌, ◌||◌, nat_le, nat_lt, ◌&&◌, List, [], ◌∷◌, bit_and, bit_or, if◌then◌else◌}
use Rattle.gba_terms.specs.Bits.{bit, field}
use Rattle.gba_word.specs.Sums.{flag_number}
use Rattle.gba_bus.specs.declared.width.Width.{Width}
use Rattle.gba_bus.specs.declared.width.Width.TheVariants.{Word}
use Rattle.gba_register.specs.Accesses.{loaded_by_halves, put_by, written_by_halves}
use Rattle.gba_register.specs.Rows.{Row, row, row_at}
use Rattle.gba_dma.specs.Channels.{dma_kept, dma_read, dma_written}
use Rattle.gba_irq.specs.Interrupts.{interrupt_kept, interrupt_read, interrupt_written, with_request_if}
use Rattle.gba_irq.specs.Keypad.{becomes_true, keypad_read, with_control, with_pressed}
use Rattle.gba_ppu_reg.specs.Registers.{picture_kept, picture_read_at, picture_written}
use Rattle.gba_psg.specs.Registers.{tones_kept, tones_read, tones_written}
use Rattle.gba_sound.specs.Queues.{after_word, sound_read, sound_written}
use Rattle.gba_timer.specs.Timers.{timer_kept, timer_read, timer_written}
use Rattle.gba_devices.specs.declared.registers.Owner.{Owner}
use Rattle.gba_devices.specs.declared.registers.Owner.TheVariants.{PictureBlock, ToneBlock, SoundBlock, DmaBlock, TimerBlock, KeyBlock, InterruptBlock, WaitControl, PostFlag, Nobody}
use Rattle.gba_devices.specs.State.{Devices}

-- The I/O registers (GBATEK, GBA I/O Map), by their offsets from 04000000h. Each device has its own rows; here are
-- those of WAITCNT and POSTFLG, and which device a halfword belongs to. What isn't listed reads 0 and drops writes.

unfoldable pub system_rows : List Row
system_rows = row 0x204 0x5fff 0x5fff ∷ row 0x300 0x0001 0x0001 ∷ []

-- whose halfword an offset is
unfoldable pub owner_of : ℕ → Owner
owner_of offset =
    if nat_lt offset 0x056 then PictureBlock
    else if nat_le 0x060 offset && nat_lt offset 0x082 then ToneBlock
    else if nat_le 0x082 offset && nat_lt offset 0x08a then SoundBlock
    else if nat_le 0x090 offset && nat_lt offset 0x0a0 then ToneBlock
    else if nat_le 0x0b0 offset && nat_lt offset 0x0e0 then DmaBlock
    else if nat_le 0x100 offset && nat_lt offset 0x110 then TimerBlock
    else if nat_le 0x130 offset && nat_lt offset 0x134 then KeyBlock
    else if offset == 0x204 then WaitControl
    else if nat_le 0x200 offset && nat_lt offset 0x20a then InterruptBlock
    else if offset == 0x300 then PostFlag
    else Nobody

-- What a halfword reads. SOUNDCNT_H and SOUNDCNT_X are of direct sound and of the tone channels, each of which shows
-- its bits.
abbrev pub read_of : Owner → ℕ → Devices → ℕ
read_of PictureBlock offset d = picture_read_at offset d.place d.picture
read_of ToneBlock offset d = tones_read offset d.tones
read_of SoundBlock offset d = bit_or (sound_read offset d.sound) (tones_read offset d.tones)
read_of DmaBlock offset d = dma_read offset d.channels
read_of TimerBlock offset d = timer_read offset d.timers
read_of KeyBlock offset d = keypad_read offset d.keys
read_of InterruptBlock offset d = interrupt_read offset d.interrupts
read_of WaitControl offset d = bit_and d.waits (row_at system_rows 0x204).read_mask
read_of PostFlag offset d = bit_and (flag_number d.posted) (row_at system_rows 0x300).read_mask
read_of Nobody offset d = 0

unfoldable pub half_read : ℕ → Devices → ℕ
half_read offset d = read_of (owner_of offset) offset d

-- what a write of one byte keeps of the halfword's other byte: of a timer's first halfword that of the reload, of IF
-- and of SOUNDCNT_H's reset bits nothing, and else what is stored
abbrev pub kept_of : Owner → ℕ → Devices → ℕ
kept_of PictureBlock offset d = picture_kept offset d.picture
kept_of ToneBlock offset d = tones_kept offset d.tones
kept_of SoundBlock offset d = sound_read offset d.sound
kept_of DmaBlock offset d = dma_kept offset d.channels
kept_of TimerBlock offset d = timer_kept offset d.timers
kept_of KeyBlock offset d = keypad_read offset d.keys
kept_of InterruptBlock offset d = interrupt_kept offset d.interrupts
kept_of WaitControl offset d = d.waits
kept_of PostFlag offset d = flag_number d.posted
kept_of Nobody offset d = 0

unfoldable pub half_kept : ℕ → Devices → ℕ
half_kept offset d = kept_of (owner_of offset) offset d

-- what is stored at a halfword, also where it doesn't read, and of bits that are only read what they read; of a timer's
-- first halfword that is the reload
abbrev pub listed_of : Owner → ℕ → Devices → ℕ
listed_of PictureBlock offset d =
    bit_or (picture_kept offset d.picture) (picture_read_at offset d.place d.picture)
listed_of ToneBlock offset d = tones_kept offset d.tones
listed_of DmaBlock offset d = dma_kept offset d.channels
listed_of TimerBlock offset d = timer_kept offset d.timers
listed_of owner offset d = read_of owner offset d

-- cut as what an access reads is, so that the state file has 16 bits of every record
unfoldable pub half_listed : ℕ → Devices → ℕ
half_listed offset d = listed_of (owner_of offset) offset d % 2 ^ 16

-- Other keys are pressed. The keypad's interrupt is requested where its condition went from false to true (that it is
-- tested after each key change and each write of KEYCNT is this project's profile).
unfoldable pub keyed : ℕ → Devices → Devices
keyed pressed d = record d {
  keys = with_pressed pressed d.keys;
  interrupts = with_request_if (becomes_true d.keys (with_pressed pressed d.keys)) 12 d.interrupts;
}

-- KEYCNT is written
abbrev pub with_key_control : ℕ → Devices → Devices
with_key_control value d = record d {
  keys = with_control value d.keys;
  interrupts = with_request_if (becomes_true d.keys (with_control value d.keys)) 12 d.interrupts;
}

-- What a write of a halfword leaves; `lanes` has the bits of the bytes that are written, and `value` the whole
-- halfword. A write that covers byte 301h halts (GBATEK, HALTCNT; that Stop is a halt too is this project's profile).
abbrev pub written_of : Owner → ℕ → ℕ → ℕ → Devices → Devices
written_of PictureBlock offset value lanes d = record d { picture = picture_written offset value d.picture }
written_of ToneBlock offset value lanes d = record d { tones = tones_written offset value d.tones }
written_of SoundBlock offset value lanes d = record d {
  sound = sound_written offset value d.sound;
  tones = tones_written offset value d.tones;
}
written_of DmaBlock offset value lanes d = record d { channels = dma_written offset value d.channels }
written_of TimerBlock offset value lanes d = record d { timers = timer_written offset value d.timers }
written_of KeyBlock offset value lanes d = if offset == 0x132 then with_key_control value d else d
written_of InterruptBlock offset value lanes d = record d { interrupts = interrupt_written offset value d.interrupts }
written_of WaitControl offset value lanes d =
    record d { waits = bit_and value (row_at system_rows 0x204).write_mask }
written_of PostFlag offset value lanes d = record d { posted = bit value 0; halted = d.halted || bit lanes 8 }
written_of Nobody offset value lanes d = d

unfoldable pub whole_written : ℕ → ℕ → ℕ → Devices → Devices
whole_written offset value lanes d = written_of (owner_of offset) offset value lanes d

-- the same of the bytes that are written alone: the halfword's others are as they are kept
abbrev pub half_written : ℕ → ℕ → ℕ → Devices → Devices
half_written offset value lanes d = put_by half_kept whole_written offset value lanes d

-- what an access reads
abbrev pub io_loaded : ℕ → Width → Devices → ℕ
io_loaded offset width d = loaded_by_halves (λ place. half_read place d) offset width

-- The queue that an access writes: words at 0A0h go into queue A, 0, and those at 0A4h into queue B, 1. Narrower writes
-- there are dropped (this project's profile).
abbrev pub queue_of : ℕ → Width → Option ℕ
queue_of offset Word =
    if offset - offset % 4 == 0x0a0 then Some 0
    else if offset - offset % 4 == 0x0a4 then Some 1
    else None
queue_of offset width = None

-- what an access leaves
abbrev pub written_in : Option ℕ → ℕ → Width → ℕ → Devices → Devices
written_in (Some queue) offset width value d = record d { sound = after_word queue (field value 0 32) d.sound }
written_in None offset width value d = written_by_halves half_written offset width value d

abbrev pub io_written : ℕ → Width → ℕ → Devices → Devices
io_written offset width value d = written_in (queue_of offset width) offset width value d
