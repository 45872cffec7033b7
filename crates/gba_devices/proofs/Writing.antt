-- What a write of a halfword can come to, one device after another.
use Rattle.std.proofs.Common.{ℕ, ◌==◌, ◌||◌, if◌then◌else◌}
use Rattle.std.specs.Prelude.{bit_and}
use Rattle.gba_terms.specs.Bits.{bit}
use Rattle.gba_register.specs.Rows.{row_at}
use Rattle.gba_devices.specs.Registers.{owner_of, system_rows, whole_written, with_key_control, written_of}
use Rattle.gba_devices.specs.State.{Devices}
use Rattle.gba_devices.specs.declared.registers.Owner.{Owner}
use Rattle.gba_devices.specs.declared.registers.Owner.TheVariants.{PictureBlock, ToneBlock, SoundBlock, DmaBlock, TimerBlock, KeyBlock, InterruptBlock, WaitControl, PostFlag, Nobody}
use Rattle.gba_dma.specs.Channels.{dma_written}
use Rattle.gba_irq.specs.Interrupts.{interrupt_written}
use Rattle.gba_ppu_reg.specs.Registers.{picture_written}
use Rattle.gba_psg.specs.Registers.{tones_written}
use Rattle.gba_sound.specs.Queues.{sound_written}
use Rattle.gba_timer.specs.Timers.{timer_written}

module _ (P : Devices → Type 0) (offset lanes : ℕ) (d : Devices)
    (pictures : (value : ℕ) → P (record d { picture = picture_written offset value d.picture }))
    (tones : (value : ℕ) → P (record d { tones = tones_written offset value d.tones }))
    (sounds : (value : ℕ)
    → P (record d { sound = sound_written offset value d.sound; tones = tones_written offset value d.tones }))
    (channels : (value : ℕ) → P (record d { channels = dma_written offset value d.channels }))
    (timers : (value : ℕ) → P (record d { timers = timer_written offset value d.timers }))
    (keys : (value : ℕ) → P (if offset == 0x132 then with_key_control value d else d))
    (interrupts : (value : ℕ) → P (record d { interrupts = interrupt_written offset value d.interrupts }))
    (waits : (value : ℕ) → P (record d { waits = bit_and value (row_at system_rows 0x204).write_mask }))
    (posts : (value : ℕ) → P (record d { posted = bit value 0; halted = d.halted || bit lanes 8 }))
    (nobody : P d) where
  of-owner : (owner : Owner) (value : ℕ) → P (written_of owner offset value lanes d)
  of-owner PictureBlock value = pictures value
  of-owner ToneBlock value = tones value
  of-owner SoundBlock value = sounds value
  of-owner DmaBlock value = channels value
  of-owner TimerBlock value = timers value
  of-owner KeyBlock value = keys value
  of-owner InterruptBlock value = interrupts value
  of-owner WaitControl value = waits value
  of-owner PostFlag value = posts value
  of-owner Nobody value = nobody

  -- what is so after a write of each device is so after a write of the halfword
  pub each-half : (value : ℕ) → P (whole_written offset value lanes d)
  unfolding whole_written
  each-half value = of-owner (owner_of offset) value
