use Rattle.std.specs.Prelude.{ℕ, Bool, false, not, ◌+◌, ◌&&◌, ◌==◌}
use Rattle.gba_dma.specs.Channel.{requests_interrupt}
use Rattle.gba_dma.specs.Channels.{FourChannels, after_unit_at, channel_at, channels_at_reset, is_moving}
use Rattle.gba_irq.specs.Interrupts.{is_pending, with_request_if}
use Rattle.gba_irq.specs.Keypad.{Keys}
use Rattle.gba_irq.specs.declared.interrupts.Interrupts.{Interrupts}
use Rattle.gba_ppu_reg.specs.Registers.{Picture, picture_at_reset}
use Rattle.gba_ppu_reg.specs.declared.position.Position.{Position}
use Rattle.gba_psg.specs.Tones.{tones_at_reset}
use Rattle.gba_psg.specs.declared.four.FourTones.{FourTones}
use Rattle.gba_sound.specs.Queues.{DirectSound, sound_at_reset}
use Rattle.gba_timer.specs.Timers.{FourTimers, timers_at_reset}

-- The devices of a board: the clock in cycles since reset, the timers, direct sound, the tone channels, the DMA
-- channels, the picture's place and its registers, the interrupts, the keypad, WAITCNT, the WAITCNT by which the
-- accesses of this step are priced, POSTFLG, and the halt.
pub record Devices : Type 0 where
  pub clock : ℕ
  pub timers : FourTimers
  pub sound : DirectSound
  pub tones : FourTones
  pub channels : FourChannels
  pub place : Position
  pub picture : Picture
  pub interrupts : Interrupts
  pub keys : Keys
  pub waits : ℕ
  pub priced : ℕ
  pub posted : Bool
  pub halted : Bool

abbrev pub interrupts_at_reset : Interrupts
interrupts_at_reset = record { enabled = 0; raised = 0; master = false }

abbrev pub keys_at_reset : Keys
keys_at_reset = record { pressed = 0; control = 0 }

-- the picture begins at the first dot of the first line (this project's profile)
abbrev pub place_at_reset : Position
place_at_reset = record { line = 0; dot = 0 }

-- the devices at reset
abbrev pub devices_at_reset : Devices
devices_at_reset = record {
  clock = 0;
  timers = timers_at_reset;
  sound = sound_at_reset;
  tones = tones_at_reset;
  channels = channels_at_reset;
  place = place_at_reset;
  picture = picture_at_reset;
  interrupts = interrupts_at_reset;
  keys = keys_at_reset;
  waits = 0;
  priced = 0;
  posted = false;
  halted = false;
}

-- at the start of a step its accesses take the prices of WAITCNT as it is then
abbrev pub begun : Devices → Devices
begun d = record d { priced = d.waits }

-- So many cycles pass in which no device moves: the console is off (this project's profile).
abbrev pub rested : ℕ → Devices → Devices
rested cycles d = record d { clock = d.clock + cycles }

-- the halt ends
abbrev pub woken : Devices → Devices
woken d = record d { halted = false }

-- A unit of a DMA channel ends. Where it ends a run that asks for it, the channel's interrupt is requested: bits 8 to
-- 11 of IF are those of channels 0 to 3 (GBATEK, GBA Interrupt Control).
unfoldable pub after_dma_unit : ℕ → Devices → Devices
after_dma_unit number d = record d {
  channels = after_unit_at number d.channels;
  interrupts = with_request_if (requests_interrupt (channel_at number d.channels)) (8 + number) d.interrupts;
}

-- an interrupt asks for its entry, as far as devices decide it: IME is set, and an enabled interrupt is requested
abbrev pub asks_entry : Devices → Bool
asks_entry d = d.interrupts.master && is_pending d.interrupts

-- halted, and nothing asks for more than idling: no interrupt, no DMA, and the prices are those of WAITCNT
abbrev pub is_idle : Devices → Bool
is_idle d = d.halted && not (is_pending d.interrupts) && not (is_moving d.channels) && (d.waits == d.priced)

-- nothing asks for more than an instruction: no halt, no entry, no DMA, and the prices are those of WAITCNT
abbrev pub is_calm : Devices → Bool
is_calm d = not d.halted && not (asks_entry d) && not (is_moving d.channels) && (d.waits == d.priced)
