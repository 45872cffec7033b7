use Rattle.std.specs.Prelude.{ℕ, ◌^◌, ◌==◌, Bool, ◌&&◌, ◌||◌, not, nat_le, nat_lt, List, slice_index}
use Rattle.gba_terms.specs.Bits.{bit}
use Rattle.gba_dma.specs.Channel.{is_enabled}
use Rattle.gba_dma.specs.Channels.{FourChannels}
use Rattle.gba_dma.specs.declared.channel.Channel.{Channel}
use Rattle.gba_numbers.specs.Numbers.{ConsoleNumbers, value_of}
use Rattle.gba_numbers.specs.declared.fields.Field.TheVariants.{Clock}
use Rattle.gba_ppu_reg.specs.declared.position.Position.{Position}
use Rattle.gba_psg.specs.Numbers.{tone_of}
use Rattle.gba_psg.specs.declared.tone.Tone.{Tone}
use Rattle.gba_psr.specs.Modes.{is_mode}
use Rattle.gba_psr.specs.Status.{kept_status, mode_of}
use Rattle.gba_loose_devices.specs.Devices.{channels_poured}
use Rattle.gba_loose_devices.specs.Picture.{place_poured}
use Rattle.gba_loose_devices.specs.Sound.{tone_halves, tone_numbers}
use Rattle.gba_loose_devices.specs.Whole.{registers_poured}

-- What devices and registers need of their numbers beside each one's range, as tests.

-- an active DMA channel is enabled
abbrev pub is_enabled_run : Channel → Bool
is_enabled_run c = not c.active || is_enabled c

abbrev pub are_enabled_runs : FourChannels → Bool
are_enabled_runs cs =
    is_enabled_run cs.channel0 && is_enabled_run cs.channel1 && is_enabled_run cs.channel2 && is_enabled_run cs.channel3

-- a tone's numbers are in range, and one that is on has cycles to wait and a length that is left
abbrev pub is_lasting : Tone → Bool
is_lasting t = not t.on || (nat_lt 0 t.wait && nat_lt 0 t.left)

unfoldable pub is_sound_tone : ℕ → Tone → Bool
is_sound_tone places t =
    nat_lt t.place places && nat_lt t.wait (2 ^ 24) && nat_le t.left 256 && nat_lt t.volume 16 && nat_lt t.fade 8
    && nat_lt t.sweep 8 && nat_lt t.shadow 2048 && is_lasting t

-- the numbers of a tone at reset
unfoldable pub is_silent_tone : Tone → Bool
is_silent_tone t =
    not t.on && (t.place == 0) && (t.wait == 0) && (t.left == 0) && (t.volume == 0) && (t.fade == 0) && (t.sweep == 0)
    && (t.shadow == 0)

-- The tones of their numbers and halfwords are in range, and all that is to be 0 while the master enable is 0: the
-- numbers, and what is stored at the first eleven halfwords.
unfoldable pub are_in_range : List ℕ → Bool
are_in_range numbers =
    nat_lt (slice_index numbers 0) 0x40000 && is_sound_tone 8 (tone_of 1 numbers) && is_sound_tone 8 (tone_of 9 numbers)
    && is_sound_tone 64 (tone_of 17 numbers) && is_sound_tone 0x8000 (tone_of 25 numbers)

unfoldable pub are_silent : List ℕ → Bool
are_silent numbers =
    (slice_index numbers 0 == 0) && is_silent_tone (tone_of 1 numbers) && is_silent_tone (tone_of 9 numbers)
    && is_silent_tone (tone_of 17 numbers) && is_silent_tone (tone_of 25 numbers)

unfoldable pub are_cleared : List ℕ → Bool
are_cleared halves =
    (slice_index halves 0 == 0) && (slice_index halves 1 == 0) && (slice_index halves 2 == 0)
    && (slice_index halves 3 == 0)
    && (slice_index halves 4 == 0) && (slice_index halves 5 == 0) && (slice_index halves 6 == 0)
    && (slice_index halves 7 == 0) && (slice_index halves 8 == 0) && (slice_index halves 9 == 0)
    && (slice_index halves 10 == 0)

unfoldable pub are_sound_tones : List ℕ → List ℕ → Bool
are_sound_tones numbers halves =
    are_in_range numbers && (bit (slice_index halves 12) 7 || (are_silent numbers && are_cleared halves))

-- a place of the picture
abbrev pub is_position : Position → Bool
is_position p = nat_lt p.line 228 && nat_lt p.dot 1232

-- the devices of a console
abbrev pub are_sound_devices : ConsoleNumbers → List ℕ → Bool
are_sound_devices n io =
    are_enabled_runs (channels_poured n io) && are_sound_tones (tone_numbers n) (tone_halves io)
    && is_position (place_poured n) && nat_lt (value_of Clock n) (2 ^ 63)

-- CPSR has no bits but the stored ones, and one of the seven modes
abbrev pub is_status : ℕ → Bool
is_status status = (kept_status status == status) && is_mode (mode_of status)

abbrev pub has_status : ConsoleNumbers → Bool
has_status n = is_status (slice_index (registers_poured n) 31)
