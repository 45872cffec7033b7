use Rattle.std.specs.Prelude.{ℕ, ◌+◌, ◌-◌, ◌*◌, ◌==◌, Bool, ◌&&◌, ◌||◌, nat_le, nat_lt, List, [], ◌∷◌, Option, None, Some, option_map, bit_and, if◌then◌else◌}
use Rattle.std.specs.Option.{option_map_or}
use Rattle.gba_register.specs.Rows.{Row, row, row_at}
use Rattle.gba_dma.specs.declared.channel.Channel.{Channel}
use Rattle.gba_dma.specs.declared.event.DmaEvent.{DmaEvent}
use Rattle.gba_dma.specs.declared.unit.Unit.{Unit as DmaUnit}
use Rattle.gba_dma.specs.Channel.{after_event, after_unit_end, channel_at_reset, half_shown, channel_set, requests_interrupt, unit_of}

-- the four channels
pub record FourChannels : Type 0 where
  pub channel0 : Channel
  pub channel1 : Channel
  pub channel2 : Channel
  pub channel3 : Channel

-- a channel by its number, 3 for any above
abbrev pub channel_at : ℕ → FourChannels → Channel
channel_at number cs =
    if number == 0 then cs.channel0
    else if number == 1 then cs.channel1
    else if number == 2 then cs.channel2
    else cs.channel3

-- an event comes to all of them
abbrev pub after_trigger : DmaEvent → FourChannels → FourChannels
after_trigger event cs = record {
  channel0 = after_event event 0 cs.channel0;
  channel1 = after_event event 1 cs.channel1;
  channel2 = after_event event 2 cs.channel2;
  channel3 = after_event event 3 cs.channel3;
}

-- the lowest active channel goes first (GBATEK, GBA DMA Transfers: DMA0 has the highest priority)
abbrev pub lowest_active : FourChannels → Option ℕ
lowest_active cs =
    if cs.channel0.active then Some 0
    else if cs.channel1.active then Some 1
    else if cs.channel2.active then Some 2
    else if cs.channel3.active then Some 3
    else None

-- whether any is active
abbrev pub is_moving : FourChannels → Bool
is_moving cs = cs.channel0.active || cs.channel1.active || cs.channel2.active || cs.channel3.active

abbrev pub next_unit : FourChannels → Option DmaUnit
next_unit cs = option_map (λ number. unit_of number (channel_at number cs)) (lowest_active cs)

-- a unit of one channel ends, and the channel whose interrupt this requests
abbrev pub after_unit_at : ℕ → FourChannels → FourChannels
after_unit_at number cs = record {
  channel0 = if number == 0 then after_unit_end 0 cs.channel0 else cs.channel0;
  channel1 = if number == 1 then after_unit_end 1 cs.channel1 else cs.channel1;
  channel2 = if number == 2 then after_unit_end 2 cs.channel2 else cs.channel2;
  channel3 = if number == 3 then after_unit_end 3 cs.channel3 else cs.channel3;
}

abbrev pub interrupt_at : ℕ → FourChannels → Option ℕ
interrupt_at number cs = if requests_interrupt (channel_at number cs) then Some number else None

-- the same for the lowest active channel
abbrev pub after_lowest_unit : FourChannels → FourChannels
after_lowest_unit cs = option_map_or (λ number. after_unit_at number cs) (lowest_active cs) cs

abbrev pub lowest_interrupt : FourChannels → Option ℕ
lowest_interrupt cs = option_map_or (λ number. interrupt_at number cs) (lowest_active cs) None

-- The channels' halfwords, twelve bytes for each from 0B0h up. Only controls read (GBATEK, GBA DMA Transfers).
unfoldable pub dma_rows : List Row
dma_rows =
    row 0x0b0 0 0xffff ∷ row 0x0b2 0 0x07ff ∷ row 0x0b4 0 0xffff ∷ row 0x0b6 0 0x07ff
    ∷ row 0x0b8 0 0x3fff ∷ row 0x0ba 0xf7e0 0xf7e0
    ∷ row 0x0bc 0 0xffff ∷ row 0x0be 0 0x0fff ∷ row 0x0c0 0 0xffff ∷ row 0x0c2 0 0x07ff
    ∷ row 0x0c4 0 0x3fff ∷ row 0x0c6 0xf7e0 0xf7e0
    ∷ row 0x0c8 0 0xffff ∷ row 0x0ca 0 0x0fff ∷ row 0x0cc 0 0xffff ∷ row 0x0ce 0 0x07ff
    ∷ row 0x0d0 0 0x3fff ∷ row 0x0d2 0xf7e0 0xf7e0
    ∷ row 0x0d4 0 0xffff ∷ row 0x0d6 0 0x0fff ∷ row 0x0d8 0 0xffff ∷ row 0x0da 0 0x0fff
    ∷ row 0x0dc 0 0xffff ∷ row 0x0de 0xffe0 0xffe0 ∷ []

-- whether an offset is in a channel's twelve bytes, and its place there
abbrev pub base : ℕ → ℕ
base number = 0xb0 + 12 * number

abbrev pub has_offset : ℕ → ℕ → Bool
has_offset number offset = nat_le (base number) offset && nat_lt offset (base number + 12)

abbrev pub place_in : ℕ → ℕ → ℕ
place_in number offset = offset - base number

-- what stands at a halfword, and what a byte write keeps of its other byte
abbrev pub dma_kept : ℕ → FourChannels → ℕ
dma_kept offset cs =
    if has_offset 0 offset then half_shown (place_in 0 offset) cs.channel0
    else if has_offset 1 offset then half_shown (place_in 1 offset) cs.channel1
    else if has_offset 2 offset then half_shown (place_in 2 offset) cs.channel2
    else if has_offset 3 offset then half_shown (place_in 3 offset) cs.channel3
    else 0

-- what a halfword reads
abbrev pub dma_read : ℕ → FourChannels → ℕ
dma_read offset cs = bit_and (dma_kept offset cs) (row_at dma_rows offset).read_mask

-- what a write of these bits leaves
abbrev pub channel_set_at : ℕ → ℕ → ℕ → Channel → Channel
channel_set_at number offset value c =
    if has_offset number offset then channel_set number (place_in number offset) value c else c

abbrev pub dma_set : ℕ → ℕ → FourChannels → FourChannels
dma_set offset value cs = record {
  channel0 = channel_set_at 0 offset value cs.channel0;
  channel1 = channel_set_at 1 offset value cs.channel1;
  channel2 = channel_set_at 2 offset value cs.channel2;
  channel3 = channel_set_at 3 offset value cs.channel3;
}

-- what a halfword write leaves
abbrev pub dma_written : ℕ → ℕ → FourChannels → FourChannels
dma_written offset value cs = dma_set offset (bit_and value (row_at dma_rows offset).write_mask) cs

abbrev pub channels_at_reset : FourChannels
channels_at_reset = record {
  channel0 = channel_at_reset;
  channel1 = channel_at_reset;
  channel2 = channel_at_reset;
  channel3 = channel_at_reset;
}
