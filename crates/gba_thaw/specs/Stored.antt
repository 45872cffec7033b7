-- Which bits of the I/O registers may be 1 in a frozen file, where only some bits of a halfword are stored. Halfwords
-- that aren't named here have all bits, or show what is kept elsewhere, or aren't there.
use Rattle.std.specs.Prelude.{ℕ, ◌==◌, Bool, ◌&&◌, List, bit_and}
use Rattle.gba_loose_devices.specs.Values.{half_at}

-- the halfword at an offset has these bits alone
abbrev pub has_bits : ℕ → ℕ → List ℕ → Bool
has_bits offset bits io = bit_and (half_at offset io) bits == half_at offset io

-- of the picture: DISPCNT, BG0CNT and BG1CNT, the scrolls, the upper halves of the reference points, WININ and WINOUT,
-- BLDCNT, BLDALPHA and BLDY; the halfwords 002h, 04Ch and 04Eh between them have none (GBATEK, LCD I/O Registers)
unfoldable pub has_picture_bits : List ℕ → Bool
has_picture_bits io =
    has_bits 0x000 0xfff7 io && has_bits 0x002 0 io && has_bits 0x008 0xdfff io && has_bits 0x00a 0xdfff io
    && has_bits 0x010 0x01ff io && has_bits 0x012 0x01ff io && has_bits 0x014 0x01ff io && has_bits 0x016 0x01ff io
    && has_bits 0x018 0x01ff io && has_bits 0x01a 0x01ff io && has_bits 0x01c 0x01ff io && has_bits 0x01e 0x01ff io
    && has_bits 0x02a 0x0fff io && has_bits 0x02e 0x0fff io && has_bits 0x03a 0x0fff io && has_bits 0x03e 0x0fff io
    && has_bits 0x048 0x3f3f io && has_bits 0x04a 0x3f3f io && has_bits 0x04c 0 io && has_bits 0x04e 0 io
    && has_bits 0x050 0x3fff io && has_bits 0x052 0x1f1f io && has_bits 0x054 0x001f io

-- of the sound: the channels, SOUNDCNT_L, SOUNDCNT_H, SOUNDCNT_X with what it shows of the channels, and SOUNDBIAS
-- (GBATEK, GBA Sound Controller)
unfoldable pub has_sound_bits : List ℕ → Bool
has_sound_bits io =
    has_bits 0x060 0x007f io && has_bits 0x064 0x47ff io && has_bits 0x06c 0x47ff io && has_bits 0x070 0x00e0 io
    && has_bits 0x072 0xe0ff io && has_bits 0x074 0x47ff io && has_bits 0x078 0xff3f io && has_bits 0x07c 0x40ff io
    && has_bits 0x080 0xff77 io && has_bits 0x082 0x770f io && has_bits 0x084 0x008f io && has_bits 0x088 0xc3fe io

-- of the DMA channels: the upper halves of their addresses, the counts of 0 to 2, and the controls (GBATEK, GBA DMA
-- Transfers)
unfoldable pub has_channel_bits : List ℕ → Bool
has_channel_bits io =
    has_bits 0x0b2 0x07ff io && has_bits 0x0b6 0x07ff io && has_bits 0x0b8 0x3fff io && has_bits 0x0ba 0xf7e0 io
    && has_bits 0x0be 0x0fff io && has_bits 0x0c2 0x07ff io && has_bits 0x0c4 0x3fff io && has_bits 0x0c6 0xf7e0 io
    && has_bits 0x0ca 0x0fff io && has_bits 0x0ce 0x07ff io && has_bits 0x0d0 0x3fff io && has_bits 0x0d2 0xf7e0 io
    && has_bits 0x0d6 0x0fff io && has_bits 0x0da 0x0fff io && has_bits 0x0de 0xffe0 io

-- of KEYCNT, RCNT, IE, IF, WAITCNT, IME and POSTFLG (GBATEK, GBA Keypad Input, GBA Communication Ports, GBA Interrupt
-- Control, GBA System Control)
unfoldable pub has_other_bits : List ℕ → Bool
has_other_bits io =
    has_bits 0x132 0xc3ff io && has_bits 0x134 0xc000 io && has_bits 0x200 0x3fff io && has_bits 0x202 0x3fff io
    && has_bits 0x204 0x5fff io && has_bits 0x208 0x0001 io && has_bits 0x300 0x0001 io

unfoldable pub has_stored_bits : List ℕ → Bool
has_stored_bits io = has_picture_bits io && has_sound_bits io && has_channel_bits io && has_other_bits io
