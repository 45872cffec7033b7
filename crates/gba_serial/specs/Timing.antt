use Rattle.std.specs.Prelude.{ℕ, ◌+◌, ◌*◌, ◌^◌, ◌==◌, nat_lt, Bool, true, false, max, if◌then◌else◌}
use Rattle.gba_terms.specs.Bits.{bit, field}
use Rattle.link_node.specs.declared.signal.LinkMode.{LinkMode}
use Rattle.link_node.specs.declared.signal.LinkMode.TheVariants.{Normal8, Normal32, Multi, Other}

-- The serial modes (GBATEK, SIO Control Registers Summary), and how long their transfers last (this project's profile)

-- RCNT's bit 15 leaves these modes; else SIOCNT's bits 13 and 12 choose one
abbrev pub chosen_mode : ℕ → LinkMode
chosen_mode choice =
    if choice == 0 then Normal8 else if choice == 1 then Normal32 else if choice == 2 then Multi else Other

abbrev pub mode_by : ℕ → ℕ → LinkMode
mode_by select control = if bit select 15 then Other else chosen_mode (field control 12 2)

abbrev pub is_multi : LinkMode → Bool
is_multi Normal8 = false
is_multi Normal32 = false
is_multi Multi = true
is_multi Other = false

abbrev pub is_normal : LinkMode → Bool
is_normal Normal8 = true
is_normal Normal32 = true
is_normal Multi = false
is_normal Other = false

abbrev pub is_same : LinkMode → LinkMode → Bool
is_same Normal8 Normal8 = true
is_same Normal32 Normal32 = true
is_same Multi Multi = true
is_same Other Other = true
is_same _ _ = false

-- the bits of a transfer's word
abbrev pub word_width : LinkMode → ℕ
word_width Normal8 = 8
word_width Normal32 = 32
word_width Multi = 16
word_width Other = 0

-- whether a number is a word of a transfer in a mode, which has transfers
unfoldable pub is_word_of : LinkMode → ℕ → Bool
is_word_of Normal8 word = nat_lt word 0x100
is_word_of Normal32 word = nat_lt word (2 ^ 32)
is_word_of Multi word = nat_lt word 0x10000
is_word_of Other word = false

-- what a transfer of a mode takes of a word
abbrev pub cut_word : LinkMode → ℕ → ℕ
cut_word mode word = field word 0 (word_width mode)

-- cycles per bit, by the speed of a start
abbrev pub multi_bit_cycles : ℕ → ℕ
multi_bit_cycles speed = if speed == 0 then 1747 else if speed == 1 then 436 else if speed == 2 then 291 else 145

abbrev pub normal_bit_cycles : ℕ → ℕ
normal_bit_cycles speed = if speed == 0 then 64 else 8

-- The clock at which a transfer ends that was started at a clock. In Multi each console sends 18 bits. In the Normal
-- modes the answer must have come back: `round` is the delay from player 0 to player 1 and back again.
abbrev pub multi_end : ℕ → ℕ → ℕ → ℕ
multi_end count speed clock = clock + 18 * count * multi_bit_cycles speed

abbrev pub normal_end : ℕ → LinkMode → ℕ → ℕ → ℕ
normal_end round mode speed clock = clock + max (word_width mode * normal_bit_cycles speed) (round + 514)

abbrev pub transfer_end : ℕ → ℕ → LinkMode → ℕ → ℕ → ℕ
transfer_end count round mode speed clock =
    if is_multi mode then multi_end count speed clock else normal_end round mode speed clock
