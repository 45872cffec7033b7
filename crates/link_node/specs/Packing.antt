use Rattle.std.specs.Prelude.{ℕ, Bool, ◌&&◌, ◌||◌, ◌+◌, ◌*◌, ◌/◌, ◌^◌, ◌==◌, if◌then◌else◌, Option, None, Some}
use Rattle.gba_terms.specs.Bits.{field, bit}
use Rattle.link_node.specs.declared.signal.LinkMode.{LinkMode}
use Rattle.link_node.specs.declared.signal.LinkMode.TheVariants.{Normal8, Normal32, Multi, Other}
use Rattle.link_node.specs.declared.signal.Signal.{Signal}
use Rattle.link_node.specs.declared.signal.Start.{Start}

-- this project's profile: a signal as two numbers of 64 bits

-- the number of a mode, and the mode of two bits
abbrev pub mode_number : LinkMode → ℕ
mode_number Normal8 = 0
mode_number Normal32 = 1
mode_number Multi = 2
mode_number Other = 3

abbrev pub numbered_mode : ℕ → LinkMode
numbered_mode n = if n == 0 then Normal8 else if n == 1 then Normal32 else if n == 2 then Multi else Other

-- 1 where the part is there
abbrev pub presence : {T : Type 0} → Option T → ℕ
presence None = 0
presence (Some _) = 1

abbrev pub start_speed : Option Start → ℕ
start_speed None = 0
start_speed (Some start) = start.speed

abbrev pub start_word : Option Start → ℕ
start_word None = 0
start_word (Some start) = start.word

abbrev pub reply_word : Option ℕ → ℕ
reply_word None = 0
reply_word (Some word) = word

-- the first number: clock in bits 0 to 39, mode in 40 and 41, start in 42, its speed in 43 and 44, reply in 45
abbrev pub packed_head : Signal → ℕ
packed_head s =
    s.clock + mode_number s.mode * 2 ^ 40 + presence s.start * 2 ^ 42 + start_speed s.start * 2 ^ 43
    + presence s.reply * 2 ^ 45

-- the second number: the start's word below, the reply's word above
abbrev pub packed_words : Signal → ℕ
packed_words s = start_word s.start + reply_word s.reply * 2 ^ 32

-- two numbers of a signal: no bit above 45, and nothing of a part that isn't there
abbrev pub is_packed : ℕ → ℕ → Bool
is_packed head words =
    (head / 2 ^ 46 == 0)
    && (bit head 42 || ((field head 43 2 == 0) && (field words 0 32 == 0)))
    && (bit head 45 || (field words 32 32 == 0))

abbrev pub packed_start : ℕ → ℕ → Option Start
packed_start head words =
    if bit head 42 then Some (record { speed = field head 43 2; word = field words 0 32 }) else None

abbrev pub packed_reply : ℕ → ℕ → Option ℕ
packed_reply head words = if bit head 45 then Some (field words 32 32) else None

-- the signal of two numbers
abbrev pub signal_in : ℕ → ℕ → Option Signal
signal_in head words =
    if is_packed head words
    then Some (record {
      clock = field head 0 40;
      mode = numbered_mode (field head 40 2);
      start = packed_start head words;
      reply = packed_reply head words;
    })
    else None
