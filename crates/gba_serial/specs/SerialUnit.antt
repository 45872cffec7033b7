use Rattle.std.specs.Prelude.{ℕ, ◌+◌, ◌*◌, ◌^◌, ◌==◌, Bool, false, not, ◌&&◌, ◌||◌, nat_le, nat_lt, is_some}
use Rattle.std.specs.Prelude.{List, [], ◌∷◌, Option, None, if◌then◌else◌, slice_index, slice_index_or}
use Rattle.gba_terms.specs.Bits.{bit, field}
use Rattle.gba_serial.specs.Timing.{is_multi, mode_by}
use Rattle.gba_serial.specs.declared.transfer.Running.{Running}
use Rattle.link_node.specs.declared.signal.LinkMode.{LinkMode}
use Rattle.link_node.specs.declared.signal.LinkMode.TheVariants.{Normal8, Normal32, Multi, Other}
use Rattle.link_node.specs.declared.signal.Start.{Start}

-- One console's serial unit
pub record SerialUnit : Type 0 where
  -- this console's player number, how many consoles there are, and the delay from player 0 to player 1 and back
  pub player : ℕ
  pub count : ℕ
  pub round : ℕ
  -- SIOCNT's stored bits: 0, 1, 3, 7, 12, 13, 14; its error, which is its bit 6; RCNT
  pub control : ℕ
  pub error : Bool
  pub select : ℕ
  -- the halfword at 12Ah, and the four at 120h to 126h
  pub send : ℕ
  pub words : List ℕ
  -- the mode that each player last told
  pub known : List LinkMode
  -- the transfer that runs
  pub run : Option Running
  -- what this step has to tell: a start, a reply, and, where it isn't the mode told last, the mode
  pub start : Option Start
  pub reply : Option ℕ
  pub told : LinkMode

-- the unit at reset: mode Other, and every peer's mode Other
abbrev pub serial_at_reset : ℕ → ℕ → ℕ → SerialUnit
serial_at_reset player count round = record {
  player = player;
  count = count;
  round = round;
  control = 0;
  error = false;
  select = 0x8000;
  send = 0;
  words = 0 ∷ 0 ∷ 0 ∷ 0 ∷ [];
  known = Other ∷ Other ∷ Other ∷ Other ∷ [];
  run = None;
  start = None;
  reply = None;
  told = Other;
}

abbrev pub mode_of : SerialUnit → LinkMode
mode_of u = mode_by u.select u.control

abbrev pub is_running : SerialUnit → Bool
is_running u = is_some u.run

-- whether a player is another console of the cable
abbrev pub is_peer : ℕ → SerialUnit → Bool
is_peer player u = nat_lt player u.count && not (player == u.player)

-- Normal modes wire players 0 and 1 alone
abbrev pub is_wired : ℕ → SerialUnit → Bool
is_wired player u = player + u.player == 1

-- the mode that a player last told
abbrev pub known_mode : List LinkMode → ℕ → LinkMode
known_mode known player = slice_index_or known player Other

-- whether a player is no peer, or one that is known to be in Multi
abbrev pub is_ready : SerialUnit → ℕ → Bool
is_ready u player = not (is_peer player u) || is_multi (known_mode u.known player)

-- whether there are at least two consoles and all are known to be in Multi
abbrev pub all_ready : SerialUnit → Bool
all_ready u =
    nat_le 2 u.count && is_multi (mode_of u)
    && is_ready u 0 && is_ready u 1 && is_ready u 2 && is_ready u 3

-- whether the word of a player was received
abbrev pub was_received : List Bool → ℕ → Bool
was_received got player = slice_index_or got player false

-- The word of this console in a mode: SIODATA8 is the low byte of the send word, SIODATA32 the first two halfwords, low
-- half first.
abbrev pub data_word : LinkMode → SerialUnit → ℕ
data_word Normal8 u = field u.send 0 8
data_word Normal32 u = field (slice_index u.words 0 + slice_index u.words 1 * 2 ^ 16) 0 32
data_word Multi u = field u.send 0 16
data_word Other u = 0

abbrev pub own_word : SerialUnit → ℕ
own_word u = data_word (mode_of u) u

-- SIOCNT's bit 0 in a Normal mode: whether this console gives the clock
abbrev pub has_inside_clock : ℕ → Bool
has_inside_clock control = bit control 0

-- the speed: bits 0 and 1 in Multi, bit 1 in the Normal modes
abbrev pub speed_of : SerialUnit → ℕ
speed_of u = if is_multi (mode_of u) then field u.control 0 2 else field u.control 1 1
