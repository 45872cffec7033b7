use Rattle.std.specs.Prelude.{◌≡◌, ℕ, zero, suc, false, ◌+◌, ◌-◌, ◌*◌, ◌/◌, ◌^◌, ◌≤◌, ◌&&◌, List, [], ◌∷◌, ◌++◌, length, Option, if◌then◌else◌}
use Rattle.std.specs.List.{concat}
use Rattle.gba_devices.specs.Cycles.{after_cycles, device_cycle, draws_line, draws_within, makes_pair, makes_within}
use Rattle.gba_devices.specs.Samples.{left_sample, right_sample}
use Rattle.gba_image.specs.declared.backup.Backup.{Backup}
use Rattle.gba_ppu_reg.specs.Position.{IsPosition}
use Rattle.gba_io.specs.Base.{begun_at, early_at}
use Rattle.gba_io.specs.Core.{Core, core_after, core_at_start, core_cycled, core_poured}
use Rattle.gba_io.specs.Drawing.{cycles_early, cycles_in, drawn_line, ends_frame, lines_drawn}
use Rattle.gba_io.specs.Ended.{ended_counted, ended_emptied, ended_from, none_ended}
use Rattle.gba_io.specs.Made.{Made, made_counted, made_emptied, made_from, none_made, with_frame, with_pair}
use Rattle.gba_io.specs.declared.base.Base.{Base}
use Rattle.gba_io.specs.declared.board.Board.{Board}
use Rattle.gba_io.specs.declared.made.Room.{Room}
use Rattle.gba_io.specs.declared.pouring.BoardParts.{BoardParts}

-- A board: its core, which the processor sees as a bus, what it has made, and the transfers that ended.

-- a board at reset, from its player number, the number of consoles, the way from player 0 to player 1 and back, a BIOS,
-- a cartridge, a save and what it is kept in
abbrev pub board_at_start : ℕ → ℕ → ℕ → List ℕ → Option (List ℕ) → Option (List ℕ) → Backup → Room → Board
board_at_start player count round bios cart save backup room = record {
  core = core_at_start player count round bios cart save backup;
  made = none_made room;
  ended = none_ended room;
}

-- What a cycle makes: where HBlank begins a line of the picture, with the last line of the screen a whole frame, and
-- where the new clock is a multiple of 512 a pair of samples, once the queues have taken their bytes and the tone
-- channels have moved.
abbrev pub lines_with : Core → List (List ℕ)
lines_with c = c.lines ++ (drawn_line c ∷ [])

abbrev pub lines_in_cycle : Core → List (List ℕ)
lines_in_cycle c =
    if draws_line c.devices then (if ends_frame c.devices.place then [] else lines_with c) else c.lines

abbrev pub frame_in_cycle : Core → Made → Made
frame_in_cycle c m = with_frame (draws_line c.devices && ends_frame c.devices.place) (concat (lines_with c)) m

abbrev pub pair_in_cycle : Core → Made → Made
pair_in_cycle c m =
    let d = device_cycle c.devices in
    with_pair (makes_pair c.devices) (left_sample d) (right_sample d) m

abbrev pub made_in_cycle : Core → Made → Made
made_in_cycle c m = pair_in_cycle c (frame_in_cycle c m)

-- a line is drawn where the next cycle draws one
abbrev pub board_drawn : Board → Board
board_drawn b = record b { core = record b.core { lines = lines_in_cycle b.core }; made = frame_in_cycle b.core b.made }

-- the core after a cycle
abbrev pub core_in_cycle : Core → Core
core_in_cycle c = record (core_cycled c) { lines = lines_in_cycle c }

-- a cycle, and so many of them
unfoldable pub board_cycle : Board → Board
board_cycle b = record b { core = core_in_cycle b.core; made = made_in_cycle b.core b.made }

unfoldable pub board_after : ℕ → Board → Board
board_after zero b = b
board_after (suc count) b = board_cycle (board_after count b)

-- What a board has made since the base is in step with its clock: the pairs, the whole frames, and the lines that are
-- drawn of the present one.
pub record IsInStep (b : Board) : Type 0 where
  pub place : IsPosition b.core.devices.place
  pub pairs : b.made.pairs + b.made.base.clock / 512 ≡ b.made.base.pairs + b.core.devices.clock / 512
  pub frames : b.core.devices.clock + cycles_early b.core.devices.place
      + (280896 * b.made.base.frames + b.made.base.cycles)
      ≡ 280896 * b.made.frame_count + cycles_in b.core.devices.place
      + (b.made.base.clock + early_at b.made.base.cycles)
  pub drawn : length b.core.lines ≡ lines_drawn b.core.devices.place

-- There is room for what so many cycles make: it is in step, and the cycles begin below the end of the room.
pub record HasRoom (cycles : ℕ) (b : Board) : Type 0 where
  pub step : IsInStep b
  pub end : b.core.devices.clock + cycles ≤ b.made.until + 511
  pub few : b.made.until ≤ 2 ^ 39

-- what all cycles do
pub record BoardPasses (cycles : ℕ) (b : Board) : Type 0 where
  pub memory : (board_after cycles b).core.memory ≡ b.core.memory
  pub serial : (board_after cycles b).core.serial ≡ b.core.serial
  pub ended : (board_after cycles b).ended ≡ b.ended
  pub devices : (board_after cycles b).core.devices ≡ after_cycles cycles b.core.devices
  pub clock : (board_after cycles b).core.devices.clock ≡ b.core.devices.clock + cycles
  pub until : (board_after cycles b).made.until ≡ b.made.until
  pub step : IsInStep b → IsInStep (board_after cycles b)

-- Cycles that make nothing only move the core.
abbrev pub QuietBoard : Type 0
QuietBoard =
    (cycles : ℕ) (b : Board) → makes_within cycles b.core.devices ≡ false
    → board_after cycles b ≡ record b { core = core_after cycles b.core }

-- Of cycles that draw no line, where samples aren't kept, only the pairs are counted.
abbrev pub pairs_within : ℕ → ℕ → ℕ
pairs_within cycles clock = (clock + cycles) / 512 - clock / 512

abbrev pub unheard : ℕ → Board → Board
unheard cycles b = record b {
  core = core_after cycles b.core;
  made = record b.made { pairs = b.made.pairs + pairs_within cycles b.core.devices.clock };
}

abbrev pub UnheardBoard : Type 0
UnheardBoard =
    (cycles : ℕ) (b : Board) → b.made.keeps_samples ≡ false → draws_within cycles b.core.devices ≡ false
    → board_after cycles b ≡ unheard cycles b

-- where the lists begin of what a board makes from here on
abbrev pub base_of : Board → Base
base_of b = record {
  clock = b.core.devices.clock;
  pairs = b.made.pairs;
  frames = b.made.frame_count;
  words = b.ended.count;
  cycles = cycles_in b.core.devices.place;
}

-- the board with its three lists emptied: the whole frames, the pairs and the transfers. All stay counted
abbrev pub board_emptied : Board → Board
board_emptied b = record b { made = made_emptied b.made; ended = ended_emptied b.ended }

-- the board whose lists begin at a later clock, with room up to another one: nothing was made yet
abbrev pub board_begun_at : ℕ → ℕ → Board → Board
board_begun_at clock until b = record b {
  made = made_from (begun_at clock b.made.base) until b.made;
  ended = ended_from (begun_at clock b.ended.base) until b.ended;
}

-- the board whose lists begin at this base, with room up to this clock
abbrev pub board_from : Base → ℕ → Board → Board
board_from base until b = record b { made = made_from base until b.made; ended = ended_from base until b.ended }

-- The board of these parts beside its memories: it has made so much, and its lists begin here, empty, with room up to a
-- clock. What it keeps of what it makes stays.
abbrev pub board_filled : BoardParts → List (List ℕ) → Board → Board
board_filled parts lines b = record {
  core = core_poured parts.devices parts.serial lines b.core;
  made = made_counted parts.counts.frames parts.counts.samples b.made;
  ended = ended_counted parts.counts.words b.ended;
}

abbrev pub board_poured : BoardParts → List (List ℕ) → ℕ → Board → Board
board_poured parts lines until b =
    let filled = board_filled parts lines b in
    board_from (base_of filled) until (board_emptied filled)
