-- What is poured into a console keeps what always holds of it.
use Rattle.std.proofs.Common.{◌≡◌, ℕ, ◌≤◌, ◌^◌, ◌∙◌, Bool, List, refl, ap}
use Rattle.gba_devices.specs.State.{Devices}
use Rattle.gba_io.specs.Core.{Core, core_poured}
use Rattle.gba_io.specs.declared.board.Board.{Board}
use Rattle.gba_io.specs.declared.pouring.BoardParts.{BoardParts}
use Rattle.gba_ppu_reg.specs.Position.{IsPosition}
use Rattle.gba_serial.specs.SerialUnit.{SerialUnit}
use Rattle.gba_console.specs.Machine.{Machine}
use Rattle.gba_console.specs.Pouring.{CanPour, IsSameFrame, PoursAgain, board_poured_at, machine_poured, parts_of}
use Rattle.gba_console.specs.Shorn.{shorn}
use Rattle.gba_console.specs.Waiting.{IsKept, IsResting}
use Rattle.gba_console.specs.declared.keys.KeyState.{KeyState}
use Rattle.gba_mem.specs.Memories.{Memories}
use Rattle.gba_console.proofs.Images.{HasImages}
use Rattle.gba_console.proofs.Resting.{wakes-sound}

poured-rests : (off was until : ℕ) (parts : BoardParts) (lines : List (List ℕ)) (b : Board)
    → CanPour was until parts lines → IsPosition parts.devices.place → 1 ≤ parts.serial.count
    → IsResting off (board_poured_at off parts lines until b)
poured-rests off was until parts lines b can place seat = record {
  begins = refl;
  ends = refl;
  place = place;
  drawn = can.drawn;
  frames = refl;
  samples = refl;
  words = refl;
  few = can.words;
  seat = seat;
}

pub poured-kept : (off was until : ℕ) (parts : BoardParts) (lines : List (List ℕ)) (b : Board) → off ≤ 2 ^ 39
    → CanPour was until parts lines → IsPosition parts.devices.place → 1 ≤ parts.serial.count
    → IsKept off was (board_poured_at off parts lines until b)
poured-kept off was until parts lines b most can place seat =
    let after = board_poured_at off parts lines until b in
    let rest = poured-rests off was until parts lines b can place seat in
    record {
      most = most;
      on = λ on. wakes-sound off was after rest can.short on can.room can.few refl;
      rests = λ _. rest;
      short = can.short;
      clock = can.room;
      few = can.few;
      same = refl;
    }

-- its core, wherever its lists begin
pub poured-core : (off until : ℕ) (parts : BoardParts) (lines : List (List ℕ)) (b after : Board)
    → after ≡ board_poured_at off parts lines until b → after.core ≡ core_poured parts.devices parts.serial lines b.core
poured-core off until parts lines b after e = ap (λ (b : Board). b.core) e

pub poured-images : (devices : Devices) (serial : SerialUnit) (lines : List (List ℕ)) (b after : Core)
    → after ≡ core_poured devices serial lines b → HasImages b.memory.bios b.memory.rom after.memory
poured-images devices serial lines b after e = record {
  bios = ap (λ (c : Core). c.memory.bios) e;
  rom = ap (λ (c : Core). c.memory.rom) e;
}

-- What is poured makes a console again, but for what no step looks at: by the memories, the key changes, the clock to
-- be off below and what is kept of another one.
framed : Memories → List KeyState → ℕ → Bool → Bool → Bool → Machine → Machine
framed memory keys off frames samples words m = record m {
  keys = keys;
  off = off;
  board = record m.board {
    core = record m.board.core { memory = memory };
    made = record m.board.made { keeps_frames = frames; keeps_samples = samples };
    ended = record m.board.ended { keeps_words = words };
  };
}

again-by : (until : ℕ) (start m : Machine)
    → shorn (machine_poured (parts_of m) m.board.core.lines until start)
    ≡ shorn (framed start.board.core.memory start.keys start.off start.board.made.keeps_frames
    start.board.made.keeps_samples start.board.ended.keeps_words m)
unfolding framed
again-by until start m = refl

framed-same : (start m : Machine) → IsSameFrame start m
    → framed start.board.core.memory start.keys start.off start.board.made.keeps_frames start.board.made.keeps_samples
    start.board.ended.keeps_words m ≡ m
unfolding framed
framed-same start m same =
    let made = start.board.made in
    let words = start.board.ended.keeps_words in
    ap (λ (x : Memories). framed x start.keys start.off made.keeps_frames made.keeps_samples words m) same.memory
    ∙ ap (λ (x : List KeyState). framed m.board.core.memory x start.off made.keeps_frames made.keeps_samples words m)
    same.keys
    ∙ ap (λ (x : ℕ). framed m.board.core.memory m.keys x made.keeps_frames made.keeps_samples words m) same.off
    ∙ ap (λ (x : Bool). framed m.board.core.memory m.keys m.off x made.keeps_samples words m) same.frames
    ∙ ap (λ (x : Bool). framed m.board.core.memory m.keys m.off m.board.made.keeps_frames x words m) same.samples
    ∙ ap
    (λ (x : Bool). framed m.board.core.memory m.keys m.off m.board.made.keeps_frames m.board.made.keeps_samples x m)
    same.words

pub poured-again : PoursAgain
poured-again until start m same = again-by until start m ∙ ap shorn (framed-same start m same)
