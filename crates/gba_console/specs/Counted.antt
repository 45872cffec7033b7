use Rattle.std.specs.Prelude.{ℕ, ◌≡◌, ◌*◌, true, List, Option, length}
use Rattle.std.specs.List.{concat}
use Rattle.gba_image.specs.declared.backup.Backup.{Backup}
use Rattle.gba_io.specs.Drawing.{lines_drawn}
use Rattle.gba_io.specs.Ended.{Ended}
use Rattle.gba_io.specs.Made.{Made}
use Rattle.gba_io.specs.declared.made.Room.{Room}
use Rattle.gba_ppu_reg.specs.Position.{IsPosition}
use Rattle.gba_ppu_reg.specs.declared.position.Position.{Position}
use Rattle.link_node.specs.declared.signal.Incoming.{Incoming}
use Rattle.gba_console.specs.Machine.{Machine, reset}
use Rattle.gba_console.specs.Step.{stepped}
use Rattle.gba_console.specs.declared.keys.KeyState.{KeyState}

-- What a console keeps is what it counts (this project's profile): where whole frames are kept, 76,800 bytes for each
-- that it counts; where pairs of samples are, 4 for each; where transfers are, each of them. Of the present frame it
-- has the lines that are drawn, which have 480 bytes each.
pub record CountsMade (lines : List (List ℕ)) (place : Position) (m : Made) : Type 0 where
  pub sound : IsPosition place
  pub drawn : length lines ≡ lines_drawn place
  pub bytes : length (concat lines) ≡ 480 * lines_drawn place
  pub frames : m.keeps_frames ≡ true → length m.frames ≡ 76800 * m.frame_count
  pub samples : m.keeps_samples ≡ true → length m.samples ≡ 4 * m.pairs

abbrev pub CountsEnded : Ended → Type 0
CountsEnded e = e.keeps_words ≡ true → length e.words ≡ e.count

pub record Counts (m : Machine) : Type 0 where
  pub made : CountsMade m.board.core.lines m.board.core.devices.place m.board.made
  pub ended : CountsEnded m.board.ended

-- A console keeps the same kinds of what it makes as another one.
pub record KeepsKinds (before after : Machine) : Type 0 where
  pub frames : after.board.made.keeps_frames ≡ before.board.made.keeps_frames
  pub samples : after.board.made.keeps_samples ≡ before.board.made.keeps_samples
  pub words : after.board.ended.keeps_words ≡ before.board.ended.keeps_words

-- So it is at reset, and so it stays in each step.
pub record CountsAlways : Type 0 where
  pub begins : (player count round off : ℕ) (bios : List ℕ) (cart save : Option (List ℕ)) (backup : Backup)
      (keys : List KeyState) (room : Room) → Counts (reset player count round off bios cart save backup keys room)
  pub steps : (dues : List Incoming) (m : Machine) → Counts m → Counts (stepped dues m)
  pub kinds : (dues : List Incoming) (m : Machine) → KeepsKinds m (stepped dues m)
