use Rattle.std.specs.Prelude.{◌≡◌, List}
use Rattle.link_node.specs.declared.signal.Incoming.{Incoming}
use Rattle.gba_io.specs.Board.{board_emptied}
use Rattle.gba_io.specs.declared.board.Board.{Board}
use Rattle.gba_console.specs.Machine.{Machine, board_without_limit}
use Rattle.gba_console.specs.declared.doing.What.TheVariants.{Nothing}
use Rattle.gba_console.specs.Step.{board_begun, stepped}

-- A console but for what no step looks at (this project's profile).

-- What a step resets before it looks at anything is reset: the prices of the accesses, and what the last step told.
abbrev pub rested : Machine → Machine
rested m = record m { board = board_begun m.board }

-- and the three lists are empty, where they begin is as at reset, the end of their room is 0, and what the last step
-- did isn't told
abbrev pub shorn_board : Board → Board
shorn_board b = board_without_limit (board_emptied b)

abbrev pub shorn : Machine → Machine
shorn m = rested (record m { board = shorn_board m.board; last = Nothing })

-- the same, but what its last step did is told
abbrev pub seen : Machine → Machine
seen m = record (shorn m) { last = m.last }

-- Consoles that differ in nothing at which a step looks tell the same of their next one.
abbrev pub TellsAlike : Type 0
TellsAlike =
    (dues : List Incoming) (m n : Machine) → shorn m ≡ shorn n → seen (stepped dues m) ≡ seen (stepped dues n)
