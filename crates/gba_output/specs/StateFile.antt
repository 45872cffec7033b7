-- What is written of a console.
use Rattle.std.specs.Prelude.{ℕ, List, ◌++◌, codes, decimal}
use Rattle.gba_console.specs.Machine.{Machine, clock_of}
use Rattle.gba_mem.specs.Backups.{backup_bytes}
pub use Rattle.gba_snapshot.specs.Console.{state_file}

-- its save: the bytes of the SRAM or of the flash
abbrev pub save_file : Machine → List ℕ
save_file m = backup_bytes m.board.core.memory.backup

-- its samples: the pairs that it kept
abbrev pub samples_file : Machine → List ℕ
samples_file m = m.board.made.samples

-- the line of a console in the summary: its number, its clock, and how much it made, whether it kept it or not
unfoldable pub summary_line : Machine → List ℕ
summary_line m =
    codes "console " ++ decimal m.board.core.serial.player ++ codes " clock " ++ decimal (clock_of m)
    ++ codes " frames "
    ++ decimal m.board.made.frame_count ++ codes " samples " ++ decimal m.board.made.pairs ++ codes " words "
    ++ decimal m.board.ended.count ++ codes "\n"
