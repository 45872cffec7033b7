-- A console that is being filled.
use Rattle.std.specs.Prelude.{ℕ, List}
use Rattle.gba_numbers.specs.Numbers.{ConsoleNumbers}
use Rattle.gba_filling.specs.Drawn.{DrawnLines}

-- its numbers, the bytes of its memories in the order of a frozen file, and the drawn lines of the present frame
pub record LooseConsole : Type 0 where
  pub numbers : ConsoleNumbers
  pub memories : List (List ℕ)
  pub drawn : DrawnLines

-- with other numbers
abbrev pub with_numbers : ConsoleNumbers → LooseConsole → LooseConsole
with_numbers n loose = record loose { numbers = n }
