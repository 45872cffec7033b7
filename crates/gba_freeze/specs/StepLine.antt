use Rattle.std.specs.Prelude.{ℕ, zero, suc, ◌+◌, List, [], ◌++◌, codes, decimal}
use Rattle.gba_terms.specs.Hexadecimal.{hex}
use Rattle.gba_psr.specs.RegisterFile.{register, status}
use Rattle.gba_console.specs.Machine.{Machine, player_of}
use Rattle.gba_console.specs.declared.doing.What.{What}
use Rattle.gba_console.specs.declared.doing.What.TheVariants.{Nothing, Dma, Idle, Irq, Off, Arm, Thumb}
use Rattle.gba_dis.specs.declared.units.Set.TheVariants as set
use Rattle.gba_dis.specs.Lone.{lone_text}

-- The line of a console's last step, as a trace has it (this project's profile).

-- a blank and a word, as eight digits, or a halfword, as four
unfoldable pub word_text : ℕ → List ℕ
word_text word = codes " " ++ hex 8 word

unfoldable pub half_text : ℕ → List ℕ
half_text half = codes " " ++ hex 4 half

-- what it did
abbrev pub what_text : What → List ℕ
what_text Nothing = codes "nothing"
what_text (Dma channel) = codes "dma " ++ decimal channel
what_text Idle = codes "idle"
what_text Irq = codes "irq"
what_text Off = codes "off"
what_text (Arm address word) = codes "arm" ++ word_text address ++ word_text word
what_text (Thumb address half) = codes "thumb" ++ word_text address ++ half_text half

-- so many registers of the present mode from this one on, and all sixteen with the CPSR, each as eight digits
unfoldable pub registers_from : ℕ → ℕ → List ℕ → List ℕ
registers_from zero number file = []
registers_from (suc more) number file = word_text (register file number) ++ registers_from more (number + 1) file

abbrev pub registers_text : List ℕ → List ℕ
registers_text file = registers_from 16 0 file ++ word_text (status file)

-- the statement of the instruction, where it executed one
abbrev pub statement_text : What → List ℕ
statement_text (Arm address word) = codes " ; " ++ lone_text set.Arm address word
statement_text (Thumb address half) = codes " ; " ++ lone_text set.Thumb address half
statement_text _ = []

-- its player, and the clock at which the step began
unfoldable pub head_text : ℕ → ℕ → List ℕ
head_text player clock = decimal player ++ codes " " ++ decimal clock ++ codes " "

-- what it did, the registers after it, and the statement
unfoldable pub body_text : What → List ℕ → List ℕ
body_text what file = what_text what ++ registers_text file ++ statement_text what

unfoldable pub step_line : Machine → List ℕ
step_line m = head_text (player_of m) m.was ++ body_text m.last m.registers ++ codes "\n"
