use Rattle.std.specs.Prelude.{ℕ, ◌+◌, ◌%◌, ◌^◌, Bool, not, ◌&&◌, List, [], ◌∷◌, Option, None, Some, if◌then◌else◌}
use Rattle.gba_terms.specs.Bits.{bit}
use Rattle.gba_bus.specs.declared.width.Width.{Width}
use Rattle.gba_bus.specs.declared.width.Width.TheVariants.{Half, Word}
use Rattle.gba_psr.specs.Entry.{after_entry}
use Rattle.gba_psr.specs.RegisterFile.{status, register}
use Rattle.gba_psr.specs.declared.exceptions.Exception.TheVariants.{Interrupt}
use Rattle.gba_irq.specs.Interrupts.{is_pending}
use Rattle.gba_exec_registers.specs.Access.{code_cost, jump_cost}
use Rattle.gba_exec_registers.specs.declared.site.Site.{Site}
use Rattle.gba_exec_transfers.specs.Done.{Done}
use Rattle.gba_arm_exec.specs.Execution as arm
use Rattle.gba_thumb_exec.specs.Execution as thumb
use Rattle.gba_dma.specs.Channels.{next_unit}
use Rattle.gba_dma.specs.declared.unit.Unit.{Unit as DmaUnit}
use Rattle.gba_devices.specs.State.{asks_entry}
use Rattle.gba_io.specs.Board.{board_after}
use Rattle.gba_io.specs.Cable.{board_ended, board_taken}
use Rattle.gba_io.specs.declared.board.Board.{Board}
use Rattle.gba_io.specs.Core.{Core, core_begun, core_learned, core_rested, core_woken}
use Rattle.gba_io.specs.Bus.{core_load, core_price, core_read, core_store}
use Rattle.gba_io.specs.Units.{core_after_unit, unit_cycles}
use Rattle.gba_serial.specs.Tell.{outgoing}
use Rattle.link_node.specs.declared.signal.Incoming.{Incoming}
use Rattle.link_node.specs.declared.signal.Signal.{Signal}
use Rattle.gba_console.specs.Keys.{after_keys, due_count}
use Rattle.gba_console.specs.Machine.{Machine, clock_of, is_off, left_of}
use Rattle.gba_console.specs.declared.doing.What.{What}
use Rattle.gba_console.specs.declared.doing.What.TheVariants.{Dma, Idle, Irq, Off, Arm, Thumb}

-- what the instruction at r15 is read as: a word, or a halfword
abbrev pub instruction : Width → List ℕ → Core → ℕ
instruction width file b = core_read b (register file 15) (register file 15) width

-- a word by the ARM table over the board, and a halfword by the Thumb table
abbrev pub execution_of_word : ℕ → List ℕ → Core → Done Core
execution_of_word word file b = arm.execution core_price core_load core_store word file b

abbrev pub execution_of_half : ℕ → List ℕ → Core → Done Core
execution_of_half half file b = thumb.execution core_price core_load core_store half file b

-- the word at r15, and the halfword there
abbrev pub word_done : List ℕ → Core → Done Core
word_done file b = execution_of_word (instruction Word file b) file b

abbrev pub half_done : List ℕ → Core → Done Core
half_done file b = execution_of_half (instruction Half file b) file b

-- Thumb state: T, bit 5 of CPSR
abbrev pub in_thumb : List ℕ → Bool
in_thumb file = bit (status file) 5

-- one instruction, which is a halfword in Thumb state, and else a word
unfoldable pub instruction_done : List ℕ → Core → Done Core
instruction_done file b = if in_thumb file then half_done file b else word_done file b

-- A halted console idles for 16 cycles at a time until an enabled interrupt is requested, whatever IME and I say (that
-- it is 16 cycles is this project's profile).
abbrev pub idles : Core → Bool
idles b = b.devices.halted && not (is_pending b.devices.interrupts)

abbrev pub idle_done : List ℕ → Core → Done Core
idle_done file b = record { registers = file; bus = b; cycles = 16 }

-- An interrupt is entered where it asks for it and I, bit 7 of CPSR, is 0 (ARM Architecture Reference Manual, A2.6.8;
-- GBATEK, GBA Interrupt Control). The entry is linked to the next instruction plus 4, and costs a jump at that
-- instruction's address.
abbrev pub enters : List ℕ → Core → Bool
enters file b = not (bit (status file) 7) && asks_entry b.devices

abbrev pub next_site : List ℕ → Site
next_site file = record { address = register file 15; thumb = in_thumb file }

abbrev pub entry_done : List ℕ → Core → Done Core
entry_done file b = record {
  registers = after_entry Interrupt ((register file 15 + 4) % 2 ^ 32) file;
  bus = b;
  cycles = jump_cost (code_cost core_price b (next_site file));
}

-- what a console does that isn't halted: it enters an interrupt or executes an instruction
abbrev pub awake_done : List ℕ → Core → Done Core
awake_done file b = if enters file b then entry_done file b else instruction_done file b

-- a DMA unit, to which the processor yields
abbrev pub unit_done : DmaUnit → List ℕ → Core → Done Core
unit_done unit file b = record { registers = file; bus = core_after_unit unit b; cycles = unit_cycles unit b }

-- what it does where no DMA channel is active: it idles, or the halt has ended
abbrev pub undisturbed_done : List ℕ → Core → Done Core
undisturbed_done file b = if idles b then idle_done file b else awake_done file (core_woken b)

-- What a step does before its devices move, with its keys applied: a unit of the lowest active DMA channel, which
-- neither idles nor wakes, and else what the processor does.
abbrev pub acted_for : Option DmaUnit → List ℕ → Core → Done Core
acted_for (Some unit) file b = unit_done unit file b
acted_for None file b = undisturbed_done file b

unfoldable pub acted : List ℕ → Core → Done Core
acted file b = acted_for (next_unit b.devices.channels) file b

-- What that is, in the words of a list of steps: the instruction is told as it was read.
abbrev pub what_instructed : List ℕ → Core → What
what_instructed file b =
    if in_thumb file then Thumb (register file 15) (instruction Half file b)
    else Arm (register file 15) (instruction Word file b)

abbrev pub what_awake : List ℕ → Core → What
what_awake file b = if enters file b then Irq else what_instructed file b

abbrev pub what_undisturbed : List ℕ → Core → What
what_undisturbed file b = if idles b then Idle else what_awake file (core_woken b)

abbrev pub what_for : Option DmaUnit → List ℕ → Core → What
what_for (Some unit) file b = Dma unit.channel
what_for None file b = what_undisturbed file b

unfoldable pub what_acted : List ℕ → Core → What
what_acted file b = what_for (next_unit b.devices.channels) file b

-- the board once the signals that are due are taken, one after another
abbrev pub all_taken : List Incoming → Board → Board
all_taken [] b = b
all_taken (due ∷ dues) b = all_taken dues (board_taken due b)

-- The board at the start of a step: its prices are those of WAITCNT as it is then, and what the last step told is told.
-- The due signals are taken, and then a transfer ends whose end is at most the clock.
abbrev pub board_begun : Board → Board
board_begun b = record b { core = core_begun b.core }

abbrev pub heard : List Incoming → Machine → Board
heard dues m = board_ended (clock_of m) (all_taken dues (board_begun m.board))

-- its core once the keys that are due changed
abbrev pub prepared : List Incoming → Machine → Core
prepared dues m = after_keys (clock_of m) (left_of m) (heard dues m).core

abbrev pub done_in : List Incoming → Machine → Done Core
done_in dues m = acted m.registers (prepared dues m)

abbrev pub what_in : List Incoming → Machine → What
what_in dues m = what_acted m.registers (prepared dues m)

-- how many of its key changes are applied once those are that are due
abbrev pub applied_in : Machine → ℕ
applied_in m = m.applied + due_count (clock_of m) (left_of m)

-- a console after what a step did: the devices move by its cycles, and make what they make
abbrev pub moved : Board → Machine → What → Done Core → Machine
moved b m what done = record m {
  registers = done.registers;
  board = board_after done.cycles (record b { core = done.bus });
  applied = applied_in m;
  was = clock_of m;
  last = what;
}

-- A step of a console that is on, which takes these signals, and what it tells: that is known before the devices move.
unfoldable pub stepped_on : List Incoming → Machine → Machine
stepped_on dues m = moved (heard dues m) m (what_in dues m) (done_in dues m)

unfoldable pub told_on : List Incoming → Machine → Option Signal
told_on dues m = outgoing (clock_of m) (done_in dues m).bus.serial

-- the core of a console that is off once it has learned what it can of the signals that are due, one after another, and
-- the keys that are due changed
abbrev pub all_learned : List Incoming → Core → Core
all_learned [] b = b
all_learned (due ∷ dues) b = all_learned dues (core_learned due b)

abbrev pub prepared_off : List Incoming → Machine → Core
prepared_off dues m = after_keys (clock_of m) (left_of m) (all_learned dues (core_begun m.board.core))

-- A step of a console that is off: the modes of due peers are known and the keys that are due change, and then 16
-- cycles pass in which no device moves.
unfoldable pub stepped_off : List Incoming → Machine → Machine
stepped_off dues m = record m {
  board = record m.board { core = core_rested 16 (prepared_off dues m) };
  applied = applied_in m;
  was = clock_of m;
  last = Off;
}

-- A step of either, and what it tells: a console that is off tells nothing.
unfoldable pub stepped : List Incoming → Machine → Machine
stepped dues m = if is_off m then stepped_off dues m else stepped_on dues m

unfoldable pub told : List Incoming → Machine → Option Signal
told dues m = if is_off m then None else told_on dues m

-- a step with nothing due
abbrev pub next : Machine → Machine
next m = stepped [] m

-- a step as the cable sees it
abbrev pub node_next : Machine → List Incoming → Machine × Option Signal
node_next m dues = (stepped dues m, told dues m)
