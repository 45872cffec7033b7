use Rattle.std.proofs.Common.{◌≡◌, ℕ, ◌+◌, ◌<◌, ◌≤◌, Bool, true, false, List, if◌then◌else◌}
use Rattle.std.specs.Prelude.{IfSome, None, Option}
use Rattle.gba_arm_exec.proofs.Keeping.{kept-execution as kept-word_execution}
use Rattle.gba_arm_exec.proofs.Lengths.{execution_length as word_execution_length}
use Rattle.gba_devices.proofs.Keeping.{writes-keep}
use Rattle.gba_devices.proofs.Passing.{cycle-keeps}
use Rattle.gba_exec_transfers.proofs.Keeping.{kept-word}
use Rattle.gba_exec_transfers.specs.Keeping.{Passing}
use Rattle.gba_exec_transfers.proofs.Lengths.{word_length}
use Rattle.gba_io.proofs.Cycling.{passes}
use Rattle.gba_io.proofs.Ending.{writes-keep-ends}
use Rattle.gba_io.proofs.Keeping.{writes-keep-time}
use Rattle.gba_serial.proofs.Apart.{apart}
use Rattle.gba_serial.proofs.Seats.{stays}
use Rattle.gba_serial.proofs.Telling.{outgoing-bears, outgoing-fits, outgoing-silent}
use Rattle.gba_thumb_exec.proofs.Keeping.{kept-execution as kept-half_execution}
use Rattle.gba_thumb_exec.proofs.Lengths.{execution_length as half_execution_length}
use Rattle.link_node.specs.Due.{FitsWidths}
use Rattle.link_node.specs.declared.signal.Incoming.{Incoming}
use Rattle.link_node.specs.declared.signal.Signal.{Signal}
use Rattle.gba_serial.specs.Tell.{outgoing}
use Rattle.gba_io.specs.Bus.{core_load, core_price, core_store}
use Rattle.gba_io.specs.BusLaws.{core_code_prices, core_load_prices, core_store_prices}
use Rattle.gba_console.specs.Machine.{Machine, clock_of, is_off}
use Rattle.gba_console.specs.Passing.{ActsPass}
use Rattle.gba_console.specs.Run.{StepPasses}
use Rattle.gba_console.specs.Step.{done_in, execution_of_half, execution_of_word, node_next, told, told_on}
use Rattle.gba_console.specs.StepLaws.{KeepsTests, TakesSteps, acts-pass, steps-pass}

-- What the steps of every node keep, for the laws of the trait. They hold of every console, whatever its numbers are.

words : TakesSteps execution_of_word
words =
    word_execution_length core_price core_load core_store core_code_prices
    (word_length core_price core_load core_store core_code_prices core_load_prices core_store_prices)

halves : TakesSteps execution_of_half
halves =
    half_execution_length core_price core_load core_store core_code_prices core_load_prices
    (word_length core_price core_load core_store core_code_prices core_load_prices core_store_prices)

words-keep : KeepsTests execution_of_word
words-keep test loads stores =
    kept-word_execution core_price core_load core_store (Passing test)
    (kept-word core_price core_load core_store (Passing test) loads stores)

halves-keep : KeepsTests execution_of_half
halves-keep test loads stores =
    kept-half_execution core_price core_load core_store (Passing test) loads
    (kept-word core_price core_load core_store (Passing test) loads stores)

acts : ActsPass
acts =
    acts-pass (writes-keep-time writes-keep) (writes-keep-ends apart stays) words halves words-keep halves-keep

steps : (dues : List Incoming) (m : Machine) → StepPasses dues m
steps = steps-pass acts outgoing-silent (passes cycle-keeps)

pub node_rises : (m : Machine) (dues : List Incoming) → clock_of m < clock_of (node_next m dues).0
node_rises m dues = (steps dues m).raised

pub node_short : (m : Machine) (dues : List Incoming) → clock_of (node_next m dues).0 ≤ clock_of m + 512
node_short m dues = (steps dues m).short

pub node_moves : (m : Machine) (dues : List Incoming) → (node_next m dues).0.was ≡ clock_of m
node_moves m dues = (steps dues m).was

bears-by : (clock : ℕ) (off : Bool) (o : Option Signal) → IfSome o (λ s. s.clock ≡ clock)
    → IfSome (if off then None else o) (λ s. s.clock ≡ clock)
bears-by clock true o bears = tt
bears-by clock false o bears = bears

fits-by : (off : Bool) (o : Option Signal) → IfSome o FitsWidths → IfSome (if off then None else o) FitsWidths
fits-by true o fits = tt
fits-by false o fits = fits

pub node_bears : (m : Machine) (dues : List Incoming) → IfSome (node_next m dues).1 (λ s. s.clock ≡ clock_of m)
unfolding told told_on
node_bears m dues =
    bears-by (clock_of m) (is_off m) (outgoing (clock_of m) (done_in dues m).bus.serial)
    (outgoing-bears (clock_of m) (done_in dues m).bus.serial)

pub node_fits : (m : Machine) (dues : List Incoming) → IfSome (node_next m dues).1 FitsWidths
unfolding told told_on
node_fits m dues =
    fits-by (is_off m) (outgoing (clock_of m) (done_in dues m).bus.serial)
    (outgoing-fits (clock_of m) (done_in dues m).bus.serial)
