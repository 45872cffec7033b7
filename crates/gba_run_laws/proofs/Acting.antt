-- What a step does before its devices move keeps of a core what writes, the end of a halt and the ends of
-- DMA units keep.
use Rattle.std.proofs.Common.{ℕ, ◌<◌, Bool, true, false, List, arith, if◌then◌else◌}
use Rattle.std.specs.Prelude.{IfSome, Option, None, Some, option_map}
use Rattle.gba_bus.specs.declared.width.Width.{Width}
use Rattle.gba_exec_transfers.specs.Done.{Done}
use Rattle.gba_exec_transfers.specs.Keeping.{LoadsKeep, StoresKeep}
use Rattle.gba_exec_transfers.proofs.Keeping.{kept-word}
use Rattle.gba_arm_exec.proofs.Keeping.{kept-execution as kept-word_execution}
use Rattle.gba_thumb_exec.proofs.Keeping.{kept-execution as kept-half_execution}
use Rattle.gba_dma.specs.Channel.{unit_of}
use Rattle.gba_dma.specs.Channels.{FourChannels, channel_at, next_unit}
use Rattle.gba_dma.specs.declared.unit.Unit.{Unit as DmaUnit}
use Rattle.gba_io.specs.Bus.{core_load, core_price, core_store, core_written}
use Rattle.gba_io.specs.Core.{Core, core_woken}
use Rattle.gba_io.specs.Units.{core_after_unit, unit_ended, unit_written, unit_value}
use Rattle.gba_console.specs.Step.{acted, acted_for, awake_done, enters, entry_done, half_done, idle_done, idles, in_thumb, instruction_done, word_done}

-- the unit that is done next is of one of the four channels
next-few : (cs : FourChannels) → IfSome (next_unit cs) (λ unit. unit.channel < 4)
next-few cs = by_active cs.channel0.active cs.channel1.active cs.channel2.active cs.channel3.active
  where
    number : (first one two three : Bool) → Option ℕ
    number first one two three =
        if first then Some 0 else if one then Some 1 else if two then Some 2 else if three then Some 3 else None

    by_active : (first one two three : Bool)
        → IfSome (option_map (λ k. unit_of k (channel_at k cs)) (number first one two three)) (λ unit. unit.channel < 4)
    by_active true one two three = omega arith
    by_active false true two three = omega arith
    by_active false false true three = omega arith
    by_active false false false true = omega arith
    by_active false false false false = _

module _ (Keeps : Core → Type 0)
    (written : (b : Core) (address : ℕ) (width : Width) (value : ℕ) → Keeps b
    → Keeps (core_written b address width value))
    (woken : (b : Core) → Keeps b → Keeps (core_woken b))
    (ended : (channel : ℕ) (b : Core) → channel < 4 → Keeps b → Keeps (unit_ended channel b)) where
  stores : StoresKeep core_store Keeps
  stores b address width value sequential keeps = written b address width value keeps

  loads : LoadsKeep core_load Keeps
  loads b from address width sequential keeps = keeps

  after-word : (file : List ℕ) (b : Core) → Keeps b → Keeps (word_done file b).bus
  after-word file b keeps =
      kept-word_execution core_price core_load core_store Keeps
      (kept-word core_price core_load core_store Keeps loads stores) _ file b keeps

  after-half : (file : List ℕ) (b : Core) → Keeps b → Keeps (half_done file b).bus
  after-half file b keeps =
      kept-half_execution core_price core_load core_store Keeps loads
      (kept-word core_price core_load core_store Keeps loads stores) _ file b keeps

  either : (test : Bool) (one other : Done Core) → Keeps one.bus → Keeps other.bus
      → Keeps (if test then one else other).bus
  either true one other here there = here
  either false one other here there = there

  after-instruction : (file : List ℕ) (b : Core) → Keeps b → Keeps (instruction_done file b).bus
  unfolding instruction_done
  after-instruction file b keeps =
      either (in_thumb file) (half_done file b) (word_done file b) (after-half file b keeps) (after-word file b keeps)

  after-waking : (file : List ℕ) (b : Core) → Keeps b → Keeps (awake_done file b).bus
  after-waking file b keeps =
      either (enters file b) (entry_done file b) (instruction_done file b) keeps (after-instruction file b keeps)

  after-unit : (unit : DmaUnit) (b : Core) → unit.channel < 4 → Keeps b → Keeps (core_after_unit unit b)
  unfolding core_after_unit
  after-unit unit b few keeps =
      ended unit.channel (unit_written unit b) few (written b unit.target unit.width (unit_value unit b) keeps)

  after-acting : (unit : Option DmaUnit) (file : List ℕ) (b : Core) → IfSome unit (λ one. one.channel < 4) → Keeps b
      → Keeps (acted_for unit file b).bus
  after-acting (Some unit) file b few keeps = after-unit unit b few keeps
  after-acting None file b few keeps =
      either (idles b) (idle_done file b) (awake_done file (core_woken b)) keeps
      (after-waking file (core_woken b) (woken b keeps))

  pub acted-keeps : (file : List ℕ) (b : Core) → Keeps b → Keeps (acted file b).bus
  unfolding acted
  acted-keeps file b keeps = after-acting (next_unit b.devices.channels) file b (next-few b.devices.channels) keeps
