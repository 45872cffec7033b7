-- What a step does to the serial unit: it hears what is due, is written some times, and tells.
use Rattle.std.proofs.Common.{ℕ, ◌≡◌, ◌<◌, ◌≤◌, ◌-◌, ◌+◌, ◌*◌, ◌%◌, ◌^◌, Bool, true, false, List, [], ◌∷◌, Option, None, Some, refl, ap, sym, subst, ◌∙◌, arith, if◌then◌else◌}
use Rattle.std.specs.Prelude.{◌==◌}
use Rattle.gba_terms.specs.Bits.{field}
use Rattle.gba_bus.specs.Regions.{is_io, region_of}
use Rattle.gba_bus.specs.declared.width.Width.{Width}
use Rattle.gba_bus.specs.declared.width.Width.TheVariants.{Byte, Half, Word}
use Rattle.gba_register.specs.Accesses.{merged}
use Rattle.gba_devices.proofs.Keeping.{writes-keep}
use Rattle.gba_dma.specs.Channels.{next_unit}
use Rattle.gba_dma.specs.declared.unit.Unit.{Unit as DmaUnit}
use Rattle.gba_exec_transfers.specs.Done.{Done}
use Rattle.gba_exec_transfers.specs.Keeping.{LoadsKeep, StoresKeep}
use Rattle.gba_exec_transfers.proofs.Keeping.{kept-word}
use Rattle.gba_arm_exec.proofs.Keeping.{kept-execution as kept-word_execution}
use Rattle.gba_thumb_exec.proofs.Keeping.{kept-execution as kept-half_execution}
use Rattle.gba_io.specs.Board.{BoardPasses}
use Rattle.gba_io.specs.Bus.{core_load, core_price, core_store, core_written, io_offset, register_written}
use Rattle.gba_io.specs.Core.{Core, core_woken}
use Rattle.gba_io.specs.SerialRegisters.{is_serial, serial_put, serial_written_at}
use Rattle.gba_io.specs.Units.{core_after_unit, unit_written, unit_value}
use Rattle.gba_io.specs.declared.board.Board.{Board}
use Rattle.gba_io.proofs.Keeping.{unit-keeps-clock, writes-keep-time}
use Rattle.gba_serial.specs.SerialUnit.{SerialUnit}
use Rattle.gba_serial.specs.Registers.{serial_kept}
use Rattle.gba_serial.specs.Tell.{silent}
use Rattle.gba_serial.specs.End.{ended}
use Rattle.gba_serial.specs.Write.{written}
use Rattle.gba_serial.specs.Steps.{HalfwordWrite, all_written, fed, hear}
use Rattle.link_node.specs.declared.signal.Incoming.{Incoming}
use Rattle.gba_agreement.specs.UnitView.{HasUnit, Rests, Touches}
use Rattle.gba_console.specs.Alone.{console_kind}
use Rattle.gba_console.specs.Linked.{console_view}
use Rattle.gba_console.specs.Machine.{Machine, clock_of, left_of}
use Rattle.gba_console.specs.Run.{StepPasses}
use Rattle.gba_console.specs.Step.{acted, acted_for, all_taken, awake_done, board_begun, done_in, enters, entry_done, half_done, heard, idle_done, idles, in_thumb, instruction_done, prepared, stepped, stepped_off, stepped_on, told_on, word_done}
use Rattle.gba_console.specs.StepLaws.{keys-serial, known_after, off-serial, prepared-clock}
use Rattle.gba_console.proofs.On.{off-by, on-by, stepped-is-off, stepped-is-on, still-on, told-is-off, told-is-on}

-- a core with this clock, whose serial unit is u after some writes at that clock
record IsWritten (clock : ℕ) (u : SerialUnit) (c : Core) : Type 0 where
  clock_is : c.devices.clock ≡ clock
  writes : List HalfwordWrite
  serial_is : c.serial ≡ all_written clock writes u

either : (P : Core → Type 0) (test : Bool) (one other : Core) → P one → P other → P (if test then one else other)
either P true one other here there = here
either P false one other here there = there

-- a unit after some writes at a clock
record ComesOfWrites (clock : ℕ) (u v : SerialUnit) : Type 0 where
  writes : List HalfwordWrite
  is : v ≡ all_written clock writes u

either-writes : (clock : ℕ) (u : SerialUnit) (test : Bool) (one other : SerialUnit) → ComesOfWrites clock u one
    → ComesOfWrites clock u other → ComesOfWrites clock u (if test then one else other)
either-writes clock u true one other here there = here
either-writes clock u false one other here there = there

put-writes : (clock offset value lanes : ℕ) (u v : SerialUnit) → ComesOfWrites clock u v
    → ComesOfWrites clock u (serial_put clock offset value lanes v)
unfolding serial_put
put-writes clock offset value lanes u v before =
    let bits = merged (serial_kept offset v) value lanes in
    record {
      writes = record { offset = offset; value = bits } ∷ before.writes;
      is = ap (written clock offset bits) before.is;
    }

-- an access is one write, or two
stored-writes : (clock offset : ℕ) (width : Width) (value : ℕ) (u v : SerialUnit) → ComesOfWrites clock u v
    → ComesOfWrites clock u (serial_written_at clock offset width value v)
stored-writes clock offset Byte value u v before =
    either-writes clock u (offset % 2 == 0) _ _ (put-writes clock offset (field value 0 8) 0x00ff u v before)
    (put-writes clock (offset - 1) (2 ^ 8 * field value 0 8) 0xff00 u v before)
stored-writes clock offset Half value u v before =
    put-writes clock (offset - offset % 2) (field value 0 16) 0xffff u v before
stored-writes clock offset Word value u v before =
    put-writes clock (offset - offset % 4 + 2) (field value 16 16) 0xffff u
    (serial_put clock (offset - offset % 4) (field value 0 16) 0xffff v)
    (put-writes clock (offset - offset % 4) (field value 0 16) 0xffff u v before)

module _ (clock : ℕ) (u : SerialUnit) where
  -- what a core's unit comes of
  abbrev Comes : Core → Type 0
  Comes c = ComesOfWrites clock u c.serial

  register-comes : (offset : ℕ) (width : Width) (value : ℕ) (c : Core) → c.devices.clock ≡ clock → Comes c
      → Comes (register_written offset width value c)
  unfolding register_written
  register-comes offset width value c now before =
      either Comes (is_serial offset) _ _
      (subst (λ n. ComesOfWrites clock u (serial_written_at n offset width value c.serial)) (sym now)
      (stored-writes clock offset width value u c.serial before))
      before

  written-comes : (c : Core) (address : ℕ) (width : Width) (value : ℕ) → c.devices.clock ≡ clock → Comes c
      → Comes (core_written c address width value)
  unfolding core_written
  written-comes c address width value now before =
      either Comes (is_io (region_of address)) _ _ (register-comes (io_offset address) width value c now before) before

  after-write : (c : Core) (address : ℕ) (width : Width) (value : ℕ) → IsWritten clock u c
      → IsWritten clock u (core_written c address width value)
  after-write c address width value is =
      let comes = written-comes c address width value is.clock_is (record { writes = is.writes; is = is.serial_is }) in
      record {
        clock_is = (writes-keep-time writes-keep c address width value).clock ∙ is.clock_is;
        writes = comes.writes;
        serial_is = comes.is;
      }

  stores : StoresKeep core_store (IsWritten clock u)
  stores c address width value sequential is = after-write c address width value is

  loads : LoadsKeep core_load (IsWritten clock u)
  loads c from address width sequential is = is

  -- what a step does
  after-unit : (unit : DmaUnit) (c : Core) → IsWritten clock u c → IsWritten clock u (core_after_unit unit c)
  unfolding core_after_unit
  after-unit unit c is =
      let stored = after-write c unit.target unit.width (unit_value unit c) is in
      record {
        clock_is = unit-keeps-clock unit.channel (unit_written unit c).devices ∙ stored.clock_is;
        writes = stored.writes;
        serial_is = stored.serial_is;
      }

  after-word : (file : List ℕ) (c : Core) → IsWritten clock u c → IsWritten clock u (word_done file c).bus
  after-word file c is =
      kept-word_execution core_price core_load core_store (IsWritten clock u)
      (kept-word core_price core_load core_store (IsWritten clock u) loads stores) _ file c is

  after-half : (file : List ℕ) (c : Core) → IsWritten clock u c → IsWritten clock u (half_done file c).bus
  after-half file c is =
      kept-half_execution core_price core_load core_store (IsWritten clock u) loads
      (kept-word core_price core_load core_store (IsWritten clock u) loads stores) _ file c is

  either-done : (test : Bool) (one other : Done Core) → IsWritten clock u one.bus → IsWritten clock u other.bus
      → IsWritten clock u (if test then one else other).bus
  either-done true one other here there = here
  either-done false one other here there = there

  after-instruction : (file : List ℕ) (c : Core) → IsWritten clock u c → IsWritten clock u (instruction_done file c).bus
  unfolding instruction_done
  after-instruction file c is =
      either-done (in_thumb file) (half_done file c) (word_done file c) (after-half file c is) (after-word file c is)

  after-waking : (file : List ℕ) (c : Core) → IsWritten clock u c → IsWritten clock u (awake_done file c).bus
  after-waking file c is =
      either-done (enters file c) (entry_done file c) (instruction_done file c) is (after-instruction file c is)

  woken-is : (c : Core) → IsWritten clock u c → IsWritten clock u (core_woken c)
  woken-is c is = record { clock_is = is.clock_is; writes = is.writes; serial_is = is.serial_is }

  after-acting : (unit : Option DmaUnit) (file : List ℕ) (c : Core) → IsWritten clock u c
      → IsWritten clock u (acted_for unit file c).bus
  after-acting (Some unit) file c is = after-unit unit c is
  after-acting None file c is =
      either-done (idles c) (idle_done file c) (awake_done file (core_woken c)) is
      (after-waking file (core_woken c) (woken-is c is))

  after-acted : (file : List ℕ) (c : Core) → IsWritten clock u c → IsWritten clock u (acted file c).bus
  unfolding acted
  after-acted file c is = after-acting (next_unit c.devices.channels) file c is

-- before it, the unit hears what is due
pub taken-serial : (dues : List Incoming) (b : Board) → (all_taken dues b).core.serial ≡ fed dues b.core.serial
taken-serial [] b = refl
taken-serial (due ∷ dues) b = taken-serial dues _

heard-serial : (dues : List Incoming) (m : Machine)
    → (heard dues m).core.serial ≡ hear (clock_of m) dues (silent m.board.core.serial)
heard-serial dues m = ap (ended (clock_of m)) (taken-serial dues (board_begun m.board))

prepared-is : (dues : List Incoming) (m : Machine)
    → IsWritten (clock_of m) (hear (clock_of m) dues (silent m.board.core.serial)) (prepared dues m)
prepared-is dues m = record {
  clock_is = prepared-clock dues m;
  writes = [];
  serial_is = keys-serial (clock_of m) (left_of m) (heard dues m).core ∙ heard-serial dues m;
}

module _ (cycles : (count : ℕ) (b : Board) → BoardPasses count b)
    (steps : (dues : List Incoming) (m : Machine) → StepPasses dues m) where
  touches : (m : Machine) (dues : List Incoming) → m.off ≤ clock_of m → Touches console_kind console_view m dues
  unfolding stepped_on told_on
  touches m dues on =
      let u = hear (clock_of m) dues (silent m.board.core.serial) in
      let done = done_in dues m in
      let is : IsWritten (clock_of m) u done.bus
      = after-acted (clock_of m) u m.registers (prepared dues m) (prepared-is dues m) in
      let moved = cycles done.cycles (record (heard dues m) { core = done.bus }) in
      let step = steps dues m in
      record {
        writes = is.writes;
        after = done.bus.serial;
        after_is = is.serial_is;
        unit_is =
            ap (λ (n : Machine). silent n.board.core.serial) (stepped-is-on dues m on) ∙ ap silent moved.serial;
        told_is = told-is-on dues m on;
        stays =
            still-on (stepped dues m).off (clock_of (stepped dues m)) (omega (arith, on, step.raised, step.off));
      }

  resting : (m : Machine) (dues : List Incoming) → clock_of m < m.off → Rests console_kind console_view m dues
  unfolding stepped_off
  resting m dues off = record {
    known = known_after dues (silent m.board.core.serial);
    unit_is =
        ap (λ (n : Machine). silent n.board.core.serial) (stepped-is-off dues m off) ∙ ap silent (off-serial dues m);
    told_is = told-is-off dues m off;
  }

  pub has-unit : HasUnit console_kind console_view
  has-unit = record {
    quiet = λ m. refl;
    touches = λ m dues on. touches m dues (on-by m.off (clock_of m) on);
    rests = λ m dues off. resting m dues (off-by m.off (clock_of m) off);
  }
