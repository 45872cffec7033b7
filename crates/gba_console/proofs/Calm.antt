-- Where nothing asks for more, a step is an instruction.
use Rattle.std.proofs.Common.{◌≡◌, ℕ, ◌<◌, ◌≤◌, Bool, true, false, List, [], refl, ◌∙◌, ap, sym, if◌then◌else◌, arith}
use Rattle.std.specs.Prelude.{not, ◌&&◌, ◌||◌, ◌==◌, Option, None, Some, option_map}
use Rattle.gba_terms.specs.Bits.{bit}
use Rattle.gba_psr.specs.RegisterFile.{status}
use Rattle.gba_dma.specs.Channel.{unit_of}
use Rattle.gba_dma.specs.Channels.{FourChannels, channel_at, is_moving, next_unit}
use Rattle.gba_dma.specs.declared.unit.Unit.{Unit as DmaUnit}
use Rattle.gba_irq.specs.Interrupts.{is_pending}
use Rattle.gba_devices.specs.Keeping.{CalmHasBegun}
use Rattle.gba_devices.specs.State.{Devices, asks_entry, begun, is_calm, is_idle}
use Rattle.gba_exec_transfers.specs.Done.{Done}
use Rattle.gba_io.specs.Board.{board_after}
use Rattle.gba_io.specs.declared.board.Board.{Board}
use Rattle.gba_io.specs.Cable.{after_transfer, board_ended}
use Rattle.gba_io.specs.Core.{Core, core_begun, core_is_idle, core_woken}
use Rattle.gba_io.specs.Ended.{with_transfer}
use Rattle.gba_serial.specs.Apart.{StaysQuiet, next_end}
use Rattle.gba_serial.specs.End.{ended}
use Rattle.gba_serial.specs.SerialUnit.{SerialUnit}
use Rattle.gba_serial.specs.Tell.{has_news, silent}
use Rattle.gba_serial.specs.declared.transfer.Transfer.{Transfer}
use Rattle.gba_console.specs.Keys.{after_keys, due_of}
use Rattle.gba_console.specs.declared.doing.What.{What}
use Rattle.gba_console.specs.declared.doing.What.TheVariants.{Idle, Irq}
use Rattle.gba_console.specs.Machine.{Machine, clock_of, left_of}
use Rattle.gba_console.specs.Step.{acted, acted_for, applied_in, awake_done, enters, entry_done, idle_done, heard, idles, instruction_done, next, stepped_on, what_acted, what_awake, what_for, what_instructed}
use Rattle.gba_console.specs.Waiting.{IsPlain}
use Rattle.gba_console.proofs.Keying.{count-early, keys-early}
use Rattle.gba_console.proofs.On.{stepped-is-on}

-- what calm devices don't ask for
record IsCalm (halt entry move : Bool) : Type 0 where
  halted : halt ≡ false
  none : entry ≡ false
  moving : move ≡ false

calm-parts : (halted entry moving same : Bool) → (not halted && not entry && not moving && same) ≡ true
    → IsCalm halted entry moving
calm-parts false false false same calm = record { halted = refl; none = refl; moving = refl }
calm-parts false false true same calm = cc
calm-parts false true moving same calm = cc
calm-parts true entry moving same calm = cc

-- no channel is active
abbrev lowest : Bool → Bool → Bool → Bool → Option ℕ
lowest one two three four =
    if one then Some 0 else if two then Some 1 else if three then Some 2 else if four then Some 3 else None

none-lowest : (one two three four : Bool) → (one || two || three || four) ≡ false → lowest one two three four ≡ None
none-lowest false false false false none = refl
none-lowest true two three four none = cc
none-lowest false true three four none = cc
none-lowest false false true four none = cc
none-lowest false false false true none = cc

no-unit : (cs : FourChannels) → is_moving cs ≡ false → next_unit cs ≡ None
no-unit cs none =
    ap (option_map (λ number. unit_of number (channel_at number cs)))
    (none-lowest cs.channel0.active cs.channel1.active cs.channel2.active cs.channel3.active none)

and-false : (test : Bool) → (test && false) ≡ false
and-false true = refl
and-false false = refl

if-false : {A : Type 0} (test : Bool) (one other : A) → test ≡ false → (if test then one else other) ≡ other
if-false true one other e = cc
if-false false one other e = refl

woken-same : (b : Core) → b.devices.halted ≡ false → core_woken b ≡ b
woken-same b up = ap (λ (h : Bool). record b { devices = record b.devices { halted = h } }) (sym up)

calm-acts : (file : List ℕ) (b : Core) → is_calm b.devices ≡ true → acted file b ≡ instruction_done file b
unfolding acted
calm-acts file b calm =
    let d = b.devices in
    let parts = calm-parts d.halted (asks_entry d) (is_moving d.channels) (d.waits == d.priced) calm in
    ap (λ (unit : Option DmaUnit). acted_for unit file b) (no-unit d.channels parts.moving)
    ∙ if-false (idles b) (idle_done file b) (awake_done file (core_woken b))
    (ap (λ (h : Bool). h && not (is_pending d.interrupts)) parts.halted)
    ∙ ap (awake_done file) (woken-same b parts.halted)
    ∙ if-false (enters file b) (entry_done file b) (instruction_done file b)
    (ap (λ (e : Bool). not (bit (status file) 7) && e) parts.none ∙ and-false (not (bit (status file) 7)))

calm-tells : (file : List ℕ) (b : Core) → is_calm b.devices ≡ true → what_acted file b ≡ what_instructed file b
unfolding what_acted
calm-tells file b calm =
    let d = b.devices in
    let parts = calm-parts d.halted (asks_entry d) (is_moving d.channels) (d.waits == d.priced) calm in
    ap (λ (unit : Option DmaUnit). what_for unit file b) (no-unit d.channels parts.moving)
    ∙ if-false (idles b) Idle (what_awake file (core_woken b))
    (ap (λ (h : Bool). h && not (is_pending d.interrupts)) parts.halted)
    ∙ ap (what_awake file) (woken-same b parts.halted)
    ∙ if-false (enters file b) Irq (what_instructed file b)
    (ap (λ (e : Bool). not (bit (status file) 7) && e) parts.none ∙ and-false (not (bit (status file) 7)))

-- what idle devices don't ask for
record IsIdle (halt pending move : Bool) : Type 0 where
  halted : halt ≡ true
  none : pending ≡ false
  moving : move ≡ false

idle-parts : (halted pending moving same : Bool) → (halted && not pending && not moving && same) ≡ true
    → IsIdle halted pending moving
idle-parts true false false same idle = record { halted = refl; none = refl; moving = refl }
idle-parts true false true same idle = cc
idle-parts true true moving same idle = cc
idle-parts false pending moving same idle = cc

if-true : {A : Type 0} (test : Bool) (one other : A) → test ≡ true → (if test then one else other) ≡ one
if-true true one other e = refl
if-true false one other e = cc

idles-by : (halted pending : Bool) → halted ≡ true → pending ≡ false → (halted && not pending) ≡ true
idles-by true false e f = refl
idles-by true true e f = cc
idles-by false pending e f = cc

idle-acts : (file : List ℕ) (b : Core) → is_idle b.devices ≡ true → acted file b ≡ idle_done file b
unfolding acted
idle-acts file b idle =
    let d = b.devices in
    let parts = idle-parts d.halted (is_pending d.interrupts) (is_moving d.channels) (d.waits == d.priced) idle in
    ap (λ (unit : Option DmaUnit). acted_for unit file b) (no-unit d.channels parts.moving)
    ∙ if-true (idles b) (idle_done file b) (awake_done file (core_woken b))
    (idles-by d.halted (is_pending d.interrupts) parts.halted parts.none)

idle-tells : (file : List ℕ) (b : Core) → is_idle b.devices ≡ true → what_acted file b ≡ Idle
unfolding what_acted
idle-tells file b idle =
    let d = b.devices in
    let parts = idle-parts d.halted (is_pending d.interrupts) (is_moving d.channels) (d.waits == d.priced) idle in
    ap (λ (unit : Option DmaUnit). what_for unit file b) (no-unit d.channels parts.moving)
    ∙ if-true (idles b) Idle (what_awake file (core_woken b))
    (idles-by d.halted (is_pending d.interrupts) parts.halted parts.none)

-- A step that begins where no transfer ends, and after a step that told nothing, hears nothing.
none-ends : StaysQuiet → (clock : ℕ) (b : Board) → clock < next_end b.core.serial → board_ended clock b ≡ b
none-ends quiet clock b before =
    let u = b.core.serial in
    ap (λ (one : Option Transfer). record b {
      core = record b.core { devices = after_transfer one b.core.devices; serial = ended clock u };
      ended = with_transfer one b.ended;
    }) (quiet.ending clock u before)
    ∙ ap (λ (v : SerialUnit). record b { core = record b.core { serial = v } }) (quiet.ended clock u before)

begun-same : (core : Core) → begun core.devices ≡ core.devices → silent core.serial ≡ core.serial
    → core_begun core ≡ core
begun-same core devices serial =
    ap (λ (d : Devices). record core { devices = d; serial = silent core.serial }) devices
    ∙ ap (λ (u : SerialUnit). record core { serial = u }) serial

heard-none : StaysQuiet → (m : Machine) → begun m.board.core.devices ≡ m.board.core.devices
    → has_news m.board.core.serial ≡ false → clock_of m < next_end m.board.core.serial → heard [] m ≡ m.board
heard-none quiet m devices told before =
    let b = m.board in
    ap (λ (core : Core). board_ended (clock_of m) (record b { core = core }))
    (begun-same b.core devices (quiet.silent b.core.serial told))
    ∙ none-ends quiet (clock_of m) b before

and-first : (one other : Bool) → (one && other) ≡ true → one ≡ true
and-first true other both = refl
and-first false other both = both

pub not-second : (one other : Bool) → (one && not other) ≡ true → other ≡ false
not-second true false both = refl
not-second true true both = sym both
not-second false other both = cc

-- what such a step leaves
none-applied : (m : Machine) → clock_of m < due_of (left_of m) → applied_in m ≡ m.applied
none-applied m early = let none = count-early (clock_of m) (left_of m) early in omega (arith, none)

step-is : (m : Machine) (what : What) (done : Done Core) → heard [] m ≡ m.board → clock_of m < due_of (left_of m)
    → what_acted m.registers m.board.core ≡ what → acted m.registers m.board.core ≡ done
    → stepped_on [] m ≡ record m {
      registers = done.registers;
      board = board_after done.cycles (record m.board { core = done.bus });
      was = clock_of m;
      last = what;
    }
unfolding stepped_on
step-is m what done here early tells acts =
    let count = applied_in m in
    let put = λ (b : Board) (told : What) (some : Done Core) (applied : ℕ).
    let after : Machine = record m {
      registers = some.registers;
      board = board_after some.cycles (record b { core = some.bus });
      applied = applied;
      was = clock_of m;
      last = told;
    } in after in
    let keyed = λ (b : Board). after_keys (clock_of m) (left_of m) b.core in
    ap (λ (b : Board). put b (what_acted m.registers (keyed b)) (acted m.registers (keyed b)) count) here
    ∙ ap (λ (core : Core). put m.board (what_acted m.registers core) (acted m.registers core) count)
    (keys-early (clock_of m) (left_of m) m.board.core early)
    ∙ ap (λ (told : What). put m.board told (acted m.registers m.board.core) count) tells
    ∙ ap (λ (some : Done Core). put m.board what some count) acts
    ∙ ap (put m.board what done) (none-applied m early)

-- where nothing asks for more than idling, a step is 16 cycles
pub idle-next : CalmHasBegun → StaysQuiet → (m : Machine) → core_is_idle m.board.core ≡ true → m.off ≤ clock_of m
    → clock_of m < due_of (left_of m) → clock_of m < next_end m.board.core.serial
    → next m ≡ record m { board = board_after 16 m.board; was = clock_of m; last = Idle }
idle-next begins quiet m idle on early before =
    let core = m.board.core in
    let devices = and-first (is_idle core.devices) (not (has_news core.serial)) idle in
    let told = not-second (is_idle core.devices) (has_news core.serial) idle in
    stepped-is-on [] m on
    ∙ step-is m Idle (idle_done m.registers core) (heard-none quiet m (begins.idle core.devices devices) told before)
    early (idle-tells m.registers core devices) (idle-acts m.registers core devices)

pub plain-next : CalmHasBegun → StaysQuiet → (m : Machine) → IsPlain m
    → next m ≡ record m {
      registers = (instruction_done m.registers m.board.core).registers;
      board =
          board_after (instruction_done m.registers m.board.core).cycles
          (record m.board { core = (instruction_done m.registers m.board.core).bus });
      was = clock_of m;
      last = what_instructed m.registers m.board.core;
    }
plain-next begins quiet m plain =
    let core = m.board.core in
    let devices = and-first (is_calm core.devices) (not (has_news core.serial)) plain.calm in
    let told = not-second (is_calm core.devices) (has_news core.serial) plain.calm in
    stepped-is-on [] m plain.on
    ∙ step-is m (what_instructed m.registers core) (instruction_done m.registers core)
    (heard-none quiet m (begins.calm core.devices devices) told plain.ends)
    plain.keys (calm-tells m.registers core devices) (calm-acts m.registers core devices)

-- what an instruction leaves, put together
pub put-together : (done : Done Core) (file : List ℕ) (mid : Core) (after : Board) (cycles was clock : ℕ)
    (what told : What) (m : Machine) → file ≡ done.registers → mid ≡ done.bus → cycles ≡ done.cycles
    → after ≡ board_after cycles (record m.board { core = mid }) → was ≡ clock → what ≡ told
    → (record m { registers = file; board = after; was = was; last = what }) ≡ (record m {
      registers = done.registers;
      board = board_after done.cycles (record m.board { core = done.bus });
      was = clock;
      last = told;
    })
put-together done file mid after cycles was clock what told m one two three four five six =
    rw (four, one, two, three, five, six) refl
