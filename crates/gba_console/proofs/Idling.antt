-- What an idle step leaves, whatever its cycles make.
use Rattle.std.proofs.Common.{ℕ, zero, suc, [], ◌≡◌, ◌+◌, ◌-◌, ◌*◌, ◌<◌, ◌≤◌, Bool, true, refl, ap, sym, subst, ◌∙◌, arith}
use Rattle.std.specs.Prelude.{not, ◌&&◌, Option, None}
use Rattle.gba_devices.specs.State.{is_idle}
use Rattle.gba_io.proofs.Cycling.{board-sum}
use Rattle.gba_serial.specs.SerialUnit.{SerialUnit}
use Rattle.gba_serial.specs.Tell.{has_news}
use Rattle.link_node.specs.Alone.{Stays}
use Rattle.link_node.specs.declared.signal.Signal.{Signal}
use Rattle.gba_console.specs.Run.{GoesAlone, StepPasses}
use Rattle.gba_console.proofs.Rows.{one-more, serial-silent}
use Rattle.gba_devices.specs.Keeping.{CalmHasBegun}
use Rattle.gba_io.specs.Board.{BoardPasses, HasRoom, board_after}
use Rattle.gba_io.specs.Core.{core_is_idle}
use Rattle.gba_io.specs.declared.board.Board.{Board}
use Rattle.gba_serial.specs.Apart.{StaysQuiet, next_end}
use Rattle.gba_console.specs.Idling.{CanIdle, KeepsIdling}
use Rattle.gba_console.specs.Keys.{due_of}
use Rattle.gba_console.specs.Machine.{Machine, clock_of, left_of}
use Rattle.gba_console.specs.Step.{next}
use Rattle.gba_console.specs.StepLaws.{same-ends}
use Rattle.gba_console.specs.Waiting.{IsSound}
use Rattle.gba_console.proofs.Calm.{idle-next}
use Rattle.gba_console.proofs.Passing.{has-room, sound-ready, step-sound, step-was}
use Rattle.gba_console.specs.declared.doing.What.TheVariants.{Idle}

module _ (passes : (cycles : ℕ) (b : Board) → BoardPasses cycles b) where
  pub idle-is : CalmHasBegun → StaysQuiet → (m : Machine) (after : Board) → CanIdle (clock_of m + 1) m
      → after ≡ board_after 16 m.board
      → (record m { board = after; was = after.core.devices.clock - 16; last = Idle }) ≡ next m
  idle-is begun quiet m after can e =
      ap (λ (b : Board). record m { board = b; was = b.core.devices.clock - 16; last = Idle }) e
      ∙ ap (λ (was : ℕ). record m { board = board_after 16 m.board; was = was; last = Idle })
      (step-was (clock_of m) 16 m.board (board_after 16 m.board) refl (passes 16 m.board) refl)
      ∙ sym (idle-next begun quiet m can.idle can.on (omega (arith, can.keys)) (omega (arith, can.ends)))

  pub idle-sound : (was : ℕ) (b after : Board) → IsSound was b → was ≤ b.core.devices.clock
      → b.core.devices.clock < b.made.until → after ≡ board_after 16 b → IsSound (after.core.devices.clock - 16) after
  idle-sound was b after sound later early e =
      step-sound b.core.devices.clock 16 b after b.core (sound-ready was b sound later early) refl (same-ends b.core)
      (omega arith) e (passes 16 b)

  pub idle-clock : (b after : Board) → after ≡ board_after 16 b → after.core.devices.clock ≡ b.core.devices.clock + 16
  idle-clock b after e = ap (λ (b : Board). b.core.devices.clock) e ∙ (passes 16 b).clock

pub idle-room : (was : ℕ) (b : Board) → IsSound was b → b.core.devices.clock < b.made.until → HasRoom 16 b
idle-room was b sound early =
    has-room b 16 b.core.devices.clock refl (omega arith) sound.step early sound.few

-- what idle steps need, they leave where nothing asks for more after them
pub can-still : (stop : ℕ) (m after : Machine) → CanIdle stop m → KeepsIdling m after → clock_of m ≤ clock_of after
    → core_is_idle after.board.core ≡ true → CanIdle stop after
can-still stop m after can keeps later idle = record {
  until = omega (arith, can.until, keeps.until);
  idle = idle;
  on = omega (arith, can.on, keeps.off, later);
  keys = subst (λ (n : ℕ). stop ≤ n) (ap due_of (sym keeps.keys)) can.keys;
  ends = subst (λ (n : ℕ). stop ≤ n) (ap next_end (sym keeps.serial)) can.ends;
}

-- what two rows of idle steps keep, both keep together
pub kept-twice : {m between after : Machine} → KeepsIdling m between → KeepsIdling between after → KeepsIdling m after
kept-twice first second = record {
  until = second.until ∙ first.until;
  off = second.off ∙ first.off;
  keys = second.keys ∙ first.keys;
  serial = second.serial ∙ first.serial;
}

-- and below their stop one of them can be made
pub can-once : (stop : ℕ) (m : Machine) → CanIdle stop m → clock_of m < stop → CanIdle (clock_of m + 1) m
can-once stop m can early = record {
  until = omega (arith, can.until, early);
  idle = can.idle;
  on = can.on;
  keys = omega (arith, can.keys, early);
  ends = omega (arith, can.ends, early);
}

-- So many idle steps, one after another, in whose cycles nothing happens.
pub machine_at : Machine → ℕ → Machine
machine_at m zero = m
machine_at m (suc steps) =
    let after = board_after (16 * suc steps) m.board in
    record m { board = after; was = after.core.devices.clock - 16; last = Idle }

module _ (passes : (cycles : ℕ) (b : Board) → BoardPasses cycles b) (begun : CalmHasBegun) (quiet : StaysQuiet)
    (steps_pass : (m : Machine) → StepPasses [] m) (m : Machine) (stop : ℕ) (can : CanIdle stop m) where
  -- after some of them, its board
  board-at : (steps : ℕ) → (machine_at m steps).board ≡ board_after (16 * steps) m.board
  unfolding machine_at board_after
  board-at zero = refl
  board-at (suc steps) = refl

  keys-at : (steps : ℕ) → left_of (machine_at m steps) ≡ left_of m
  unfolding machine_at
  keys-at zero = refl
  keys-at (suc steps) = refl

  off-at : (steps : ℕ) → (machine_at m steps).off ≡ m.off
  unfolding machine_at
  off-at zero = refl
  off-at (suc steps) = refl

  serial-at : (steps : ℕ) → (machine_at m steps).board.core.serial ≡ m.board.core.serial
  serial-at steps = ap (λ (b : Board). b.core.serial) (board-at steps) ∙ (passes (16 * steps) m.board).serial

  clock-at : (steps : ℕ) → clock_of (machine_at m steps) ≡ clock_of m + 16 * steps
  clock-at steps = ap (λ (b : Board). b.core.devices.clock) (board-at steps) ∙ (passes (16 * steps) m.board).clock

  until-at : (steps : ℕ) → (machine_at m steps).board.made.until ≡ m.board.made.until
  until-at steps = ap (λ (b : Board). b.made.until) (board-at steps) ∙ (passes (16 * steps) m.board).until

  keeps-at : (steps : ℕ) → KeepsIdling m (machine_at m steps)
  keeps-at steps = record {
    until = until-at steps;
    off = off-at steps;
    keys = keys-at steps;
    serial = serial-at steps;
  }

  still-idle : (steps : ℕ) → is_idle (board_after (16 * steps) m.board).core.devices ≡ is_idle m.board.core.devices
      → core_is_idle (machine_at m steps).board.core ≡ true
  still-idle steps same =
      ap (λ (u : SerialUnit). is_idle (machine_at m steps).board.core.devices && not (has_news u)) (serial-at steps)
      ∙ ap (λ (test : Bool). test && not (has_news m.board.core.serial))
      (ap (λ (b : Board). is_idle b.core.devices) (board-at steps) ∙ same)
      ∙ can.idle

  next-board : (steps : ℕ) → board_after (16 * suc steps) m.board ≡ board_after 16 (machine_at m steps).board
  next-board steps =
      ap (λ (n : ℕ). board_after n m.board) (omega arith) ∙ sym (board-sum 16 (16 * steps) m.board)
      ∙ ap (board_after 16) (sym (board-at steps))

  next-at : (steps : ℕ) → (record (machine_at m steps) {
    board = board_after (16 * suc steps) m.board;
    was = (board_after (16 * suc steps) m.board).core.devices.clock - 16;
    last = Idle;
  }) ≡ machine_at m (suc steps)
  unfolding machine_at
  next-at zero = refl
  next-at (suc steps) = refl

  one-at : (steps : ℕ) → is_idle (board_after (16 * steps) m.board).core.devices ≡ is_idle m.board.core.devices
      → clock_of m + 16 * steps < stop → machine_at m (suc steps) ≡ next (machine_at m steps)
  one-at steps same below =
      sym (next-at steps)
      ∙ idle-is passes begun quiet (machine_at m steps) (board_after (16 * suc steps) m.board)
      (can-once stop (machine_at m steps)
      (can-still stop m (machine_at m steps) can (keeps-at steps) (omega (arith, clock-at steps))
      (still-idle steps same))
      (omega (arith, below, clock-at steps)))
      (next-board steps)

  pub idle-row : (count : ℕ)
      → ((steps : ℕ) → steps ≤ count
      → is_idle (board_after (16 * steps) m.board).core.devices ≡ is_idle m.board.core.devices)
      → clock_of m + 16 * count < stop + 16 → GoesAlone stop m (machine_at m count) None
  unfolding machine_at
  idle-row zero same below = Stays
  idle-row (suc steps) same below =
      let first = machine_at m steps in
      let then = machine_at m (suc steps) in
      let here = same steps (omega arith) in
      let early : clock_of m + 16 * steps < stop = omega (arith, below) in
      subst (λ (o : Option Signal). GoesAlone stop m then o)
      (serial-silent quiet first then (still-idle steps here) (serial-at (suc steps) ∙ sym (serial-at steps)))
      (one-more steps_pass stop m first then
      (idle-row steps (λ some few. same some (omega (arith, few))) (omega (arith, below)))
      (omega (arith, early, clock-at steps)) (one-at steps here early))

  was-at : (steps : ℕ) → m.was ≤ clock_of m → (machine_at m steps).was ≤ clock_of (machine_at m steps)
  unfolding machine_at
  was-at zero later = later
  was-at (suc steps) later = omega arith

  sound-at : (count : ℕ) → IsSound m.was m.board → m.was ≤ clock_of m → clock_of m + 16 * count < stop + 16
      → IsSound (machine_at m count).was (machine_at m count).board
  unfolding machine_at
  sound-at zero sound later below = sound
  sound-at (suc steps) sound later below =
      let at = machine_at m steps in
      let here = sound-at steps sound later (omega (arith, below)) in
      idle-sound passes at.was at.board (board_after (16 * suc steps) m.board) here (was-at steps later)
      (omega (arith, clock-at steps, until-at steps, below, can.until)) (next-board steps)

  -- what a console is that has made them
  pub made-at : (count : ℕ) → 0 < count → (after : Board) → after ≡ board_after (16 * count) m.board
      → (record m { board = after; was = after.core.devices.clock - 16; last = Idle }) ≡ machine_at m count
  unfolding machine_at
  made-at zero some after e = absurd (omega (arith, some))
  made-at (suc steps) some after e =
      ap (λ (b : Board). record m { board = b; was = b.core.devices.clock - 16; last = Idle }) e

  pub many-sound : (count : ℕ) → 0 < count → (after : Board) → after ≡ board_after (16 * count) m.board
      → IsSound m.was m.board → m.was ≤ clock_of m → clock_of m + 16 * count < stop + 16
      → IsSound (after.core.devices.clock - 16) after
  many-sound count some after e sound later below =
      let P : Machine → Type 0 = λ some. IsSound some.was some.board in
      subst P (sym (made-at count some after e)) (sound-at count sound later below)

  pub many-alone : (count : ℕ) → 0 < count → (after : Board) → after ≡ board_after (16 * count) m.board
      → ((steps : ℕ) → steps ≤ count
      → is_idle (board_after (16 * steps) m.board).core.devices ≡ is_idle m.board.core.devices)
      → clock_of m + 16 * count < stop + 16
      → GoesAlone stop m (record m { board = after; was = after.core.devices.clock - 16; last = Idle }) None
  many-alone count some after e same below =
      let none : Option Signal = None in
      subst (λ (z : Machine). GoesAlone stop m z none) (sym (made-at count some after e)) (idle-row count same below)

  pub many-idle : (count : ℕ) → (after : Board) → after ≡ board_after (16 * count) m.board
      → ((steps : ℕ) → steps ≤ count
      → is_idle (board_after (16 * steps) m.board).core.devices ≡ is_idle m.board.core.devices)
      → core_is_idle after.core ≡ true
  many-idle count after e same =
      ap (λ (b : Board). core_is_idle b.core) (e ∙ sym (board-at count)) ∙ still-idle count (same count (omega arith))

-- none leave a board as it is
pub board-none : (steps : ℕ) (b after : Board) → steps ≡ 0 → after ≡ board_after (16 * steps) b → after ≡ b
unfolding board_after
board-none steps b after none e = e ∙ ap (λ (n : ℕ). board_after (16 * n) b) none
