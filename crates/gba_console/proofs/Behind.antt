-- No step looks at the lists that a console keeps, nor at where they begin.
use Rattle.std.proofs.Common.{◌≡◌, ℕ, zero, suc, Bool, true, false, List, [], ◌∷◌, ◌++◌, Option, None, Some, refl, sym, ◌∙◌, ap, append_assoc, if◌then◌else◌}
use Rattle.std.proofs.Common.{append-nil}
use Rattle.std.specs.Prelude.{◌&&◌}
use Rattle.std.specs.List.{concat}
use Rattle.gba_devices.specs.Cycles.{device_cycle, draws_line, makes_pair}
use Rattle.gba_devices.specs.Samples.{left_sample, right_sample}
use Rattle.gba_exec_transfers.specs.Done.{Done}
use Rattle.gba_io.specs.Board.{board_after, board_cycle, board_emptied, lines_with, made_in_cycle}
use Rattle.gba_io.specs.Cable.{board_ended, board_taken, core_heard}
use Rattle.gba_io.specs.Core.{Core, core_woken}
use Rattle.gba_io.specs.Drawing.{ends_frame}
use Rattle.gba_io.specs.Ended.{Ended, ended_emptied, with_transfer}
use Rattle.gba_io.specs.Made.{Made, made_emptied, sample_bytes}
use Rattle.gba_io.specs.declared.board.Board.{Board}
use Rattle.gba_serial.specs.End.{ending}
use Rattle.gba_serial.specs.Tell.{outgoing}
use Rattle.gba_serial.specs.declared.transfer.Transfer.{Transfer}
use Rattle.link_mapped.specs.Mapped.{IsUnseen}
use Rattle.link_node.specs.declared.signal.Incoming.{Incoming}
use Rattle.link_node.specs.declared.signal.Signal.{Signal}
use Rattle.gba_console.specs.Alone.{console_kind}
use Rattle.gba_console.specs.Keys.{after_keys}
use Rattle.gba_console.specs.Machine.{Machine, clock_of, forgotten, is_off, left_of}
use Rattle.gba_console.specs.Segments.{behind, behind_if, board_behind, ended_behind, last_behind, made_behind}
use Rattle.gba_console.specs.Step.{acted, all_taken, board_begun, done_in, heard, idles, in_thumb, instruction, enters, moved, prepared, stepped, stepped_off, stepped_on, told, told_on, what_acted, what_awake, what_for, what_in, what_instructed}
use Rattle.gba_console.proofs.On.{both}
use Rattle.gba_console.specs.declared.doing.What.{What}
use Rattle.gba_console.specs.declared.doing.What.TheVariants.{Idle, Irq, Arm, Thumb}
use Rattle.gba_psr.specs.RegisterFile.{register}
use Rattle.gba_bus.specs.declared.width.Width.TheVariants.{Half, Word}
use Rattle.gba_dma.specs.Channels.{next_unit}
use Rattle.gba_dma.specs.declared.unit.Unit.{Unit as DmaUnit}

-- what is added goes to the end, or nothing does
in-front : {X : Type 0} (test : Bool) (first old more : List X)
    → (if test then (first ++ old) ++ more else first ++ old) ≡ first ++ (if test then old ++ more else old)
in-front true first old more = append_assoc first old more
in-front false first old more = refl

two-in-front : (test : Bool) (first old one other : List ℕ)
    → (if test then first ++ old ++ one ++ other else first ++ old)
    ≡ first ++ (if test then old ++ one ++ other else old)
two-in-front true first old one other =
    ap (λ (bytes : List ℕ). bytes ++ other) (append_assoc first old one) ∙ append_assoc first (old ++ one) other
two-in-front false first old one other = refl

-- a cycle
made-in-front : (c : Core) (first m : Made)
    → made_in_cycle c (made_behind first m) ≡ made_behind first (made_in_cycle c m)
made-in-front c first m =
    let made = made_in_cycle c m in
    let sounds = device_cycle c.devices in
    let kept = (draws_line c.devices && ends_frame c.devices.place) && m.keeps_frames in
    let sampled = makes_pair c.devices && m.keeps_samples in
    let left = sample_bytes (left_sample sounds) in
    let right = sample_bytes (right_sample sounds) in
    ap (λ (frames : List ℕ). record made {
      frames = frames;
      samples = if sampled then first.samples ++ m.samples ++ left ++ right else first.samples ++ m.samples;
    }) (in-front kept first.frames m.frames (concat (lines_with c)))
    ∙ ap (λ (samples : List ℕ). record made { frames = first.frames ++ made.frames; samples = samples })
    (two-in-front sampled first.samples m.samples left right)

cycle-in-front : (first b : Board) → board_cycle (board_behind first b) ≡ board_behind first (board_cycle b)
unfolding board_cycle
cycle-in-front first b =
    ap (λ (made : Made). record (board_behind first (board_cycle b)) { made = made })
    (made-in-front b.core first.made b.made)

after-in-front : (count : ℕ) (first b : Board)
    → board_after count (board_behind first b) ≡ board_behind first (board_after count b)
unfolding board_after
after-in-front zero first b = refl
after-in-front (suc count) first b =
    ap board_cycle (after-in-front count first b) ∙ cycle-in-front first (board_after count b)

-- transfers
transfer-in-front : (transfer : Option Transfer) (first e : Ended)
    → with_transfer transfer (ended_behind first e) ≡ ended_behind first (with_transfer transfer e)
transfer-in-front None first e = refl
transfer-in-front (Some transfer) first e =
    ap (λ (words : List Transfer). record (with_transfer (Some transfer) e) { words = words })
    (in-front e.keeps_words first.words e.words (transfer ∷ []))

ended-in-front : (clock : ℕ) (first b : Board)
    → board_ended clock (board_behind first b) ≡ board_behind first (board_ended clock b)
ended-in-front clock first b =
    ap (λ (e : Ended). record (board_behind first (board_ended clock b)) { ended = e })
    (transfer-in-front (ending clock b.core.serial) first.ended b.ended)

heard_one : Incoming → Board → Board
heard_one due b = record b { core = core_heard due b.core }

one-in-front : (due : Incoming) (first b : Board)
    → board_taken due (board_behind first b) ≡ board_behind first (board_taken due b)
unfolding heard_one
one-in-front due first b = ap (heard_one due) (ended-in-front due.arrival first b)

taken-in-front : (dues : List Incoming) (first b : Board)
    → all_taken dues (board_behind first b) ≡ board_behind first (all_taken dues b)
taken-in-front [] first b = refl
taken-in-front (due ∷ dues) first b =
    ap (all_taken dues) (one-in-front due first b) ∙ taken-in-front dues first (board_taken due b)

-- a step
heard-in-front : (dues : List Incoming) (first m : Machine)
    → heard dues (behind first m) ≡ board_behind first.board (heard dues m)
heard-in-front dues first m =
    ap (board_ended (clock_of m)) (taken-in-front dues first.board (board_begun m.board))
    ∙ ended-in-front (clock_of m) first.board (all_taken dues (board_begun m.board))

done-in-front : (dues : List Incoming) (first m : Machine) → done_in dues (behind first m) ≡ done_in dues m
done-in-front dues first m =
    ap (λ (b : Board). acted m.registers (after_keys (clock_of m) (left_of m) b.core)) (heard-in-front dues first m)

what-in-front : (dues : List Incoming) (first m : Machine) → what_in dues (behind first m) ≡ what_in dues m
what-in-front dues first m =
    ap (λ (b : Board). what_acted m.registers (after_keys (clock_of m) (left_of m) b.core))
    (heard-in-front dues first m)

-- a step tells what it did, whatever was told before it
one-told : (first : What) (test : Bool) (one other : What) → last_behind first one ≡ one
    → last_behind first other ≡ other → last_behind first (if test then one else other) ≡ (if test then one else other)
one-told first true one other here there = here
one-told first false one other here there = there

instructed-told : (first : What) (file : List ℕ) (b : Core)
    → last_behind first (what_instructed file b) ≡ what_instructed file b
instructed-told first file b =
    one-told first (in_thumb file) (Thumb (register file 15) (instruction Half file b))
    (Arm (register file 15) (instruction Word file b)) refl refl

awake-told : (first : What) (file : List ℕ) (b : Core) → last_behind first (what_awake file b) ≡ what_awake file b
awake-told first file b =
    one-told first (enters file b) Irq (what_instructed file b) refl (instructed-told first file b)

for-told : (first : What) (unit : Option DmaUnit) (file : List ℕ) (b : Core)
    → last_behind first (what_for unit file b) ≡ what_for unit file b
for-told first (Some unit) file b = refl
for-told first None file b =
    one-told first (idles b) Idle (what_awake file (core_woken b)) refl (awake-told first file (core_woken b))

pub acted-told : (first : What) (file : List ℕ) (b : Core) → last_behind first (what_acted file b) ≡ what_acted file b
unfolding what_acted
acted-told first file b = for-told first (next_unit b.devices.channels) file b

on-in-front : (dues : List Incoming) (first m : Machine)
    → stepped_on dues (behind first m) ≡ behind first (stepped_on dues m)
unfolding stepped_on
on-in-front dues first m =
    let changed = behind first m in
    let done = done_in dues m in
    let what = what_in dues m in
    let front = board_behind first.board (heard dues m) in
    ap (λ (b : Board). moved b changed (what_in dues changed) (done_in dues changed)) (heard-in-front dues first m)
    ∙ ap (λ (told : What). moved front changed told (done_in dues changed)) (what-in-front dues first m)
    ∙ ap (moved front changed what) (done-in-front dues first m)
    ∙ ap (λ (b : Board). record (moved (heard dues m) m what done) { board = b })
    (after-in-front done.cycles first.board (record (heard dues m) { core = done.bus }))
    ∙ ap (λ (told : What). record (behind first (moved (heard dues m) m what done)) { last = told })
    (sym (acted-told first.last m.registers (prepared dues m)))

off-in-front : (dues : List Incoming) (first m : Machine)
    → stepped_off dues (behind first m) ≡ behind first (stepped_off dues m)
unfolding stepped_off
off-in-front dues first m = refl

told-on-in-front : (dues : List Incoming) (first m : Machine) → told_on dues (behind first m) ≡ told_on dues m
unfolding told_on
told-on-in-front dues first m =
    ap (λ (done : Done Core). outgoing (clock_of m) done.bus.serial) (done-in-front dues first m)

pub stepped-in-front : (dues : List Incoming) (first m : Machine)
    → stepped dues (behind first m) ≡ behind first (stepped dues m)
unfolding stepped
stepped-in-front dues first m =
    let changed = behind first m in
    both (behind first) (is_off m) (stepped_off dues m) (stepped_on dues m) (stepped_off dues changed)
    (stepped_on dues changed) (off-in-front dues first m) (on-in-front dues first m)

pub told-in-front : (dues : List Incoming) (first m : Machine) → told dues (behind first m) ≡ told dues m
unfolding told
told-in-front dues first m =
    both (λ (o : Option Signal). o) (is_off m) None (told_on dues m) None (told_on dues (behind first m)) refl
    (told-on-in-front dues first m)

-- where there is something in front
stepped-if : (dues : List Incoming) (first : Option Machine) (m : Machine)
    → stepped dues (behind_if first m) ≡ behind_if first (stepped dues m)
stepped-if dues None m = refl
stepped-if dues (Some first) m = stepped-in-front dues first m

told-if : (dues : List Incoming) (first : Option Machine) (m : Machine) → told dues (behind_if first m) ≡ told dues m
told-if dues None m = refl
told-if dues (Some first) m = told-in-front dues first m

clock-if : (first : Option Machine) (m : Machine) → clock_of (behind_if first m) ≡ clock_of m
clock-if None m = refl
clock-if (Some first) m = refl

was-if : (first : Option Machine) (m : Machine) → (behind_if first m).was ≡ m.was
was-if None m = refl
was-if (Some first) m = refl

pub behind-unseen : (firsts : ℕ → Option Machine) → IsUnseen console_kind (λ i. behind_if (firsts i)) (λ i m. m)
behind-unseen firsts = record {
  clocks = record {
    clock = λ i x y same. sym (clock-if (firsts i) x) ∙ ap clock_of same;
    was = λ i x y same. sym (was-if (firsts i) x) ∙ ap (λ (m : Machine). m.was) same;
  };
  next = λ i x y dues same. sym (stepped-if dues (firsts i) x) ∙ ap (stepped dues) same;
  tells = λ i x y dues same. sym (told-if dues (firsts i) x) ∙ ap (told dues) same;
}

-- what was forgotten put in front again
made-again : (m : Made) → made_behind m (made_emptied m) ≡ m
made-again m =
    ap (λ (frames : List ℕ). record m { frames = frames; samples = m.samples ++ [] }) (append-nil m.frames)
    ∙ ap (λ (samples : List ℕ). record m { samples = samples }) (append-nil m.samples)

ended-again : (e : Ended) → ended_behind e (ended_emptied e) ≡ e
ended-again e = ap (λ (words : List Transfer). record e { words = words }) (append-nil e.words)

board-again : (b : Board) → board_behind b (board_emptied b) ≡ b
board-again b =
    ap (λ (made : Made). record b { made = made; ended = ended_behind b.ended (ended_emptied b.ended) })
    (made-again b.made)
    ∙ ap (λ (ended : Ended). record b { ended = ended }) (ended-again b.ended)

pub behind-forgotten : (m : Machine) → behind m (forgotten m) ≡ m
behind-forgotten m = ap (λ (b : Board). record m { board = b }) (board-again m.board)
