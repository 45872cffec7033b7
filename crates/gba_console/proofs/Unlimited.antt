-- No step depends on the limit, nor on the base of the lists.
use Rattle.std.proofs.Common.{◌≡◌, ℕ, zero, suc, List, [], ◌∷◌, Option, None, Some, refl, ◌∙◌, ap}
use Rattle.gba_exec_transfers.specs.Done.{Done}
use Rattle.gba_io.specs.Board.{board_after, board_cycle}
use Rattle.gba_io.specs.Cable.{board_ended, board_taken, core_heard}
use Rattle.gba_io.specs.Base.{at_reset}
use Rattle.gba_io.specs.Ended.{Ended, ended_from, with_transfer}
use Rattle.gba_serial.specs.End.{ending}
use Rattle.gba_serial.specs.declared.transfer.Transfer.{Transfer}
use Rattle.gba_io.specs.Core.{Core}
use Rattle.gba_io.specs.declared.board.Board.{Board}
use Rattle.gba_serial.specs.Tell.{outgoing}
use Rattle.link_node.specs.declared.signal.Incoming.{Incoming}
use Rattle.link_node.specs.declared.signal.Signal.{Signal}
use Rattle.gba_console.specs.Keys.{after_keys}
use Rattle.gba_console.specs.Machine.{Machine, board_without_limit, clock_of, is_off, without_limit, left_of}
use Rattle.gba_console.specs.Step.{acted, all_taken, board_begun, done_in, heard, moved, stepped, stepped_off, stepped_on, told, told_on, what_acted, what_in}
use Rattle.gba_console.proofs.On.{both}
use Rattle.gba_console.specs.declared.doing.What.{What}

cycle-unlimited : (b : Board) → board_cycle (board_without_limit b) ≡ board_without_limit (board_cycle b)
unfolding board_cycle
cycle-unlimited b = refl

after-unlimited : (count : ℕ) (b : Board)
    → board_after count (board_without_limit b) ≡ board_without_limit (board_after count b)
unfolding board_after
after-unlimited zero b = refl
after-unlimited (suc count) b = ap board_cycle (after-unlimited count b) ∙ cycle-unlimited (board_after count b)

transfer-unlimited : (transfer : Option Transfer) (e : Ended)
    → with_transfer transfer (ended_from at_reset 0 e) ≡ ended_from at_reset 0 (with_transfer transfer e)
transfer-unlimited None e = refl
transfer-unlimited (Some transfer) e = refl

ended-unlimited : (clock : ℕ) (b : Board)
    → board_ended clock (board_without_limit b) ≡ board_without_limit (board_ended clock b)
ended-unlimited clock b =
    ap (λ (e : Ended). record (board_without_limit (board_ended clock b)) { ended = e })
    (transfer-unlimited (ending clock b.core.serial) b.ended)

heard_one : Incoming → Board → Board
heard_one due b = record b { core = core_heard due b.core }

one-unlimited : (due : Incoming) (b : Board)
    → board_taken due (board_without_limit b) ≡ board_without_limit (board_taken due b)
unfolding heard_one
one-unlimited due b = ap (heard_one due) (ended-unlimited due.arrival b)

taken-unlimited : (dues : List Incoming) (b : Board)
    → all_taken dues (board_without_limit b) ≡ board_without_limit (all_taken dues b)
taken-unlimited [] b = refl
taken-unlimited (due ∷ dues) b =
    ap (all_taken dues) (one-unlimited due b) ∙ taken-unlimited dues (board_taken due b)

heard-unlimited : (dues : List Incoming) (m : Machine)
    → heard dues (without_limit m) ≡ board_without_limit (heard dues m)
heard-unlimited dues m =
    ap (board_ended (clock_of m)) (taken-unlimited dues (board_begun m.board))
    ∙ ended-unlimited (clock_of m) (all_taken dues (board_begun m.board))

done-unlimited : (dues : List Incoming) (m : Machine) → done_in dues (without_limit m) ≡ done_in dues m
done-unlimited dues m =
    ap (λ (b : Board). acted m.registers (after_keys (clock_of m) (left_of m) b.core)) (heard-unlimited dues m)

what-unlimited : (dues : List Incoming) (m : Machine) → what_in dues (without_limit m) ≡ what_in dues m
what-unlimited dues m =
    ap (λ (b : Board). what_acted m.registers (after_keys (clock_of m) (left_of m) b.core)) (heard-unlimited dues m)

on-unlimited : (dues : List Incoming) (m : Machine)
    → stepped_on dues (without_limit m) ≡ without_limit (stepped_on dues m)
unfolding stepped_on
on-unlimited dues m =
    let plain = without_limit m in
    let done = done_in dues m in
    let what = what_in dues m in
    let heard_plain = board_without_limit (heard dues m) in
    ap (λ (b : Board). moved b plain (what_in dues plain) (done_in dues plain)) (heard-unlimited dues m)
    ∙ ap (λ (told : What). moved heard_plain plain told (done_in dues plain)) (what-unlimited dues m)
    ∙ ap (moved heard_plain plain what) (done-unlimited dues m)
    ∙ ap (λ (b : Board). record (moved (heard dues m) m what done) { board = b })
    (after-unlimited done.cycles (record (heard dues m) { core = done.bus }))

off-unlimited : (dues : List Incoming) (m : Machine)
    → stepped_off dues (without_limit m) ≡ without_limit (stepped_off dues m)
unfolding stepped_off
off-unlimited dues m = refl

told-on-unlimited : (dues : List Incoming) (m : Machine) → told_on dues (without_limit m) ≡ told_on dues m
unfolding told_on
told-on-unlimited dues m = ap (λ (done : Done Core). outgoing (clock_of m) done.bus.serial) (done-unlimited dues m)

pub stepped-unlimited : (dues : List Incoming) (m : Machine)
    → stepped dues (without_limit m) ≡ without_limit (stepped dues m)
unfolding stepped
stepped-unlimited dues m =
    let plain = without_limit m in
    both without_limit (is_off m) (stepped_off dues m) (stepped_on dues m) (stepped_off dues plain)
    (stepped_on dues plain) (off-unlimited dues m) (on-unlimited dues m)

pub told-unlimited : (dues : List Incoming) (m : Machine) → told dues (without_limit m) ≡ told dues m
unfolding told
told-unlimited dues m =
    both (λ (o : Option Signal). o) (is_off m) None (told_on dues m) None (told_on dues (without_limit m)) refl
    (told-on-unlimited dues m)
