-- What a console records in a step, and consoles at reset on a cable.
use Rattle.std.proofs.Common.{ℕ, ◌≡◌, Bool, true, false, if◌then◌else◌, List, [], ◌∷◌, ◌++◌, length, Option, None, Some, refl, ap, sym, ◌+◌, ◌∙◌, get_or}
use Rattle.std.specs.Prelude.{All, not, option_to_list, slice_get}
use Rattle.std.proofs.lemmas.Option.{slice_get-get_or}
use Rattle.gba_agreement.specs.UnitView.{IsSeat}
use Rattle.gba_io.specs.Board.{BoardPasses}
use Rattle.gba_io.specs.Cable.{board_ended, board_taken}
use Rattle.gba_io.specs.Ended.{Ended, with_transfer}
use Rattle.gba_io.specs.declared.board.Board.{Board}
use Rattle.gba_serial.specs.SerialUnit.{SerialUnit}
use Rattle.gba_serial.specs.End.{ended, ending}
use Rattle.gba_serial.specs.Take.{taken}
use Rattle.gba_serial.specs.Steps.{ends, fed, fed_ends}
use Rattle.gba_serial.specs.Tell.{silent}
use Rattle.gba_serial.specs.declared.transfer.Transfer.{Transfer}
use Rattle.link_node.specs.declared.signal.Incoming.{Incoming}
use Rattle.link_node.specs.declared.delays.Delays.{Delays}
use Rattle.link_node.specs.Delays.{hop_of}
use Rattle.link_order.specs.Cut.{IsFresh, opening}
use Rattle.link_order.proofs.Starts.{in_time_start, sound_start}
use Rattle.gba_console.specs.Alone.{console_kind}
use Rattle.gba_console.specs.Linked.{IsAtReset, RecordsEnds, StartsLinked, all_ended, console_view}
use Rattle.gba_console.specs.Machine.{Machine, clock_of, is_off}
use Rattle.gba_console.specs.Step.{all_taken, board_begun, done_in, heard, stepped, stepped_off, stepped_on}
use Rattle.gba_console.proofs.Touching.{taken-serial}

-- one transfer more, or none
ended-first : (one : Option Transfer) (rest : List Transfer) (e : Ended)
    → all_ended (option_to_list one ++ rest) e ≡ all_ended rest (with_transfer one e)
ended-first None rest e = refl
ended-first (Some transfer) rest e = refl

ended-last : (one : Option Transfer) (transfers : List Transfer) (e : Ended)
    → all_ended (transfers ++ option_to_list one) e ≡ with_transfer one (all_ended transfers e)
ended-last None [] e = refl
ended-last (Some transfer) [] e = refl
ended-last one (transfer ∷ transfers) e = ended-last one transfers (with_transfer (Some transfer) e)

taken-ended : (dues : List Incoming) (b : Board)
    → (all_taken dues b).ended ≡ all_ended (fed_ends dues b.core.serial) b.ended
taken-ended [] b = refl
taken-ended (due ∷ dues) b =
    let u = b.core.serial in
    taken-ended dues (board_taken due b)
    ∙ sym (ended-first (ending due.arrival u) (fed_ends dues (taken due (ended due.arrival u))) b.ended)

heard-ended : (clock : ℕ) (dues : List Incoming) (b : Board)
    → (board_ended clock (all_taken dues b)).ended ≡ all_ended (ends clock dues b.core.serial) b.ended
heard-ended clock dues b =
    let u = fed dues b.core.serial in
    ap (λ (v : SerialUnit). with_transfer (ending clock v) (all_taken dues b).ended) (taken-serial dues b)
    ∙ ap (with_transfer (ending clock u)) (taken-ended dues b)
    ∙ sym (ended-last (ending clock u) (fed_ends dues b.core.serial) b.ended)

either-ended : (test : Bool) (one other : Machine) (transfers : List Transfer) (e : Ended) → one.board.ended ≡ e
    → other.board.ended ≡ all_ended transfers e
    → (if test then one else other).board.ended ≡ all_ended (if not test then transfers else []) e
either-ended true one other transfers e here there = here
either-ended false one other transfers e here there = there

pub records-ends : ((count : ℕ) (b : Board) → BoardPasses count b) → RecordsEnds
unfolding stepped stepped_on stepped_off
records-ends cycles dues m =
    let done = done_in dues m in
    either-ended (is_off m) (stepped_off dues m) (stepped_on dues m)
    (ends (clock_of m) dues (silent m.board.core.serial)) m.board.ended refl
    ((cycles done.cycles (record (heard dues m) { core = done.bus })).ended
    ∙ heard-ended (clock_of m) dues (board_begun m.board))

-- consoles at reset
fresh : (player count round : ℕ) (m : Machine) → IsAtReset player count round m → IsFresh console_kind m
fresh player count round m at = record {
  clock_is = ap clock_of at.is;
  was_is = ap (λ (n : Machine). n.was) at.is;
}

all-fresh : (consoles : List Machine) (round : ℕ)
    → ((i : ℕ) (m : Machine) → slice_get consoles i ≡ Some m → IsAtReset i (length consoles) round m)
    → All (IsFresh console_kind) consoles
all-fresh consoles round at i d below =
    fresh i (length consoles) round (get_or consoles i d)
    (at i (get_or consoles i d) (slice_get-get_or consoles i d below))

seat-at : (consoles : List Machine) (delays : Delays) (i : ℕ) (m : Machine)
    → IsAtReset i (length consoles) (hop_of delays 0 1 + hop_of delays 1 0) m
    → IsSeat (opening consoles delays) i (console_view.unit m)
seat-at consoles delays i m at = record {
  player = ap (λ (n : Machine). n.board.core.serial.player) at.is;
  count_is = ap (λ (n : Machine). n.board.core.serial.count) at.is;
  round = ap (λ (n : Machine). n.board.core.serial.round) at.is;
}

pub starts-linked : StartsLinked
starts-linked consoles delays cable at =
    let each = all-fresh consoles (hop_of delays 0 1 + hop_of delays 1 0) at in
    record {
      cable = cable;
      sound = sound_start console_kind consoles delays each;
      in_time = in_time_start console_kind consoles delays cable.some_delay each;
      seated = λ i m stands. seat-at consoles delays i m (at i m stands);
    }
