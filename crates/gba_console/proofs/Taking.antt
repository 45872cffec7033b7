-- The signals that are due can be taken.
use Rattle.std.proofs.Common.{ℕ, suc, ◌≡◌, ◌+◌, ◌<◌, ◌≤◌, List, [], ◌∷◌, None, length, drop, get_or, inl, inr, ap, sym, subst, arith}
use Rattle.std.proofs.Math.ListN.{drop_of_length-le}
use Rattle.std.proofs.lemmas.List.{drop_more}
use Rattle.link_node.specs.declared.signal.LinkMode.TheVariants.{Normal8}
use Rattle.std.specs.Prelude.{All, AllPairs}
use Rattle.gba_io.specs.Cable.{EndsFit, EndsStayFit, board_taken}
use Rattle.gba_io.specs.declared.board.Board.{Board}
use Rattle.link_node.specs.Due.{InOrder, IsDue, Precedes}
use Rattle.link_node.specs.declared.signal.Incoming.{Incoming}
use Rattle.gba_io.specs.Core.{Core, core_learned}
use Rattle.gba_console.specs.Step.{all_learned, all_taken}
use Rattle.gba_console.specs.Waiting.{CanTakeAll}

all-head : (P : Incoming → Type 0) (x : Incoming) (xs : List Incoming) → All P (x ∷ xs) → P x
all-head P x xs h = h 0 x (omega arith)

all-tail : (P : Incoming → Type 0) (x : Incoming) (xs : List Incoming) → All P (x ∷ xs) → All P xs
all-tail P x xs h k d below = h (suc k) d (omega arith)

pub all-map : (P Q : Incoming → Type 0) (xs : List Incoming) → ((x : Incoming) → P x → Q x) → All P xs → All Q xs
all-map P Q xs f h k d below = f _ (h k d below)

pairs-head : (R : Incoming → Incoming → Type 0) (x : Incoming) (xs : List Incoming) → AllPairs R (x ∷ xs) → All (R x) xs
pairs-head R x xs h k d below = h 0 (suc k) d (omega arith) (omega arith)

pairs-tail : (R : Incoming → Incoming → Type 0) (x : Incoming) (xs : List Incoming) → AllPairs R (x ∷ xs)
    → AllPairs R xs
pairs-tail R x xs h i j d less below = h (suc i) (suc j) d (omega arith) (omega arith)

later : (a b : Incoming) → Precedes a b → a.arrival ≤ b.arrival
later a b (inl less) = omega arith
later a b (inr same) = let equal = same.0 in omega (arith, equal)

-- what was taken, and what holds then
pub record Taken (clock : ℕ) (dues : List Incoming) (b : Board) : Type 0 where
  pub can : CanTakeAll dues b
  pub fits : EndsFit clock (all_taken dues b)

pub takes : EndsStayFit → (was clock bound : ℕ) (dues : List Incoming) (b : Board) → InOrder dues
    → All (IsDue was clock) dues → All (λ due. bound ≤ due.arrival) dues → bound ≤ clock → EndsFit bound b
    → clock < b.ended.until → Taken clock dues b
takes stay was clock bound [] b ordered due after past fits early =
    record { can = tt; fits = stay.later bound clock b fits past }
takes stay was clock bound (one ∷ dues) b ordered due after past fits early =
    let here = all-head (IsDue was clock) one dues due in
    let first = all-head (λ due. bound ≤ due.arrival) one dues after in
    let by_now = here.by_now in
    let there = stay.later bound one.arrival b fits first in
    let soon : one.arrival < b.ended.until = omega (arith, by_now, early) in
    let rest = takes stay was clock one.arrival dues (board_taken one b) (pairs-tail Precedes one dues ordered)
    (all-tail (IsDue was clock) one dues due)
    (all-map (Precedes one) (λ due. one.arrival ≤ due.arrival) dues (later one) (pairs-head Precedes one dues ordered))
    by_now (stay.taken one b there soon) early in
    record {
      can = (
        record { fits = there; room = stay.room one.arrival b there soon; early = soon; in_flight = here.in_flight },
        rest.can,
      );
      fits = rest.fits;
    }

-- The same at a place of the list.
abbrev pub no_signal : Incoming
no_signal =
    record { sender = 0; arrival = 0; signal = record { clock = 0; mode = Normal8; start = None; reply = None } }

abbrev pub due_at : List Incoming → ℕ → Incoming
due_at dues place = get_or dues place no_signal

from : (dues : List Incoming) (place : ℕ) → place < length dues
    → drop place dues ≡ due_at dues place ∷ drop (place + 1) dues
from dues place inside = drop_more dues place no_signal inside

pub can-at : (dues : List Incoming) (place : ℕ) (b : Board) → place < length dues → CanTakeAll (drop place dues) b
    → CanTakeAll (due_at dues place ∷ drop (place + 1) dues) b
can-at dues place b inside can = subst (λ (list : List Incoming). CanTakeAll list b) (from dues place inside) can

pub taken-at : (dues : List Incoming) (place : ℕ) (b : Board) → place < length dues
    → all_taken (drop (place + 1) dues) (board_taken (due_at dues place) b) ≡ all_taken (drop place dues) b
taken-at dues place b inside = sym (ap (λ (list : List Incoming). all_taken list b) (from dues place inside))

pub taken-all : (dues : List Incoming) (place : ℕ) (b : Board) → length dues ≤ place → b ≡ all_taken (drop place dues) b
taken-all dues place b past = sym (ap (λ (list : List Incoming). all_taken list b) (drop_of_length-le dues past))

-- The same of a console that is off.
pub learned-at : (dues : List Incoming) (place : ℕ) (b : Core) → place < length dues
    → all_learned (drop (place + 1) dues) (core_learned (due_at dues place) b) ≡ all_learned (drop place dues) b
learned-at dues place b inside = sym (ap (λ (list : List Incoming). all_learned list b) (from dues place inside))

pub learned-all : (dues : List Incoming) (place : ℕ) (b : Core) → length dues ≤ place
    → b ≡ all_learned (drop place dues) b
learned-all dues place b past =
    sym (ap (λ (list : List Incoming). all_learned list b) (drop_of_length-le dues past))
