-- What the steps of a cut know once it has its parts: that its nodes are lawful, what is due to the next one, and what
-- its turns come to.
use Rattle.std.specs.Prelude.{List, length, map, filter, All, Option, Some, IfSome, slice_get, slice_index, slice_set}
use Rattle.std.proofs.Common.{ℕ, ◌≡◌, ◌≢◌, ◌+◌, ◌<◌, ◌≤◌, sym, ap, ◌∙◌, subst}
use Rattle.link_node.specs.Delays.{hop_of}
use Rattle.link_node.specs.Due.{FitsWidths}
use Rattle.link_node.specs.declared.signal.Incoming.{Incoming}
use Rattle.link_node.specs.declared.signal.Signal.{Signal}
use Rattle.link_order.specs.declared.sent.Sent.{Sent}
use Rattle.link_order.specs.Cut.{Cut, plain_cut, count, clock_at, was_at, live, is_awaited}
use Rattle.link_order.specs.Due.{due}
use Rattle.link_order.specs.GlobalOrder.{cycles_left, due_at, least, least_below, with_signal}
use Rattle.link_order.specs.NodeKind.{NodeKind, IsLawful, kind_of}
use Rattle.link_order.specs.Order.{from}
use Rattle.link_order.proofs.Numbers.{least_is_player}
use Rattle.link_core.specs.Burst.{ArrivesFrom, GoesAlone, Idles}
use Rattle.link_core.specs.Kept.{IsKept}
use Rattle.link_core.proofs.Bursts.{Bursts, Placed, burst_fewer, bursts, horizon_ahead, idles_placed, kept_live}
use Rattle.link_core.proofs.Keeping.{Turned, due_known, least_known}

-- the laws of a node type are those of its kind
pub lawful : {C : Type 0} (clock was : C → ℕ) (next : C → List Incoming → C × Option Signal)
    → ((x : C) (taken : List Incoming) → clock x < clock (next x taken).0)
    → ((x : C) (taken : List Incoming) → clock (next x taken).0 ≤ clock x + 512)
    → ((x : C) (taken : List Incoming) → was (next x taken).0 ≡ clock x)
    → ((x : C) (taken : List Incoming) → IfSome (next x taken).1 (λ s. s.clock ≡ clock x))
    → ((x : C) (taken : List Incoming) → IfSome (next x taken).1 FitsWidths)
    → IsLawful (kind_of clock was next)
lawful clock was next rises short moves bears fits =
    record { rises = rises; short = short; moves = moves; bears = bears; fits = fits }

-- the node that was found is the one with the least clock, which is one of them
pub least_kept : {N C : Type 0} (kind : NodeKind C) (plain : N → C) (cut : Cut N) (sent_room due_room : ℕ) (xs : List N)
    (i : ℕ) → IsKept kind plain cut sent_room due_room → xs ≡ cut.consoles
    → i ≡ least_below (slice_index (map kind.clock (map plain xs))) (length xs) → i ≡ least kind (plain_cut plain cut)
least_kept kind plain cut sent_room due_room xs i kept same is = least_known kind plain cut xs i same is

pub player_of : {N C : Type 0} (kind : NodeKind C) (plain : N → C) (cut : Cut N) (sent_room due_room i : ℕ)
    → IsKept kind plain cut sent_room due_room → i ≡ least kind (plain_cut plain cut) → i < count (plain_cut plain cut)
player_of {C = C} kind plain cut sent_room due_room i kept least_is =
    let p : Cut C = plain_cut plain cut in
    subst (λ (n : ℕ). n < count p) (sym least_is) (least_is_player (clock_at kind p) (count p) kept.cable.some_console)

-- what was gathered is what is due
pub told_known : {N C : Type 0} (kind : NodeKind C) (plain : N → C) (cut : Cut N) (sent_room due_room i was clock : ℕ)
    (ss : List Sent) (xs ys : List N) (new told : List Incoming) → IsKept kind plain cut sent_room due_room
    → ss ≡ cut.sent → xs ≡ cut.consoles → was ≡ slice_index (map kind.was (map plain xs)) i
    → ys ≡ cut.consoles → clock ≡ slice_index (map kind.clock (map plain ys)) i
    → ((n : ℕ) → All (λ (one : Sent). one.sender < n) ss → new ≡ due (hop_of cut.delays) (λ j. from j ss) i was clock n)
    → told ≡ new → told ≡ due_at kind (plain_cut plain cut) i
told_known kind plain cut sent_room due_room i was clock ss xs ys new told kept same here was_is there clock_is gathered
    e =
    e ∙ due_known kind plain cut i was clock ss xs ys new kept.sound same here was_is there clock_is gathered

-- what a turn leaves, once nothing is kept that nobody can take
pub turned_from : {N C : Type 0} (kind : NodeKind C) (plain : N → C) (cut : Cut N) (i : ℕ) (told : List Incoming)
    (nodes zs : List N) (signal : Option Signal) (joined sent : List Sent)
    → i ≡ least kind (plain_cut plain cut) → told ≡ due_at kind (plain_cut plain cut) i
    → ((x : C) → slice_get (map plain cut.consoles) i ≡ Some x
    → map plain nodes ≡ slice_set (map plain cut.consoles) i (kind.next x told).0)
    → ((x : C) → slice_get (map plain cut.consoles) i ≡ Some x → signal ≡ (kind.next x told).1)
    → zs ≡ nodes → joined ≡ with_signal i signal cut.sent
    → sent ≡ filter (is_awaited (hop_of cut.delays) (slice_index (map kind.was (map plain zs))) (length zs)) joined
    → Turned kind plain cut i told nodes signal sent
turned_from {N =
    N} kind plain cut i told nodes zs signal joined sent least_is due_is node_is signal_is same joins kept = record {
      least_is = least_is;
      due_is = due_is;
      node_is = node_is;
      signal_is = signal_is;
      sent_is =
          kept
          ∙ ap (λ (xs : List N). filter
          (is_awaited (hop_of cut.delays) (slice_index (map kind.was (map plain xs))) (length xs)) joined)
          same
          ∙ ap (filter
          (is_awaited (hop_of cut.delays) (slice_index (map kind.was (map plain nodes))) (length nodes))) joins;
    }

-- what steps with nothing due come to
pub idled : {N C : Type 0} (kind : NodeKind C) → IsLawful kind → (plain : N → C) (cut : Cut N)
    (sent_room due_room i end quiet was clock : ℕ) (xs ys : List N) (new : List C) (told : Option Signal)
    → IsKept kind plain cut sent_room due_room → i ≡ least kind (plain_cut plain cut)
    → xs ≡ cut.consoles → was ≡ slice_index (map kind.was (map plain xs)) i
    → ys ≡ cut.consoles → clock ≡ slice_index (map kind.clock (map plain ys)) i
    → clock < quiet → quiet ≤ end → All (ArrivesFrom (hop_of cut.delays) i was quiet) cut.sent
    → ((x : C) → slice_get (map plain cut.consoles) i ≡ Some x → Idles kind quiet i x (map plain cut.consoles) new told)
    → Placed kind i end (plain_cut plain cut) new told
idled {N = N} {C =
    C} kind law plain cut sent_room due_room i end quiet was clock xs ys new told kept least_is here was_is
    there clock_is early within late idles =
    let p : Cut C = plain_cut plain cut in
    let was_at_i : was ≡ was_at kind p i =
    was_is ∙ ap (λ (zs : List N). slice_index (map kind.was (map plain zs)) i) here in
    let clock_at_i : clock ≡ clock_at kind p i =
    clock_is ∙ ap (λ (zs : List N). slice_index (map kind.clock (map plain zs)) i) there in
    idles_placed kind law i end quiet was p new told kept.sound
    (player_of kind plain cut sent_room due_room i kept least_is)
    was_at_i (subst (λ (n : ℕ). n < quiet) clock_at_i early) within late idles

-- what a burst leaves, once nothing is kept that nobody can take
pub record Made {N C : Type 0} (kind : NodeKind C) (plain : N → C) (cut : Cut N) (i until : ℕ) (nodes : List N)
    (signal : Option Signal) (sent : List Sent) : Type 0 where
  pub bursts : Bursts kind i until (plain_cut plain cut)
      (plain_cut plain (record { consoles = nodes; delays = cut.delays; sent = with_signal i signal cut.sent }))
  pub whole : plain_cut plain (record { consoles = nodes; delays = cut.delays; sent = sent })
      ≡ live kind (plain_cut plain
      (record { consoles = nodes; delays = cut.delays; sent = with_signal i signal cut.sent }))

pub made : {N C : Type 0} (kind : NodeKind C) → IsLawful kind → (plain : N → C) (cut : Cut N)
    (sent_room due_room i end until : ℕ) (xs zs nodes : List N) (ss joined sent : List Sent) (signal : Option Signal)
    → IsKept kind plain cut sent_room due_room → i ≡ least kind (plain_cut plain cut) → end ≤ until → xs ≡ cut.consoles
    → ((j : ℕ) → j < length xs → j ≢ i → end ≤ slice_index (map kind.clock (map plain xs)) j + hop_of cut.delays j i)
    → ss ≡ cut.sent
    → GoesAlone kind i end (plain_cut plain (record { consoles = cut.consoles; delays = cut.delays; sent = ss }))
    (plain_cut plain (record { consoles = nodes; delays = cut.delays; sent = with_signal i signal ss }))
    → zs ≡ nodes → joined ≡ with_signal i signal cut.sent
    → sent ≡ filter (is_awaited (hop_of cut.delays) (slice_index (map kind.was (map plain zs))) (length zs)) joined
    → Made kind plain cut i until nodes signal sent
made {N = N} {C =
    C} kind law plain cut sent_room due_room i end until xs zs nodes ss joined sent signal kept least_is within
    here ahead same goes there joins is =
    let before : List Sent → Cut C = λ (ts : List Sent).
    plain_cut plain (record { consoles = cut.consoles; delays = cut.delays; sent = ts }) in
    let after : List Sent → Cut C = λ (ts : List Sent).
    plain_cut plain (record { consoles = nodes; delays = cut.delays; sent = with_signal i signal ts }) in
    let alone : GoesAlone kind i end (before cut.sent) (after cut.sent) =
    subst (λ (ts : List Sent). GoesAlone kind i end (before ts) (after ts)) same goes in
    record {
      bursts =
          bursts kind law i end until (plain_cut plain cut) kept.cable kept.sound kept.widths
          (player_of kind plain cut sent_room due_room i kept least_is) within
          (horizon_ahead kind plain cut xs i end here ahead) alone;
      whole =
          kept_live kind plain nodes zs cut.delays sent joined (with_signal i signal cut.sent) there joins is;
    }

-- a burst leaves fewer cycles, also of the cut as it was seen
pub fewer_left : {N C : Type 0} (kind : NodeKind C) (plain : N → C) (cut seen : Cut N) (i until : ℕ) (nodes : List N)
    (signal : Option Signal) (sent : List Sent) → cut ≡ seen → Made kind plain cut i until nodes signal sent
    → slice_index (map kind.clock (map plain cut.consoles)) i < slice_index (map kind.clock (map plain nodes)) i
    → cycles_left kind (plain_cut plain (record { consoles = nodes; delays = cut.delays; sent = sent })) until
    < cycles_left kind (plain_cut plain seen) until
fewer_left {N = N} kind plain cut seen i until nodes signal sent same m rises =
    let left : Cut N = record { consoles = nodes; delays = cut.delays; sent = sent } in
    subst
    (λ (d : Cut N). cycles_left kind (plain_cut plain left) until < cycles_left kind (plain_cut plain d) until) same
    (burst_fewer kind (plain_cut plain cut) _ (plain_cut plain left) i until m.bursts m.whole rises)
