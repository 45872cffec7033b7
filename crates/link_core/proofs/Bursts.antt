-- Steps of one console in a row.
use Rattle.std.specs.Prelude.{Bool, false, List, [], ◌∷◌, length, map, filter, All, Option, None, Some, slice_get, slice_set}
use Rattle.std.specs.Prelude.{slice_index}
use Rattle.std.proofs.Common.{ℕ, zero, suc, ◌≡◌, ◌≢◌, ◌+◌, ◌<◌, ◌≤◌, inl, inr, arith, refl, sym, ap, ◌∙◌, subst, set}
use Rattle.std.proofs.lemmas.Bool.Decides.{nat_tests}
use Rattle.std.proofs.lemmas.List.{set-set, length-map}
use Rattle.std.proofs.lemmas.List.Elements.{All-filter, filter_passes}
use Rattle.link_node.specs.Alone.{StepsAlone, Stays, Steps}
use Rattle.link_node.specs.Due.{FitsWidths}
use Rattle.link_node.specs.declared.signal.Incoming.{Incoming}
use Rattle.link_node.specs.declared.signal.Signal.{Signal}
use Rattle.link_order.specs.declared.sent.Sent.{Sent}
use Rattle.link_order.specs.NodeKind.{NodeKind, IsLawful}
use Rattle.link_order.specs.Order.{from}
use Rattle.link_order.specs.Due.{is_due, due, place_all}
use Rattle.link_node.specs.declared.delays.Delays.{Delays}
use Rattle.link_node.specs.Delays.{hop_of, AreDelays}
use Rattle.link_order.specs.Cut.{Cut, plain_cut, count, clock_at, was_at, live, is_live, is_awaited}
use Rattle.link_order.specs.Cut.{IsSound, IsCable}
use Rattle.link_order.specs.GlobalOrder.{least, due_at, step_of, step_with, step_from, with_signal, cycles_left, run}
use Rattle.link_order.specs.Interleaving.{Step}
use Rattle.link_order.proofs.Numbers.{same_or_apart, left_falls, put_other}
use Rattle.link_order.proofs.Lists.{all_nil, all_cons, all_head, all_tail}
use Rattle.link_order.proofs.Senders.{from_own, from_other}
use Rattle.link_order.proofs.Stepping.{console_at, is_stepped}
use Rattle.link_order.proofs.DueSignals.{arriving_none, due_own, due_other}
use Rattle.link_order.proofs.Hops.{cable_same}
use Rattle.link_order.proofs.Sound.{joined_all, least_ahead, sound_live}
use Rattle.link_order.proofs.LiveRuns.{run_live}
use Rattle.link_laws.specs.Law.{GoesOn}
use Rattle.link_laws.proofs.Advance.{Ahead, number_found}
use Rattle.link_laws.proofs.Equality.{equality}
use Rattle.link_core.specs.Kept.{IsKept, AllLive, AllFit}
use Rattle.link_core.specs.Burst.{ArrivesFrom, Idles, GoesAlone, Stands, Goes}

-- where a console may step by the others' clocks, the global order goes on from its step to the same end
step_ahead : {C : Type 0} (kind : NodeKind C) → IsLawful kind → (d : Cut C) (i until : ℕ) → IsCable d → IsSound kind d
    → i < count d → clock_at kind d i < until → Ahead kind d i → GoesOn kind d until (step_of kind d i)
step_ahead kind law d i until cable sound below early ahead =
    (equality kind law d until (Step i ∷ []) cable sound
    (record { player = below; early = early; ahead = ahead }, tt)).goes_on

-- a cut that steps of one console have made of another
pub record Bursts {C : Type 0} (kind : NodeKind C) (i until : ℕ) (p d : Cut C) : Type 0 where
  pub count_is : count d ≡ count p
  pub delays_are : d.delays ≡ p.delays
  pub cable : IsCable d
  pub sound : IsSound kind d
  pub same_end : run kind d until ≡ run kind p until
  pub widths : AllFit d.sent
  pub others : (j : ℕ) → j ≢ i → clock_at kind d j ≡ clock_at kind p j
  pub no_more : cycles_left kind d until ≤ cycles_left kind p until
  pub fewer : clock_at kind p i < clock_at kind d i → cycles_left kind d until < cycles_left kind p until

-- one more step
bursts_on : {C : Type 0} (kind : NodeKind C) → IsLawful kind → (i end until : ℕ) (p d : Cut C) → i < count p
    → end ≤ until → ((j : ℕ) → j < count p → j ≢ i → end ≤ clock_at kind p j + hop_of p.delays j i)
    → clock_at kind d i < end → Bursts kind i until p d → Bursts kind i until p (step_of kind d i)
bursts_on {C = C} kind law i end until p d below within far early b =
    let own : i < count d = omega (arith, b.count_is) in
    let late : clock_at kind d i < until = omega arith in
    let ahead : Ahead kind d i = λ j inside apart.
    let h = far j (subst (λ (n : ℕ). j < n) b.count_is inside) apart in
    let o = b.others j apart in
    let e : hop_of d.delays j i ≡ hop_of p.delays j i = ap (λ (t : Delays). hop_of t j i) b.delays_are in
    omega (arith, h, o, e) in
    let on = step_ahead kind law d i until b.cable b.sound own late ahead in
    let at = console_at kind d i own in
    let s = is_stepped kind law d i at.0 (due_at kind d i) own at.1 in
    let y : C = (kind.next at.0 (due_at kind d i)).0 in
    let later : clock_at kind d i < kind.clock y
    = subst (λ (n : ℕ). n < kind.clock y) (sym at.1.clock_is) (law.rises at.0 (due_at kind d i)) in
    let falls : cycles_left kind (step_of kind d i) until < cycles_left kind d until
    = rw (s.cut_is, s.clocks, s.count_is) (left_falls (clock_at kind d) until i (kind.clock y) (count d) own late later)
    in
    record {
      count_is = on.count_is ∙ b.count_is;
      delays_are = on.delays_are ∙ b.delays_are;
      cable = on.cable;
      sound = on.sound;
      same_end = on.same_end ∙ b.same_end;
      widths = subst (λ (e : Cut C). AllFit e.sent) (sym s.cut_is)
          (joined_all (λ (one : Sent). FitsWidths one.signal) i (kind.next at.0 (due_at kind d i)).1 d.sent
          (law.fits at.0 (due_at kind d i)) b.widths);
      others = λ j apart. ap (λ (e : Cut C). clock_at kind e j) s.cut_is
          ∙ ap (λ (f : ℕ → ℕ). f j) s.clocks ∙ put_other i j (kind.clock y) (clock_at kind d) apart
          ∙ b.others j apart;
      no_more = omega (arith, falls, b.no_more);
      fewer = λ rises. omega (arith, falls, b.no_more);
    }

-- steps below every clock at which a peer could still be heard
pub bursts : {C : Type 0} (kind : NodeKind C) → IsLawful kind → (i end until : ℕ) (p : Cut C) → IsCable p
    → IsSound kind p → AllFit p.sent → i < count p → end ≤ until
    → ((j : ℕ) → j < count p → j ≢ i → end ≤ clock_at kind p j + hop_of p.delays j i)
    → {d : Cut C} → GoesAlone kind i end p d → Bursts kind i until p d
bursts kind law i end until p cable sound widths below within far Stands = record {
  count_is = refl;
  delays_are = refl;
  cable = cable;
  sound = sound;
  same_end = refl;
  widths = widths;
  others = λ j apart. refl;
  no_more = omega arith;
  fewer = λ rises. absurd (omega arith);
}
bursts kind law i end until p cable sound widths below within far (Goes d rest early) =
    bursts_on kind law i end until p d below within far early
    (bursts kind law i end until p cable sound widths below within far rest)

-- of signals that arrive neither too early nor too late none is due
from_late : (delays : Delays) (was clock end i j : ℕ) (ss : List Sent) → was ≤ clock → clock < end → j ≢ i
    → (first : ℕ) → first ≤ was → All (ArrivesFrom (hop_of delays) i first end) ss
    → All (λ (s : Signal). is_due was clock (s.clock + hop_of delays j i) ≡ false) (from j ss)
from_late delays was clock end i j [] le less apart first early quiet =
    all_nil (λ (s : Signal). is_due was clock (s.clock + hop_of delays j i) ≡ false)
from_late delays was clock end i j (one ∷ rest) le less apart first early quiet =
    let P : Signal → Type 0 = λ (s : Signal). is_due was clock (s.clock + hop_of delays j i) ≡ false in
    let more = from_late delays was clock end i j rest le less apart first early
    (all_tail (ArrivesFrom (hop_of delays) i first end) one rest quiet) in
    elim (same_or_apart one.sender j) [
      | inl own ↦ subst (λ (t : List Signal). All P t) (sym (from_own j one rest own))
          (all_cons P one.signal (from j rest)
          (not_due was clock (one.signal.clock + hop_of delays j i) first end early less
          (subst (λ (k : ℕ). first < one.signal.clock + hop_of delays k i
          → end ≤ one.signal.clock + hop_of delays k i) own
          (all_head (ArrivesFrom (hop_of delays) i first end) one rest quiet (λ e. apart (sym own ∙ e))))) more)
      | inr other ↦ subst (λ (t : List Signal). All P t) (sym (from_other j one rest other)) more
    ]
  where
    not_due : (w c a f e : ℕ) → f ≤ w → c < e → (f < a → e ≤ a) → is_due w c a ≡ false
    not_due w c a f e fw ce h = grind (arith, nat_tests)

pub none_due : (delays : Delays) (was clock end i first : ℕ) (ss : List Sent) → was ≤ clock → clock < end
    → first ≤ was → All (ArrivesFrom (hop_of delays) i first end) ss → (n : ℕ)
    → due (hop_of delays) (λ j. from j ss) i was clock n ≡ []
none_due delays was clock end i first ss le less early quiet zero = refl
none_due delays was clock end i first ss le less early quiet (suc j) =
    let passes : ℕ → Bool = is_due was clock in
    let ih = none_due delays was clock end i first ss le less early quiet j in
    elim (same_or_apart j i) [
      | inl e ↦
          let own : due (hop_of delays) (λ k. from k ss) i was clock (suc j)
          ≡ due (hop_of delays) (λ k. from k ss) i was
          clock j =
          rw e (due_own (hop_of delays) (λ k. from k ss) i passes) in
          own ∙ ih
      | inr e ↦ due_other (hop_of delays) (λ k. from k ss) i passes j e
          ∙ ap (λ (xs : List Incoming). place_all xs (due (hop_of delays) (λ k. from k ss) i was clock j))
          (arriving_none passes (hop_of delays j i) j (from j ss)
          (from_late delays was clock end i j ss le less e first early quiet))
          ∙ ih
    ]

-- a console's steps alone are steps of its cut, where nothing is due to them
pub record Alone {C : Type 0} (kind : NodeKind C) (i end : ℕ) (p : Cut C) (x y : C)
    (told : Option Signal) : Type 0 where
  pub goes : GoesAlone kind i end p (record {
    consoles = slice_set p.consoles i y;
    delays = p.delays;
    sent = with_signal i told p.sent;
  })
  pub was_is : kind.was x ≤ kind.was y
  pub begun : kind.was y ≤ kind.clock y

set_found : {C : Type 0} (xs : List C) (i : ℕ) (x : C) → slice_get xs i ≡ Some x → set xs i x ≡ xs
set_found [] i x e = refl
set_found (y ∷ ys) zero x e =
    let f : Some y ≡ Some x = e in
    let g : x ≡ y = cc in
    ap (λ (z : _). z ∷ ys) g
set_found (y ∷ ys) (suc i) x e = ap (λ (t : List _). y ∷ t) (set_found ys i x e)

get_set : {C : Type 0} (xs : List C) (i : ℕ) (x y : C) → slice_get xs i ≡ Some x → slice_get (set xs i y) i ≡ Some y
get_set [] i x y e = let f : None ≡ Some x = e in cc
get_set (z ∷ zs) zero x y e = refl
get_set (z ∷ zs) (suc i) x y e = get_set zs i x y e

pub alone : {C : Type 0} (kind : NodeKind C) → IsLawful kind → (i end quiet : ℕ) (p : Cut C) (x : C)
    → slice_get p.consoles i ≡ Some x → kind.was x ≤ kind.clock x → quiet ≤ end
    → All (ArrivesFrom (hop_of p.delays) i (kind.was x) quiet) p.sent
    → {y : C} {told : Option Signal} → StepsAlone kind.clock kind.next quiet x y told → Alone kind i end p x y told
alone {C = C} kind law i end quiet p x stands begun within late Stays = record {
  goes =
      let e : p.consoles ≡ slice_set p.consoles i x = sym (set_found p.consoles i x stands) in
      subst (λ (cs : List C). GoesAlone kind i end p
      (record { consoles = cs; delays = p.delays; sent = p.sent })) e Stands;
  was_is = omega arith;
  begun = begun;
}
alone {C = C} kind law i end quiet p x stands begun within late (Steps y rest early) =
    let a = alone kind law i end quiet p x stands begun within late rest in
    let d : Cut C = record { consoles = slice_set p.consoles i y; delays = p.delays; sent = p.sent } in
    let here : slice_get d.consoles i ≡ Some y = get_set p.consoles i x y stands in
    let clock_is : clock_at kind d i ≡ kind.clock y = number_found kind.clock d.consoles i y here in
    let was_is : was_at kind d i ≡ kind.was y = number_found kind.was d.consoles i y here in
    let nothing : due_at kind d i ≡ []
    = none_due p.delays (was_at kind d i) (clock_at kind d i) quiet i (kind.was x) p.sent
    (omega (arith, clock_is, was_is, a.begun)) (omega (arith, clock_is, early)) (omega (arith, was_is, a.was_is)) late
    (count d) in
    let z : C = (kind.next y []).0 in
    let told : Option Signal = (kind.next y []).1 in
    let next : step_of kind d i ≡ record {
      consoles = slice_set p.consoles i z;
      delays = p.delays;
      sent = with_signal i told p.sent;
    }
    = ap (step_with kind d i) nothing ∙ ap (step_from kind d i []) here
    ∙ ap (λ (cs : List C). let e : Cut C =
    record { consoles = cs; delays = p.delays; sent = with_signal i told p.sent } in
    e) (set-set p.consoles i y z) in
    record {
      goes = subst (GoesAlone kind i end p) next (Goes d a.goes (omega (arith, clock_is, early)));
      was_is = omega (arith, law.moves y [], a.was_is, a.begun);
      begun = omega (arith, law.moves y [], law.rises y []);
    }

-- what the steps of one console, found in a list of consoles, make of a cut
pub record Placed {C : Type 0} (kind : NodeKind C) (i end : ℕ) (p : Cut C) (new : List C)
    (told : Option Signal) : Type 0
  where
    pub goes : GoesAlone kind i end p (record { consoles = new; delays = p.delays; sent = with_signal i told p.sent })
    pub rises : clock_at kind p i < slice_index (map kind.clock new) i

pub idles_placed : {C : Type 0} (kind : NodeKind C) → IsLawful kind → (i end quiet was : ℕ) (p : Cut C)
    (new : List C) (told : Option Signal) → IsSound kind p → i < count p → was ≡ was_at kind p i
    → clock_at kind p i < quiet → quiet ≤ end
    → All (ArrivesFrom (hop_of p.delays) i was quiet) p.sent
    → ((x : C) → slice_get p.consoles i ≡ Some x → Idles kind quiet i x p.consoles new told)
    → Placed kind i end p new told
idles_placed {C = C} kind law i end quiet was p new told sound below was_is early within late idles =
    let at = console_at kind p i below in
    let x : C = at.0 in
    let made = idles x at.1.stands in
    let begun : kind.was x ≤ kind.clock x = omega (arith, sound.begun i below, at.1.was_is, at.1.clock_is) in
    let was_x : was ≡ kind.was x = was_is ∙ at.1.was_is in
    let a = alone kind law i end quiet p x at.1.stands begun within
    (subst (λ (w : ℕ). All (ArrivesFrom (hop_of p.delays) i w quiet) p.sent) was_x late) made.alone in
    let here : slice_get new i ≡ Some made.y
    = subst (λ (cs : List C). slice_get cs i ≡ Some made.y) (sym made.placed)
    (get_set p.consoles i x made.y at.1.stands) in
    record {
      goes = subst (λ (cs : List C). GoesAlone kind i end p (record {
        consoles = cs;
        delays = p.delays;
        sent = with_signal i told p.sent;
      })) (sym made.placed) a.goes;
      rises = omega (
        arith,
        number_found kind.clock new i made.y here,
        at.1.clock_is,
        made.rises (omega (arith, at.1.clock_is)),
      );
    }

pub turned_placed : {C : Type 0} (kind : NodeKind C) → IsLawful kind → (i end : ℕ) (p : Cut C) (signals : List Incoming)
    (new : List C) (told : Option Signal) → i < count p → clock_at kind p i < end → signals ≡ due_at kind p i
    → ((x : C) → slice_get p.consoles i ≡ Some x → new ≡ slice_set p.consoles i (kind.next x signals).0)
    → ((x : C) → slice_get p.consoles i ≡ Some x → told ≡ (kind.next x signals).1)
    → Placed kind i end p new told
turned_placed {C = C} kind law i end p signals new told below early due_is node_is signal_is =
    let at = console_at kind p i below in
    let x : C = at.0 in
    let y : C = (kind.next x signals).0 in
    let step_is : step_of kind p i ≡ record { consoles = new; delays = p.delays; sent = with_signal i told p.sent }
    = ap (step_with kind p i) (sym due_is) ∙ ap (step_from kind p i signals) at.1.stands
    ∙ ap (λ (cs : List C). let e : Cut C = record {
      consoles = cs;
      delays = p.delays;
      sent = with_signal i (kind.next x signals).1 p.sent;
    } in e) (sym (node_is x at.1.stands))
    ∙ ap (λ (o : Option Signal). let e : Cut C = record {
      consoles = new;
      delays = p.delays;
      sent = with_signal i o p.sent;
    } in e) (sym (signal_is x at.1.stands)) in
    let here : slice_get new i ≡ Some y
    = subst (λ (cs : List C). slice_get cs i ≡ Some y) (sym (node_is x at.1.stands))
    (get_set p.consoles i x y at.1.stands) in
    record {
      goes = subst (GoesAlone kind i end p) step_is (Goes p Stands early);
      rises = omega (arith, number_found kind.clock new i y here, at.1.clock_is, law.rises x signals);
    }

-- the horizon of the console that is furthest behind is ahead of it
pub horizon_ahead : {N C : Type 0} (kind : NodeKind C) (plain : N → C) (cut : Cut N) (xs : List N) (i end : ℕ)
    → xs ≡ cut.consoles
    → ((j : ℕ) → j < length xs → j ≢ i → end ≤ slice_index (map kind.clock (map plain xs)) j + hop_of cut.delays j i)
    → (j : ℕ) → j < count (plain_cut plain cut) → j ≢ i
    → end ≤ clock_at kind (plain_cut plain cut) j + hop_of cut.delays j i
horizon_ahead {N = N} kind plain cut xs i end same far j below apart =
    subst (λ (ys : List N). end ≤ slice_index (map kind.clock (map plain ys)) j + hop_of cut.delays j i) same
    (far j (omega (arith, ap length same, length-map cut.consoles plain)) apart)

pub horizon_later : {N C : Type 0} (kind : NodeKind C) (plain : N → C) (cut : Cut N) (xs : List N) (i until end : ℕ)
    → xs ≡ cut.consoles → i ≡ least kind (plain_cut plain cut) → IsCable (plain_cut plain cut)
    → clock_at kind (plain_cut plain cut) i < until
    → ((clock : ℕ) → clock < until → ((j : ℕ) → j < length xs → j ≢ i
    → clock < slice_index (map kind.clock (map plain xs)) j + hop_of cut.delays j i) → clock < end)
    → clock_at kind (plain_cut plain cut) i < end
horizon_later {N = N} {C = C} kind plain cut xs i until end same least_is cable early far =
    let p : Cut C = plain_cut plain cut in
    far (clock_at kind p i) early (λ j below apart.
    let ahead : clock_at kind p i < clock_at kind p j + hop_of cut.delays j i
    = subst (λ (m : ℕ). clock_at kind p m < clock_at kind p j + hop_of cut.delays j m) (sym least_is)
    (least_ahead kind p cable.some_console cable.some_delay j
    (omega (arith, ap length same, length-map cut.consoles plain, below)) (λ e. apart (e ∙ sym least_is))) in
    subst (λ (ys : List N). clock_at kind p i < slice_index (map kind.clock (map plain ys)) j + hop_of cut.delays j i)
    (sym same) ahead)

-- what is left where nothing is kept that nobody can take
pub kept_live : {N C : Type 0} (kind : NodeKind C) (plain : N → C) (nodes zs : List N) (delays : Delays)
    (sent told all : List Sent) → zs ≡ nodes → told ≡ all
    → sent ≡ filter (is_awaited (hop_of delays) (slice_index (map kind.was (map plain zs))) (length zs)) told
    → plain_cut plain (record { consoles = nodes; delays = delays; sent = sent })
    ≡ live kind (plain_cut plain (record { consoles = nodes; delays = delays; sent = all }))
kept_live {N = N} {C = C} kind plain nodes zs delays sent told all same more is =
    let long : (ys : List N) → length ys ≡ length (map plain ys) = λ ys. sym (length-map ys plain) in
    let with_sent : List Sent → Cut C = λ (ss : List Sent). record {
      consoles = map plain nodes;
      delays = delays;
      sent = ss;
    } in
    ap with_sent (is
    ∙ ap (λ (ys : List N). filter
    (is_awaited (hop_of delays) (slice_index (map kind.was (map plain ys))) (length ys)) told)
    same
    ∙ ap (λ (n : ℕ). filter (is_awaited (hop_of delays) (slice_index (map kind.was (map plain nodes))) n) told)
    (long nodes)
    ∙ ap (filter
    (is_awaited (hop_of delays) (slice_index (map kind.was (map plain nodes))) (length (map plain nodes)))) more)

-- a burst keeps all that a cut keeps, and leaves the same end and fewer cycles
pub burst_kept : {N C : Type 0} (kind : NodeKind C) (plain : N → C) (cut new : Cut N) (d : Cut C) (i until : ℕ)
    (sent_room due_room more_sent more_due : ℕ) → IsKept kind plain cut sent_room due_room → sent_room ≤ more_sent
    → due_room ≤ more_due → new.delays ≡ cut.delays → Bursts kind i until (plain_cut plain cut) d
    → plain_cut plain new ≡ live kind d → IsKept kind plain new more_sent more_due
burst_kept {C = C} kind plain cut new d i until sent_room due_room more_sent more_due kept rs rd same b e =
    let counts : count (plain_cut plain new) ≡ count d = ap count e in
    let delays : new.delays ≡ d.delays = ap (λ (f : Cut C). f.delays) e in
    let sent_is : new.sent ≡ filter (is_live kind d) d.sent = ap (λ (f : Cut C). f.sent) e in
    record {
      cable = cable_same (plain_cut plain new) d counts delays b.cable;
      delays = subst AreDelays (sym same) kept.delays;
      sound = subst (IsSound kind) (sym e) (sound_live kind d b.sound);
      awaited = subst (AllLive kind) (sym e) (filter_passes (is_live kind d) d.sent);
      widths = subst (λ (ss : List Sent). AllFit ss) (sym sent_is)
          (All-filter (is_live kind d) (λ (one : Sent). FitsWidths one.signal) d.sent b.widths);
      room_of_sent = omega (arith, kept.room_of_sent);
      room_of_due = omega (arith, kept.room_of_due);
    }

pub burst_end : {C : Type 0} (kind : NodeKind C) → IsLawful kind → (p d q : Cut C) (i until : ℕ)
    → Bursts kind i until p d → q ≡ live kind d → live kind (run kind q until) ≡ live kind (run kind p until)
burst_end {C = C} kind law p d q i until b e =
    ap (λ (f : Cut C). live kind (run kind f until)) e
    ∙ run_live kind law d until b.cable.some_console b.cable.some_delay b.sound
    ∙ ap (live kind) b.same_end

pub burst_fewer : {C : Type 0} (kind : NodeKind C) (p d q : Cut C) (i until : ℕ)
    → Bursts kind i until p d → q ≡ live kind d → clock_at kind p i < clock_at kind d i
    → cycles_left kind q until < cycles_left kind p until
burst_fewer {C = C} kind p d q i until b e rises =
    subst (λ (f : Cut C). cycles_left kind f until < cycles_left kind p until) (sym e) (b.fewer rises)
