-- The two stores of a signal keep the rule, and what they tell.
use Rattle.std.specs.Prelude.{List, [], length, Some, slice_get}
use Rattle.std.proofs.Common.{ℕ, suc, ◌≡◌, ◌≢◌, ◌+◌, ◌%◌, ◌<◌, ◌≤◌, arith, sym, ap, ◌∙◌, subst, set}
use Rattle.std.proofs.lemmas.List.{length-set}
use mathlib.Core.Option.{some, none}
use lib.ListN.{get_elem?}
use Rattle.atomic_table.specs.Table.{Allows, step}
use Rattle.link_node.specs.declared.signal.Signal.{Signal}
use Rattle.link_node.specs.Packing.{packed_head, packed_words}
use Rattle.link_script.specs.Script.{Script, told}
use Rattle.link_rule.specs.declared.view.Progress.{Progress}
use Rattle.link_rule.specs.declared.view.View.{View}
use Rattle.link_rule.specs.Words.{clock_place, ring_place, HasSignal}
use Rattle.link_rule.specs.Rule.{IsNextSignal, Shows, Ruled, seat_of, holds}
use Rattle.link_rule.specs.Steps.{with_written, puts}
use Rattle.link_rule.proofs.Places.{in_ring, rings_apart, left, stored, signal_left, same_left, shows_same}
use Rattle.link_rule.proofs.Kept.{here, moved}
use Rattle.link_rule.proofs.Allowed.{Stepped, allow, tell_seat}
use Rattle.link_rule.proofs.Looking.{concerned}

-- a word of the ring entry after those that were sent
record Entry (i sent word : ℕ) : Type 0 where
  low : ring_place i sent ≤ word
  high : word ≤ ring_place i sent + 1

ring_left : (s : Script) (words : List ℕ) (i : ℕ) (r : Progress) (word v : ℕ) → Entry i r.sent word → Shows s words i r
    → (n : ℕ) (x : Signal) → slice_get (told s i) n ≡ Some x → n < r.sent → r.sent < n + 4096
    → HasSignal (set words word v) i n x
ring_left s words i r word v entry h n x e below near =
    let apart : n % 4096 ≢ r.sent % 4096 = rings_apart n r.sent below near in
    let low = entry.low in
    let high = entry.high in
    signal_left words word v i n x (λ t. apart (omega arith)) (λ t. apart (omega arith)) (h.ring n x e below near)

-- the rule after a word of the next signal is written
wrote : {K : Type 0} (text : K → Script) (key : K) (words : List ℕ) (views : List (View K)) (id i word v written : ℕ)
    (r : Progress) → Ruled text key words views → get_elem? views id ≡ some (seat_of key i r) → Entry i r.sent word
    → Shows (text key) (set words word v) i (with_written r written)
    → Ruled text key (set words word v) (set views id (seat_of key i (with_written r written)))
wrote text key words views id i word v written r h at entry own =
    let s : Script = text key in
    let ring = in_ring i r.sent in
    let low : clock_place i ≤ word = omega (arith, entry.low, ring.after) in
    let high : word < clock_place i + 8193 = omega (arith, entry.high, ring.before) in
    moved text key words (set words word v) views id i r (with_written r written) h at
    (length-set words word v ∙ h.wide) own
    (λ j lj apart. shows_same s j (h.made j) words (set words word v) (same_left words word v i j low high apart)
    (h.shows j lj))
    (λ j lj apart. (concerned text key words views id i j r h at lj apart).knows)
    (λ j lj apart. (concerned text key words views id i j r h at lj apart).known)

pub own_shows : {K : Type 0} (text : K → Script) (key : K) (words : List ℕ) (views : List (View K)) (id i : ℕ)
    (r : Progress) → Ruled text key words views → get_elem? views id ≡ some (seat_of key i r)
    → Shows (text key) words i r
own_shows text key words views id i r h at =
    let me = here text key words views id key i r h at in
    subst (λ (p : Progress). Shows (text key) words i p) me.made_is (h.shows i me.player)

inside : {K : Type 0} (text : K → Script) (key : K) (words : List ℕ) (views : List (View K)) (id i : ℕ)
    (r : Progress) (word : ℕ) → Ruled text key words views → get_elem? views id ≡ some (seat_of key i r)
    → Entry i r.sent word → word < length words
inside text key words views id i r word h at entry =
    let me = here text key words views id key i r h at in
    let four : (text key).players ≤ 4 = h.sound.at_most_four in
    let ring = in_ring i r.sent in
    omega (arith, me.player, entry.high, ring.before, h.wide)

head_core : {K : Type 0} (text : K → Script) (key : K) (words : List ℕ) (views : List (View K)) (id i : ℕ)
    (r : Progress) (x : Signal) → Ruled text key words views → get_elem? views id ≡ some (seat_of key i r)
    → IsNextSignal (text key) i r.steps x → r.written ≡ 0
    → Stepped text key (set words (ring_place i r.sent) (packed_head x)) views id i
    (λ new. new ≡ with_written r (suc r.written))
head_core text key words views id i r x h at next none_written =
    let s : Script = text key in
    let word : ℕ = ring_place i r.sent in
    let v : ℕ = packed_head x in
    let entry : Entry i r.sent word = record { low = omega arith; high = omega arith } in
    let own = own_shows text key words views id i r h at in
    let ring = in_ring i r.sent in
    let one : suc r.written ≡ 1 = ap suc none_written in
    let shows : Shows s (set words word v) i (with_written r 1) = record {
      placed = record { within = own.placed.within; counted = own.placed.counted; all_peers = own.placed.all_peers };
      clock_is = left words word (clock_place i) v (omega (arith, ring.after)) ∙ own.clock_is;
      ring = ring_left s words i r word v entry own;
      begun = λ some. (x, next, stored words word v (inside text key words views id i r word h at entry));
      ended = λ some. absurd (omega arith);
    } in
    record {
      new = with_written r 1;
      rule = wrote text key words views id i word v 1 r h at entry shows;
      tells = ap (with_written r) (sym one);
    }

tail_core : {K : Type 0} (text : K → Script) (key : K) (words : List ℕ) (views : List (View K)) (id i : ℕ)
    (r : Progress) (x : Signal) → Ruled text key words views → get_elem? views id ≡ some (seat_of key i r)
    → IsNextSignal (text key) i r.steps x → r.written ≡ 1
    → Stepped text key (set words (ring_place i r.sent + 1) (packed_words x)) views id i
    (λ new. new ≡ with_written r (suc r.written))
tail_core text key words views id i r x h at next one_written =
    let s : Script = text key in
    let word : ℕ = ring_place i r.sent + 1 in
    let v : ℕ = packed_words x in
    let entry : Entry i r.sent word = record { low = omega arith; high = omega arith } in
    let own = own_shows text key words views id i r h at in
    let ring = in_ring i r.sent in
    let two : suc r.written ≡ 2 = ap suc one_written in
    let shows : Shows s (set words word v) i (with_written r 2) = record {
      placed = record { within = own.placed.within; counted = own.placed.counted; all_peers = own.placed.all_peers };
      clock_is = left words word (clock_place i) v (omega (arith, ring.after)) ∙ own.clock_is;
      ring = ring_left s words i r word v entry own;
      begun = λ some.
          let t = own.begun (omega arith) in
          (t.0, t.1, left words word (ring_place i r.sent) v (omega arith) ∙ t.2);
      ended = λ some. (x, next, stored words word v (inside text key words views id i r word h at entry));
    } in
    record {
      new = with_written r 2;
      rule = wrote text key words views id i word v 2 r h at entry shows;
      tells = ap (with_written r) (sym two);
    }

-- the two stores are allowed, one after the other
pub put_head_allowed : {S K : Type 0} (text : K → Script) (key other : K) (slots id i : ℕ) (r : Progress) (x : Signal)
    → IsNextSignal (text other) i r.steps x → r.written ≡ 0
    → Allows {S = S} (holds text key) slots id (seat_of other i r, []) (ring_place i r.sent) (λ n. packed_head x)
    (λ n. puts (step slots (ring_place i r.sent) (packed_head x) 0 none) (seat_of other i r, []) (packed_head x))
put_head_allowed {S = S} {K = K} text key other slots id i r x next written =
    allow text key other slots id i (ring_place i r.sent) r (λ n. packed_head x)
    (λ n. puts (step slots (ring_place i r.sent) (packed_head x) 0 none) (seat_of other i r, []) (packed_head x))
    (λ k n new. new ≡ with_written r (suc r.written))
    (λ words views h at e.
    head_core text key words views id i r x h at (subst (λ (k : K). IsNextSignal (text k) i r.steps x) e next) written)
    (λ n new told l a old e.
    tell_seat other l i a r old new (λ k b y z. z ≡ with_written y (suc y.written)) e told)

pub put_tail_allowed : {S K : Type 0} (text : K → Script) (key other : K) (slots id i : ℕ) (r : Progress) (x : Signal)
    → IsNextSignal (text other) i r.steps x → r.written ≡ 1
    → Allows {S = S} (holds text key) slots id (seat_of other i r, []) (ring_place i r.sent + 1) (λ n. packed_words x)
    (λ n. puts (step slots (ring_place i r.sent + 1) (packed_words x) 0 none) (seat_of other i r, []) (packed_words x))
put_tail_allowed {S = S} {K = K} text key other slots id i r x next written =
    allow text key other slots id i (ring_place i r.sent + 1) r (λ n. packed_words x)
    (λ n. puts (step slots (ring_place i r.sent + 1) (packed_words x) 0 none) (seat_of other i r, []) (packed_words x))
    (λ k n new. new ≡ with_written r (suc r.written))
    (λ words views h at e.
    tail_core text key words views id i r x h at (subst (λ (k : K). IsNextSignal (text k) i r.steps x) e next) written)
    (λ n new told l a old e.
    tell_seat other l i a r old new (λ k b y z. z ≡ with_written y (suc y.written)) e told)
