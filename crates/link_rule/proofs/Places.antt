-- Where words stand: what a store leaves as it was.
use Rattle.std.specs.Prelude.{List, length, slice_index}
use Rattle.std.proofs.Common.{ℕ, ◌≡◌, ◌≢◌, ◌+◌, ◌%◌, ◌<◌, ◌≤◌, arith, ◌∙◌}
use Rattle.std.proofs.Common.{set, mod-lt}
use Rattle.std.proofs.lemmas.List.{get_or-set_same, get_or-set_other}
use Rattle.link_node.specs.declared.signal.Signal.{Signal}
use Rattle.link_script.specs.Script.{Script}
use Rattle.link_rule.specs.declared.view.Progress.{Progress}
use Rattle.link_rule.specs.Words.{clock_place, ring_place, HasSignal}
use Rattle.link_rule.specs.Rule.{Shows}
use Rattle.atomic_table.proofs.Lists.{one_turn}

-- the places of a ring lie behind its clock word, and before the next player's
pub record InRing (i n : ℕ) : Type 0 where
  pub after : clock_place i < ring_place i n
  pub before : ring_place i n + 1 < clock_place i + 8193

pub in_ring : (i n : ℕ) → InRing i n
in_ring i n =
    let small : n % 4096 < 4096 = mod-lt n (omega arith) in
    record { after = omega arith; before = omega arith }

-- signals less than 4,096 numbers apart stand apart
pub rings_apart : (m n : ℕ) → m < n → n < m + 4096 → m % 4096 ≢ n % 4096
rings_apart m n less near e = let same : m ≡ n = one_turn m n 4096 (omega arith) near e in omega arith

-- what a store at another place leaves
pub left : (words : List ℕ) (a b v : ℕ) → b ≢ a → slice_index (set words a v) b ≡ slice_index words b
left words a b v apart = get_or-set_other words a b v 0 apart

pub stored : (words : List ℕ) (a v : ℕ) → a < length words → slice_index (set words a v) a ≡ v
stored words a v below = get_or-set_same words a v 0 below

pub signal_left : (words : List ℕ) (a v i n : ℕ) (x : Signal) → ring_place i n ≢ a → ring_place i n + 1 ≢ a
    → HasSignal words i n x → HasSignal (set words a v) i n x
signal_left words a v i n x first second h = record {
  head = left words a (ring_place i n) v first ∙ h.head;
  body = left words a (ring_place i n + 1) v second ∙ h.body;
}

-- the words of player j are the same
pub record SameFor (j : ℕ) (words other : List ℕ) : Type 0 where
  pub same : (a : ℕ) → clock_place j ≤ a → a < clock_place j + 8193 → slice_index other a ≡ slice_index words a

pub same_left : (words : List ℕ) (a v i j : ℕ) → clock_place i ≤ a → a < clock_place i + 8193 → j ≢ i
    → SameFor j words (set words a v)
same_left words a v i j low high apart = record {
  same = λ b low_b high_b. left words a b v (λ e. apart (omega arith));
}

-- what a player shows goes by its own words
pub shows_same : (s : Script) (j : ℕ) (r : Progress) (words other : List ℕ) → SameFor j words other → Shows s words j r
    → Shows s other j r
shows_same s j r words other h shows =
    let own = in_ring j r.sent in
    let first : slice_index other (clock_place j) ≡ slice_index words (clock_place j)
    = h.same (clock_place j) (omega arith) (omega arith) in
    let head : slice_index other (ring_place j r.sent) ≡ slice_index words (ring_place j r.sent)
    = h.same (ring_place j r.sent) (omega (arith, own.after)) (omega (arith, own.before)) in
    let body : slice_index other (ring_place j r.sent + 1) ≡ slice_index words (ring_place j r.sent + 1)
    = h.same (ring_place j r.sent + 1) (omega (arith, own.after)) (omega (arith, own.before)) in
    record {
      placed = shows.placed;
      clock_is = first ∙ shows.clock_is;
      ring = λ n x e below near.
          let at = in_ring j n in
          let has : HasSignal words j n x = shows.ring n x e below near in
          record {
            head = h.same (ring_place j n) (omega (arith, at.after)) (omega (arith, at.before)) ∙ has.head;
            body = h.same (ring_place j n + 1) (omega (arith, at.after)) (omega (arith, at.before)) ∙ has.body;
          };
      begun = λ some. let t = shows.begun some in (t.0, t.1, head ∙ t.2);
      ended = λ some. let t = shows.ended some in (t.0, t.1, body ∙ t.2);
    }
