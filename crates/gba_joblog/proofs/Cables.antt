-- The delays of a cable are in range, and those that a log says are the same again.
use Rattle.std.proofs.Common.{◌≡◌, ◌<◌, ◌≤◌, ℕ, zero, suc, Bool, true, false, cond, List, [], ◌∷◌, Option, Some, None, refl, ◌∙◌, lit<, arith}
use Rattle.std.specs.List.{All, find, flat_map}
use Rattle.std.specs.Prelude.{IfSome, slice_index}
use Rattle.std.proofs.lemmas.List.Elements.{All-head, All-tail}
use Rattle.link_node.specs.Delays.{hop_of}
use Rattle.link_node.specs.declared.delays.Delays.{Delays}
use Rattle.gba_joblog.specs.Cable.{all_pairs, delay_of, delays_of, is_joined, is_link_of, link_for, linked_delay, pair_of, players_for, row_of, table_of, usual_delay}
use Rattle.gba_joblog.specs.Soundness.{AreJobDelays}
use Rattle.gba_joblog.specs.declared.cable.Link.{Link}
use Rattle.gba_joblog.specs.declared.cable.Pair.{Pair}

-- a delay that a line may say
abbrev pub DelayInRange : ℕ → Type 0
DelayInRange delay = (1 ≤ delay) × (delay ≤ 1024)

abbrev pub IsLink : Link → Type 0
IsLink link = DelayInRange link.delay

-- ---- a table has what it was made of

hop-row : (delay : Pair → ℕ) (s r : ℕ) → r < 4 → slice_index (row_of delay s) r ≡ delay (pair_of s r)
hop-row delay s zero to = refl
hop-row delay s (suc zero) to = refl
hop-row delay s (suc (suc zero)) to = refl
hop-row delay s (suc (suc (suc zero))) to = refl
hop-row delay s (suc (suc (suc (suc r)))) to = absurd (omega (arith, to))

hop-table : (delay : Pair → ℕ) (s r : ℕ) → s < 4 → r < 4 → hop_of (table_of delay) s r ≡ delay (pair_of s r)
unfolding hop_of table_of
hop-table delay zero zero from to = refl
hop-table delay zero (suc zero) from to = refl
hop-table delay zero (suc (suc zero)) from to = refl
hop-table delay zero (suc (suc (suc zero))) from to = refl
hop-table delay (suc zero) zero from to = refl
hop-table delay (suc zero) (suc zero) from to = refl
hop-table delay (suc zero) (suc (suc zero)) from to = refl
hop-table delay (suc zero) (suc (suc (suc zero))) from to = refl
hop-table delay (suc (suc zero)) zero from to = refl
hop-table delay (suc (suc zero)) (suc zero) from to = refl
hop-table delay (suc (suc zero)) (suc (suc zero)) from to = refl
hop-table delay (suc (suc zero)) (suc (suc (suc zero))) from to = refl
hop-table delay (suc (suc (suc zero))) zero from to = refl
hop-table delay (suc (suc (suc zero))) (suc zero) from to = refl
hop-table delay (suc (suc (suc zero))) (suc (suc zero)) from to = refl
hop-table delay (suc (suc (suc zero))) (suc (suc (suc zero))) from to = refl
hop-table delay (suc (suc (suc (suc s)))) r from to = absurd (omega (arith, from))
hop-table delay s (suc (suc (suc (suc r)))) from to = absurd (omega (arith, to))

table-again : (delay : Pair → ℕ)
    → table_of (λ pair. hop_of (table_of delay) pair.sender pair.receiver) ≡ table_of delay
unfolding hop_of table_of
table-again delay = refl

-- ---- the delays that are read

found-link : (pair : Pair) (links : List Link) → All IsLink links → IfSome (link_for pair links) IsLink
found-link pair [] all = tt
found-link pair (link ∷ links) all =
    by_test (is_link_of pair link) (found-link pair links (All-tail IsLink link links all)) where
      by_test : (b : Bool) → IfSome (link_for pair links) IsLink
          → IfSome (cond b (Some link) (find (is_link_of pair) links)) IsLink
      by_test true later = All-head IsLink link links all
      by_test false later = later

linked-range : (every : ℕ) (link : Option Link) → DelayInRange every → IfSome link IsLink
    → DelayInRange (linked_delay every link)
linked-range every None range is = range
linked-range every (Some link) range is = is

delay-range : (every : ℕ) (links : List Link) (players : ℕ) (pair : Pair) → DelayInRange every → All IsLink links
    → DelayInRange (delay_of every links players pair)
delay-range every links players pair range all = by_test (is_joined players pair) where
  by_test : (b : Bool) → DelayInRange (cond b (linked_delay every (link_for pair links)) usual_delay)
  by_test true = linked-range every (link_for pair links) range (found-link pair links all)
  by_test false = (omega arith, omega arith)

pub delays-sound : (every : ℕ) (links : List Link) (players : ℕ) → DelayInRange every → All IsLink links
    → AreJobDelays players (delays_of every links players)
unfolding delays_of
delays-sound every links players range all =
    let delay = delay_of every links players in
    record {
      table = table-again delay;
      within =
          λ s r from to. rw (hop-table delay s r from to) (delay-range every links players (pair_of s r) range all);
      apart = λ pair from to no. hop-table delay pair.sender pair.receiver from to ∙ rw no refl;
    }

-- ---- the delays that a log says

-- the link of a pair that the cable joins
abbrev pub link_in : ℕ → Delays → Pair → List Link
link_in players delays pair =
    cond (is_joined players pair)
    (record { pair = pair_of pair.sender pair.receiver; delay = hop_of delays pair.sender pair.receiver } ∷ []) []

abbrev pub links_in : ℕ → Delays → List Pair → List Link
links_in players delays pairs = flat_map (link_in players delays) pairs

again-two : (d : Delays) → AreJobDelays 2 d → delays_of usual_delay (links_in 2 d all_pairs) 2 ≡ d
unfolding delays_of table_of
again-two d are =
    let none =
    λ (s r : ℕ) (from : s < 4) (to : r < 4) (no : is_joined 2 (pair_of s r) ≡ false). are.apart
    (pair_of s r) from to no in
    let all : delays_of usual_delay (links_in 2 d all_pairs) 2 ≡ table_of (λ pair. hop_of d pair.sender pair.receiver) =
    rw (
      none 0 0 (lit< tt) (lit< tt) refl,
      none 0 2 (lit< tt) (lit< tt) refl,
      none 0 3 (lit< tt) (lit< tt) refl,
      none 1 1 (lit< tt) (lit< tt) refl,
      none 1 2 (lit< tt) (lit< tt) refl,
      none 1 3 (lit< tt) (lit< tt) refl,
      none 2 0 (lit< tt) (lit< tt) refl,
      none 2 1 (lit< tt) (lit< tt) refl,
      none 2 2 (lit< tt) (lit< tt) refl,
      none 2 3 (lit< tt) (lit< tt) refl,
      none 3 0 (lit< tt) (lit< tt) refl,
      none 3 1 (lit< tt) (lit< tt) refl,
      none 3 2 (lit< tt) (lit< tt) refl,
      none 3 3 (lit< tt) (lit< tt) refl,
    ) refl in
    all ∙ are.table

again-three : (d : Delays) → AreJobDelays 3 d → delays_of usual_delay (links_in 3 d all_pairs) 3 ≡ d
unfolding delays_of table_of
again-three d are =
    let none =
    λ (s r : ℕ) (from : s < 4) (to : r < 4) (no : is_joined 3 (pair_of s r) ≡ false). are.apart
    (pair_of s r) from to no in
    let all : delays_of usual_delay (links_in 3 d all_pairs) 3 ≡ table_of (λ pair. hop_of d pair.sender pair.receiver) =
    rw (
      none 0 0 (lit< tt) (lit< tt) refl,
      none 0 3 (lit< tt) (lit< tt) refl,
      none 1 1 (lit< tt) (lit< tt) refl,
      none 1 3 (lit< tt) (lit< tt) refl,
      none 2 2 (lit< tt) (lit< tt) refl,
      none 2 3 (lit< tt) (lit< tt) refl,
      none 3 0 (lit< tt) (lit< tt) refl,
      none 3 1 (lit< tt) (lit< tt) refl,
      none 3 2 (lit< tt) (lit< tt) refl,
      none 3 3 (lit< tt) (lit< tt) refl,
    ) refl in
    all ∙ are.table

again-four : (d : Delays) → AreJobDelays 4 d → delays_of usual_delay (links_in 4 d all_pairs) 4 ≡ d
unfolding delays_of table_of
again-four d are =
    let none =
    λ (s r : ℕ) (from : s < 4) (to : r < 4) (no : is_joined 4 (pair_of s r) ≡ false). are.apart
    (pair_of s r) from to no in
    let all : delays_of usual_delay (links_in 4 d all_pairs) 4 ≡ table_of (λ pair. hop_of d pair.sender pair.receiver) =
    rw (
      none 0 0 (lit< tt) (lit< tt) refl,
      none 1 1 (lit< tt) (lit< tt) refl,
      none 2 2 (lit< tt) (lit< tt) refl,
      none 3 3 (lit< tt) (lit< tt) refl,
    ) refl in
    all ∙ are.table

-- the links of a log say the delays whose links they are
pub delays-again : (n : ℕ) (d : Delays) → 1 ≤ n → n ≤ 4 → AreJobDelays (players_for n) d
    → delays_of usual_delay (links_in (players_for n) d all_pairs) (players_for n) ≡ d
delays-again zero d some few are = absurd (omega (arith, some))
delays-again (suc zero) d some few are = again-two d are
delays-again (suc (suc zero)) d some few are = again-two d are
delays-again (suc (suc (suc zero))) d some few are = again-three d are
delays-again (suc (suc (suc (suc zero)))) d some few are = again-four d are
delays-again (suc (suc (suc (suc (suc n))))) d some few are = absurd (omega (arith, few))
