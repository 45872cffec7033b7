-- The test of a whole cut is what a whole cut is.
use Rattle.std.proofs.Common.{◌≡◌, ◌≢◌, ℕ, zero, suc, Bool, true, false, List, [], ◌∷◌, ◌+◌, ◌<◌, ◌≤◌, ◌==◌, inl, inr, arith, refl, rules, sym, subst, IsTrue}
use Rattle.std.specs.Prelude.{◌&&◌, slice_index, map}
use Rattle.std.proofs.lemmas.Bool.{cases_Bool}
use Rattle.std.proofs.lemmas.Bool.Decides.{nat_tests}
use Rattle.std.proofs.lemmas.List.Kept.{AllPairs-cons}
use Rattle.std.proofs.lemmas.List.Sums.{AllPass-from_list_all, list_all-from_AllPass}
use Rattle.link_node.specs.Delays.{hop_of}
use Rattle.link_order.proofs.Lists.{all_cons, all_head, all_map, pairs_head, pairs_nil, pairs_tail}
use Rattle.link_order.specs.declared.sent.Sent.{Sent}
use Rattle.link_order.specs.Cut.{Cut, IsSoundSignal, count, is_awaited}
use Rattle.link_order.specs.NodeKind.{NodeKind}
use Rattle.link_order.specs.Order.{IsOrdered, is_before, clock_of, sender_of}
use Rattle.link_core.specs.Whole.{IsWhole, all_below, is_allowed, is_behind, is_near, is_ordered, is_paced, is_sound_signal, is_whole_by}

both : (a b : Bool) → (a && b) ≡ true → (a ≡ true) × (b ≡ true)
both a b = search rules

and : (a b : Bool) → a ≡ true → b ≡ true → (a && b) ≡ true
and a b = search rules

equal : (a b : ℕ) → (a == b) ≡ true → a ≡ b
equal a b e = search (nat_tests, arith)

lower : (a b : ℕ) → (a == b) ≡ false → a < suc b → a < b
lower a b e p = search (nat_tests, arith)

-- ---- something holds of each number below another

below-each : (test : ℕ → Bool) (n : ℕ) → all_below test n ≡ true → (i : ℕ) → i < n → test i ≡ true
below-each test zero e i p = absurd (omega (arith, p))
below-each test (suc n) e i p =
    let parts = both (test n) (all_below test n) e in
    elim (cases_Bool (i == n)) [
      | inl same ↦ subst (λ (k : ℕ). test k ≡ true) (sym (equal i n same)) parts.0
      | inr other ↦ below-each test n parts.1 i (lower i n other p)
    ]

each-below : (test : ℕ → Bool) (n : ℕ) → ((i : ℕ) → i < n → test i ≡ true) → all_below test n ≡ true
each-below test zero each = refl
each-below test (suc n) each =
    and (test n) (all_below test n) (each n (omega arith)) (each-below test n (λ i p. each i (omega (arith, p))))

-- ---- signals in their order

before-then : (a b c : Sent) → IsTrue (is_before clock_of sender_of a b) → IsTrue (is_before clock_of sender_of b c)
    → IsTrue (is_before clock_of sender_of a c)
before-then a b c = search (nat_tests, arith)

abbrev Behind : Sent → Sent → Type 0
Behind one other = IsTrue (is_before clock_of sender_of one other)

behind-ordered : (one : Sent) (rest : List Sent) → is_behind one rest ≡ true → IsOrdered (one ∷ rest)
behind-ordered one [] e = AllPairs-cons Behind one [] (λ k d below. absurd (omega (arith, below))) (pairs_nil Behind)
behind-ordered one (next ∷ rest) e =
    let parts = both (is_before clock_of sender_of one next) (is_behind next rest) e in
    let later : IsOrdered (next ∷ rest) = behind-ordered next rest parts.1 in
    AllPairs-cons Behind one (next ∷ rest)
    (all_cons (Behind one) next rest parts.0
    (all_map (Behind next) (Behind one) rest (λ x r. before-then one next x parts.0 r)
    (pairs_head Behind next rest later)))
    later

ordered-behind : (one : Sent) (rest : List Sent) → IsOrdered (one ∷ rest) → is_behind one rest ≡ true
ordered-behind one [] ordered = refl
ordered-behind one (next ∷ rest) ordered =
    and (is_before clock_of sender_of one next) (is_behind next rest)
    (all_head (Behind one) next rest (pairs_head Behind one (next ∷ rest) ordered))
    (ordered-behind next rest (pairs_tail Behind one (next ∷ rest) ordered))

ordered-is : (sent : List Sent) → (is_ordered sent ≡ true → IsOrdered sent) × (IsOrdered sent → is_ordered sent ≡ true)
ordered-is [] = ((λ e. pairs_nil Behind), (λ o. refl))
ordered-is (one ∷ rest) = (behind-ordered one rest, ordered-behind one rest)

-- ---- the cut

near-both : (between : ℕ → ℕ → ℕ) (clock was : ℕ → ℕ) (i j : ℕ) → i ≢ j → is_near between clock was i j ≡ true
    → (clock i < clock j + between j i + 512) × (was i < clock j + between j i)
near-both between clock was i j apart e = search (nat_tests, arith, apart)

near-from : (between : ℕ → ℕ → ℕ) (clock was : ℕ → ℕ) (i j : ℕ)
    → (i ≢ j → clock i < clock j + between j i + 512) → (i ≢ j → was i < clock j + between j i)
    → is_near between clock was i j ≡ true
near-from between clock was i j ahead in_time = search (nat_tests, arith)

paced-both : (clock was : ℕ → ℕ) (i : ℕ) → is_paced clock was i ≡ true → (was i ≤ clock i) × (clock i ≤ was i + 512)
paced-both clock was i e = search (nat_tests, arith)

paced-from : (clock was : ℕ → ℕ) (i : ℕ) → was i ≤ clock i → clock i ≤ was i + 512 → is_paced clock was i ≡ true
paced-from clock was i begun short = search (nat_tests, arith)

allowed-at : (between : ℕ → ℕ → ℕ) (clock : ℕ → ℕ) (one : Sent) (i : ℕ) → i ≢ one.sender
    → is_allowed between clock one i ≡ true → one.signal.clock < clock i + between i one.sender
allowed-at between clock one i apart e = search (nat_tests, arith, apart)

allowed-from : (between : ℕ → ℕ → ℕ) (clock : ℕ → ℕ) (one : Sent) (i : ℕ)
    → (i ≢ one.sender → one.signal.clock < clock i + between i one.sender) → is_allowed between clock one i ≡ true
allowed-from between clock one i allowed = search (nat_tests, arith)

sound-from : (between : ℕ → ℕ → ℕ) (clock : ℕ → ℕ) (n : ℕ) (one : Sent) → is_sound_signal between clock n one ≡ true
    → (one.sender < n) × (one.signal.clock < clock one.sender) × (all_below (is_allowed between clock one) n ≡ true)
sound-from between clock n one e = search (nat_tests, arith, rules)

to-sound : (between : ℕ → ℕ → ℕ) (clock : ℕ → ℕ) (n : ℕ) (one : Sent) → one.sender < n
    → one.signal.clock < clock one.sender
    → all_below (is_allowed between clock one) n ≡ true → is_sound_signal between clock n one ≡ true
to-sound between clock n one player sent allowed = search (nat_tests, arith, rules)

module _ {C : Type 0} (kind : NodeKind C) (cut : Cut C) where
  tested-signal : (one : Sent) → is_sound_signal (hop_of cut.delays) (slice_index (map kind.clock cut.consoles))
      (count cut) one ≡ true
      → IsSoundSignal kind cut one
  tested-signal one e =
      let parts = sound-from (hop_of cut.delays) (slice_index (map kind.clock cut.consoles)) (count cut) one e in
      record {
        from_player = parts.0;
        sent_before = parts.1;
        allowed = λ i p apart. allowed-at (hop_of cut.delays) (slice_index (map kind.clock cut.consoles)) one i apart
            (below-each (is_allowed (hop_of cut.delays) (slice_index (map kind.clock cut.consoles)) one)
            (count cut) parts.2 i p);
      }

  signal-tested : (one : Sent) → IsSoundSignal kind cut one
      → is_sound_signal (hop_of cut.delays) (slice_index (map kind.clock cut.consoles)) (count cut) one ≡ true
  signal-tested one sound =
      to-sound (hop_of cut.delays) (slice_index (map kind.clock cut.consoles))
      (count cut) one sound.from_player sound.sent_before
      (each-below (is_allowed (hop_of cut.delays) (slice_index (map kind.clock cut.consoles)) one) (count cut)
      (λ i p. allowed-from (hop_of cut.delays) (slice_index (map kind.clock cut.consoles)) one i (sound.allowed i p)))

  pub tested-whole : is_whole_by (hop_of cut.delays) (slice_index (map kind.clock cut.consoles))
      (slice_index (map kind.was cut.consoles)) (count cut) cut.sent ≡ true → IsWhole kind cut
  tested-whole e =
      let between = hop_of cut.delays in
      let clock = slice_index (map kind.clock cut.consoles) in
      let was = slice_index (map kind.was cut.consoles) in
      let ordered = both _ _ e in
      let live = both _ _ ordered.0 in
      let sound = both _ _ live.0 in
      let near = both _ _ sound.0 in
      let pair : (i j : ℕ) → i < count cut → j < count cut → i ≢ j
      → (clock i < clock j + between j i + 512) × (was i < clock j + between j i)
      = λ i j p q apart. near-both between clock was i j apart
      (below-each (is_near between clock was i) (count cut)
      (below-each (λ i. all_below (is_near between clock was i) (count cut)) (count cut) near.1 i p) j q) in
      record {
        sound = record {
          near = λ i j p q apart. (pair i j p q apart).0;
          begun = λ i p. (paced-both clock was i (below-each (is_paced clock was) (count cut) near.0 i p)).0;
          short = λ i p. (paced-both clock was i (below-each (is_paced clock was) (count cut) near.0 i p)).1;
          signals = all_map _ _ cut.sent tested-signal
              (AllPass-from_list_all (is_sound_signal between clock (count cut)) cut.sent sound.1);
          ordered = (ordered-is cut.sent).0 ordered.1;
        };
        live = AllPass-from_list_all (is_awaited between was (count cut)) cut.sent live.1;
        in_time = λ i j p q apart. (pair i j p q apart).1;
      }

  pub whole-tested : IsWhole kind cut → is_whole_by (hop_of cut.delays) (slice_index (map kind.clock cut.consoles))
      (slice_index (map kind.was cut.consoles)) (count cut) cut.sent ≡ true
  whole-tested whole =
      let between = hop_of cut.delays in
      let clock = slice_index (map kind.clock cut.consoles) in
      let was = slice_index (map kind.was cut.consoles) in
      let paced = each-below (is_paced clock was) (count cut)
      (λ i p. paced-from clock was i (whole.sound.begun i p) (whole.sound.short i p)) in
      let near = each-below (λ i. all_below (is_near between clock was i) (count cut)) (count cut)
      (λ i p. each-below (is_near between clock was i) (count cut)
      (λ j q. near-from between clock was i j (whole.sound.near i j p q) (whole.in_time i j p q))) in
      let sound = list_all-from_AllPass (is_sound_signal between clock (count cut)) cut.sent
      (all_map _ _ cut.sent signal-tested whole.sound.signals) in
      let live = list_all-from_AllPass (is_awaited between was (count cut)) cut.sent whole.live in
      and _ _ (and _ _ (and _ _ (and _ _ paced near) sound) live) ((ordered-is cut.sent).1 whole.sound.ordered)
