-- Lists of sent signals with the same members, and signals that are added one by one.
use Rattle.std.specs.Prelude.{true, ◌==◌, ◌&&◌, ◌||◌, nat_lt, List, [], ◌∷◌, length, All, Contains}
use Rattle.std.proofs.Common.{ℕ, zero, suc, ◌≡◌, ◌<◌, ◌⊎◌, inl, inr, arith, refl, sym, ◌∙◌, subst}
use Rattle.std.proofs.Common.{get_or}
use Rattle.std.proofs.lemmas.Bool.{cases_Bool}
use Rattle.std.proofs.lemmas.Bool.Decides.{nat_tests}
use Rattle.std.proofs.lemmas.List.Elements.{All-contains}
use Rattle.link_order.specs.declared.sent.Sent.{Sent}
use Rattle.link_order.specs.Order.{is_before, place_sent, clock_of, sender_of, IsOrdered, IsAdded}
use Rattle.link_order.proofs.Lists.{all_nil, all_cons, all_head, all_tail, all_map, pairs_nil, pairs_head, pairs_tail}
use Rattle.link_order.proofs.Places.{Apart, Comes, place_before, place_past, All-place, AllPairs-place}
use Rattle.link_trace.specs.Law.{AreAdded}

contains_head : (x : Sent) (xs : List Sent) → Contains (x ∷ xs) x
contains_head x xs = (0, omega arith, refl)

contains_tail : (y x : Sent) (xs : List Sent) → Contains xs x → Contains (y ∷ xs) x
contains_tail y x xs c = (suc c.0, omega (arith, c.1), c.2)

contains_cases : (y x : Sent) (xs : List Sent) → Contains (y ∷ xs) x → (y ≡ x) ⊎ Contains xs x
contains_cases y x xs (zero, below, is) = inl is
contains_cases y x xs (suc k, below, is) = inr (k, omega arith, is)

contains_none : (x : Sent) → Contains [] x → ⊥
contains_none x c = absurd (omega (arith, c.1))

-- no signal comes before itself, nor before one that comes before it
not_itself : (x : Sent) → Comes clock_of sender_of x x → ⊥
not_itself x e = irreflexive x.signal.clock x.sender e
  where
    irreflexive : (a b : ℕ) → (nat_lt a a || ((a == a) && nat_lt b b)) ≡ true → ⊥
    irreflexive a b e = grind (arith, nat_tests)

not_both : (x y : Sent) → Comes clock_of sender_of x y → Comes clock_of sender_of y x → ⊥
not_both x y e f = grind (arith, nat_tests)

-- two ordered lists with the same members are one
pub ordered_members : (xs ys : List Sent) → IsOrdered xs → IsOrdered ys → All (Contains ys) xs → All (Contains xs) ys
    → xs ≡ ys
ordered_members [] [] ox oy h k = refl
ordered_members [] (y ∷ ys) ox oy h k = absurd (contains_none y (all_head (Contains []) y ys k))
ordered_members (x ∷ xs) [] ox oy h k = absurd (contains_none x (all_head (Contains []) x xs h))
ordered_members (x ∷ xs) (y ∷ ys) ox oy h k =
    let R : Sent → Sent → Type 0 = Comes clock_of sender_of in
    let after_x = pairs_head R x xs ox in
    let after_y = pairs_head R y ys oy in
    let heads : x ≡ y = elim (contains_cases y x ys (all_head (Contains (y ∷ ys)) x xs h)) [
      | inl e ↦ sym e
      | inr there ↦ elim (contains_cases x y xs (all_head (Contains (x ∷ xs)) y ys k)) [
        | inl e ↦ e
        | inr here ↦ absurd (not_both x y (All-contains (R x) xs y after_x here)
            (All-contains (R y) ys x after_y there))
      ]
    ] in
    let rest : xs ≡ ys = ordered_members xs ys (pairs_tail R x xs ox) (pairs_tail R y ys oy)
    (λ n d below. elim (contains_cases y (get_or xs n d) ys (all_tail (Contains (y ∷ ys)) x xs h n d below)) [
      | inl e ↦ absurd (not_itself x (subst (R x) (sym e ∙ sym heads) (after_x n d below)))
      | inr there ↦ there
    ])
    (λ n d below. elim (contains_cases x (get_or ys n d) xs (all_tail (Contains (x ∷ xs)) y ys k n d below)) [
      | inl e ↦ absurd (not_itself y (subst (R y) (sym e ∙ heads) (after_y n d below)))
      | inr here ↦ here
    ]) in
    cc

-- a placed signal and the former members are those of the new list
place_contains : (x : Sent) (xs : List Sent) → Contains (place_sent x xs) x
place_contains x [] = contains_head x []
place_contains x (y ∷ ys) =
    elim (cases_Bool (is_before clock_of sender_of x y)) [
      | inl e ↦ rw (place_before clock_of sender_of x y ys e) (contains_head x (y ∷ ys))
      | inr e ↦ rw (place_past clock_of sender_of x y ys e) (contains_tail y x (place_sent x ys) (place_contains x ys))
    ]

place_keeps : (x z : Sent) (xs : List Sent) → Contains xs z → Contains (place_sent x xs) z
place_keeps x z [] c = absurd (contains_none z c)
place_keeps x z (y ∷ ys) c =
    elim (cases_Bool (is_before clock_of sender_of x y)) [
      | inl e ↦ rw (place_before clock_of sender_of x y ys e) (contains_tail x z (y ∷ ys) c)
      | inr e ↦ rw (place_past clock_of sender_of x y ys e) (elim (contains_cases y z ys c) [
        | inl is ↦ subst (Contains (y ∷ place_sent x ys)) is (contains_head y (place_sent x ys))
        | inr there ↦ contains_tail y z (place_sent x ys) (place_keeps x z ys there)
      ])
    ]

-- two members of an ordered list are one, or apart in clock or sender
members_apart : (all : List Sent) (x y : Sent) → IsOrdered all → Contains all x → Contains all y
    → (x ≡ y) ⊎ Apart clock_of sender_of x y
members_apart [] x y ordered cx cy = absurd (contains_none x cx)
members_apart (z ∷ zs) x y ordered cx cy =
    let R : Sent → Sent → Type 0 = Comes clock_of sender_of in
    let after_z = pairs_head R z zs ordered in
    elim (contains_cases z x zs cx) [
      | inl e ↦ elim (contains_cases z y zs cy) [
        | inl f ↦ inl (sym e ∙ f)
        | inr f ↦ inr (comes_apart x y (subst (λ (w : Sent). R w y) e (All-contains (R z) zs y after_z f)))
      ]
      | inr e ↦ elim (contains_cases z y zs cy) [
        | inl f ↦ inr (comes_back x y (subst (λ (w : Sent). R w x) f (All-contains (R z) zs x after_z e)))
        | inr f ↦ members_apart zs x y (pairs_tail R z zs ordered) e f
      ]
    ]
  where
    comes_apart : (a b : Sent) → is_before clock_of sender_of a b ≡ true → Apart clock_of sender_of a b
    comes_apart a b e = grind (arith, nat_tests)

    comes_back : (a b : Sent) → is_before clock_of sender_of b a ≡ true → Apart clock_of sender_of a b
    comes_back a b e = grind (arith, nat_tests)

-- a list that is gathered: in order, and of members of the whole
pub record Gathers (all found : List Sent) : Type 0 where
  pub ordered : IsOrdered found
  pub inside : All (Contains all) found

pub gathers_none : (all : List Sent) → Gathers all []
gathers_none all = record { ordered = pairs_nil (Comes clock_of sender_of); inside = all_nil (Contains all) }

-- one more member
pub record GathersMore (all found new : List Sent) (one : Sent) : Type 0 where
  pub gathers : Gathers all new
  pub there : Contains new one
  pub kept : (z : Sent) → Contains found z → Contains new z

pub gathers_added : (all found new : List Sent) (one : Sent) → IsOrdered all → Contains all one → Gathers all found
    → IsAdded one found new → GathersMore all found new one
gathers_added all found new one ordered is g (inl (same, there)) = record {
  gathers = subst (Gathers all) (sym same) g;
  there = subst (λ (l : List Sent). Contains l one) (sym same) there;
  kept = λ z c. subst (λ (l : List Sent). Contains l z) (sym same) c;
}
gathers_added all found new one ordered is g (inr (placed, fresh)) =
    let apart : All (Apart clock_of sender_of one) found
    = λ k d below. elim (members_apart all one (get_or found k d) ordered is (g.inside k d below)) [
      | inl e ↦ absurd (fresh (k, below, found_is found k d one below e))
      | inr other ↦ other
    ] in
    record {
      gathers = subst (Gathers all) (sym placed) (record {
        ordered = AllPairs-place clock_of sender_of one found apart g.ordered;
        inside = All-place clock_of sender_of (Contains all) one found is g.inside;
      });
      there = subst (λ (l : List Sent). Contains l one) (sym placed) (place_contains one found);
      kept = λ z c. subst (λ (l : List Sent). Contains l z) (sym placed) (place_keeps one z found c);
    }
  where
    found_is : (xs : List Sent) (k : ℕ) (d x : Sent) → k < length xs → x ≡ get_or xs k d → get_or xs k x ≡ x
    found_is [] k d x below e = absurd (omega arith)
    found_is (y ∷ ys) zero d x below e = sym e
    found_is (y ∷ ys) (suc k) d x below e = found_is ys k d x (omega arith) e

-- once every member was given, the list is the whole
pub gathers_all : (all found : List Sent) → IsOrdered all → Gathers all found → All (Contains found) all → found ≡ all
gathers_all all found ordered g whole = ordered_members found all g.ordered ordered g.inside whole

-- what a list of given signals leaves
record GathersGiven (all given found new : List Sent) : Type 0 where
  gathers : Gathers all new
  kept : (z : Sent) → Contains found z → Contains new z
  there : All (Contains new) given

gathers_given : (all given found new : List Sent) → IsOrdered all → All (Contains all) given → Gathers all found
    → AreAdded given found new → GathersGiven all given found new
gathers_given all [] found new ordered inside g same = record {
  gathers = subst (Gathers all) (sym same) g;
  kept = λ z c. subst (λ (l : List Sent). Contains l z) (sym same) c;
  there = all_nil (Contains new);
}
gathers_given all (one ∷ rest) found new ordered inside g (between, added, more) =
    let first = gathers_added all found between one ordered (all_head (Contains all) one rest inside) g added in
    let last = gathers_given all rest between new ordered (all_tail (Contains all) one rest inside) first.gathers
    more in
    record {
      gathers = last.gathers;
      kept = λ z c. last.kept z (first.kept z c);
      there = all_cons (Contains new) one rest (last.kept one first.there) last.there;
    }

pub gathered : (all given new : List Sent) → IsOrdered all → All (Contains all) given → All (Contains given) all
    → AreAdded given [] new → new ≡ all
gathered all given new ordered inside whole added =
    let g = gathers_given all given [] new ordered inside (gathers_none all) added in
    gathers_all all new ordered g.gathers
    (all_map (Contains given) (Contains new) all (λ z c. All-contains (Contains new) given z g.there c) whole)
