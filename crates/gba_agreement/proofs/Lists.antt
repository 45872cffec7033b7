-- Lists in order, around one of their elements.
use Rattle.std.specs.Prelude.{All, AllPairs}
use Rattle.std.proofs.Common.{◌≡◌, List, [], ◌∷◌, ◌++◌, sym, ap, subst, inl, inr, arith}
use Rattle.link_node.specs.Due.{InOrder, Precedes}
use Rattle.link_node.specs.declared.signal.Incoming.{Incoming}
use Rattle.link_order.proofs.Lists.{all_cons, all_head, all_nil, all_tail, pairs_head, pairs_tail}
use Rattle.link_steps.specs.Law.{StandsIn}

pub all-here : {X : Type 0} (P : X → Type 0) (xs : List X) (y : X) (ys : List X) → All P (xs ++ y ∷ ys) → P y
all-here P [] y ys all = all_head P y ys all
all-here P (x ∷ xs) y ys all = all-here P xs y ys (all_tail P x (xs ++ y ∷ ys) all)

pub all-after : {X : Type 0} (P : X → Type 0) (xs : List X) (y : X) (ys : List X) → All P (xs ++ y ∷ ys) → All P ys
all-after P [] y ys all = all_tail P y ys all
all-after P (x ∷ xs) y ys all = all-after P xs y ys (all_tail P x (xs ++ y ∷ ys) all)

pub pairs-before : {X : Type 0} (R : X → X → Type 0) (xs : List X) (y : X) (ys : List X) → AllPairs R (xs ++ y ∷ ys)
    → All (λ x. R x y) xs
pairs-before R [] y ys pairs = all_nil (λ x. R x y)
pairs-before R (x ∷ xs) y ys pairs =
    all_cons (λ z. R z y) x xs (all-here (R x) xs y ys (pairs_head R x (xs ++ y ∷ ys) pairs))
    (pairs-before R xs y ys (pairs_tail R x (xs ++ y ∷ ys) pairs))

pub pairs-after : {X : Type 0} (R : X → X → Type 0) (xs : List X) (y : X) (ys : List X) → AllPairs R (xs ++ y ∷ ys)
    → All (R y) ys
pairs-after R [] y ys pairs = pairs_head R y ys pairs
pairs-after R (x ∷ xs) y ys pairs = pairs-after R xs y ys (pairs_tail R x (xs ++ y ∷ ys) pairs)

pub pairs-rest : {X : Type 0} (R : X → X → Type 0) (xs : List X) (y : X) (ys : List X) → AllPairs R (xs ++ y ∷ ys)
    → AllPairs R ys
pairs-rest R [] y ys pairs = pairs_tail R y ys pairs
pairs-rest R (x ∷ xs) y ys pairs = pairs-rest R xs y ys (pairs_tail R x (xs ++ y ∷ ys) pairs)

-- no signal comes before itself, and no two before each other
not-before : (a b : Incoming) → Precedes a b → Precedes b a → ⊥
not-before a b (inl h) (inl k) = omega (arith, h, k)
not-before a b (inl h) (inr k) = omega (arith, h, k.0)
not-before a b (inr h) (inl k) = omega (arith, h.0, k)
not-before a b (inr h) (inr k) = omega (arith, h.1, k.1)

-- the heads and the tails of two equal lists
abbrev first-of : Incoming → List Incoming → Incoming
first-of d [] = d
first-of d (x ∷ xs) = x

abbrev rest-of : List Incoming → List Incoming
rest-of [] = []
rest-of (x ∷ xs) = xs

-- what comes after one of a list stands behind it
pub stands-after : (xs : List Incoming) (one : Incoming) (later earlier : List Incoming) (other : Incoming)
    (rest : List Incoming) → xs ++ one ∷ later ≡ earlier ++ other ∷ rest → InOrder (xs ++ one ∷ later)
    → Precedes one other → StandsIn other later
stands-after [] one later [] other rest same order before =
    let is : one ≡ other = ap (first-of one) same in
    absurd (not-before one other before (subst (λ z. Precedes z one) is (subst (λ z. Precedes one z) (sym is) before)))
stands-after [] one later (e ∷ earlier) other rest same order before =
    record { earlier = earlier; later = rest; split = ap rest-of same }
stands-after (x ∷ xs) one later [] other rest same order before =
    let is : x ≡ other = ap (first-of x) same in
    let there : Precedes x one = all-here (Precedes x) xs one later (pairs_head Precedes x (xs ++ one ∷ later) order) in
    absurd (not-before one other before (subst (λ z. Precedes z one) is there))
stands-after (x ∷ xs) one later (e ∷ earlier) other rest same order before =
    stands-after xs one later earlier other rest (ap rest-of same) (pairs_tail Precedes x (xs ++ one ∷ later) order)
    before
