-- Signals that are added to a list.
use Rattle.std.specs.Prelude.{List, [], ◌∷◌, length, All, Contains, Some, slice_get}
use Rattle.std.proofs.Common.{ℕ, zero, suc, ◌≡◌, ◌<◌, ◌≤◌, ◌⊎◌, inl, inr, arith, sym, ◌∙◌, subst, get_or}
use Rattle.std.proofs.lemmas.Bool.Decides.{nat_tests}
use Rattle.std.proofs.lemmas.List.Elements.{All-contains}
use Rattle.link_node.specs.declared.signal.Incoming.{Incoming}
use Rattle.link_order.specs.declared.sent.Sent.{Sent}
use Rattle.link_order.specs.Order.{IsOrdered, IsAdded, clock_of, sender_of}
use Rattle.link_order.proofs.Lists.{all_cons, all_head, all_tail, pairs_head, pairs_tail}
use Rattle.link_order.proofs.Places.{Comes}
use Rattle.link_trace.proofs.Gatherings.{gathers_added}
use Rattle.link_run.specs.Adding.{IsPart, Adding, Adds, MayAdd, as_sent, IsWaiting}

-- two signals don't come before one another
not_both : (x y : Sent) → Comes clock_of sender_of x y → Comes clock_of sender_of y x → ⊥
not_both x y e f = grind (arith, nat_tests)

not_itself : (x : Sent) → Comes clock_of sender_of x x → ⊥
not_itself x e = not_both x x e e

holds_cases : (y x : Sent) (xs : List Sent) → Contains (y ∷ xs) x → (y ≡ x) ⊎ Contains xs x
holds_cases y x xs (zero, below, is) = inl is
holds_cases y x xs (suc k, below, is) = inr (k, omega arith, is)

-- where the first of an ordered list is left out, all that come after another member are in the rest
behind : (y x : Sent) (ys zs : List Sent) → All (Comes clock_of sender_of x) zs → All (Contains (y ∷ ys)) zs
    → (y ≡ x) ⊎ Comes clock_of sender_of y x → All (Contains ys) zs
behind y x ys zs after inside first n d below =
    let z : Sent = get_or zs n d in
    let later : Comes clock_of sender_of x z = after n d below in
    elim (holds_cases y z ys (inside n d below)) [
      | inr there ↦ there
      | inl e ↦ elim first [
        | inl same ↦ absurd (not_itself x (subst (Comes clock_of sender_of x) (sym e ∙ same) later))
        | inr before ↦ absurd (not_both x z later (subst (λ (a : Sent). Comes clock_of sender_of a x) e before))
      ]
    ]

-- a part of an ordered list isn't longer
pub part_length : (all found : List Sent) → IsOrdered all → IsOrdered found → All (Contains all) found
    → length found ≤ length all
part_length [] [] oa of inside = omega arith
part_length [] (x ∷ xs) oa of inside =
    let c = all_head (Contains []) x xs inside in
    absurd (omega (arith, c.1))
part_length (y ∷ ys) [] oa of inside = omega arith
part_length (y ∷ ys) (x ∷ xs) oa of inside =
    let R : Sent → Sent → Type 0 = Comes clock_of sender_of in
    let after_y = pairs_head R y ys oa in
    let after_x = pairs_head R x xs of in
    let rest_y = pairs_tail R y ys oa in
    let rest = all_tail (Contains (y ∷ ys)) x xs inside in
    elim (holds_cases y x ys (all_head (Contains (y ∷ ys)) x xs inside)) [
      | inl same ↦
          omega (arith, part_length ys xs rest_y (pairs_tail R x xs of) (behind y x ys xs after_x rest (inl same)))
      | inr there ↦
          let before : R y x = All-contains (R y) ys x after_y there in
          omega (
            arith,
            part_length ys (x ∷ xs) rest_y of
                (all_cons (Contains ys) x xs there (behind y x ys xs after_x rest (inr before))),
          )
    ]

-- nothing was added
pub adding_none : (P Q : Sent → Type 0) (old : List Sent) → ((one : Sent) → Q one → ⊥) → Adding P Q old old
adding_none P Q old none = record {
  kept = λ one c. c;
  there = λ one q. absurd (none one q);
  part = λ all ordered inside h. h;
}

-- what was added and what is added after it
pub adding_more : (P Q R S : Sent → Type 0) (old mid new : List Sent) → Adding P Q old mid → Adds S mid new
    → ((one : Sent) → S one → P one) → ((one : Sent) → R one → Q one ⊎ S one) → Adding P R old new
adding_more P Q R S old mid new a b sub cases = record {
  kept = λ one c. b.kept one (a.kept one c);
  there = λ one r. elim (cases one r) [ inl q ↦ b.kept one (a.there one q) | inr s ↦ b.there one s ];
  part = λ all ordered inside h.
      b.part all ordered (λ one s. inside one (sub one s)) (a.part all ordered inside h);
}

-- the same of one signal
pub adding_one : (P Q R : Sent → Type 0) (old mid new : List Sent) (one : Sent) → MayAdd P old → Adding P Q old mid
    → IsAdded one mid new → P one → ((other : Sent) → R other → Q other ⊎ (other ≡ one)) → Adding P R old new
adding_one P Q R old mid new one may a added is cases =
    let here = a.part may.all may.ordered may.inside may.part in
    let more = gathers_added may.all mid new one may.ordered (may.inside one is)
    (record { ordered = here.ordered; inside = here.inside }) added in
    record {
      kept = λ z c. more.kept z (a.kept z c);
      there = λ z r. elim (cases z r)
          [ inl q ↦ more.kept z (a.there z q) | inr e ↦ subst (Contains new) (sym e) more.there ];
      part = λ all ordered inside h.
          let p = a.part all ordered inside h in
          let m = gathers_added all mid new one ordered (inside one is)
          (record { ordered = p.ordered; inside = p.inside }) added in
          record { ordered = m.gathers.ordered; inside = m.gathers.inside };
    }

-- the list stayed as it was
pub adding_same : (P Q R : Sent → Type 0) (old mid new : List Sent) → Adding P Q old mid → new ≡ mid
    → ((one : Sent) → R one → Q one) → Adding P R old new
adding_same P Q R old mid new a same sub = record {
  kept = λ one c. subst (λ (l : List Sent). Contains l one) (sym same) (a.kept one c);
  there = λ one r. subst (λ (l : List Sent). Contains l one) (sym same) (a.there one (sub one r));
  part = λ all ordered inside h. subst (IsPart all) (sym same) (a.part all ordered inside h);
}

-- there is room for one more
pub adding_room : (P Q : Sent → Type 0) (old mid : List Sent) → MayAdd P old → Adding P Q old mid → length mid < 16384
adding_room P Q old mid may a =
    let here = a.part may.all may.ordered may.inside may.part in
    omega (arith, may.few, part_length may.all mid may.ordered here.ordered here.inside)

-- and more of the signals may be added
pub may_after : (P Q S : Sent → Type 0) (old mid : List Sent) → MayAdd P old → Adding P Q old mid
    → ((one : Sent) → S one → P one) → MayAdd S mid
may_after P Q S old mid may a sub = record {
  all = may.all;
  ordered = may.ordered;
  few = may.few;
  part = a.part may.all may.ordered may.inside may.part;
  inside = λ one s. may.inside one (sub one s);
  fit = λ one s. may.fit one (sub one s);
}

-- fewer signals may be added too
pub may_sub : (P S : Sent → Type 0) (old : List Sent) → MayAdd P old → ((one : Sent) → S one → P one) → MayAdd S old
may_sub P S old may sub = record {
  all = may.all;
  ordered = may.ordered;
  few = may.few;
  part = may.part;
  inside = λ one s. may.inside one (sub one s);
  fit = λ one s. may.fit one (sub one s);
}

-- the same signals in other words
pub adds_as : (P R : Sent → Type 0) (old new : List Sent) → Adds P old new → ((one : Sent) → P one → R one)
    → ((one : Sent) → R one → P one) → Adds R old new
adds_as P R old new a to from_other = record {
  kept = a.kept;
  there = λ one r. a.there one (from_other one r);
  part = λ all ordered inside h. a.part all ordered (λ one p. inside one (to one p)) h;
}

-- of the signals that wait those before a place
pub record WaitsBefore (waits : List Incoming) (count : ℕ) (one : Sent) : Type 0 where
  pub place : ℕ
  pub other : Incoming
  pub below : place < count
  pub is : one ≡ as_sent (get_or waits place other)

-- of the lists of signals that wait those before a place
pub record WaitsInFirst (all : List (List Incoming)) (count : ℕ) (one : Sent) : Type 0 where
  pub place : ℕ
  pub waits : List Incoming
  pub below : place < count
  pub stands : slice_get all place ≡ Some waits
  pub waiting : IsWaiting waits one
