-- The signals of one player in the list of all.
use Rattle.std.specs.Prelude.{true, false, List, [], ◌∷◌, ◌++◌, All, ◌==◌, if◌then◌else◌}
use Rattle.std.proofs.Common.{ℕ, ◌≡◌, ◌≢◌, ◌<◌, inl, inr, arith, refl, sym, ap, ◌∙◌, get_or}
use Rattle.std.proofs.lemmas.Bool.Decides.{nat_tests}
use Rattle.std.proofs.lemmas.Bool.{cases_Bool}
use Rattle.link_node.specs.declared.signal.Signal.{Signal}
use Rattle.link_order.specs.declared.sent.Sent.{Sent}
use Rattle.link_order.specs.Order.{is_before, place_sent, clock_of, sender_of, IsOrdered, from}
use Rattle.link_order.proofs.Numbers.{same_or_apart}
use Rattle.link_order.proofs.Lists.{all_cons, all_head, all_tail, pairs_head, pairs_tail}
use Rattle.link_order.proofs.Places.{Comes, place_before, place_past}

test_same : (i : ℕ) → (i == i) ≡ true
test_same i = grind (arith, nat_tests)

test_apart : (i j : ℕ) → i ≢ j → (i == j) ≡ false
test_apart i j apart = grind (arith, nat_tests)

pub from_own : (j : ℕ) (one : Sent) (rest : List Sent) → one.sender ≡ j → from j (one ∷ rest) ≡ one.signal ∷ from j rest
from_own j one rest e =
    let t : (one.sender == j) ≡ true = rw e (test_same j) in
    ap (λ b. if b then one.signal ∷ from j rest else from j rest) t

pub from_other : (j : ℕ) (one : Sent) (rest : List Sent) → one.sender ≢ j → from j (one ∷ rest) ≡ from j rest
from_other j one rest e = ap (λ b. if b then one.signal ∷ from j rest else from j rest) (test_apart one.sender j e)

pub from-append : (j : ℕ) (xs ys : List Sent) → from j (xs ++ ys) ≡ from j xs ++ from j ys
from-append j [] ys = refl
from-append j (x ∷ xs) ys =
    elim (same_or_apart x.sender j) [
      | inl e ↦ from_own j x (xs ++ ys) e ∙ ap (λ (t : List Signal). x.signal ∷ t) (from-append j xs ys)
          ∙ sym (ap (λ (t : List Signal). t ++ from j ys) (from_own j x xs e))
      | inr e ↦ from_other j x (xs ++ ys) e ∙ from-append j xs ys
          ∙ sym (ap (λ (t : List Signal). t ++ from j ys) (from_other j x xs e))
    ]

pub from_none : (j : ℕ) (xs : List Sent) → All (λ (one : Sent). one.sender ≢ j) xs → from j xs ≡ []
from_none j [] h = refl
from_none j (x ∷ xs) h =
    from_other j x xs (all_head (λ (one : Sent). one.sender ≢ j) x xs h)
    ∙ from_none j xs (all_tail (λ (one : Sent). one.sender ≢ j) x xs h)

pub from-place_other : (j : ℕ) (one : Sent) (xs : List Sent) → one.sender ≢ j → from j (place_sent one xs) ≡ from j xs
from-place_other j one [] e = from_other j one [] e
from-place_other j one (x ∷ xs) e =
    elim (cases_Bool (is_before clock_of sender_of one x)) [
      | inl b ↦ ap (from j) (place_before clock_of sender_of one x xs b) ∙ from_other j one (x ∷ xs) e
      | inr b ↦ ap (from j) (place_past clock_of sender_of one x xs b) ∙ elim (same_or_apart x.sender j) [
        | inl own ↦ from_own j x (place_sent one xs) own
            ∙ ap (λ (t : List Signal). x.signal ∷ t) (from-place_other j one xs e) ∙ sym (from_own j x xs own)
        | inr other ↦ from_other j x (place_sent one xs) other ∙ from-place_other j one xs e
            ∙ sym (from_other j x xs other)
      ]
    ]

-- each signal of player j in the list has a clock below this
abbrev pub OwnBelow : ℕ → ℕ → Sent → Type 0
OwnBelow j clock one = one.sender ≡ j → one.signal.clock < clock

later_other : (one x : Sent) (clock : ℕ) → one.signal.clock ≡ clock → is_before clock_of sender_of one x ≡ true
    → OwnBelow one.sender clock x → x.sender ≢ one.sender
later_other one x clock is b own e = let h = own e in grind (arith, nat_tests)

before_trans : (a b c : Sent) → is_before clock_of sender_of a b ≡ true → is_before clock_of sender_of b c ≡ true
    → is_before clock_of sender_of a c ≡ true
before_trans a b c h k = grind (arith, nat_tests)

-- a signal that is later than all of its sender's joins them at their end
pub from-place_own : (one : Sent) (xs : List Sent) → IsOrdered xs → All (OwnBelow one.sender one.signal.clock) xs
    → from one.sender (place_sent one xs) ≡ from one.sender xs ++ one.signal ∷ []
from-place_own one [] ordered own = from_own one.sender one [] refl
from-place_own one (x ∷ xs) ordered own =
    let j : ℕ = one.sender in
    let c : ℕ = one.signal.clock in
    elim (cases_Bool (is_before clock_of sender_of one x)) [
      | inl b ↦
          let rest : All (λ (y : Sent). y.sender ≢ j) xs
          = λ k d below. later_other one (get_or xs k d) c refl
          (before_trans one x (get_or xs k d) b (pairs_head (Comes clock_of sender_of) x xs ordered k d below))
          (all_tail (OwnBelow j c) x xs own k d below) in
          let none = from_none j (x ∷ xs)
          (all_cons (λ (y : Sent). y.sender ≢ j) x xs
          (later_other one x c refl b (all_head (OwnBelow j c) x xs own)) rest) in
          ap (from j) (place_before clock_of sender_of one x xs b) ∙ from_own j one (x ∷ xs) refl
          ∙ ap (λ (t : List Signal). one.signal ∷ t) none ∙ sym (ap (λ (t : List Signal). t ++ one.signal ∷ []) none)
      | inr b ↦
          let ih = from-place_own one xs (pairs_tail (Comes clock_of sender_of) x xs ordered)
          (all_tail (OwnBelow j c) x xs own) in
          ap (from j) (place_past clock_of sender_of one x xs b) ∙ elim (same_or_apart x.sender j) [
            | inl e ↦ from_own j x (place_sent one xs) e ∙ ap (λ (t : List Signal). x.signal ∷ t) ih
                ∙ sym (ap (λ (t : List Signal). t ++ one.signal ∷ []) (from_own j x xs e))
            | inr e ↦ from_other j x (place_sent one xs) e ∙ ih
                ∙ sym (ap (λ (t : List Signal). t ++ one.signal ∷ []) (from_other j x xs e))
          ]
    ]
