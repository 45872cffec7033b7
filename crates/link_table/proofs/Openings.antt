-- The words of a table at the opening, its limit and its seats.
use Rattle.std.specs.Prelude.{List, [], ◌∷◌, length, map, slice_index}
use Rattle.std.proofs.Common.{ℕ, ◌≡◌, ◌≢◌, ◌+◌, ◌<◌, ◌≤◌, ◌^◌, arith, refl, sym, ap, ◌∙◌, subst, set, inl, inr, zero, suc, ◌⊎◌, get_or}
use Rattle.std.proofs.lemmas.List.{length-set, get_or-set_same, get_or-set_other}
use Rattle.link_order.proofs.Numbers.{same_or_apart}
use Rattle.link_rule.specs.Words.{clock_place}
use Rattle.link_table.specs.Opening.{IsLeast, HasClocks}

-- the least of the first `count` numbers, and of one more
pub record IsLeastBelow (numbers : List ℕ) (least count : ℕ) : Type 0 where
  pub none_below : (i : ℕ) → i < count → least ≤ slice_index numbers i
  pub place : ℕ
  pub within : place < length numbers
  pub one_of : slice_index numbers place ≡ least
  pub small : least ≤ 2 ^ 39

pub least_of_all : (numbers : List ℕ) (least count : ℕ) → length numbers ≤ count → IsLeastBelow numbers least count
    → IsLeast numbers least
least_of_all numbers least count past h = record {
  none_below = λ i below. h.none_below i (omega arith);
  place = h.place;
  within = h.within;
  one_of = h.one_of;
}

-- one clock more is written
pub clock_written : (clocks words : List ℕ) (i clock : ℕ) → i < 4 → clock ≡ slice_index clocks i → clock < 2 ^ 40
    → HasClocks clocks words i → HasClocks clocks (set words (clock_place i) clock) (i + 1)
clock_written clocks words i clock few is small h =
    let wide : length words ≡ 32772 = h.wide in
    record {
      wide = length-set words (clock_place i) clock ∙ h.wide;
      clock_is = λ k below.
          elim (same_or_apart k i) [
            | inl e ↦
                ap (λ (n : ℕ). slice_index (set words (clock_place i) clock) (clock_place n)) e
                ∙ get_or-set_same words (clock_place i) clock 0 (omega arith) ∙ is ∙ ap (slice_index clocks) (sym e)
            | inr n ↦
                get_or-set_other words (clock_place i) (clock_place k) clock 0 (λ e. n (omega arith))
                ∙ h.clock_is k (let a : k ≢ i = n in omega arith)
          ];
      small = λ k below.
          elim (same_or_apart k i) [
            | inl e ↦ subst (λ (n : ℕ). n < 2 ^ 40) (is ∙ ap (slice_index clocks) (sym e)) small
            | inr n ↦ h.small k (let a : k ≢ i = n in omega arith)
          ];
    }

-- a number of one element of a list
pub read_map : {X : Type 0} (f : X → ℕ) (xs : List X) (i : ℕ) (d : X) → i < length xs
    → slice_index (map f xs) i ≡ f (get_or xs i d)
read_map f [] i d below = absurd (omega arith)
read_map f (x ∷ xs) zero d below = refl
read_map f (x ∷ xs) (suc i) d below = read_map f xs i d (omega arith)

-- one number more is looked at
pub least_more : (numbers : List ℕ) (least number new i : ℕ) → i < length numbers → number ≡ slice_index numbers i
    → number ≤ 2 ^ 39 → ((number < least) × (new ≡ number)) ⊎ ((least ≤ number) × (new ≡ least))
    → IsLeastBelow numbers least i → IsLeastBelow numbers new (i + 1)
least_more numbers least number new i below is small cases h =
    elim cases [
      | inl t ↦ record {
        none_below = λ k less.
            elim (same_or_apart k i) [
              | inl e ↦
                  let a : slice_index numbers k ≡ number = ap (slice_index numbers) e ∙ sym is in
                  omega (arith, t.1)
              | inr n ↦
                  let a : least ≤ slice_index numbers k = h.none_below k (let b : k ≢ i = n in omega arith) in
                  omega (arith, t.0, t.1)
            ];
        place = i;
        within = below;
        one_of = sym is ∙ sym t.1;
        small = omega (arith, t.1);
      }
      | inr t ↦ record {
        none_below = λ k less.
            elim (same_or_apart k i) [
              | inl e ↦
                  let a : slice_index numbers k ≡ number = ap (slice_index numbers) e ∙ sym is in
                  omega (arith, t.0, t.1)
              | inr n ↦
                  let a : least ≤ slice_index numbers k = h.none_below k (let b : k ≢ i = n in omega arith) in
                  omega (arith, t.1)
            ];
        place = h.place;
        within = h.within;
        one_of = h.one_of ∙ sym t.1;
        small = omega (arith, h.small, t.1);
      }
    ]
