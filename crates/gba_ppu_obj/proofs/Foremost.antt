-- The dots of sprites over one another.
use Rattle.std.proofs.Common.{◌≡◌, ℕ, zero, suc, ◌<◌, ◌≤◌, ◌⊎◌, Bool, true, false, not, ◌&&◌, ◌||◌, nat_lt, ⊎_elim, inl, inr, ap, sym, ◌∙◌, refl, subst, arith}
use Rattle.std.proofs.lemmas.Bool.{cases_lt, ltb-true, ltb-false}
use Rattle.gba_ppu_dot.specs.declared.dot.Dot.{Dot}
use Rattle.gba_ppu_obj.specs.Order.{first_over, over, wins}
use Rattle.gba_ppu_obj.specs.Seen.{IsInFront, IsSeen}

won : (best new : Dot) → wins best new ≡ true → over best new ≡ record new { window = best.window || new.window }
unfolding over
won best new e = rw e refl

lost : (best new : Dot) → wins best new ≡ false → over best new ≡ record best { window = best.window || new.window }
unfolding over
lost best new e = rw e refl

more : (dot_of : ℕ → Dot) (count : ℕ) → first_over dot_of (suc count) ≡ over (first_over dot_of count) (dot_of count)
unfolding first_over
more dot_of count = refl

empty : (dot_of : ℕ → Dot) → (first_over dot_of 0).opaque ≡ false
unfolding first_over
empty dot_of = refl

empty_window : (dot_of : ℕ → Dot) → (first_over dot_of 0).window ≡ false
unfolding first_over
empty_window dot_of = refl

-- what it means to win, and to lose
test : (a b c : Bool) → (a && (not b || c)) ≡ true → a ≡ true
test true b c e = refl
test false b c e = e

less : (c : Bool) → (true && (not true || c)) ≡ true → c ≡ true
less c e = e

opaque_won : (best new : Dot) → wins best new ≡ true → new.opaque ≡ true
opaque_won best new e = test new.opaque best.opaque (nat_lt new.priority best.priority) e

not_over_nothing : (a b c : Bool) → a ≡ true → b ≡ false → (a && (not b || c)) ≡ true
not_over_nothing true false c p q = refl
not_over_nothing true true c p q = cc
not_over_nothing false b c p q = cc

not_less : (a b c : Bool) → a ≡ true → b ≡ true → (a && (not b || c)) ≡ false → c ≡ false
not_less true true c p q e = e
not_less true false c p q e = cc
not_less false b c p q e = cc

is_less : (a b c : Bool) → b ≡ true → (a && (not b || c)) ≡ true → c ≡ true
is_less true true c q e = e
is_less true false c q e = cc
is_less false b c q e = cc

no_both : {A : Type 0} → (b : Bool) → b ≡ true → b ≡ false → A
no_both b p q = cc

opaque_of : (best new : Dot) (w : Bool) → wins best new ≡ w → (over best new).opaque ≡ false
    → (best.opaque ≡ false) × (new.opaque ≡ false)
opaque_of best new true e o =
    no_both new.opaque (opaque_won best new e) (ap (λ (d : Dot). d.opaque) (sym (won best new e)) ∙ o)
opaque_of best new false e o =
    let clear : best.opaque ≡ false = ap (λ (d : Dot). d.opaque) (sym (lost best new e)) ∙ o in
    (clear, hidden new.opaque refl clear)
  where
    hidden : (b : Bool) → new.opaque ≡ b → best.opaque ≡ false → new.opaque ≡ false
    hidden false p c = p
    hidden true p c =
        no_both (wins best new) (not_over_nothing new.opaque best.opaque (nat_lt new.priority best.priority) p c) e

pub nothing_seen : (dot_of : ℕ → Dot) (count : ℕ) → (first_over dot_of count).opaque ≡ false
    → (i : ℕ) → i < count → (dot_of i).opaque ≡ false
nothing_seen dot_of zero o i h = absurd (omega arith)
nothing_seen dot_of (suc count) o i h =
    let both = opaque_of (first_over dot_of count) (dot_of count) (wins (first_over dot_of count) (dot_of count)) refl
    (ap (λ (d : Dot). d.opaque) (sym (more dot_of count)) ∙ o) in
    ⊎_elim
    (λ (low : i < count). nothing_seen dot_of count both.0 i low)
    (λ (high : count ≤ i).
    let e : count ≡ i = omega arith in
    let P : ℕ → Type 0 = λ n. (dot_of n).opaque ≡ false in
    subst P e both.1)
    (cases_lt i count)

-- a dot that wins over the foremost one is in front of all
first_of_all : (dot_of : ℕ → Dot) (count : ℕ) (best : Dot)
    → wins best (dot_of count) ≡ true
    → (best.opaque ≡ false → (i : ℕ) → i < count → (dot_of i).opaque ≡ false)
    → (best.opaque ≡ true → (j : ℕ) × IsSeen dot_of count j best)
    → (b : Bool) → best.opaque ≡ b → (i : ℕ) → i < count → (dot_of i).opaque ≡ true → IsInFront dot_of count i
first_of_all dot_of count best w none some false p i low o = no_both (dot_of i).opaque o (none p i low)
first_of_all dot_of count best w none some true p i low o =
    let before : (dot_of count).priority < best.priority =
    ltb-true (dot_of count).priority best.priority
    (is_less (dot_of count).opaque best.opaque (nat_lt (dot_of count).priority best.priority) p w) in
    let s = (some p).1 in
    let same : best.priority ≡ (dot_of (some p).0).priority = ap (λ (d : Dot). d.priority) s.same in
    ⊎_elim
    (λ (less : (dot_of (some p).0).priority < (dot_of i).priority). inl (omega arith))
    (λ (equal : ((dot_of (some p).0).priority ≡ (dot_of i).priority) × ((some p).0 ≤ i)).
    let e = equal.0 in
    inl (omega (arith, e)))
    (s.in_front i low o)

-- a dot that loses leaves the foremost one
still_first : (dot_of : ℕ → Dot) (count j : ℕ) (best : Dot) → wins best (dot_of count) ≡ false → best.opaque ≡ true
    → IsSeen dot_of count j best → (dot_of count).opaque ≡ true → IsInFront dot_of j count
still_first dot_of count j best w p s o =
    let behind : best.priority ≤ (dot_of count).priority =
    ltb-false (dot_of count).priority best.priority
    (not_less (dot_of count).opaque best.opaque (nat_lt (dot_of count).priority best.priority) o p w) in
    let same : best.priority ≡ (dot_of j).priority = ap (λ (d : Dot). d.priority) s.same in
    let among = s.among in
    ⊎_elim
    (λ (less : (dot_of j).priority < (dot_of count).priority). inl less)
    (λ (high : (dot_of count).priority ≤ (dot_of j).priority).
    let equal : (dot_of j).priority ≡ (dot_of count).priority = omega (arith, same, behind, high) in
    let under : j ≤ count = omega (arith, among) in
    inr (equal, under))
    (cases_lt (dot_of j).priority (dot_of count).priority)

one_more : (dot_of : ℕ → Dot) (count : ℕ) (best : Dot) (w : Bool) → wins best (dot_of count) ≡ w
    → (best.opaque ≡ false → (i : ℕ) → i < count → (dot_of i).opaque ≡ false)
    → (best.opaque ≡ true → (j : ℕ) × IsSeen dot_of count j best)
    → (over best (dot_of count)).opaque ≡ true
    → (j : ℕ) × IsSeen dot_of (suc count) j (over best (dot_of count))
one_more dot_of count best true w none some o = (
  count,
  record {
    among = omega arith;
    opaque = opaque_won best (dot_of count) w;
    in_front = λ i h p.
        ⊎_elim
        (λ (low : i < count). first_of_all dot_of count best w none some best.opaque refl i low p)
        (λ (high : count ≤ i).
        let e : count ≡ i = omega arith in
        let P : ℕ → Type 0 = λ n. IsInFront dot_of count n in
        subst P e (inr (refl, omega arith)))
        (cases_lt i count);
    same =
        let is = won best (dot_of count) w in
        is ∙ ap (λ v. record (dot_of count) { window = v }) (sym (ap (λ (d : Dot). d.window) is));
  },
)
one_more dot_of count best false w none some o =
    let is = lost best (dot_of count) w in
    let p : best.opaque ≡ true = sym (ap (λ (d : Dot). d.opaque) is) ∙ o in
    let j = (some p).0 in
    let s = (some p).1 in
    let among = s.among in (
      j,
      record {
        among = omega (arith, among);
        opaque = s.opaque;
        in_front = λ i h q.
            ⊎_elim
            (λ (low : i < count). s.in_front i low q)
            (λ (high : count ≤ i).
            let e : count ≡ i = omega arith in
            let P : ℕ → Type 0 = λ n. (dot_of n).opaque ≡ true → IsInFront dot_of j n in
            subst P e (still_first dot_of count j best w p s) q)
            (cases_lt i count);
        same =
            is
            ∙ ap (λ (d : Dot). record d { window = best.window || (dot_of count).window }) s.same
            ∙ ap (λ v. record (dot_of j) { window = v }) (sym (ap (λ (d : Dot). d.window) is));
      },
    )

pub foremost_seen : (dot_of : ℕ → Dot) (count : ℕ) → (first_over dot_of count).opaque ≡ true
    → (j : ℕ) × IsSeen dot_of count j (first_over dot_of count)
foremost_seen dot_of zero o = no_both (first_over dot_of 0).opaque o (empty dot_of)
foremost_seen dot_of (suc count) o =
    let best = first_over dot_of count in
    let P : Dot → Type 0 = λ d. (j : ℕ) × IsSeen dot_of (suc count) j d in
    subst P (sym (more dot_of count))
    (one_more dot_of count best (wins best (dot_of count)) refl (nothing_seen dot_of count) (foremost_seen dot_of count)
    (ap (λ (d : Dot). d.opaque) (sym (more dot_of count)) ∙ o))

-- the window
window_of : (best new : Dot) (w : Bool) → wins best new ≡ w → (over best new).window ≡ (best.window || new.window)
window_of best new true e = ap (λ (d : Dot). d.window) (won best new e)
window_of best new false e = ap (λ (d : Dot). d.window) (lost best new e)

window_more : (dot_of : ℕ → Dot) (count : ℕ)
    → (first_over dot_of (suc count)).window ≡ ((first_over dot_of count).window || (dot_of count).window)
window_more dot_of count =
    ap (λ (d : Dot). d.window) (more dot_of count)
    ∙ window_of (first_over dot_of count) (dot_of count) (wins (first_over dot_of count) (dot_of count)) refl

either : (a b : Bool) → (a || b) ≡ true → (a ≡ true) ⊎ (b ≡ true)
either true b e = inl refl
either false b e = inr e

left_or : (a b : Bool) → a ≡ true → (a || b) ≡ true
left_or true b e = refl
left_or false b e = cc

right_or : (a b : Bool) → b ≡ true → (a || b) ≡ true
right_or true b e = refl
right_or false b e = e

pub in_some_window : (dot_of : ℕ → Dot) (count : ℕ) → (first_over dot_of count).window ≡ true
    → (i : ℕ) × (i < count) × ((dot_of i).window ≡ true)
in_some_window dot_of zero o = no_both (first_over dot_of 0).window o (empty_window dot_of)
in_some_window dot_of (suc count) o =
    ⊎_elim
    (λ (before : (first_over dot_of count).window ≡ true).
    let found = in_some_window dot_of count before in
    let low = found.1 in
    (found.0, omega (arith, low), found.2))
    (λ (here : (dot_of count).window ≡ true). (count, omega arith, here))
    (either (first_over dot_of count).window (dot_of count).window (sym (window_more dot_of count) ∙ o))

pub window_of_each : (dot_of : ℕ → Dot) (count i : ℕ) → i < count → (dot_of i).window ≡ true
    → (first_over dot_of count).window ≡ true
window_of_each dot_of zero i h o = absurd (omega arith)
window_of_each dot_of (suc count) i h o =
    window_more dot_of count
    ∙ ⊎_elim
    (λ (low : i < count). left_or (first_over dot_of count).window (dot_of count).window
    (window_of_each dot_of count i low o))
    (λ (high : count ≤ i).
    let e : i ≡ count = omega arith in
    let P : ℕ → Type 0 = λ n. (dot_of n).window ≡ true in
    right_or (first_over dot_of count).window (dot_of count).window (subst P e o))
    (cases_lt i count)
