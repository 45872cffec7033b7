-- For how many cycles nothing comes, by arithmetic.
use Rattle.std.proofs.Common.{◌≡◌, ℕ, zero, suc, ◌+◌, ◌-◌, ◌<◌, ◌≤◌, Bool, true, false, refl, ap, sym, ◌∙◌, add-one, arith}
use Rattle.std.specs.Prelude.{◌==◌, ◌||◌, min, nat_eq, nat_lt, if◌then◌else◌}
use Rattle.gba_ppu_reg.specs.declared.position.Position.{Position}
use Rattle.gba_ppu_reg.specs.Position.{IsPosition, after_cycles, begins_hblank, begins_line, cycle, distance}
use Rattle.gba_ppu_reg.specs.Quiet.{QuietPlaces, comes, quiet_within}
use Rattle.gba_register.proofs.Before as steps
use Rattle.gba_ppu_reg.proofs.Moving.{comes_at}

after_cycles-inside : (count : ℕ) (p : Position) → after_cycles count (cycle p) ≡ cycle (after_cycles count p)
unfolding after_cycles
after_cycles-inside zero p = refl
after_cycles-inside (suc count) p = ap cycle (after_cycles-inside count p)

is_after : steps.IsAfter Position cycle after_cycles
unfolding after_cycles
is_after = record { none = λ p. refl; more = λ count p. sym (after_cycles-inside count p) }

none-of : (one other : Bool) → (one || other) ≡ false → one ≡ false
none-of false other none = refl
none-of true other none = cc

nor-other : (one other : Bool) → (one || other) ≡ false → other ≡ false
nor-other false other none = none
nor-other true other none = cc

one-more : (count : ℕ) (p : Position) → after_cycles (count + 1) p ≡ cycle (after_cycles count p)
unfolding after_cycles
one-more count p = ap (λ n. after_cycles n p) (add-one count)

no-hblank : (most count : ℕ) (p : Position) → count < quiet_within most p
    → begins_hblank (after_cycles (count + 1) p) ≡ false
unfolding quiet_within
no-hblank most count p h =
    ap begins_hblank (one-more count p)
    ∙ none-of _ (begins_line (cycle (after_cycles count p)))
    (steps.before-silent cycle after_cycles is_after comes most count p h)

no-line : (most count : ℕ) (p : Position) → count < quiet_within most p
    → begins_line (after_cycles (count + 1) p) ≡ false
unfolding quiet_within
no-line most count p h =
    ap begins_line (one-more count p)
    ∙ nor-other (begins_hblank (cycle (after_cycles count p))) _
    (steps.before-silent cycle after_cycles is_after comes most count p h)

then-comes : (most : ℕ) (p : Position) → quiet_within most p < most
    → comes (after_cycles (quiet_within most p) p) ≡ true
unfolding quiet_within
then-comes most p h = steps.before-next cycle after_cycles is_after comes most p h

pub fewer-quiet : (most count : ℕ) (p : Position) → count ≤ quiet_within most p → quiet_within count p ≡ count
unfolding quiet_within
fewer-quiet most count p h =
    steps.before-is cycle after_cycles is_after comes count count p (omega arith)
    (λ k small. steps.before-silent cycle after_cycles is_after comes most k p (omega (arith, small, h)))
    (λ small. absurd (omega (arith, small)))

pub quiet-places : QuietPlaces
quiet-places = record { no_hblank = no-hblank; no_line = no-line; next = then-comes; fewer = fewer-quiet }

-- the nearest event is as many cycles away as its dot
away : Position → ℕ
away p = min (distance 1006 p) (distance 0 p) - 1

comes-is : (count : ℕ) (p : Position) → p.dot < 1232 → count + 1 < 1232
    → comes (after_cycles count p) ≡ (nat_eq (distance 1006 p) (count + 1) || nat_eq (distance 0 p) (count + 1))
comes-is count p h k =
    let next = sym (one-more count p) in
    ap (λ (q : Position). (q.dot == 1006) || (q.dot == 0)) next
    ∙ ap (λ b. b || ((after_cycles (count + 1) p).dot == 0))
    (comes_at 1006 (count + 1) p (omega arith) h (omega arith) k)
    ∙ ap (λ b. nat_eq (distance 1006 p) (count + 1) || b) (comes_at 0 (count + 1) p (omega arith) h (omega arith) k)

not-yet : (a b k : ℕ) → k < min a b - 1 → (nat_eq a (k + 1) || nat_eq b (k + 1)) ≡ false
not-yet a b k h = grind arith

just-now : (a b k : ℕ) → 1 ≤ a → 1 ≤ b → k ≡ min a b - 1 → (nat_eq a (k + 1) || nat_eq b (k + 1)) ≡ true
just-now a b k p q h = grind arith

some-way : (dot : ℕ) (p : Position) → p.dot < 1232 → 1 ≤ distance dot p
some-way dot p h = grind arith

nearest-within : (p : Position) → p.dot < 1232 → min (distance 1006 p) (distance 0 p) < 1232
nearest-within p h = grind arith

pub quiet-is : (most : ℕ) (p : Position) → IsPosition p
    → min (min (distance 1006 p) (distance 0 p) - 1) most ≡ quiet_within most p
unfolding quiet_within
quiet-is most p sound =
    let a = distance 1006 p in
    let b = distance 0 p in
    let near = nearest-within p sound.dot in
    sym (steps.before-is cycle after_cycles is_after comes most (min (min a b - 1) most) p (omega arith)
    (λ k small. comes-is k p sound.dot (omega (arith, small, near)) ∙ not-yet a b k (omega (arith, small)))
    (λ small. comes-is (min (min a b - 1) most) p sound.dot (omega (arith, small, near))
    ∙ just-now a b (min (min a b - 1) most) (some-way 1006 p sound.dot) (some-way 0 p sound.dot)
    (omega (arith, small))))

pub skip-within : (count : ℕ) (p : Position) → IsPosition p → quiet_within count p ≡ count → p.dot + count < 1232
skip-within count p sound h =
    let whole = quiet-is count p sound in
    ends p.dot count (omega (arith, h, whole)) sound.dot where
      ends : (dot count : ℕ) → count ≤ (if nat_lt dot 0 then 0 - dot else 0 + 1232 - dot) - 1 → dot < 1232
          → dot + count < 1232
      ends dot count h k = grind arith
