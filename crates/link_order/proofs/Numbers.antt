-- Functions of a player: one place changed, the least value, and the cycles left.
use Rattle.std.specs.Prelude.{nat_lt, if◌then◌else◌, ◌==◌}
use Rattle.std.proofs.Common.{ℕ, zero, suc, ◌≡◌, ◌≢◌, ◌-◌, ◌<◌, ◌≤◌, ◌⊎◌, inl, inr, arith, refl, ap}
use Rattle.std.proofs.lemmas.Bool.Decides.{nat_tests}
use Rattle.link_order.specs.GlobalOrder.{least_below, cycles_left_below}

-- f with y in the place of player i
abbrev pub put : {A : Type 0} → ℕ → A → (ℕ → A) → ℕ → A
put i y f k = if k == i then y else f k

pub put_same : {A : Type 0} (i : ℕ) (y : A) (f : ℕ → A) → put i y f i ≡ y
put_same i y f = grind (arith, nat_tests)

pub put_other : {A : Type 0} (i k : ℕ) (y : A) (f : ℕ → A) → k ≢ i → put i y f k ≡ f k
put_other i k y f apart = grind (arith, nat_tests)

-- two players are one, or apart
pub same_or_apart : (i j : ℕ) → (i ≡ j) ⊎ (i ≢ j)
same_or_apart i j = grind (arith, nat_tests)

least_of : ℕ → ℕ → ℕ → ℕ → ℕ
least_of a b i j = if nat_lt a b then i else j

least_bound : (clock : ℕ → ℕ) (n : ℕ) → least_below clock n ≤ n - 1
least_bound clock zero = omega arith
least_bound clock (suc n) = let h = least_bound clock n in grind (arith, nat_tests)

pub least_is_player : (clock : ℕ → ℕ) (n : ℕ) → 0 < n → least_below clock n < n
least_is_player clock n some = omega (arith, least_bound clock n)

pub least_is_least : (clock : ℕ → ℕ) (n i : ℕ) → i < n → clock (least_below clock n) ≤ clock i
least_is_least clock zero i below = absurd (omega arith)
least_is_least clock (suc n) i below =
    elim (same_or_apart i n) [
      | inl same ↦ rw same (grind (arith, nat_tests))
      | inr apart ↦ let h = least_is_least clock n i (omega arith) in grind (arith, nat_tests)
    ]

-- the cycles left without player i
pub left_put_past : (clock : ℕ → ℕ) (until i y n : ℕ) → n ≤ i
    → cycles_left_below (put i y clock) until n ≡ cycles_left_below clock until n
left_put_past clock until i y zero past = refl
left_put_past clock until i y (suc n) past =
    let e = put_other i n y clock (omega arith) in
    let h = left_put_past clock until i y n (omega arith) in
    rw (e, h) refl

-- a step of a player leaves fewer cycles
pub left_falls : (clock : ℕ → ℕ) (until i y n : ℕ) → i < n → clock i < until → clock i < y
    → cycles_left_below (put i y clock) until n < cycles_left_below clock until n
left_falls clock until i y zero below early later = absurd (omega arith)
left_falls clock until i y (suc n) below early later =
    elim (same_or_apart n i) [
      | inl same ↦
          let past = left_put_past clock until i y n (omega arith) in
          let e : put i y clock n ≡ y = rw same (put_same i y clock) in
          let f : clock n ≡ clock i = ap clock same in
          rw (e, past) (omega arith)
      | inr apart ↦
          let e = put_other i n y clock apart in
          let h = left_falls clock until i y n (omega arith) early later in
          rw e (omega arith)
    ]
