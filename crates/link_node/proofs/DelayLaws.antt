-- The laws of delays. No other proof knows how they are kept.
use Rattle.std.proofs.Common.{ℕ, ◌≡◌, ◌≢◌, ◌⊎◌, ◌<◌, ◌≤◌, true, false, ◌&&◌, nat_lt, List, [], length, replicate, inl, inr, refl, ap}
use Rattle.std.proofs.Common.{sym, ◌∙◌, arith}
use Rattle.std.specs.Prelude.{if◌then◌else◌, slice_index, slice_index_or, slice_set}
use Rattle.std.proofs.lemmas.Bool.{cases_Bool, cases_eq}
use Rattle.std.proofs.lemmas.Bool.Decides.{nat_tests}
use Rattle.std.proofs.lemmas.List.{get_or-replicate, get_or-set_other, get_or-set_same}
use Rattle.std.proofs.lemmas.Grind.{get_or-set_at}
use Rattle.link_node.specs.declared.delays.Delays.{Delays}
use Rattle.link_node.specs.Delays.{hop_of, all_delays, AreDelays}

both_below : (sender receiver : ℕ) → sender < 4 → receiver < 4 → (nat_lt sender 4 && nat_lt receiver 4) ≡ true
both_below sender receiver s r = grind (arith, nat_tests)

-- one delay for all is that of any two players
pub hop-all : (cycles sender receiver : ℕ) → sender < 4 → receiver < 4
    → hop_of (all_delays cycles) sender receiver ≡ cycles
unfolding hop_of all_delays
hop-all cycles sender receiver s r =
    rw (both_below sender receiver s r)
    (ap (λ (row : List ℕ). slice_index row receiver) (get_or-replicate 4 sender (replicate 4 cycles) [] s)
    ∙ get_or-replicate 4 receiver cycles 0 r)

pub all_are_delays : (cycles : ℕ) → 0 < cycles → cycles ≤ 1024 → AreDelays (all_delays cycles)
all_are_delays cycles some short sender receiver s r = (
  omega (arith, hop-all cycles sender receiver s r),
  omega (arith, hop-all cycles sender receiver s r),
)

-- where a player is none there is no delay
pub hop-none : (delays : Delays) (sender receiver : ℕ) → (nat_lt sender 4 && nat_lt receiver 4) ≡ false
    → hop_of delays sender receiver ≡ 0
unfolding hop_of
hop-none delays sender receiver none = rw none refl

-- no delay is longer than this, also where a player is none
pub hop_within : (delays : Delays) → AreDelays delays → (sender receiver : ℕ) → hop_of delays sender receiver ≤ 1024
hop_within delays are sender receiver =
    elim (cases_Bool (nat_lt sender 4 && nat_lt receiver 4)) [
      | inl both ↦ (are sender receiver (grind (arith, nat_tests, both)) (grind (arith, nat_tests, both))).1
      | inr none ↦ omega (arith, hop-none delays sender receiver none)
    ]

-- a table of delays with one row changed in one place
pub hop-changed : (delays : Delays) (row : List ℕ) (sender receiver cycles : ℕ) → length delays.rows ≡ 4 → sender < 4
    → receiver < 4 → slice_index row receiver ≡ cycles
    → hop_of (record { rows = slice_set delays.rows sender row }) sender receiver ≡ cycles
unfolding hop_of
hop-changed delays row sender receiver cycles wide s r is =
    rw (both_below sender receiver s r)
    (ap (λ (one : List ℕ). slice_index one receiver) (get_or-set_same delays.rows sender row [] (omega arith)) ∙ is)

pub hop-other : (delays : Delays) (row : List ℕ) (sender receiver j i : ℕ) → length delays.rows ≡ 4 → sender < 4
    → ((k : ℕ) → k ≢ receiver → slice_index row k ≡ slice_index (slice_index_or delays.rows sender []) k)
    → (j ≢ sender) ⊎ (i ≢ receiver)
    → hop_of (record { rows = slice_set delays.rows sender row }) j i ≡ hop_of delays j i
unfolding hop_of
hop-other delays row sender receiver j i wide s kept apart =
    ap (λ (n : ℕ). if nat_lt j 4 && nat_lt i 4 then n else 0) (elim (cases_eq j sender) [
      | inl same ↦
          ap (λ (one : List ℕ). slice_index one i) (get_or-set_at delays.rows sender j row [] same (omega arith))
          ∙ kept i (elim apart [ inl other ↦ absurd (other same) | inr other ↦ other ])
          ∙ ap (λ (k : ℕ). slice_index (slice_index_or delays.rows k []) i) (sym same)
      | inr other ↦
          ap (λ (one : List ℕ). slice_index one i) (get_or-set_other delays.rows sender j row [] other)
    ])

-- they stay within the bounds
pub changed-within : (delays changed : Delays) (sender receiver cycles : ℕ) → hop_of changed sender receiver ≡ cycles
    → ((j i : ℕ) → (j ≢ sender) ⊎ (i ≢ receiver) → hop_of changed j i ≡ hop_of delays j i) → AreDelays delays
    → 0 < cycles → cycles ≤ 1024 → AreDelays changed
changed-within delays changed sender receiver cycles is others are some short j i jl il =
    elim (cases_eq j sender) [
      | inl same ↦ elim (cases_eq i receiver) [
        | inl own ↦
            let e = ap (λ (k : ℕ). hop_of changed k i) same in
            let f = ap (hop_of changed sender) own in
            (omega (arith, e, f, is), omega (arith, e, f, is))
        | inr other ↦
            let e = others j i (inr other) in
            (omega (arith, e, (are j i jl il).0), omega (arith, e, (are j i jl il).1))
      ]
      | inr other ↦
          let e = others j i (inl other) in
          (omega (arith, e, (are j i jl il).0), omega (arith, e, (are j i jl il).1))
    ]
