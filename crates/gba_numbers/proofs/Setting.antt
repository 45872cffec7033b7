-- What setting a number does.
use Rattle.std.proofs.Common.{◌≡◌, ◌≢◌, ℕ, ◌-◌, ◌<◌, ◌≤◌, Bool, true, false, cond, ◌∙◌, nat_lt, length, List, inl, inr, arith}
use Rattle.std.specs.Prelude.{slice_index, slice_set}
use Rattle.std.proofs.lemmas.Bool.{cases_lt}
use Rattle.std.proofs.lemmas.Bool.Decides.{nat_tests}
use Rattle.std.proofs.lemmas.List.{get_or-set_same, get_or-set_other, length-set, length-take, length-append, length-replicate}
use Rattle.gba_numbers.specs.Numbers.{AreWhole, ConsoleNumbers, is_there, length_a, length_b, resized, value_at, with_at, with_single}
use Rattle.gba_numbers.specs.Laws.{is_byte_of}

taken-wave : (place value : ℕ) (n : ConsoleNumbers) → 202 ≤ place → place < 234 → AreWhole n
    → value_at place (with_at place value n) ≡ value
unfolding value_at with_at
taken-wave place value n above within whole = elim (cases_lt place 218) [
  | inl below ↦
      let a : nat_lt place 138 ≡ false = grind (arith, nat_tests) in
      let b : nat_lt place 170 ≡ false = grind (arith, nat_tests) in
      let c : nat_lt place 202 ≡ false = grind (arith, nat_tests) in
      let d : nat_lt place 218 ≡ true = grind (arith, nat_tests) in
      rw (a, b, c, d) (get_or-set_same n.wave0 (place - 202) value 0 (omega (arith, whole.wave0)))
  | inr high ↦
      let a : nat_lt place 138 ≡ false = grind (arith, nat_tests) in
      let b : nat_lt place 170 ≡ false = grind (arith, nat_tests) in
      let c : nat_lt place 202 ≡ false = grind (arith, nat_tests) in
      let d : nat_lt place 218 ≡ false = grind (arith, nat_tests) in
      rw (a, b, c, d) (get_or-set_same n.wave1 (place - 218) value 0 (omega (arith, whole.wave1)))
]

taken-high : (place value : ℕ) (n : ConsoleNumbers) → 138 ≤ place → place < 234 → AreWhole n → is_there place n ≡ true
    → value_at place (with_at place value n) ≡ value
unfolding is_there value_at with_at
taken-high place value n above within whole there = elim (cases_lt place 170) [
  | inl below ↦
      let a : nat_lt place 138 ≡ false = grind (arith, nat_tests) in
      let b : nat_lt place 170 ≡ true = grind (arith, nat_tests) in
      let held = rw (a, b) at there in
      let inside : place - 138 < length n.queue_a = grind (arith, nat_tests) in
      rw (a, b) (get_or-set_same n.queue_a (place - 138) value 0 inside)
  | inr past ↦ elim (cases_lt place 202) [
    | inl below ↦
        let a : nat_lt place 138 ≡ false = grind (arith, nat_tests) in
        let b : nat_lt place 170 ≡ false = grind (arith, nat_tests) in
        let c : nat_lt place 202 ≡ true = grind (arith, nat_tests) in
        let held = rw (a, b, c) at there in
        let inside : place - 170 < length n.queue_b = grind (arith, nat_tests) in
        rw (a, b, c) (get_or-set_same n.queue_b (place - 170) value 0 inside)
    | inr high ↦ taken-wave place value n high within whole
  ]
]

pub taken : (place value : ℕ) (n : ConsoleNumbers) → place < 234 → AreWhole n → is_there place n ≡ true
    → value_at place (with_at place value n) ≡ value
unfolding value_at with_at with_single
taken place value n within whole there = elim (cases_lt place 138) [
  | inl below ↦
      let a : nat_lt place 138 ≡ true = grind (arith, nat_tests) in
      rw a (get_or-set_same n.values place value 0 (omega (arith, whole.values)))
  | inr above ↦ taken-high place value n above within whole there
]

-- another place of the same bytes
other_index : (xs : List ℕ) (place other base value : ℕ) → base ≤ place → base ≤ other → place ≢ other
    → slice_index (slice_set xs (place - base) value) (other - base) ≡ slice_index xs (other - base)
other_index xs place other base value low above apart =
    get_or-set_other xs (place - base) (other - base) value 0 (λ e. apart (omega arith))

others-bytes : (place other value : ℕ) (n : ConsoleNumbers) → 138 ≤ place → place < 234 → place ≢ other
    → value_at other (with_at place value n) ≡ value_at other n
unfolding value_at with_at
others-bytes place other value n low within apart = grind (arith, nat_tests, other_index)

others-single : (place other value : ℕ) (n : ConsoleNumbers) → place < 138 → place ≢ other
    → is_byte_of place other ≡ false → value_at other (with_single place value n) ≡ value_at other n
unfolding value_at with_single
others-single place other value n low apart byte = grind (arith, nat_tests, get_or-set_other {A = ℕ})

pub others : (place other value : ℕ) (n : ConsoleNumbers) → place < 234 → other < 234 → place ≢ other
    → is_byte_of place other ≡ false → value_at other (with_at place value n) ≡ value_at other n
unfolding with_at
others place other value n within inside apart byte = elim (cases_lt place 138) [
  | inl below ↦
      let a : nat_lt place 138 ≡ true = grind (arith, nat_tests) in
      rw a (others-single place other value n below apart byte)
  | inr above ↦ others-bytes place other value n above within apart
]

length-resized : (count : ℕ) (bytes : List ℕ) → length (resized count bytes) ≡ count
length-resized count bytes =
    simp (length-append, length-replicate, length-take) (omega arith)

-- with a number that stands by itself
stays_whole-single : (place value : ℕ) (n : ConsoleNumbers) → place < 138 → AreWhole n
    → (place ≡ length_a → value ≤ 32) → (place ≡ length_b → value ≤ 32) → AreWhole (with_single place value n)
unfolding with_single
stays_whole-single place value n within whole a b = record {
  values = length-set n.values place value ∙ whole.values;
  queue_a = grind (
    arith,
    nat_tests,
    length-resized,
    get_or-set_same {A = ℕ},
    get_or-set_other {A = ℕ},
    whole.values,
    whole.queue_a,
  );
  queue_b = grind (
    arith,
    nat_tests,
    length-resized,
    get_or-set_same {A = ℕ},
    get_or-set_other {A = ℕ},
    whole.values,
    whole.queue_b,
  );
  short_a = grind (arith, nat_tests, length-resized, whole.short_a);
  short_b = grind (arith, nat_tests, length-resized, whole.short_b);
  wave0 = whole.wave0;
  wave1 = whole.wave1;
}

-- and with a byte
with_queue_a : (n : ConsoleNumbers) (place value : ℕ) → AreWhole n
    → AreWhole (record n { queue_a = slice_set n.queue_a place value })
with_queue_a n place value whole =
    let same : length (slice_set n.queue_a place value) ≡ length n.queue_a = length-set n.queue_a place value in
    record {
      values = whole.values;
      queue_a = same ∙ whole.queue_a;
      queue_b = whole.queue_b;
      short_a = omega (arith, whole.short_a);
      short_b = whole.short_b;
      wave0 = whole.wave0;
      wave1 = whole.wave1;
    }

with_queue_b : (n : ConsoleNumbers) (place value : ℕ) → AreWhole n
    → AreWhole (record n { queue_b = slice_set n.queue_b place value })
with_queue_b n place value whole =
    let same : length (slice_set n.queue_b place value) ≡ length n.queue_b = length-set n.queue_b place value in
    record {
      values = whole.values;
      queue_a = whole.queue_a;
      queue_b = same ∙ whole.queue_b;
      short_a = whole.short_a;
      short_b = omega (arith, whole.short_b);
      wave0 = whole.wave0;
      wave1 = whole.wave1;
    }

with_wave0 : (n : ConsoleNumbers) (place value : ℕ) → AreWhole n
    → AreWhole (record n { wave0 = slice_set n.wave0 place value })
with_wave0 n place value whole = record {
  values = whole.values;
  queue_a = whole.queue_a;
  queue_b = whole.queue_b;
  short_a = whole.short_a;
  short_b = whole.short_b;
  wave0 = length-set n.wave0 place value ∙ whole.wave0;
  wave1 = whole.wave1;
}

with_wave1 : (n : ConsoleNumbers) (place value : ℕ) → AreWhole n
    → AreWhole (record n { wave1 = slice_set n.wave1 place value })
with_wave1 n place value whole = record {
  values = whole.values;
  queue_a = whole.queue_a;
  queue_b = whole.queue_b;
  short_a = whole.short_a;
  short_b = whole.short_b;
  wave0 = whole.wave0;
  wave1 = length-set n.wave1 place value ∙ whole.wave1;
}

either : (P : ConsoleNumbers → Type 0) (b : Bool) (one other : ConsoleNumbers) → P one → P other → P (cond b one other)
either P true one other p q = p
either P false one other p q = q

pub stays_whole : (place value : ℕ) (n : ConsoleNumbers) → place < 234 → AreWhole n
    → (place ≡ length_a → value ≤ 32) → (place ≡ length_b → value ≤ 32) → AreWhole (with_at place value n)
unfolding with_at
stays_whole place value n within whole a b = elim (cases_lt place 138) [
  | inl below ↦
      let single : nat_lt place 138 ≡ true = grind (arith, nat_tests) in
      rw single (stays_whole-single place value n below whole a b)
  | inr above ↦
      let bytes : nat_lt place 138 ≡ false = grind (arith, nat_tests) in
      rw bytes (either AreWhole (nat_lt place 170) _ _ (with_queue_a n (place - 138) value whole)
      (either AreWhole (nat_lt place 202) _ _ (with_queue_b n (place - 170) value whole)
      (either AreWhole (nat_lt place 218) _ _ (with_wave0 n (place - 202) value whole)
      (with_wave1 n (place - 218) value whole))))
]
