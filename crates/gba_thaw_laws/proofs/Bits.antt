-- Bits of halfwords.
use Rattle.std.proofs.Common.{◌≡◌, ℕ, zero, suc, ◌+◌, ◌-◌, ◌*◌, ◌%◌, ◌^◌, ◌<◌, ◌∙◌, ap, sym, Bool, true, false, not, ◌==◌, nat_lt, List, [], ◌∷◌, bit_and, bit_or, if◌then◌else◌, refl, arith, eq-eqb, eqb-true, ltb-true, mod-eq_of_lt, lit<}
use Rattle.std.specs.List.{list_all}
use Rattle.std.proofs.lemmas.Bool.{agree_below_at, and_parts, cond_both}
use Rattle.std.proofs.lemmas.Nat.{and_assoc, and_comm, and_le_r, and_mask, and_mod, and_or_apart, or_disjoint}
use Rattle.std.proofs.lemmas.Nat.Bits.{bit_at_and, bit_at_or, same_from_bits}
use Rattle.std.specs.Int.Bits.{and_zero_r}
use Rattle.std.specs.Int.{bit_at}
use Rattle.gba_word.specs.Weights.{weight}
use Rattle.gba_terms.specs.Bits.{bit, field}
use Rattle.gba_register.specs.Rows.{Row, row_at}
use Rattle.gba_loose_devices.specs.Values.{half_at}
use Rattle.gba_thaw.specs.Stored.{has_bits}
use Rattle.gba_device_laws.specs.Holding.{HasStoredBits}

-- ---- rows

abbrev pub is_half_row : Row → Bool
is_half_row r = nat_lt r.write_mask 0x10000

mask-small : (rows : List Row) → list_all is_half_row rows ≡ true → (offset : ℕ)
    → (row_at rows offset).write_mask < 0x10000
unfolding row_at
mask-small [] all offset = lit< tt
mask-small (r ∷ rows) all offset =
    let both = and_parts (is_half_row r) (list_all is_half_row rows) all in
    cond_both (offset == r.offset) r (row_at rows offset) (λ (x : Row). x.write_mask < 0x10000)
    (λ _. ltb-true r.write_mask 0x10000 both.0) (λ _. mask-small rows both.1 offset)

-- what has stored bits only is a halfword
pub stored-small : (rows : List Row) (kept : ℕ → ℕ) → list_all is_half_row rows ≡ true → HasStoredBits rows kept
    → (offset : ℕ)
    → kept offset < 2 ^ 16
stored-small rows kept all stored offset =
    let mask = mask-small rows all offset in
    let most = and_le_r (kept offset) (row_at rows offset).write_mask in
    omega (arith, mask, most, stored offset)

pub mask-bound : (value mask : ℕ) → bit_and value mask ≡ value → mask < 2 ^ 16 → value < 2 ^ 16
mask-bound value mask stored small = let most = and_le_r value mask in omega (arith, most, stored, small)

-- ---- halfwords as they are stored

-- one that is cut to its 16 bits
pub uncut : (half value : ℕ) → half ≡ value % 2 ^ 16 → value < 2 ^ 16 → half ≡ value
uncut half value is small = is ∙ mod-eq_of_lt small

-- one of which the bits are shown that a write stores
pub unmasked : (half value mask : ℕ) → half ≡ bit_and value mask % 2 ^ 16 → bit_and value mask ≡ value → mask < 2 ^ 16
    → half ≡ value
unmasked half value mask is stored small =
    is ∙ ap (λ (v : ℕ). v % 2 ^ 16) stored ∙ mod-eq_of_lt (mask-bound value mask stored small)

-- a word in two of them
pub word-again : (word low high : ℕ) → low ≡ field word 0 16 % 2 ^ 16 → high ≡ field word 16 16 % 2 ^ 16 → word < 2 ^ 32
    → low + 2 ^ 16 * high ≡ word
word-again word low high l h small = omega (arith, l, h, small)

pub has-stored : (offset mask value : ℕ) (io : List ℕ) → half_at offset io ≡ value → bit_and value mask ≡ value
    → has_bits offset mask io ≡ true
has-stored offset mask value io is stored =
    eq-eqb (bit_and (half_at offset io) mask) (half_at offset io) (ap (λ (h : ℕ). bit_and h mask) is ∙ stored ∙ sym is)

-- ---- sums of bits

pub or-zero : (a : ℕ) → bit_or a 0 ≡ a
or-zero a = let none = and_zero_r a in or_disjoint a 0 none ∙ omega arith

pub or-and-self : (a b : ℕ) → bit_or a (bit_and a b) ≡ a
or-and-self a b =
    same_from_bits (bit_or a (bit_and a b)) a (λ i.
    let whole = bit_at_or a (bit_and a b) i in
    let part = bit_at_and a b i in
    omega (arith, whole, part))

and-or : (a b c : ℕ) → bit_and (bit_or a b) c ≡ bit_or (bit_and a c) (bit_and b c)
and-or a b c =
    same_from_bits (bit_and (bit_or a b) c) (bit_or (bit_and a c) (bit_and b c)) (λ i.
    let whole = bit_at_and (bit_or a b) c i in
    let sum = bit_at_or a b i in
    let parts = bit_at_or (bit_and a c) (bit_and b c) i in
    let left = bit_at_and a c i in
    let right = bit_at_and b c i in
    omega (arith, whole, sum, parts, left, right))

-- ---- DISPSTAT, whose lowest bits are of the picture's place

flags-apart : (a b c : Bool) → bit_and (weight 1 a + weight 2 b + weight 4 c) 0xff38 ≡ 0
flags-apart true true true = refl
flags-apart true true false = refl
flags-apart true false true = refl
flags-apart true false false = refl
flags-apart false true true = refl
flags-apart false true false = refl
flags-apart false false true = refl
flags-apart false false false = refl

pub status-again : (kept : ℕ) (a b c : Bool) → bit_and kept 0xff38 ≡ kept
    → bit_and (bit_or kept (bit_or (bit_and kept 0xff3f) (weight 1 a + weight 2 b + weight 4 c)) % 2 ^ 16) 0xff38 ≡ kept
status-again kept a b c stored =
    let flags = weight 1 a + weight 2 b + weight 4 c in
    let shown = bit_or (bit_and kept 0xff3f) flags in
    let small = mask-bound kept 0xff38 stored (lit< tt) in
    sym (and_mod (bit_or kept shown) 0xff38 16)
    ∙ ap (λ (v : ℕ). v % 2 ^ 16)
    (and-or kept shown 0xff38
    ∙ ap (λ (v : ℕ). bit_or v (bit_and shown 0xff38)) stored
    ∙ ap (λ (v : ℕ). bit_or kept v)
    (and_or_apart 0xff38 (bit_and kept 0xff3f) flags (flags-apart a b c) ∙ and_assoc 0xff38 kept 0xff3f)
    ∙ or-and-self kept (bit_and 0xff3f 0xff38))
    ∙ mod-eq_of_lt small

-- ---- SOUNDCNT_H and SOUNDCNT_X, which direct sound and the tones have in common

pub sound-again : (half control ratio mask : ℕ) → half ≡ bit_or (bit_and control mask) (bit_and ratio 0) % 2 ^ 16
    → bit_and control mask ≡ control → mask < 2 ^ 16 → half ≡ control
sound-again half control ratio mask is stored small =
    unmasked half control mask
    (is ∙ ap (λ (v : ℕ). bit_or (bit_and control mask) v % 2 ^ 16) (and_zero_r ratio)
    ∙ ap (λ (v : ℕ). v % 2 ^ 16) (or-zero (bit_and control mask))) stored small

abbrev master_shown : Bool → ℕ → ℕ
master_shown on channels =
    bit_or (bit_and (if on then 0x80 else 0) 0x80) (bit_and (weight 0x80 on + channels) 0x8f) % 2 ^ 16

pub master-again : (on : Bool) (channels : ℕ) → channels < 16 → master_shown on channels ≡ weight 0x80 on + channels
master-again true channels small =
    eqb-true _ _ (agree_below_at (λ c. master_shown true c == weight 0x80 true + c) (λ _. true) 16 channels refl small)
master-again false channels small =
    eqb-true _ _
    (agree_below_at (λ c. master_shown false c == weight 0x80 false + c) (λ _. true) 16 channels refl small)

pub master-stored : (on : Bool) (channels : ℕ) → channels < 16
    → bit_and (weight 0x80 on + channels) 0x8f ≡ weight 0x80 on + channels
master-stored true channels small =
    eqb-true _ _
    (agree_below_at (λ c. bit_and (weight 0x80 true + c) 0x8f == weight 0x80 true + c) (λ _. true) 16 channels refl
    small)
master-stored false channels small =
    eqb-true _ _
    (agree_below_at (λ c. bit_and (weight 0x80 false + c) 0x8f == weight 0x80 false + c) (λ _. true) 16 channels refl
    small)

-- ---- SIOCNT, in which the player and the error stand beside the stored bits

abbrev pub seat_shown : Bool → ℕ → Bool → ℕ
seat_shown is_multi player error =
    (if is_multi then weight 4 (not (player == 0)) + 16 * field player 0 2 else 0) + weight 64 error

record IsApart (shown : ℕ) (error : Bool) : Type 0 where
  apart : bit_and shown 0x708b ≡ 0
  sixth : bit_at shown 6 ≡ weight 1 error
  small : shown < 128

seat-apart : (is_multi error : Bool) (player : ℕ) → player < 4 → IsApart (seat_shown is_multi player error) error
seat-apart false false player few = record { apart = refl; sixth = refl; small = lit< tt }
seat-apart false true player few = record { apart = refl; sixth = refl; small = lit< tt }
seat-apart true false zero few = record { apart = refl; sixth = refl; small = lit< tt }
seat-apart true false (suc zero) few = record { apart = refl; sixth = refl; small = lit< tt }
seat-apart true false (suc (suc zero)) few = record { apart = refl; sixth = refl; small = lit< tt }
seat-apart true false (suc (suc (suc zero))) few = record { apart = refl; sixth = refl; small = lit< tt }
seat-apart true false (suc (suc (suc (suc player)))) few = absurd (omega (arith, few))
seat-apart true true zero few = record { apart = refl; sixth = refl; small = lit< tt }
seat-apart true true (suc zero) few = record { apart = refl; sixth = refl; small = lit< tt }
seat-apart true true (suc (suc zero)) few = record { apart = refl; sixth = refl; small = lit< tt }
seat-apart true true (suc (suc (suc zero))) few = record { apart = refl; sixth = refl; small = lit< tt }
seat-apart true true (suc (suc (suc (suc player)))) few = absurd (omega (arith, few))

pub record ControlAgain (half control : ℕ) (error : Bool) : Type 0 where
  pub stored : bit_and half 0x708b ≡ control
  pub failed : bit half 6 ≡ error

one-again : (n : ℕ) (set : Bool) → n ≡ weight 1 set → (n == 1) ≡ set
one-again n true is = ap (λ (v : ℕ). v == 1) is
one-again n false is = ap (λ (v : ℕ). v == 1) is

control-by : (half control shown : ℕ) (error : Bool) → half ≡ bit_and control 0x708b + shown
    → bit_and control 0x708b ≡ control
    → IsApart shown error → ControlAgain half control error
control-by half control shown error is stored a =
    let none : bit_and control shown ≡ 0 =
    ap (λ (c : ℕ). bit_and c shown) (sym stored) ∙ and_assoc shown control 0x708b
    ∙ ap (λ (v : ℕ). bit_and control v) (and_comm 0x708b shown ∙ a.apart) ∙ and_zero_r control in
    let joined : half ≡ bit_or control shown =
    is ∙ ap (λ (c : ℕ). c + shown) stored ∙ sym (or_disjoint control shown none) in
    let whole = bit_at_or control shown 6 in
    let of_control : bit_at control 6 ≡ 0 =
    ap (λ (c : ℕ). bit_at c 6) (sym stored) ∙ bit_at_and control 0x708b 6 ∙ omega arith in
    record {
      stored = ap (λ (h : ℕ). bit_and h 0x708b) joined ∙ and_or_apart 0x708b control shown a.apart ∙ stored;
      failed =
          one-again (bit_at half 6) error
          (ap (λ (h : ℕ). bit_at h 6) joined ∙ omega (arith, whole, of_control, a.sixth));
    }

pub control-again : (half control player : ℕ) (is_multi error : Bool)
    → half
    ≡ bit_and control 0x708b + (if is_multi then weight 4 (not (player == 0)) + 16 * field player 0 2 else 0)
    + weight 64 error
    → bit_and control 0x708b ≡ control → player < 4 → ControlAgain half control error
control-again half control player is_multi error is stored few =
    control-by half control (seat_shown is_multi player error) error (is ∙ omega arith) stored
    (seat-apart is_multi error player few)

-- ---- KEYINPUT, in which a pressed key is 0

pub pressed-again : (half pressed : ℕ) → half ≡ bit_and (2 ^ 10 - 1 - field pressed 0 10) 0x3ff % 2 ^ 16
    → pressed < 2 ^ 10
    → 2 ^ 10 - 1 - field half 0 10 ≡ pressed
pressed-again half pressed is few =
    let cut : bit_and (2 ^ 10 - 1 - field pressed 0 10) 0x3ff ≡ (2 ^ 10 - 1 - field pressed 0 10) % 2 ^ 10 =
    and_mask (2 ^ 10 - 1 - field pressed 0 10) 10 in
    omega (arith, is, cut, few)
