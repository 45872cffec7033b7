-- What the picture's registers keep.
use Rattle.std.proofs.Common.{◌≡◌, ◌≢◌, ℕ, ◌^◌, ◌<◌, ◌≤◌, ◌+◌, ◌-◌, ◌*◌, ◌/◌, ◌%◌, Bool, true, false, List, length, get_or, set, replicate, refl, ap, subst, ◌∙◌, arith, ⊎_elim, if◌then◌else◌}
use Rattle.std.specs.Prelude.{bit_and}
use lib.Bits.{and_zero_l}
use Rattle.std.proofs.lemmas.Bool.{cases_eq, cases_lt}
use Rattle.std.proofs.lemmas.Bool.Decides.{nat_tests}
use Rattle.std.proofs.lemmas.List.{length-set, get_or-replicate, get_or-set_same, get_or-set_other, get_or_past}
use Rattle.gba_terms.specs.Bits.{bit}
use Rattle.gba_register.specs.Rows.{row_at}
use Rattle.gba_ppu_reg.specs.Registers.{Picture, after_line, after_reload, grown, halves_at_reset, is_half_of, is_listed, picture_at_reset, picture_kept, picture_rows, picture_written, point_after, written_halves, written_point}
use Rattle.gba_word.specs.Extension.{sign_extension}
use Rattle.gba_device_laws.specs.Holding.{HasStoredBits, PictureHolds}
use Rattle.gba_device_laws.proofs.Masks.{and-twice, nothing-stored}

-- the halfwords alone
abbrev kept_in : List ℕ → ℕ → ℕ
kept_in halves at = if is_listed at then get_or halves (at / 2) 0 else 0

record HalvesHold (halves : List ℕ) : Type 0 where
  long : length halves ≡ 43
  stored : HasStoredBits picture_rows (kept_in halves)

halves-write : (offset value : ℕ) (halves : List ℕ) → HalvesHold halves
    → HalvesHold (if is_listed offset
    then set halves (offset / 2) (bit_and value (row_at picture_rows offset).write_mask) else halves)
halves-write offset value halves is =
    by_listed (is_listed offset) refl
  where
    mask : ℕ → ℕ
    mask at = (row_at picture_rows at).write_mask

    at-half : (at : ℕ) → is_listed offset ≡ true → (there : Bool) → is_listed at ≡ there
        → bit_and (if there then get_or (set halves (offset / 2) (bit_and value (mask offset))) (at / 2) 0 else 0)
        (mask at)
        ≡ (if there then get_or (set halves (offset / 2) (bit_and value (mask offset))) (at / 2) 0 else 0)
    at-half at listed false none = and_zero_l (mask at)
    at-half at listed true here =
        ⊎_elim
        (λ (same : at ≡ offset).
        let within : offset / 2 < length halves = rw is.long (grind (arith, nat_tests, listed)) in
        let value_there : get_or (set halves (offset / 2) (bit_and value (mask offset))) (at / 2) 0
        ≡ bit_and value (mask offset) =
        ap (λ k. get_or (set halves (offset / 2) (bit_and value (mask offset))) (k / 2) 0) same
        ∙ get_or-set_same halves (offset / 2) (bit_and value (mask offset)) 0 within in
        rw value_there (rw same (and-twice value (mask offset))))
        (λ (other : at ≢ offset).
        let apart : at / 2 ≢ offset / 2 = λ same. other (grind (arith, nat_tests, listed, here, same)) in
        rw (get_or-set_other halves (offset / 2) (at / 2) (bit_and value (mask offset)) 0 apart) (before at here))
        (cases_eq at offset)
      where
        before : (k : ℕ) → is_listed k ≡ true → bit_and (get_or halves (k / 2) 0) (mask k) ≡ get_or halves (k / 2) 0
        before k here =
            subst (λ t. bit_and (if t then get_or halves (k / 2) 0 else 0) (mask k)
            ≡ (if t then get_or halves (k / 2) 0 else 0)) here
            (is.stored k)

    by_listed : (test : Bool) → is_listed offset ≡ test
        → HalvesHold (if test then set halves (offset / 2) (bit_and value (row_at picture_rows offset).write_mask)
        else halves)
    by_listed false none = is
    by_listed true listed = record {
      long = length-set halves (offset / 2) (bit_and value (mask offset)) ∙ is.long;
      stored = λ at. at-half at listed (is_listed at) refl;
    }

extended-point : (value : ℕ) → sign_extension value 28 < 2 ^ 32
extended-point value = by_sign (bit value 27)
  where
    by_sign : (test : Bool) → (if test then value % 2 ^ 28 + (2 ^ 32 - 2 ^ 28) else value % 2 ^ 28) < 2 ^ 32
    by_sign true = omega arith
    by_sign false = omega arith

written-word : (offset : ℕ) (halves : List ℕ) → written_point offset halves < 2 ^ 32
written-word offset halves =
    extended-point (get_or halves (offset / 2) 0 + 2 ^ 16 * get_or halves (offset / 2 + 1) 0)

grown-word : (point parameter : ℕ) (r : Picture) → grown point parameter r < 2 ^ 32
grown-word point parameter r = omega arith

after-word : (point offset : ℕ) (halves : List ℕ) (old : ℕ) → old < 2 ^ 32
    → point_after point offset halves old < 2 ^ 32
after-word point offset halves old small = by_half (is_half_of point offset)
  where
    by_half : (test : Bool) → (if test then written_point point halves else old) < 2 ^ 32
    by_half true = written-word point halves
    by_half false = small

pub picture-write : (offset value : ℕ) (r : Picture) → PictureHolds r → PictureHolds (picture_written offset value r)
picture-write offset value r is =
    let halves = halves-write offset value r.halves (record { long = is.long; stored = is.stored }) in
    record {
      long = halves.long;
      reference2 = record {
        x = after-word 0x028 offset (written_halves offset value r) r.reference2.x is.reference2.x;
        y = after-word 0x02c offset (written_halves offset value r) r.reference2.y is.reference2.y;
      };
      reference3 = record {
        x = after-word 0x038 offset (written_halves offset value r) r.reference3.x is.reference3.x;
        y = after-word 0x03c offset (written_halves offset value r) r.reference3.y is.reference3.y;
      };
      stored = halves.stored;
    }

pub picture-line : (r : Picture) → PictureHolds r → PictureHolds (after_line r)
picture-line r is = record {
  long = is.long;
  reference2 = record { x = grown-word r.reference2.x 0x022 r; y = grown-word r.reference2.y 0x026 r };
  reference3 = record { x = grown-word r.reference3.x 0x032 r; y = grown-word r.reference3.y 0x036 r };
  stored = is.stored;
}

pub picture-reload : (r : Picture) → PictureHolds r → PictureHolds (after_reload r)
picture-reload r is = record {
  long = is.long;
  reference2 = record { x = written-word 0x028 r.halves; y = written-word 0x02c r.halves };
  reference3 = record { x = written-word 0x038 r.halves; y = written-word 0x03c r.halves };
  stored = is.stored;
}

zero-halves : (at : ℕ) → get_or halves_at_reset at 0 ≡ 0
unfolding halves_at_reset
zero-halves at =
    ⊎_elim (λ (within : at < 43). get_or-replicate 43 at 0 0 within)
    (λ (past : 43 ≤ at). get_or_past (replicate 43 0) at 0 past) (cases_lt at 43)

pub picture-reset : PictureHolds picture_at_reset
unfolding halves_at_reset
picture-reset = record {
  long = refl;
  reference2 = record { x = omega arith; y = omega arith };
  reference3 = record { x = omega arith; y = omega arith };
  stored =
      λ at. nothing-stored (picture_kept at picture_at_reset) (row_at picture_rows at).write_mask
      (none at (is_listed at));
}
  where
    none : (at : ℕ) (test : Bool) → (if test then get_or halves_at_reset (at / 2) 0 else 0) ≡ 0
    none at true = zero-halves (at / 2)
    none at false = refl
