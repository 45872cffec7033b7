-- Paints of dots, and lines of them.
use Rattle.std.proofs.Common.{◌≡◌, ℕ, zero, suc, ◌+◌, ◌*◌, ◌/◌, ◌%◌, ◌^◌, ◌<◌, ◌≤◌, Bool, true, false, List, slice_index, refl, ap, sym, ◌∙◌, arith}
use Rattle.std.specs.Prelude.{◌==◌, if◌then◌else◌}
use Rattle.std.proofs.Math.Nat.{zero-div}
use Rattle.std.proofs.lemmas.Bool.{le-ltb, lt-ltb}
use Rattle.gba_ppu_dot.specs.Bytes.{tile_byte}
use Rattle.std.proofs.lemmas.Bool.Decides.{nat_tests}
use Rattle.gba_terms.specs.Bits.{bit, field}
use Rattle.gba_ppu_dot.specs.Control.{has_eight_bits, priority_of, tiles_start}
use Rattle.gba_ppu_dot.specs.Dots.{indexed_dot}
use Rattle.gba_ppu_dot.specs.Paints.{colour_of, nibble_paint, paint_of, palette_colour}
use Rattle.gba_ppu_text.specs.Paint.{number_paint}
use Rattle.gba_ppu_text.specs.Text.{mirrored, nibble_number, number_at, palette_of, tile_dot}

-- the paint of a dot by its number
by_number : (palette : List ℕ) (priority start number : ℕ) (is_nothing : Bool) → (number == 0) ≡ is_nothing
    → number_paint palette start number ≡ paint_of palette (indexed_dot priority start number)
unfolding colour_of
by_number palette priority start number true e = rw e refl
by_number palette priority start number false e = rw e refl

pub numbered : (palette : List ℕ) (priority start number : ℕ)
    → number_paint palette start number ≡ paint_of palette (indexed_dot priority start number)
numbered palette priority start number = by_number palette priority start number (number == 0) refl

same_test : (start number : ℕ) → start % 16 ≡ 0 → number < 16 → ((start + number) % 16 == 0) ≡ (number == 0)
same_test start number a h = grind (arith, nat_tests, a, h)

pub nibble_is : (palette : List ℕ) (start number : ℕ) → start % 16 ≡ 0 → number < 16
    → nibble_paint palette (start + number) ≡ number_paint palette start number
nibble_is palette start number a h =
    ap (λ (t : Bool). if t then 0x8000 else palette_colour palette (start + number)) (same_test start number a h)

-- the number of a dot in nibbles, and in bytes
within_row : (mirror : Bool) (column : ℕ) → column < 8 → mirrored mirror column < 8
within_row true column h = omega arith
within_row false column h = h

nibble_seen : (vram : List ℕ) (control entry column row : ℕ) (mirror : Bool) → has_eight_bits control ≡ false
    → mirror ≡ bit entry 10
    → nibble_number vram (tiles_start control + 32 * field entry 0 10 + 4 * mirrored (bit entry 11) row)
    (mirrored mirror column)
    ≡ number_at vram control entry column row
unfolding number_at
nibble_seen vram control entry column row mirror e m = rw (m, e) refl

pub nibbles_seen : (palette vram : List ℕ) (control entry column row numbers start : ℕ) (mirror : Bool) → column < 8
    → has_eight_bits control ≡ false
    → ((i : ℕ) → i < 8 → field numbers (4 * i) 4 ≡ nibble_number vram
    (tiles_start control + 32 * field entry 0 10 + 4 * mirrored (bit entry 11) row) i)
    → start ≡ palette_of control entry → mirror ≡ bit entry 10
    → number_paint palette start (field numbers (4 * mirrored mirror column) 4)
    ≡ paint_of palette (tile_dot vram control entry column row)
nibbles_seen palette vram control entry column row numbers start mirror h e is s m =
    ap (λ n. number_paint palette start n)
    (is (mirrored mirror column) (within_row mirror column h) ∙ nibble_seen vram control entry column row mirror e m)
    ∙ ap (λ n. number_paint palette n (number_at vram control entry column row)) s
    ∙ numbered palette (priority_of control) (palette_of control entry) (number_at vram control entry column row)

pub bytes_seen : (palette vram numbers : List ℕ) (control entry column row : ℕ) → column < 8
    → has_eight_bits control ≡ true
    → ((i : ℕ) → i < 8 → slice_index numbers i ≡ number_at vram control entry i row)
    → number_paint palette 0 (slice_index numbers column) ≡ paint_of palette (tile_dot vram control entry column row)
bytes_seen palette vram numbers control entry column row h e is =
    ap (λ n. number_paint palette 0 n) (is column h)
    ∙ numbered palette (priority_of control) 0 (number_at vram control entry column row)
    ∙ rw e refl

-- a row of nibbles as one number
byte_at : (vram : List ℕ) (start k low a : ℕ) → start % 4 ≡ 0 → start < 0x10000 → k < 4
    → a ≡ slice_index vram (start + k)
    → field a low 4 ≡ field (tile_byte vram (start + k)) low 4
byte_at vram start k low a m h b e =
    ap (λ n. field n low 4) e
    ∙ sym (ap (λ (t : Bool). field (if t then slice_index vram (start + k) else 0) low 4)
    (lt-ltb (start + k) 0x10000 (omega arith)))

pub record AreBytes (vram : List ℕ) (start a b c d : ℕ) : Type 0 where
  pub aligned : start % 4 ≡ 0
  pub within : start < 0x10000
  pub first : a ≡ slice_index vram (start + 0)
  pub second : b ≡ slice_index vram (start + 1)
  pub third : c ≡ slice_index vram (start + 2)
  pub fourth : d ≡ slice_index vram (start + 3)
  pub first_fits : a < 256
  pub second_fits : b < 256
  pub third_fits : c < 256
  pub fourth_fits : d < 256

pub nibbles_of : (vram : List ℕ) (start a b c d column : ℕ) → AreBytes vram start a b c d → column < 8
    → field (a + 256 * b + 65536 * c + 16777216 * d) (4 * column) 4 ≡ nibble_number vram start column
unfolding nibble_number
nibbles_of vram start a b c d zero is h =
    let e : (a + 256 * b + 65536 * c + 16777216 * d) / 2 ^ 0 % 2 ^ 4 ≡ a / 2 ^ 0 % 2 ^ 4 = omega (arith, is) in
    e ∙ byte_at vram start 0 0 a is.aligned is.within (omega arith) is.first
nibbles_of vram start a b c d (suc zero) is h =
    let e : (a + 256 * b + 65536 * c + 16777216 * d) / 2 ^ 4 % 2 ^ 4 ≡ a / 2 ^ 4 % 2 ^ 4 = omega (arith, is) in
    e ∙ byte_at vram start 0 4 a is.aligned is.within (omega arith) is.first
nibbles_of vram start a b c d (suc (suc zero)) is h =
    let e : (a + 256 * b + 65536 * c + 16777216 * d) / 2 ^ 8 % 2 ^ 4 ≡ b / 2 ^ 0 % 2 ^ 4 = omega (arith, is) in
    e ∙ byte_at vram start 1 0 b is.aligned is.within (omega arith) is.second
nibbles_of vram start a b c d (suc (suc (suc zero))) is h =
    let e : (a + 256 * b + 65536 * c + 16777216 * d) / 2 ^ 12 % 2 ^ 4 ≡ b / 2 ^ 4 % 2 ^ 4 = omega (arith, is) in
    e ∙ byte_at vram start 1 4 b is.aligned is.within (omega arith) is.second
nibbles_of vram start a b c d (suc (suc (suc (suc zero)))) is h =
    let e : (a + 256 * b + 65536 * c + 16777216 * d) / 2 ^ 16 % 2 ^ 4 ≡ c / 2 ^ 0 % 2 ^ 4 = omega (arith, is) in
    e ∙ byte_at vram start 2 0 c is.aligned is.within (omega arith) is.third
nibbles_of vram start a b c d (suc (suc (suc (suc (suc zero))))) is h =
    let e : (a + 256 * b + 65536 * c + 16777216 * d) / 2 ^ 20 % 2 ^ 4 ≡ c / 2 ^ 4 % 2 ^ 4 = omega (arith, is) in
    e ∙ byte_at vram start 2 4 c is.aligned is.within (omega arith) is.third
nibbles_of vram start a b c d (suc (suc (suc (suc (suc (suc zero)))))) is h =
    let e : (a + 256 * b + 65536 * c + 16777216 * d) / 2 ^ 24 % 2 ^ 4 ≡ d / 2 ^ 0 % 2 ^ 4 = omega (arith, is) in
    e ∙ byte_at vram start 3 0 d is.aligned is.within (omega arith) is.fourth
nibbles_of vram start a b c d (suc (suc (suc (suc (suc (suc (suc zero))))))) is h =
    let e : (a + 256 * b + 65536 * c + 16777216 * d) / 2 ^ 28 % 2 ^ 4 ≡ d / 2 ^ 4 % 2 ^ 4 = omega (arith, is) in
    e ∙ byte_at vram start 3 4 d is.aligned is.within (omega arith) is.fourth
nibbles_of vram start a b c d (suc (suc (suc (suc (suc (suc (suc (suc more)))))))) is h = absurd (omega arith)

pub no_nibbles : (vram : List ℕ) (start column : ℕ) → 0x10000 ≤ start
    → field 0 (4 * column) 4 ≡ nibble_number vram start column
unfolding nibble_number
no_nibbles vram start column h =
    nothing (4 * column) ∙ sym (nothing (4 * (column % 2)))
    ∙ sym (ap (λ (t : Bool). field (if t then slice_index vram (start + column / 2) else 0) (4 * (column % 2)) 4)
    (le-ltb (start + column / 2) 0x10000 (omega arith)))
  where
    nothing : (low : ℕ) → field 0 low 4 ≡ 0
    nothing low = ap (λ n. n % 2 ^ 4) (zero-div (2 ^ low))
