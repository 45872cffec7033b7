-- The bytes of the memories, and of the drawn lines.
use Rattle.std.proofs.Common.{◌≡◌, ℕ, zero, suc, ◌+◌, ◌*◌, ◌/◌, ◌%◌, ◌^◌, ◌<◌, ◌==◌, ◌∙◌, ap, sym, Bool, true, false, not, List, [], ◌∷◌, ◌++◌, map, length, drop, get_or, slice_index, if◌then◌else◌, refl, arith, lit<}
use Rattle.std.specs.List.{list_all, range_with_len}
use Rattle.std.proofs.lemmas.Bool.{cond_both}
use Rattle.std.proofs.lemmas.List.{drop_all, drop_more}
use Rattle.std.proofs.lemmas.List.FromFn.{length-map-range_with_len}
use Rattle.std.proofs.lemmas.Nat.{and_le_r, le_bytes_2}
use Rattle.gba_word.specs.Weights.{weight}
use Rattle.gba_terms.specs.Bits.{field}
use Rattle.gba_terms.specs.Bytes.{AreBytes}
use Rattle.gba_devices.specs.Registers.{half_listed}
use Rattle.gba_frozen_print.specs.Laws.{AreBelow}
use Rattle.gba_io.specs.Core.{Core, core_half_listed}
use Rattle.gba_io.specs.SerialRegisters.{is_serial}
use Rattle.gba_loose_devices.specs.Values.{half_at}
use Rattle.gba_screen.specs.Lines.{colour_bytes, colours_bytes}
use Rattle.gba_serial.specs.Registers.{control_listed, serial_kept, serial_rows, serial_listed}
use Rattle.gba_serial.specs.SerialUnit.{SerialUnit, mode_of}
use Rattle.gba_serial.specs.Timing.{is_multi}
use Rattle.gba_snapshot.specs.Console.{colours_of}
use Rattle.gba_snapshot.specs.Io.{io_bytes}
use Rattle.gba_device_laws.specs.Cable.{SerialHolds}
use Rattle.gba_device_laws.specs.Holding.{HasBytes}
use Rattle.gba_thaw_laws.proofs.Bits.{is_half_row, stored-small}
use Rattle.gba_thaw_laws.proofs.Ranges.{byte-below, weight-most}

-- ---- digits

pub below-bytes : (bytes : List ℕ) → AreBytes bytes → AreBelow 2 bytes
unfolding AreBelow
below-bytes [] are = tt
below-bytes (b ∷ bytes) are =
    (are 0 (omega arith), below-bytes bytes (λ place inside. are (suc place) (omega (arith, inside))))

below-append : (width : ℕ) (xs ys : List ℕ) → AreBelow width xs → AreBelow width ys → AreBelow width (xs ++ ys)
unfolding AreBelow
below-append width [] ys one two = two
below-append width (x ∷ xs) ys one two = (one.0, below-append width xs ys one.1 two)

below-map : (width : ℕ) (f : ℕ → ℕ) → ((k : ℕ) → f k < 2 ^ (4 * width)) → (from count : ℕ)
    → AreBelow width (map f (range_with_len from count))
unfolding AreBelow
below-map width f small from zero = tt
below-map width f small from (suc count) = (small from, below-map width f small (from + 1) count)

-- ---- the I/O registers

rows-halves : list_all is_half_row serial_rows ≡ true
unfolding serial_rows
rows-halves = refl

shown-small : (is_multi other : Bool) (player : ℕ)
    → (if is_multi then weight 4 other + 16 * field player 0 2 else 0) < 128
shown-small true other player = let one = weight-most 4 other in omega (arith, one)
shown-small false other player = lit< tt

control-small : (u : SerialUnit) → SerialHolds u → control_listed u < 0x10000
control-small u holds =
    let stored = and_le_r u.control 0x708b in
    let shown = shown-small (is_multi (mode_of u)) (not (u.player == 0)) u.player in
    let error = weight-most 64 u.error in
    omega (arith, stored, shown, error)

serial-small : (offset : ℕ) (u : SerialUnit) → SerialHolds u → serial_listed offset u < 0x10000
serial-small offset u holds =
    let small = stored-small serial_rows (λ offset. serial_kept offset u) rows-halves holds.stored in
    let P = λ (v : ℕ). v < 0x10000 in
    cond_both (offset == 0x120) _ _ P (λ _. small 0x120) (λ _.
    cond_both (offset == 0x122) _ _ P (λ _. small 0x122) (λ _.
    cond_both (offset == 0x124) _ _ P (λ _. small 0x124) (λ _.
    cond_both (offset == 0x126) _ _ P (λ _. small 0x126) (λ _.
    cond_both (offset == 0x128) _ _ P (λ _. control-small u holds) (λ _.
    cond_both (offset == 0x12a) _ _ P (λ _. small 0x12a) (λ _.
    cond_both (offset == 0x134) _ _ P (λ _. small 0x134) (λ _. lit< tt)))))))

half-small : (offset : ℕ) (b : Core) → SerialHolds b.serial → core_half_listed offset b < 0x10000
unfolding core_half_listed half_listed
half-small offset b holds =
    cond_both (is_serial offset) _ _ (λ (v : ℕ). v < 0x10000) (λ _. serial-small offset b.serial holds)
    (λ _. omega arith)

pub io-below : (halves : ℕ) (b : Core) → SerialHolds b.serial → AreBelow 2 (io_bytes halves b)
unfolding io_bytes AreBelow
io-below zero b holds = tt
io-below (suc halves) b holds =
    let half = core_half_listed (2 * halves) b in
    let small = half-small (2 * halves) b holds in
    below-append 2 (io_bytes halves b) (half % 256 ∷ half / 256 ∷ []) (io-below halves b holds)
    (omega arith, (omega (arith, small), tt))

-- ---- drawn lines

half-at-below : (bytes : List ℕ) → AreBytes bytes → (offset : ℕ) → half_at offset bytes < 2 ^ (4 * 4)
half-at-below bytes are offset =
    let low = byte-below bytes are offset in
    let high = byte-below bytes are (offset + 1) in
    omega (arith, low, high)

pub colours-below : (bytes : List ℕ) → AreBytes bytes → AreBelow 4 (colours_of bytes)
colours-below bytes are =
    below-map 4 (λ place. half_at (2 * place) bytes) (λ place. half-at-below bytes are (2 * place)) 0 240

pub colours-long : (bytes : List ℕ) → length (colours_of bytes) ≡ 240
colours-long bytes = length-map-range_with_len (λ place. half_at (2 * place) bytes) 0 240

colour-again : (low high : ℕ) → low < 256 → high < 256 → colour_bytes (low + 2 ^ 8 * high) ≡ (low ∷ high ∷ [])
colour-again low high l h =
    le_bytes_2 (low ∷ high ∷ []) (low + 2 ^ 8 * high) refl small (omega arith) where
      small : (i : ℕ) → get_or (low ∷ high ∷ []) i 0 < 256
      small zero = l
      small (suc zero) = h
      small (suc (suc i)) = lit< tt

colours-from : (bytes : List ℕ) → AreBytes bytes → (from count : ℕ) → 2 * (from + count) ≡ length bytes
    → colours_bytes (map (λ place. half_at (2 * place) bytes) (range_with_len from count)) ≡ drop (2 * from) bytes
colours-from bytes are from zero long = sym (drop_all (2 * from) bytes (omega (arith, long)))
colours-from bytes are from (suc count) long =
    let one =
    colour-again (slice_index bytes (2 * from)) (slice_index bytes (2 * from + 1)) (byte-below bytes are (2 * from))
    (byte-below bytes are (2 * from + 1)) in
    let rest = colours-from bytes are (from + 1) count (omega (arith, long)) in
    let first = drop_more bytes (2 * from) 0 (omega (arith, long)) in
    let second = drop_more bytes (2 * from + 1) 0 (omega (arith, long)) in
    let next : 2 * (from + 1) ≡ 2 * from + 1 + 1 = omega arith in
    (λ i. one i ++ rest i)
    ∙ ap (λ (k : ℕ). slice_index bytes (2 * from) ∷ slice_index bytes (2 * from + 1) ∷ drop k bytes) next
    ∙ ap (λ (xs : List ℕ). slice_index bytes (2 * from) ∷ xs) (sym second) ∙ sym first

pub colours-again : (line : List ℕ) → HasBytes 480 line → colours_bytes (colours_of line) ≡ line
colours-again line holds = colours-from line holds.bytes 0 240 (sym holds.long)
