-- Colours as bytes, eight at a time.
use Rattle.std.proofs.Common.{◌≡◌, ℕ, ◌+◌, ◌-◌, ◌*◌, ◌<◌, ◌++◌, ◌∙◌, List, [], ◌∷◌, length, refl, sym, ap, arith, take, drop, slice_index_or}
use Rattle.std.specs.Int.{w16, to_le_bytes}
use Rattle.std.proofs.lemmas.Grind.{flat_map-append}
use Rattle.std.proofs.lemmas.List.{append_assoc, take_all}
use Rattle.std.proofs.lemmas.Slice.{take-put_mid}
use borrow.Rule.Slice.PartMut.{put_mid}
use Rattle.std.proofs.lemmas.List.Concat.{flat_map-cons}
use Rattle.std.proofs.Math.Seq.{take-add}
use Rattle.gba_screen.specs.Lines.{colour_bytes, colours_bytes}

-- a byte of one of the colours
abbrev pub byte_in : List ℕ → ℕ → ℕ → ℕ
byte_in colours k j = slice_index_or (to_le_bytes w16 (slice_index_or colours k 0)) j 0

abbrev pub bytes_in_eight : List ℕ → List ℕ
bytes_in_eight xs =
    byte_in xs 0 0 ∷ byte_in xs 0 1 ∷ byte_in xs 1 0 ∷ byte_in xs 1 1 ∷ byte_in xs 2 0 ∷ byte_in xs 2 1
    ∷ byte_in xs 3 0 ∷ byte_in xs 3 1 ∷ byte_in xs 4 0 ∷ byte_in xs 4 1 ∷ byte_in xs 5 0 ∷ byte_in xs 5 1
    ∷ byte_in xs 6 0 ∷ byte_in xs 6 1 ∷ byte_in xs 7 0 ∷ byte_in xs 7 1 ∷ []

pub eight : (xs : List ℕ) → length xs ≡ 8 → bytes_in_eight xs ≡ colours_bytes xs
eight (a ∷ b ∷ c ∷ d ∷ e ∷ f ∷ g ∷ h ∷ []) n =
    let one = λ (x : ℕ) (xs : List ℕ). flat_map-cons colour_bytes x xs in
    rw (
      one a (b ∷ c ∷ d ∷ e ∷ f ∷ g ∷ h ∷ []),
      one b (c ∷ d ∷ e ∷ f ∷ g ∷ h ∷ []),
      one c (d ∷ e ∷ f ∷ g ∷ h ∷ []),
      one d (e ∷ f ∷ g ∷ h ∷ []),
      one e (f ∷ g ∷ h ∷ []),
      one f (g ∷ h ∷ []),
      one g (h ∷ []),
      one h [],
    ) refl
eight xs n = absurd (omega (arith, n))

-- eight colours more
pub eight-more : (old acc more colours : List ℕ) (part : ℕ) → acc ≡ old ++ colours_bytes (take (8 * part) colours)
    → more ≡ colours_bytes (take (8 * part + 8 - 8 * part) (drop (8 * part) colours))
    → acc ++ more ≡ old ++ colours_bytes (take (8 * (part + 1)) colours)
eight-more old acc more colours part done here =
    let first = take (8 * part) colours in
    let next = take 8 (drop (8 * part) colours) in
    let eight : 8 * part + 8 - 8 * part ≡ 8 = omega arith in
    let both : 8 * part + 8 ≡ 8 * (part + 1) = omega arith in
    ap (λ (bytes : List ℕ). bytes ++ more) done
    ∙ append_assoc old (colours_bytes first) more
    ∙ ap (λ (bytes : List ℕ). old ++ (colours_bytes first ++ bytes))
    (here ∙ ap (λ (n : ℕ). colours_bytes (take n (drop (8 * part) colours))) eight)
    ∙ ap (λ (bytes : List ℕ). old ++ bytes) (sym (flat_map-append colour_bytes first next))
    ∙ ap (λ (some : List ℕ). old ++ colours_bytes some) (sym (take-add (8 * part) 8 colours))
    ∙ ap (λ (n : ℕ). old ++ colours_bytes (take n colours)) both

-- the same where they are put into a line of bytes
pub spelled-more : (bytes more colours : List ℕ) (part wide : ℕ) → length bytes ≡ 480 → length more ≡ 16 → part < 30
    → take (16 * part) bytes ≡ colours_bytes (take (8 * part) colours)
    → more ≡ colours_bytes (take (8 * part + 8 - 8 * part) (drop (8 * part) colours))
    → take (16 * (part + 1)) (put_mid (16 * part) wide bytes more) ≡ colours_bytes (take (8 * (part + 1)) colours)
spelled-more bytes more colours part wide whole one early done here =
    take-put_mid (16 * part) wide bytes more (16 * (part + 1)) (omega arith) (omega arith)
    ∙ eight-more [] (take (16 * part) bytes) more colours part done here

pub spelled-all : (bytes colours : List ℕ) (part : ℕ) → length bytes ≡ 480 → length colours ≡ 240 → part ≡ 30
    → take (16 * part) bytes ≡ colours_bytes (take (8 * part) colours) → bytes ≡ colours_bytes colours
spelled-all bytes colours part whole line last done =
    sym (take_all (16 * part) bytes (omega arith))
    ∙ done
    ∙ ap colours_bytes (take_all (8 * part) colours (omega arith))
