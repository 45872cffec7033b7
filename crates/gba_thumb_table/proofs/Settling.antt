use Rattle.std.proofs.Common.{ℕ, ◌/◌, ◌%◌, ◌<◌, ◌≡◌, ◌∙◌, ap, sym, refl, Bool, true, ◌&&◌, arith}
use Rattle.std.proofs.lemmas.Bool.{eqb-true}
use Rattle.std.specs.Prelude.{nat_lt, nat_eq, ◌==◌, if◌then◌else◌}
use Rattle.gba_terms.specs.Bits.{field}
use Rattle.gba_thumb_table.specs.declared.format.Format.{Format}
use Rattle.gba_thumb_table.specs.declared.format.Format.TheVariants as format
use Rattle.gba_thumb_table.specs.Table.{rows, format_in}
use Rattle.gba_thumb_table.proofs.Branching.{kept, number, format_at, format_at-number, all_below, all_below-at, format_in-key}

-- What a format says of bits 15 to 8, where every earlier row is taken into account.

abbrev pub settled : Format → ℕ → Bool
settled format.Format1 high = nat_lt high 24
settled format.Format2 high = high / 8 == 3
settled format.Format3 high = high / 32 == 1
settled format.Format4 high = high / 4 == 16
settled format.Format5 high = high / 4 == 17
settled format.Format6 high = high / 8 == 9
settled format.Format7 high = high / 16 == 5 && high / 2 % 2 == 0
settled format.Format8 high = high / 16 == 5 && high / 2 % 2 == 1
settled format.Format9 high = high / 32 == 3
settled format.Format10 high = high / 16 == 8
settled format.Format11 high = high / 16 == 9
settled format.Format12 high = high / 16 == 10
settled format.Format13 high = high == 0xB0
settled format.Format14 high = high / 16 == 11 && high / 2 % 4 == 2
settled format.Format15 high = high / 16 == 12
settled format.Format16 high = high / 16 == 13 && nat_lt (high % 16) 14
settled format.Format17 high = high == 0xDF
settled format.Format18 high = high / 8 == 28
settled format.Format19 high = high / 16 == 15
settled format.Undefined high = true

abbrev pub Settled : Format → ℕ → Type 0
Settled f half = settled f (field half 8 8) ≡ true

abbrev settled_at : ℕ → Bool
settled_at high = settled (format_in rows (kept high)) high

all_settled : all_below settled_at 256 ≡ true
unfolding rows all_below
all_settled = refl

-- the first row that a halfword fits says so of it
pub settled-rows : (half : ℕ) → Settled (format_in rows half) half
settled-rows half =
    ap (λ f. settled f (field half 8 8)) (format_in-key half)
    ∙ all_below-at settled_at 256 all_settled (field half 8 8) (omega arith)

-- and no other format does
abbrev found_at : ℕ → ℕ → Bool
found_at place high =
    if settled (format_at place) high then nat_eq (number (format_in rows (kept high))) (number (format_at place))
    else true

all_found : all_below (λ place. all_below (found_at place) 256) 19 ≡ true
unfolding rows all_below format_at
all_found = refl

pub format_in-settled : (f : Format) → number f < 19 → (half : ℕ) → Settled f half → format_in rows half ≡ f
format_in-settled f there half s =
    let row : all_below (found_at (number f)) 256 ≡ true = all_below-at _ 19 all_found (number f) there in
    let cell : found_at (number f) (field half 8 8) ≡ true =
    all_below-at (found_at (number f)) 256 row (field half 8 8) (omega arith) in
    let known : settled (format_at (number f)) (field half 8 8) ≡ true =
    ap (λ g. settled g (field half 8 8)) (format_at-number f) ∙ s in
    let same : nat_eq (number (format_in rows (kept (field half 8 8)))) (number (format_at (number f))) ≡ true =
    rw known at cell in
    let numbers : number (format_in rows (kept (field half 8 8))) ≡ number (format_at (number f)) = eqb-true _ _ same in
    format_in-key half ∙ sym (format_at-number _) ∙ ap format_at numbers ∙ format_at-number _ ∙ format_at-number f
