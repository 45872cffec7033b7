-- One step of what loops do.
use Rattle.std.proofs.Common.{◌≡◌, ℕ, suc, ◌+◌, ◌<◌, true, ◌&&◌, List, [], ◌∷◌, ◌++◌, length, take, drop, get_or, Ok, refl, ap, sym, ◌∙◌, append_assoc, add-one, drop-cons}
use Rattle.std.specs.Str.Parse.{digits_value}
use Rattle.gba_text.specs.Steps.{◌>>=◌, taken}
use Rattle.gba_numbers.specs.Ranges.{field_fits}
use Rattle.gba_frozen.specs.Rows.{all_fit, field_of, in_time}
use Rattle.gba_frozen.specs.Spelling.{numbers_in}
use Rattle.gba_frozen.specs.Words.{LineWords, value_at, values_at}
use Rattle.gba_frozen.specs.declared.rows.Row.{Row}
use Rattle.gba_frozen.specs.declared.rows.Spelling.{Spelling}

-- the numbers that are left are the next one and those after it
pub numbers_in-more : (width left count : ℕ) (digits : List ℕ) → left ≡ suc count
    → numbers_in width left digits ≡ digits_value 16 (take width digits) ∷ numbers_in width count (drop width digits)
unfolding numbers_in
numbers_in-more width left count digits is = ap (λ n. numbers_in width n digits) is

pub numbers_in-none : (width left : ℕ) (digits : List ℕ) → left ≡ 0 → numbers_in width left digits ≡ []
unfolding numbers_in
numbers_in-none width left digits is = ap (λ n. numbers_in width n digits) is

-- a list that grew by the next number of those that are left
pub grown : (width left count next : ℕ) (digits : List ℕ) (old new after all : List ℕ) → left ≡ suc count
    → next ≡ digits_value 16 (take width digits) → new ≡ old ++ next ∷ [] → after ≡ drop width digits
    → old ++ numbers_in width left digits ≡ all → new ++ numbers_in width count after ≡ all
grown width left count next digits old new after all more is grew rest whole =
    ap (λ t. t ++ numbers_in width count after) grew
    ∙ append_assoc old (next ∷ []) (numbers_in width count after)
    ∙ ap (λ t. old ++ next ∷ numbers_in width count t) rest
    ∙ ap (λ n. old ++ n ∷ numbers_in width count (drop width digits)) is
    ∙ ap (λ t. old ++ t) (sym (numbers_in-more width left count digits more))
    ∙ whole

-- the words that are left are the next number and those after it
pub values_at-more : (spelling : Spelling) (left count : ℕ) (values : List ℕ) (words : LineWords) → left ≡ suc count
    → values_at spelling left values words
    ≡ (value_at spelling words >>= (λ t. values_at spelling count (values ++ t.value ∷ []) t.left))
unfolding values_at
values_at-more spelling left count values words is = ap (λ n. values_at spelling n values words) is

pub values_at-none : (spelling : Spelling) (left : ℕ) (values : List ℕ) (words : LineWords) → left ≡ 0
    → values_at spelling left values words ≡ Ok (taken values words)
unfolding values_at
values_at-none spelling left values words is = ap (λ n. values_at spelling n values words) is

-- the values that are left are the next one and those after it
pub all_fit-more : (until : ℕ) (which : Row) (part : ℕ) (values : List ℕ) → part < length values
    → all_fit until which part (drop part values)
    ≡ (field_fits (field_of which part) (get_or values part 0)
    && in_time until (field_of which part) (get_or values part 0)
    && all_fit until which (part + 1) (drop (part + 1) values))
unfolding all_fit
all_fit-more until which part values inside =
    ap (all_fit until which part) (drop-cons values part 0 inside)
    ∙ ap (λ k. field_fits (field_of which part) (get_or values part 0)
    && in_time until (field_of which part) (get_or values part 0)
    && all_fit until which (part + 1) (drop k values)) (sym (add-one part))

pub all_fit-none : (until : ℕ) (which : Row) (part : ℕ) (values : List ℕ) → drop part values ≡ []
    → all_fit until which part (drop part values) ≡ true
unfolding all_fit
all_fit-none until which part values none = rw none refl
