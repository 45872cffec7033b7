-- The numbers of a console by their places.
use Rattle.std.proofs.Common.{◌≡◌, ℕ, zero, suc, ◌+◌, ◌<◌, ◌∙◌, ap, sym, true, List, [], ◌∷◌, map, length, get_or, nat_lt, arith, refl}
use Rattle.std.specs.List.{list_all, range_with_len}
use Rattle.std.proofs.lemmas.Bool.{lt-ltb}
use Rattle.std.proofs.lemmas.List.{get_or-map}
use Rattle.std.proofs.lemmas.List.FromFn.{get_or-range_with_len}
use Rattle.gba_text.proofs.Spans.{first_of_all, rest_of_all}
use Rattle.gba_console.specs.Machine.{Machine}
use Rattle.gba_numbers.specs.Fields.{is_field, is_board_field, place_of, board_place}
use Rattle.gba_numbers.specs.Laws.{HaveOwnPlaces}
use Rattle.gba_numbers.specs.Numbers.{value_of, value_at}
use Rattle.gba_numbers.specs.declared.fields.Field.{Field}
use Rattle.gba_numbers.specs.declared.fields.Field.TheVariants as console
use Rattle.gba_snapshot.specs.Snapshot.{console_number, numbers_of, single_fields}

all-placed : map place_of single_fields ≡ range_with_len 0 138
unfolding single_fields place_of board_place
all-placed = refl

all-fields : list_all is_field single_fields ≡ true
unfolding single_fields is_field is_board_field
all-fields = refl

long : length single_fields ≡ 138
unfolding single_fields
long = refl

-- the field at a place
at : ℕ → Field
at k = get_or single_fields k console.Clock

place-at : (k : ℕ) → k < 138 → place_of (at k) ≡ k
unfolding at
place-at k inside =
    let within : k < length single_fields = omega (arith, inside, long) in
    let chain : place_of (at k) ≡ 0 + k =
    sym (get_or-map place_of single_fields k console.Clock 0 within) ∙ ap (λ (xs : List ℕ). get_or xs k 0) all-placed
    ∙ get_or-range_with_len 0 138 k 0 inside in
    omega (arith, chain)

all-at : (xs : List Field) (k : ℕ) → list_all is_field xs ≡ true → k < length xs
    → is_field (get_or xs k console.Clock) ≡ true
all-at [] k h inside = absurd (omega arith)
all-at (x ∷ xs) zero h inside = first_of_all (is_field x) (list_all is_field xs) h
all-at (x ∷ xs) (suc k) h inside = all-at xs k (rest_of_all (is_field x) (list_all is_field xs) h) (omega arith)

field-at : HaveOwnPlaces → (field : Field) → is_field field ≡ true → place_of field < 138 → at (place_of field) ≡ field
unfolding at
field-at own field is inside =
    own (at (place_of field)) field (all-at single_fields (place_of field) all-fields (omega (arith, inside, long))) is
    (place-at (place_of field) inside)

-- a number is read again at its place
pub number_placed : HaveOwnPlaces → (m : Machine) (field : Field) → is_field field ≡ true → place_of field < 138
    → console_number field m ≡ value_of field (numbers_of m)
unfolding numbers_of value_at at
number_placed own m field is inside =
    let within : place_of field < length single_fields = omega (arith, inside, long) in
    let single : nat_lt (place_of field) 138 ≡ true = lt-ltb (place_of field) 138 inside in
    sym (rw single (get_or-map (λ f. console_number f m) single_fields (place_of field) console.Clock 0 within
    ∙ ap (λ (f : Field). console_number f m) (field-at own field is inside)))
