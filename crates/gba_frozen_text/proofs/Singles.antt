-- The numbers of rows: each stands by itself, and one that can be printed is spelled as its row asks.
use Rattle.std.proofs.Common.{◌≡◌, ◌<◌, ◌≤◌, ℕ, zero, suc, ◌==◌, Bool, true, false, cond, nat_le, nat_lt, ◌&&◌, refl, ap, arith}
use Rattle.std.proofs.lemmas.Bool.Decides.{nat_tests}
use Rattle.gba_numbers.specs.Fields.{board_place, place_of}
use Rattle.gba_numbers.specs.declared.fields.Field.{Field}
use Rattle.gba_frozen.specs.Rows.{count_of, field_of, fits_spelling, is_row, spelling_of}
use Rattle.gba_frozen.specs.declared.rows.Row.{Row}
use Rattle.gba_frozen.specs.declared.rows.Row.TheVariants as row
use Rattle.gba_frozen_text.specs.Text.{is_printable}

pub row-single : (which : Row) (part : ℕ) → is_row which ≡ true → part < count_of which
    → place_of (field_of which part) < 138
unfolding is_row count_of field_of place_of board_place
row-single row.Heading part is p = absurd (omega arith)
row-single (row.Console n) part is p = absurd (omega arith)
row-single row.Clock part is p = omega arith
row-single row.Halted part is p = omega arith
row-single (row.Register n) part is p = grind (arith, nat_tests)
row-single (row.Timer n) zero is p = grind (arith, nat_tests)
row-single (row.Timer n) (suc zero) is p = grind (arith, nat_tests)
row-single (row.Timer n) (suc (suc zero)) is p = grind (arith, nat_tests)
row-single (row.Timer n) (suc (suc (suc zero))) is p = grind (arith, nat_tests)
row-single (row.Timer n) (suc (suc (suc (suc part)))) is p = absurd (omega arith)
row-single (row.Dma n) zero is p = grind (arith, nat_tests)
row-single (row.Dma n) (suc zero) is p = grind (arith, nat_tests)
row-single (row.Dma n) (suc (suc zero)) is p = grind (arith, nat_tests)
row-single (row.Dma n) (suc (suc (suc zero))) is p = grind (arith, nat_tests)
row-single (row.Dma n) (suc (suc (suc (suc zero)))) is p = grind (arith, nat_tests)
row-single (row.Dma n) (suc (suc (suc (suc (suc part))))) is p = absurd (omega arith)
row-single row.Sequencer part is p = omega arith
row-single (row.Tone n) part is p = grind (arith, nat_tests)
row-single row.Position zero is p = omega arith
row-single row.Position (suc zero) is p = omega arith
row-single row.Position (suc (suc part)) is p = absurd (omega arith)
row-single (row.Affine n) zero is p = grind (arith, nat_tests)
row-single (row.Affine n) (suc zero) is p = grind (arith, nat_tests)
row-single (row.Affine n) (suc (suc part)) is p = absurd (omega arith)
row-single row.Serial zero is p = omega arith
row-single row.Serial (suc zero) is p = omega arith
row-single row.Serial (suc (suc zero)) is p = omega arith
row-single row.Serial (suc (suc (suc zero))) is p = omega arith
row-single row.Serial (suc (suc (suc (suc zero)))) is p = omega arith
row-single row.Serial (suc (suc (suc (suc (suc zero))))) is p = omega arith
row-single row.Serial (suc (suc (suc (suc (suc (suc zero)))))) is p = omega arith
row-single row.Serial (suc (suc (suc (suc (suc (suc (suc part))))))) is p = absurd (omega arith)
row-single row.Known part is p = grind (arith, nat_tests)
row-single row.Flash zero is p = omega arith
row-single row.Flash (suc zero) is p = omega arith
row-single row.Flash (suc (suc zero)) is p = omega arith
row-single row.Flash (suc (suc (suc zero))) is p = omega arith
row-single row.Flash (suc (suc (suc (suc part)))) is p = absurd (omega arith)
row-single row.Was part is p = omega arith
row-single row.Applied part is p = omega arith
row-single row.Counts zero is p = omega arith
row-single row.Counts (suc zero) is p = omega arith
row-single row.Counts (suc (suc zero)) is p = omega arith
row-single row.Counts (suc (suc (suc part))) is p = absurd (omega arith)

pub value-fits : (which : Row) (part value : ℕ) → part < count_of which
    → is_printable (field_of which part) value ≡ true → fits_spelling (spelling_of which) value ≡ true
unfolding spelling_of count_of field_of is_printable
value-fits row.Heading part value p h = absurd (omega arith)
value-fits (row.Console n) part value p h = absurd (omega arith)
value-fits row.Clock part value p h = refl
value-fits row.Halted part value p h = refl
value-fits (row.Register n) part value p h = h
value-fits (row.Timer n) part value p h = refl
value-fits (row.Dma n) part value p h = refl
value-fits row.Sequencer part value p h = refl
value-fits (row.Tone n) part value p h = refl
value-fits row.Position part value p h = refl
value-fits (row.Affine n) zero value p h = h
value-fits (row.Affine n) (suc zero) value p h = h
value-fits (row.Affine n) (suc (suc part)) value p h = absurd (omega arith)
value-fits row.Serial part value p h = refl
value-fits row.Known part value p h = refl
value-fits row.Flash part value p h = refl
value-fits row.Was part value p h = refl
value-fits row.Applied part value p h = refl
value-fits row.Counts part value p h = refl
