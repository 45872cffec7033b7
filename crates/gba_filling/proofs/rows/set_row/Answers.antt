use Rattle.std.proofs.Common.{◌≡◌, ◌<◌, ◌+◌, drop, get_or, length, ap, sym, ◌∙◌, arith}
use Rattle.gba_numbers.specs.Fields.{place_of}
use Rattle.gba_numbers.specs.Numbers.{ConsoleNumbers, with_value}
use Rattle.gba_numbers.specs.Ranges.{field_fits}
use Rattle.gba_numbers.specs.declared.fields.Field.{Field}
use Rattle.gba_frozen.specs.Reading.{with_values}
use Rattle.gba_frozen.specs.Rows.{count_of, field_of}
use Rattle.gba_frozen_text.proofs.Singles.{row-single}
use Rattle.gba_filling.specs.Loose.{LooseConsole, with_numbers}
use Rattle.gba_filling.proofs.RowSteps.{fits-at, single-there, values-more, values-none}
use Rattle.gba_filling.proofs.rows.set_row.Goals as goal

pub set-requires-clause-there : goal.set-requires-clause-there
set-requires-clause-there c =
    let inside : c.loop-part.part < count_of c.args.row = omega arith in
    let single = row-single c.args.row c.loop-part.part c.requires.row inside in
    let same : place_of c.field.result ≡ place_of (field_of c.args.row c.loop-part.part) = ap place_of
    c.field.ensures.value in
    single-there (place_of c.field.result) c.loop-part.console.numbers (omega arith)

pub set-requires-clause-fits : goal.set-requires-clause-fits
set-requires-clause-fits c =
    let part = c.loop-part.part in
    let values = c.args.values.now in
    let inside : part < length values = omega arith in
    let first : part ≡ 0 + part = omega arith in
    ap (λ (f : Field). field_fits f (get_or values part 0)) (c.field.ensures.value ∙ ap (field_of c.args.row) first)
    ∙ fits-at c.requires.fit.0 c.args.row 0 part values c.requires.fit.1 inside

pub loop-part-preserved : goal.loop-part-preserved
loop-part-preserved c =
    let which = c.args.row in
    let part = c.loop-part.part in
    let values = c.args.values.now in
    let console : LooseConsole = c.loop-part.console in
    let inside : part < length values = omega arith in
    ap (λ (one : LooseConsole). with_numbers (with_values which (part + 1) (drop (part + 1) values) one.numbers) one)
    (c.set.ensures
    ∙ ap (λ (f : Field). with_numbers (with_value f (get_or values part 0) console.numbers) console)
    c.field.ensures.value)
    ∙ ap (λ (n : ConsoleNumbers). with_numbers n console) (sym (values-more which part values console.numbers inside))
    ∙ c.loop-part.invariant

pub returns : goal.returns
returns c =
    let console : LooseConsole = c.loop-part.console in
    ap (λ (n : ConsoleNumbers). with_numbers n console)
    (sym (values-none c.args.row c.loop-part.part c.args.values.now console.numbers (omega arith)))
    ∙ c.loop-part.invariant
