use Rattle.std.proofs.Common.{◌≡◌, ℕ, suc, ◌+◌, ◌-◌, ◌<◌, ◌++◌, [], ◌∷◌, List, true, sym, ap, ◌∙◌, arith}
use Rattle.std.specs.List.{list_all}
use Rattle.std.proofs.lemmas.List.{append-nil}
use Rattle.gba_numbers.specs.Fields.{place_of}
use Rattle.gba_numbers.specs.Numbers.{value_of}
use Rattle.gba_numbers.specs.declared.fields.Field.{Field}
use Rattle.gba_frozen.specs.Rows.{count_of, field_of, fits_spelling, spelling_of}
use Rattle.gba_frozen_text.specs.Text.{is_printable, row_values}
use Rattle.gba_frozen_text.proofs.Printing.{all-more, grown, values-more, values-none}
use Rattle.gba_frozen_text.proofs.Singles.{row-single, value-fits}
use Rattle.gba_frozen_text.proofs.rows.row_values.Goals as goal

pub loop-part-preserved : goal.loop-part-preserved
loop-part-preserved g c =
    let n = g.S.Freezing.numbers c.args.source.now in
    let which = c.args.row in
    let part = c.loop-part.part in
    let inside : part < count_of which = omega arith in
    let left : ℕ = count_of which - (part + 1) in
    let more : count_of which - part ≡ suc left = omega arith in
    let value : c.value.result ≡ value_of (field_of which part) n =
    c.value.ensures.value ∙ ap (λ (f : Field). value_of f n) c.field.ensures.value in
    let fits : is_printable (field_of which part) c.value.result ≡ true =
    ap (λ (f : Field). is_printable f c.value.result) (sym c.field.ensures.value) ∙ c.value.ensures.printable in
    let split : row_values which part (count_of which - part) n
    ≡ (c.value.result ∷ []) ++ row_values which (part + 1) left n =
    values-more which part (count_of which - part) left n more
    ∙ ap (λ (v : ℕ). v ∷ row_values which (part + 1) left n) (sym value) in
    record {
      items =
          grown c.loop-part.values.items c.push.new.self.items (c.value.result ∷ []) _ _ _ c.push.ensures.items split
          c.loop-part.invariant.items;
      len = omega arith;
      fit = ap (λ (xs : List ℕ). list_all (fits_spelling (spelling_of which)) xs) c.push.ensures.items
          ∙ all-more (fits_spelling (spelling_of which)) c.loop-part.values.items c.value.result
          c.loop-part.invariant.fit (value-fits which part c.value.result inside fits);
    }

pub value-requires-clause-single : goal.value-requires-clause-single
value-requires-clause-single g c =
    let inside : c.loop-part.part < count_of c.args.row = omega arith in
    let single = row-single c.args.row c.loop-part.part c.requires inside in
    let same : place_of c.field.result ≡ place_of (field_of c.args.row c.loop-part.part) =
    ap place_of c.field.ensures.value in
    omega (arith, single, same)

pub returns-clause-values : goal.returns-clause-values
returns-clause-values g c =
    let n = g.S.Freezing.numbers c.args.source.now in
    let none : count_of c.args.row - c.loop-part.part ≡ 0 = omega arith in
    let gone = values-none c.args.row c.loop-part.part (count_of c.args.row - c.loop-part.part) n none in
    sym (append-nil c.loop-part.values.items) ∙ ap (λ (t : List ℕ). c.loop-part.values.items ++ t) (sym gone)
    ∙ c.loop-part.invariant.items
