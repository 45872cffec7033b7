use Rattle.std.proofs.Common.{ℕ, ◌<◌, ◌++◌, List, length, drop, sym, ap, ◌∙◌, arith}
use Rattle.std.proofs.lemmas.List.{append-nil, nil_from_length, length-drop}
use Rattle.gba_frozen.specs.declared.rows.Row.{Row}
use Rattle.gba_frozen_text.proofs.Printing.{grown, rows-more, rows-none}
use Rattle.gba_frozen_text.proofs.rows.add_rows.Goals as goal

pub loop-row-preserved : goal.loop-row-preserved
loop-row-preserved g c =
    let n = g.S.Freezing.numbers c.args.source.now in
    let rows = c.args.rows.now in
    let i = c.loop-row.row-index in
    let inside : i < length rows = omega arith in
    record {
      items = grown _ _ _ _ _ _ c.add_row_of.ensures.items (rows-more n rows i inside) c.loop-row.invariant.items;
      len = omega arith;
      room = omega arith;
    }

pub returns-clause-items : goal.returns-clause-items
returns-clause-items g c =
    let n = g.S.Freezing.numbers c.args.source.now in
    let rows = c.args.rows.now in
    let none = nil_from_length (drop c.loop-row.row-index rows) (omega (arith, length-drop {A = Row})) in
    let gone = rows-none n (drop c.loop-row.row-index rows) none in
    sym (append-nil c.loop-row.into.items) ∙ ap (λ (t : List ℕ). c.loop-row.into.items ++ t) (sym gone)
    ∙ c.loop-row.invariant.items
