use Rattle.std.proofs.Common.{◌++◌, List, ℕ, sym, ap, ◌∙◌, arith}
use Rattle.std.proofs.lemmas.List.{append-nil}
use Rattle.gba_frozen_text.proofs.Printing.{grown}
use Rattle.gba_snapshot.proofs.Lines.{lines-more, lines-none}
use Rattle.gba_snapshot.proofs.drawn.add_lines.Goals as goal

pub loop-line-preserved : goal.loop-line-preserved
loop-line-preserved c =
    let i = c.loop-line.line in
    record {
      items = grown _ _ _ _ _ _ c.add_line.ensures.items (lines-more c.args.core.now.lines i (omega arith))
          c.loop-line.invariant.items;
      len = omega arith;
      room = omega arith;
    }

pub returns-clause-items : goal.returns-clause-items
returns-clause-items c =
    sym (append-nil c.loop-line.into.items)
    ∙ ap (λ (t : List ℕ). c.loop-line.into.items ++ t)
    (sym (lines-none c.args.core.now.lines c.loop-line.line (omega arith)))
    ∙ c.loop-line.invariant.items
