use Rattle.std.proofs.Common.{[], ◌∷◌, ◌++◌, sym, ap, ◌∙◌}
use Rattle.gba_dis.specs.Pieces.{Mark, braces, entries, text_of}
use Rattle.gba_dis.proofs.Texts.{on_ok, text_of_append, three_added}
use Rattle.gba_dis.proofs.pieces.add_list.Goals as goal

pub returns : goal.returns
unfolding braces
returns c =
    on_ok c.add-2.result (λ last.
    three_added c.args.line.now.items (123 ∷ []) (text_of (entries c.args.list)) (125 ∷ []) _ _ _ c.in_ok-add.ensures
    c.in_ok-add_entries.ensures last
    ∙ ap (λ xs. c.args.line.now.items ++ (123 ∷ xs)) (sym (text_of_append (entries c.args.list) (Mark 125 ∷ []))))
    c.add-2.ensures
