use Rattle.std.proofs.Common.{◌≡◌, [], ◌++◌, ap, ◌∙◌}
use Rattle.gba_dis.specs.Arm.{block_base, block_mark, block_suffix, name, user_mark}
use Rattle.gba_dis.specs.Pieces.{braces, piece_text, register_name, text_of}
use Rattle.gba_dis.proofs.Texts.{after_front, four_added, on_ok}
use Rattle.gba_dis.proofs.arm.add_block.Goals as goal

pub returns : goal.returns
returns c =
    let a = c.args in
    let head = piece_text (name (block_base a.load) a.cond (block_suffix a.pre a.up)) in
    let named : c.add_name.new.line.items ≡ a.line.now.items ++ head =
    rw (← c.block_base.ensures, ← c.block_suffix.ensures) c.in_ok-add_name.ensures in
    on_ok c.add_user_mark.result (λ last.
    four_added a.line.now.items head _ _ _ _ _ _ _ named c.in_ok-add_block_base.ensures c.in_ok-add_list.ensures last
    ∙ ap (λ xs. a.line.now.items ++ (head ++ xs)) (after_front (register_name a.rn) [] (block_mark a.write)
    (braces a.list) (user_mark a.user)))
    c.add_user_mark.ensures
