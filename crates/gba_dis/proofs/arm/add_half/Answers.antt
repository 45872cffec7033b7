use Rattle.std.proofs.Common.{◌≡◌, [], ◌∷◌, ◌++◌, ap, ◌∙◌}
use Rattle.gba_dis.specs.Arm.{close_address, half_base, half_distance, half_suffix, name, open_address}
use Rattle.gba_dis.specs.Pieces.{piece_text, register_name, text_of}
use Rattle.gba_dis.proofs.Texts.{after_front, four_added, on_ok}
use Rattle.gba_dis.proofs.arm.add_half.Goals as goal

pub returns : goal.returns
returns c =
    let a = c.args in
    let head = piece_text (name (half_base a.kind) a.cond (half_suffix a.kind)) in
    let named : c.add_name.new.line.items ≡ a.line.now.items ++ head =
    rw (← c.half_base.ensures, ← c.half_suffix.ensures) c.in_ok-add_name.ensures in
    on_ok c.add_close_address.result (λ last.
    four_added a.line.now.items head _ _ _ _ _ _ _ named c.in_ok-add_open_transfer.ensures
    c.in_ok-add_half_distance.ensures last
    ∙ ap (λ xs. a.line.now.items ++ (head ++ xs)) (after_front (register_name a.rd) (44 ∷ 32 ∷ [])
    (open_address a.pre a.rn) (half_distance a.up a.offset) (close_address a.pre a.write)))
    c.add_close_address.ensures
