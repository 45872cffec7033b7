use Rattle.std.proofs.Common.{◌≡◌, [], ◌∷◌, ◌++◌, not, ◌&&◌, ap, ◌∙◌}
use Rattle.gba_dis.specs.Arm.{close_address, name, open_address, transfer_base, transfer_distance, transfer_suffix}
use Rattle.gba_dis.specs.Pieces.{piece_text, register_name, text_of}
use Rattle.gba_dis.proofs.Texts.{after_front, four_added, on_ok}
use Rattle.gba_dis.proofs.arm.add_transfer.Goals as goal

pub returns : goal.returns
returns c =
    let a = c.args in
    let head = piece_text (name (transfer_base a.load) a.cond (transfer_suffix a.byte (not a.pre && a.write))) in
    let named : c.add_name.new.line.items ≡ a.line.now.items ++ head =
    rw (← c.transfer_base.ensures, ← c.is_user.ensures, ← c.transfer_suffix.ensures) c.in_ok-add_name.ensures in
    on_ok c.add_close_address.result (λ last.
    four_added a.line.now.items head _ _ _ _ _ _ _ named c.in_ok-add_open_transfer.ensures
    c.in_ok-add_transfer_distance.ensures last
    ∙ ap (λ xs. a.line.now.items ++ (head ++ xs)) (after_front (register_name a.rd) (44 ∷ 32 ∷ [])
    (open_address a.pre a.rn) (transfer_distance a.up a.offset) (close_address a.pre a.write)))
    c.add_close_address.ensures
