use Rattle.std.proofs.Common.{◌∙◌, ◌<◌, length, get_or, sym, arith}
use Rattle.std.proofs.lemmas.Option.{slice_get-get_or}
use Rattle.gba_session.proofs.Hashing.{adds-none, adds-piece, told-made}
use Rattle.gba_session.specs.Session.{is_over, segment_cut}
use Rattle.gba_session.proofs.digests.add.Goals as goal

pub piece-requires-clause-over : goal.piece-requires-clause-over
piece-requires-clause-over c =
    told-made c.args.session.now c.args.player c.args.kind c.has_piece.result c.requires.player c.has_piece.ensures
    c.if-has_piece.true

pub returns-then-has_piece : goal.returns-then-has_piece
returns-then-has_piece c asks m asked =
    let s = c.args.session.now in
    let k = c.args.player in
    let mine = get_or s.asks k asks in
    let one = get_or (segment_cut s).consoles k m in
    let there : k < length (segment_cut s).consoles = omega (arith, c.requires.player, c.requires.segment) in
    adds-piece (is_over s) mine c.args.kind c.args.hasher.now c.update.new.self one c.piece.result.now
    (sym (c.has_piece.ensures mine (slice_get-get_or s.asks k asks c.requires.player)) ∙ c.if-has_piece.true) asked
    (c.piece.ensures one (slice_get-get_or (segment_cut s).consoles k m there)) c.update.ensures

pub returns-else-has_piece : goal.returns-else-has_piece
returns-else-has_piece c asks m asked =
    let s = c.args.session.now in
    let k = c.args.player in
    let mine = get_or s.asks k asks in
    adds-none (is_over s) mine c.args.kind c.args.hasher.now (get_or (segment_cut s).consoles k m)
    (sym (c.has_piece.ensures mine (slice_get-get_or s.asks k asks c.requires.player)) ∙ c.if-has_piece.false) asked
