use Rattle.gba_session.proofs.Hashing.{told-asked, told-made}
use Rattle.gba_session.proofs.digests.has_much.Goals as goal

pub piece-requires-clause-asked : goal.piece-requires-clause-asked
piece-requires-clause-asked c =
    told-asked c.args.session.now c.args.player _ c.has_piece.result c.requires c.has_piece.ensures
    c.if-has_piece.true

pub piece-requires-clause-over : goal.piece-requires-clause-over
piece-requires-clause-over c =
    told-made c.args.session.now c.args.player _ c.has_piece.result c.requires c.has_piece.ensures
    c.if-has_piece.true
