use Rattle.std.proofs.Common.{subst, sym}
use Rattle.gba_session.proofs.Hashing.{gives-digest}
use Rattle.gba_session.specs.Digests.{AreHashed}
use Rattle.gba_session.specs.Session.{Consoles}
use Rattle.sha2.specs.Hashers.{Holds256}
use Rattle.sha2.specs.declared.Sha256.{Sha256}
use Rattle.gba_session.proofs.digests.Digests.digest.Goals as goal

pub returns : goal.returns
returns c m is =
    let s = c.args.self.now in
    let each = c.self.inside.each.items in
    let held = subst (λ (v : Consoles). AreHashed v each) c.self.view_is c.self.invariant in
    gives-digest s each c.args.player c.args.kind m c.index.result.now c.digest_in.result held c.requires.player
    c.requires.asked c.requires.over is c.index.ensures
    (λ message holds. c.digest_in.ensures message
    (subst (λ (h : Sha256). Holds256 h message) (sym c.at.ensures) holds))
