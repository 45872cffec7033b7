use Rattle.std.proofs.Common.{◌≡◌, ◌+◌, ◌-◌, ◌/◌, ◌∙◌, ℕ, false, true, map, refl, sym, ap, subst, arith}
use Rattle.std.proofs.lemmas.Result.{err_from_is_err_and}
use Rattle.gba_command.proofs.Calls.{Leads, files-stopped, leads-broken, leads-files, leads-first, leads-none, stopped}
use Rattle.gba_command.specs.Writing.{addition}
use Rattle.gba_session.specs.Session.{Consoles, is_over, segment_cut}
use Rattle.gba_run_files.proofs.Segmented.{HasCome, advances, advances-on, before-next, comes-first, comes-next, comes-over, is-last, next-at, over-none, taken-again}
use Rattle.gba_run_files.specs.Pieces.{cut_pieces, growing_kinds, later_segments, left_pieces, segment_pieces}
use Rattle.gba_run_files.specs.Views.{names_value}
use Rattle.gba_run_files.proofs.pieces.append_segments.Goals as goal

pub returns-in_err-append_taken-clause-pieces : goal.returns-in_err-append_taken-clause-pieces
returns-in_err-append_taken-clause-pieces g c =
    let names = map names_value c.args.names.now in
    let s = c.args.first in
    let p = err_from_is_err_and c.from_residual.result c.from_residual.ensures.1 in
    rw (p.1, p.2)
    (files-stopped g.O.Sink.Tells addition (cut_pieces growing_kinds names s.asks (segment_cut s).consoles)
    (segment_pieces (later_segments s) names s) _ _ _ c.in_err-append_taken.ensures.pieces (stopped _))

pub loop-later-init : goal.loop-later-init
loop-later-init g c =
    let names = map names_value c.args.names.now in
    let s = c.args.first in
    let n = c.args.until / 16777216 in
    let most : later_segments s ≡ n - 0 = omega (arith, c.requires.until) in (
      subst (λ (k : ℕ). Leads g.O.Sink.Tells (map addition (left_pieces names s))
          (map addition (segment_pieces k names s))
          (g.O.Sink.state c.args.out.now) (g.O.Sink.state c.append_taken.new.out)) most
          (leads-files g.O.Sink.Tells addition (map addition (left_pieces names s)) (left_pieces names s)
          (cut_pieces growing_kinds names s.asks (segment_cut s).consoles) (segment_pieces (later_segments s) names s)
          _ _ refl
          (leads-first g.O.Sink.Tells (map addition (left_pieces names s)) _) _ c.in_ok-append_taken.ensures.pieces),
      record { start = refl; until = refl; asks = refl },
      comes-first s (omega (arith, c.requires.begun, c.requires.until)),
      c.in_ok-append_taken.ensures.digests,
    )

pub append_taken-requires-in-loop-later-clause-asks : goal.append_taken-requires-in-loop-later-clause-asks
append_taken-requires-in-loop-later-clause-asks g c =
    λ _ _.
    ap (λ (s : Consoles). s.asks) c.advance-session.ensures ∙ (advances c.loop-later.session).asks
    ∙ c.loop-later.invariant.1.asks ∙ c.requires.asks

pub append_taken-requires-in-loop-later-clause-before : goal.append_taken-requires-in-loop-later-clause-before
append_taken-requires-in-loop-later-clause-before g c =
    λ _ _.
    before-next c.args.digests.now c.loop-later.digests c.loop-later.session c.advance-session.result
    c.loop-later.invariant.3 (sym c.finished.ensures ∙ c.if-finished.false) c.advance-session.ensures

pub returns-in_err-append_taken-2-clause-pieces : goal.returns-in_err-append_taken-2-clause-pieces
returns-in_err-append_taken-2-clause-pieces g c =
    let names = map names_value c.args.names.now in
    let s = c.loop-later.session in
    let t = c.advance-session.result in
    let n = c.args.until / 16777216 in
    let i = c.loop-later._later in
    let left : is_over s ≡ false = sym c.finished.ensures ∙ c.if-finished.false in
    let p =
    err_from_is_err_and c.from_residual-in_err-append_taken-2.result
    c.from_residual-in_err-append_taken-2.ensures.1 in
    rw (p.1, p.2)
    (leads-broken g.O.Sink.Tells addition (map addition (left_pieces names c.args.first))
    (segment_pieces (n - i) names s)
    (cut_pieces growing_kinds names t.asks (segment_cut t).consoles) (segment_pieces (n - (i + 1)) names t) _ _
    (next-at n i names s t (omega (arith, c.loop-later-test.true)) left c.advance-session.ensures)
    c.loop-later.invariant.0 _ _ c.in_err-append_taken-2.ensures.pieces (stopped _))

pub loop-later-preserved : goal.loop-later-preserved
loop-later-preserved g c =
    let names = map names_value c.args.names.now in
    let s = c.loop-later.session in
    let t = c.advance-session.result in
    let n = c.args.until / 16777216 in
    let i = c.loop-later._later in
    let left : is_over s ≡ false = sym c.finished.ensures ∙ c.if-finished.false in (
      leads-files g.O.Sink.Tells addition (map addition (left_pieces names c.args.first))
          (segment_pieces (n - i) names s)
          (cut_pieces growing_kinds names t.asks (segment_cut t).consoles) (segment_pieces (n - (i + 1)) names t) _ _
          (next-at n i names s t (omega (arith, c.loop-later-test.true)) left c.advance-session.ensures)
          c.loop-later.invariant.0 _ c.in_ok-append_taken-2.ensures.pieces,
      advances-on c.args.first s t c.loop-later.invariant.1 c.advance-session.ensures,
      subst (HasCome (i + 1)) (sym c.advance-session.ensures) (comes-next i s left c.loop-later.invariant.2),
      c.in_ok-append_taken-2.ensures.digests ∙ taken-again c.args.digests.now c.loop-later.digests s t
          c.loop-later.invariant.3,
    )

pub returns-then-finished-clause-pieces : goal.returns-then-finished-clause-pieces
returns-then-finished-clause-pieces g c =
    let names = map names_value c.args.names.now in
    let s = c.loop-later.session in
    let left = segment_pieces (c.args.until / 16777216 - c.loop-later._later) names s in
    leads-none g.O.Sink.Tells addition (map addition (left_pieces names c.args.first)) left _ _
    (over-none (c.args.until / 16777216 - c.loop-later._later) names s (sym c.finished.ensures ∙ c.if-finished.true))
    c.loop-later.invariant.0

pub returns-then-finished-clause-last : goal.returns-then-finished-clause-last
returns-then-finished-clause-last g c =
    is-last c.args.first c.loop-later.session c.loop-later.invariant.1 (sym c.finished.ensures ∙ c.if-finished.true)

pub returns-clause-pieces : goal.returns-clause-pieces
returns-clause-pieces g c =
    let names = map names_value c.args.names.now in
    let s = c.loop-later.session in
    let i = c.loop-later._later in
    let left = segment_pieces (c.args.until / 16777216 - i) names s in
    let over : is_over s ≡ true =
    comes-over i s (omega (arith, c.loop-later-test.false, c.loop-later.invariant.1.until, c.requires.until))
    c.loop-later.invariant.2 in
    leads-none g.O.Sink.Tells addition (map addition (left_pieces names c.args.first)) left _ _
    (over-none (c.args.until / 16777216 - i) names s over) c.loop-later.invariant.0

pub returns-clause-last : goal.returns-clause-last
returns-clause-last g c =
    let s = c.loop-later.session in
    is-last c.args.first s c.loop-later.invariant.1
    (comes-over c.loop-later._later s (omega (
      arith,
      c.loop-later-test.false,
      c.loop-later.invariant.1.until,
      c.requires.until,
    ))
    c.loop-later.invariant.2)
