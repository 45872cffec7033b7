use Rattle.std.proofs.Common.{◌<◌, ◌∙◌, arith, length, sym, ap}
use Rattle.std.proofs.lemmas.List.{get_or_read}
use Rattle.gba_ppu_reg.specs.Registers.{picture_at_reset}
use Rattle.gba_screen.specs.Lines.{line_bytes}
use Rattle.gba_screen.specs.Screen.{Screen}
use Rattle.gba_screen.proofs.Shown.{line_at, lines_count, shown_owed, shown_paid}
use Rattle.gba_screen.proofs.screen.Screen.line.Goals as goal

pub index-requires-else-line-self : goal.index-requires-else-line-self
index-requires-else-line-self c =
    let s = c.self.inside in
    let count = lines_count s.lines.items s.keys.items s.memory s.paid.lines s.drawn in
    let shown = ap (λ (v : Screen). length v.lines) c.self.view_is in
    omega (arith, count, shown, c.self.invariant)

pub draw-requires : goal.draw-requires
draw-requires c =
    let s = c.self.inside in
    let count = lines_count s.lines.items s.keys.items s.memory s.paid.lines s.drawn in
    let shown = ap (λ (v : Screen). length v.lines) c.self.view_is in
    omega (arith, count, shown, c.self.invariant)

pub returns-then-line-self : goal.returns-then-line-self
returns-then-line-self c =
    let s = c.self.inside in
    let i = c.self.invariant in
    let drawn : c.args.line < s.drawn = omega (arith, i.2, c.if-line-self.true) in
    let whole : c.args.line < length s.lines.items = omega (arith, i.0, i.3, s.lines.ok.0) in
    rw (← c.self.view_is)
    (get_or_read s.lines.items c.args.line c.index.result.now whole c.index.ensures _
    ∙ sym (line_at s.lines.items s.keys.items s.memory s.paid.lines s.drawn c.args.line drawn
    ∙ shown_paid s.lines.items s.keys.items s.memory s.paid.lines c.args.line c.if-line-self.true))

pub returns-else-line-self : goal.returns-else-line-self
returns-else-line-self c =
    let s = c.self.inside in
    let i = c.self.invariant in
    let count = lines_count s.lines.items s.keys.items s.memory s.paid.lines s.drawn in
    let shown = ap (λ (v : Screen). length v.lines) c.self.view_is in
    let drawn : c.args.line < s.drawn = omega (arith, count, shown) in
    let whole : c.args.line < length s.keys.items = omega (arith, i.1, i.3, s.keys.ok.0) in
    rw (← c.self.view_is)
    (c.draw.ensures
    ∙ ap (λ key. line_bytes key s.memory c.args.line)
    (get_or_read s.keys.items c.args.line c.index-else-line-self.result.now whole c.index-else-line-self.ensures
    picture_at_reset)
    ∙ sym (line_at s.lines.items s.keys.items s.memory s.paid.lines s.drawn c.args.line drawn
    ∙ shown_owed s.lines.items s.keys.items s.memory s.paid.lines c.args.line c.if-line-self.false))
