use Rattle.std.proofs.Common.{sym, ◌∙◌, ap, subst, ◌++◌, ◌∷◌, [], false, rules}
use Rattle.gba_filling.specs.Drawn.{AreLines, DrawnLines}
use Rattle.gba_filling.proofs.DrawnLines.{gap-begins, gap-stays, goes-on}
use Rattle.gba_filling.proofs.drawn.Drawn.keep.Goals as goal

pub returns-then-self : goal.returns-then-self
returns-then-self c drawn h =
    gap-stays drawn (c.args.line, c.args.colours.now) c.args.self.now
    (sym (ap (λ (d : DrawnLines). d.has_gap) c.self.view_is) ∙ c.if-self.true) h

pub returns-then-line-len : goal.returns-then-line-len
returns-then-line-len c drawn h =
    let before : DrawnLines = record { lines = c.self.inside.lines.items; has_gap = c.self.inside.has_gap } in
    let held : AreLines drawn before = subst (λ (d : DrawnLines). AreLines drawn d) (sym c.self.view_is) h in
    gap-begins drawn (c.args.line, c.args.colours.now) before c.if-self.false (search rules) held

pub returns : goal.returns
returns c drawn h =
    let before : DrawnLines = record { lines = c.self.inside.lines.items; has_gap = c.self.inside.has_gap } in
    let held : AreLines drawn before = subst (λ (d : DrawnLines). AreLines drawn d) (sym c.self.view_is) h in
    let next : AreLines (drawn ++ (c.args.line, c.args.colours.now) ∷ [])
    (record { lines = c.put_behind.new.list.items; has_gap = false }) =
    goes-on drawn (c.args.line, c.args.colours.now) before c.put_behind.new.list.items c.if-self.false (search rules)
    (search rules) held in
    subst (λ b. AreLines (drawn ++ (c.args.line, c.args.colours.now) ∷ [])
    (record { lines = c.put_behind.new.list.items; has_gap = b }))
    (sym c.if-self.false) next
