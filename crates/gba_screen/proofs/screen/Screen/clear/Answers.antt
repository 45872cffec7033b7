use Rattle.std.proofs.Common.{◌≡◌, ◌∙◌, rules, ap}
use Rattle.std.specs.Vec.{with_items}
use Rattle.std.proofs.lemmas.List.{places, with_items_is}
use Rattle.gba_mem.specs.Replacing.{cleared}
use Rattle.gba_screen.specs.Paying.{shown_lines}
use Rattle.gba_screen.proofs.Shown.{lines_once_settled, same_screen}
use Rattle.gba_screen.proofs.screen.Screen.clear.Goals as goal

pub returns : goal.returns
returns c =
    let s = c.self.inside in
    let settled = c.settle-self-inside in
    let paid = settled.new.lines in
    let written : (with_items s.lines paid).items ≡ paid = with_items_is s.lines paid (search (rules, places)) in
    let shown = rw (c.as_mut_slice.ensures.value, c.as_slice.ensures.value) at settled.ensures.shown in
    rw (← c.self.view_is)
    (same_screen c.clear.new.self (cleared s.memory) _ _ c.clear.ensures
    (ap (λ lines. shown_lines lines s.keys.items c.clear.new.self settled.result.lines s.drawn) written
    ∙ lines_once_settled s.lines.items paid s.keys.items s.memory c.clear.new.self s.paid.lines s.drawn
    settled.result.lines
    settled.ensures.lines shown))
