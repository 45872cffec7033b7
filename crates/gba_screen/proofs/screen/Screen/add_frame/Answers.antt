use Rattle.std.proofs.Common.{◌≡◌, ◌++◌, ◌∙◌, rules, arith, length, sym, ap, refl}
use Rattle.std.specs.List.{concat}
use Rattle.std.specs.Vec.{with_items}
use Rattle.std.proofs.lemmas.List.{places, with_items_is}
use Rattle.std.proofs.lemmas.List.Concat.{concat_is}
use Rattle.gba_screen.specs.Paying.{shown_lines}
use Rattle.gba_screen.specs.Screen.{Screen}
use Rattle.gba_screen.proofs.Shown.{lines_count, lines_once_paid, lines_paid, same_screen}
use Rattle.gba_screen.proofs.screen.Screen.add_frame.Goals as goal

pub returns-clause-same : goal.returns-clause-same
returns-clause-same c =
    let s = c.self.inside in
    let paid = c.pay-fresh.new.lines in
    let written : (with_items s.lines paid).items ≡ paid = with_items_is s.lines paid (search (rules, places)) in
    let shown = rw (c.as_mut_slice.ensures.value, c.as_slice.ensures.value) at c.pay-fresh.ensures.shown in
    rw (← c.self.view_is)
    (same_screen s.memory s.memory _ _ refl
    (ap (λ lines. shown_lines lines s.keys.items s.memory s.drawn s.drawn) written
    ∙ lines_once_paid s.lines.items paid s.keys.items s.memory s.memory s.paid.lines s.drawn shown))

pub returns-clause-items : goal.returns-clause-items
returns-clause-items c =
    let s = c.self.inside in
    let paid = c.pay-fresh.new.lines in
    let written : (with_items s.lines paid).items ≡ paid = with_items_is s.lines paid (search (rules, places)) in
    let shown = rw (c.as_mut_slice.ensures.value, c.as_slice.ensures.value) at c.pay-fresh.ensures.shown in
    let count = lines_count s.lines.items s.keys.items s.memory s.paid.lines s.drawn in
    let drawn = ap (λ (v : Screen). length v.lines) c.self.view_is in
    let whole : length paid ≡ s.drawn =
    omega (
      arith,
      count,
      drawn,
      c.requires.whole,
      c.self.invariant.0,
      s.lines.ok.0,
      c.pay-fresh.auto.lines,
      c.as_mut_slice.ensures.len,
    ) in
    rw (← c.self.view_is)
    (c.add_bytes.ensures.items
    ∙ ap (λ bytes. c.args.frames.now.items ++ bytes)
    (c.as_flattened.ensures.value
    ∙ sym (concat_is c.as_slice-2.result.now)
    ∙ ap concat (c.as_slice-2.ensures.value ∙ written
    ∙ sym (lines_paid paid s.keys.items s.memory s.drawn s.drawn (omega arith) whole)
    ∙ lines_once_paid s.lines.items paid s.keys.items s.memory s.memory s.paid.lines s.drawn shown)))
