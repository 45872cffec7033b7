use Rattle.std.proofs.Common.{◌≡◌, ◌+◌, ◌<◌, ◌++◌, ◌∙◌, [], ◌∷◌, rules, arith, length, ap, refl, slice_set, sym}
use Rattle.std.specs.Vec.{with_items}
use Rattle.std.proofs.lemmas.List.{places, with_items_is}
use Rattle.gba_screen.specs.Lines.{line_bytes}
use Rattle.gba_screen.specs.Paying.{shown_lines}
use Rattle.gba_screen.specs.Screen.{Screen}
use Rattle.gba_screen.proofs.Shown.{fresh_owed, fresh_written, lines_count, lines_owed, same_screen}
use Rattle.gba_screen.proofs.screen.Screen.draw_line.Goals as goal

pub pay_before-self-inside-requires-clause-paid : goal.pay_before-self-inside-requires-clause-paid
pay_before-self-inside-requires-clause-paid c =
    let s = c.self.inside in
    let count = lines_count s.lines.items s.keys.items s.memory s.paid.lines s.drawn in
    let shown = ap (λ (v : Screen). length v.lines) c.self.view_is in
    omega (arith, count, shown, c.requires.next, c.self.invariant.2)

pub invariant_of-self : goal.invariant_of-self
invariant_of-self c =
    let s = c.self.inside in
    let i = c.self.invariant in
    let before = c.pay_before-self-inside.ensures in
    let paid = c.pay_before-self-inside.new.lines in
    let written : (with_items s.lines paid).items ≡ paid = with_items_is s.lines paid (search (rules, places)) in
    let count = lines_count s.lines.items s.keys.items s.memory s.paid.lines s.drawn in
    let shown = ap (λ (v : Screen). length v.lines) c.self.view_is in
    let keys : length s.keys.items ≡ 160 = omega (arith, i.1, s.keys.ok.0) in
    let fresh = rw c.as_slice.ensures.value at before.fresh in
    let stays = rw c.as_slice.ensures.value at before.stays in (
      i.0,
      i.1,
      omega (arith, count, shown, c.requires.next, before.paid),
      omega (arith, count, shown, c.requires.next, c.requires.line),
      before.most,
      fresh_written (with_items s.lines paid).items paid (slice_set s.keys.items c.args.line c.args.r.now) s.memory
          c.pay_before-self-inside.result.lines c.pay_before-self-inside.result.fresh written
          (fresh_owed paid s.keys.items s.memory c.pay_before-self-inside.result.lines
          c.pay_before-self-inside.result.fresh c.args.line c.args.r.now
          before.paid c.requires.line keys stays fresh),
    )

pub returns : goal.returns
returns c =
    let s = c.self.inside in
    let before = c.pay_before-self-inside.ensures in
    let paid = c.pay_before-self-inside.new.lines in
    let last = c.pay_before-self-inside.result.lines in
    let set = slice_set s.keys.items c.args.line c.args.r.now in
    let written : (with_items s.lines paid).items ≡ paid = with_items_is s.lines paid (search (rules, places)) in
    let count = lines_count s.lines.items s.keys.items s.memory s.paid.lines s.drawn in
    let all = ap (λ (v : Screen). length v.lines) c.self.view_is in
    let keys : c.args.line < length s.keys.items = omega (arith, c.self.invariant.1, s.keys.ok.0, c.requires.line) in
    let shown = rw (c.as_mut_slice.ensures.value, c.as_slice.ensures.value) at before.shown in
    let next : s.drawn ≡ c.args.line = omega (arith, count, all, c.requires.next) in
    let more : s.drawn + 1 ≡ c.args.line + 1 = omega (arith, next) in
    rw (← c.self.view_is)
    (same_screen s.memory s.memory _ _ refl
    (ap (λ lines. shown_lines lines set s.memory last (s.drawn + 1)) written
    ∙ ap (λ n. shown_lines paid set s.memory last n) more
    ∙ lines_owed s.lines.items paid s.keys.items s.memory s.paid.lines last c.args.line c.args.r.now before.paid keys
    shown
    ∙ ap (λ n. shown_lines s.lines.items s.keys.items s.memory s.paid.lines n ++
    (line_bytes c.args.r.now s.memory c.args.line ∷ []))
    (sym next)))
