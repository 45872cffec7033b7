use Rattle.std.proofs.Common.{◌≡◌, ◌∙◌, rules, length, drop, refl, ap}
use Rattle.std.specs.Vec.{with_items}
use Rattle.std.proofs.lemmas.List.{places, with_items_is}
use Rattle.gba_screen.specs.Paying.{shown_lines}
use Rattle.gba_screen.proofs.Shown.{lines_put, same_screen}
use Rattle.gba_screen.proofs.screen.Screen.set_lines.Goals as goal

pub returns : goal.returns
returns c =
    let s = c.self.inside in
    let put = c.put_lines.new.all in
    let lines = c.args.lines.now in
    let written : (with_items s.lines put).items ≡ put = with_items_is s.lines put (search (rules, places)) in
    rw (← c.self.view_is)
    (same_screen s.memory s.memory _ lines refl
    (ap (λ all. shown_lines all s.keys.items s.memory (length lines) (length lines)) (written ∙ c.put_lines.ensures)
    ∙ lines_put lines (drop (length lines) c.as_mut_slice.result.now) s.keys.items s.memory))
