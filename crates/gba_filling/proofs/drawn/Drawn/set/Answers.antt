use Rattle.std.proofs.Common.{◌≡◌, ◌+◌, ◌-◌, ◌*◌, ℕ, List, [], ◌∷◌, ◌++◌, drop, length, refl, take, ap, ◌∙◌, arith, rules}
use Rattle.std.specs.Vec.{vec_len}
use Rattle.gba_filling.proofs.DrawnLines.{lines_in-count, lines_in-more, no-lines}
use Rattle.gba_filling.proofs.drawn.Drawn.set.Goals as goal

pub loop-line-init : goal.loop-line-init
loop-line-init c = record {
  lines = no-lines c.clear.new.self.items c.args.colours.now c.clear.ensures.items;
  gap = refl;
  room = search rules;
}

pub put_behind-requires : goal.put_behind-requires
put_behind-requires c =
    let lines = c.loop-line.self-inside.lines in
    let long : vec_len lines ≡ length lines.items = search rules in
    let count = ap length c.loop-line.invariant.lines ∙ lines_in-count c.loop-line.line c.args.colours.now in
    omega (arith, long, count, c.loop-line.invariant.room, c.loop-line-test.true, c.requires.few)

pub loop-line-preserved : goal.loop-line-preserved
loop-line-preserved c =
    let begin = 240 * c.loop-line.line in
    let lines = c.loop-line.self-inside.lines.items in
    let colours = drop begin c.args.colours.now in
    let count : begin + 240 - begin ≡ 240 = omega arith in
    record {
      lines = lines_in-more c.loop-line.line lines c.put_behind.new.list.items (take (begin + 240 - begin) colours)
          c.args.colours.now c.loop-line.invariant.lines
          (c.put_behind.ensures.items ∙ ap (λ (line : List ℕ). lines ++ line ∷ []) c.bytes_of_line.ensures)
          (ap (λ (n : ℕ). take n colours) count);
      gap = c.loop-line.invariant.gap;
      room = omega (arith, c.loop-line.invariant.room, c.put_behind.ensures.room);
    }
