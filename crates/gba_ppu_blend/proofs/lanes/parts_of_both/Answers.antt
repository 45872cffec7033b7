use Rattle.std.proofs.Common.{◌≤◌, ◌∙◌, get_or, arith}
use Rattle.gba_ppu_blend.proofs.Vectors.{both_at, both_count}
use Rattle.gba_ppu_blend.proofs.lanes.parts_of_both.Goals as goal

pub returns : goal.returns
returns c = record {
  count =
      both_count 8 c.args.eva c.args.evb c.args.low c.parts.result c.parts-2.result c.parts.ensures.count
      c.parts-2.ensures.count;
  lanes = λ i h.
      let p = c.parts.ensures.lanes i h in
      let q = c.parts-2.ensures.lanes i h in
      let x : get_or c.parts.result i 0 ≤ 31 = omega (arith, p) in
      let y : get_or c.parts-2.result i 0 ≤ 31 = omega (arith, q) in
      both_at 8 c.args.eva c.args.evb c.args.low c.parts.result c.parts-2.result i c.requires.eva c.requires.evb
      c.requires.low c.parts.ensures.count c.parts-2.ensures.count h x y
      ∙ rw (p, q);
}
