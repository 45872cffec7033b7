use Rattle.std.specs.Prelude.{map}
use Rattle.link_table.specs.Opening.{HasClocks}
use Rattle.link_table.proofs.opening.opening_words.Given as goal

abbrev pub invariant-loop-i : goal.invariant-loop-i
invariant-loop-i g l = HasClocks (map g.N.Node.clock (map g.N.Node.plain l.nodes)) l.words.items l.i
