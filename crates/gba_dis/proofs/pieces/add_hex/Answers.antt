use Rattle.std.proofs.Common.{[], ◌∷◌, ◌++◌, ap, ◌∙◌, arith}
use Rattle.gba_terms.specs.Hexadecimal.{hex_digit}
use Rattle.gba_dis.proofs.Digits.{hex_pushed}
use Rattle.gba_dis.proofs.pieces.add_hex.Goals as goal

pub loop-left-preserved : goal.loop-left-preserved
loop-left-preserved c = record {
  text = hex_pushed c.loop-left.line.items c.push.new.self.items [] c.loop-left.left c.args.number _ (omega arith)
      c.loop-left.invariant.text
      (c.in_ok-push.ensures.items ∙ ap (λ d. c.loop-left.line.items ++ d ∷ []) (c.hex_digit.ensures ∙ ap hex_digit
      c.bits.ensures));
  few = omega arith;
}
