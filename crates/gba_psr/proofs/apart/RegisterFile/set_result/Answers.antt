use Rattle.std.proofs.Common.{sym, ◌==◌}
use Rattle.gba_terms.specs.Bits.{bit}
use Rattle.gba_psr.specs.declared.condition.Flags.{Flags}
use Rattle.gba_psr.proofs.FlagsApart.{with_flags-with_flags}
use Rattle.gba_psr.proofs.apart.RegisterFile.set_result.Goals as goal

pub returns : goal.returns
returns c =
    let inside = c.self.inside in
    let now : Flags = inside.kept in
    let after : Flags = record {
      negative = bit c.args.value 31;
      zero = c.args.value == 0;
      carry = c.args.carry;
      overflow = c.args.overflow;
    } in
    rw (c.set_result.ensures, ← c.self.view_is)
    (sym (with_flags-with_flags inside.file now after c.cpsr.ensures.file.count))
