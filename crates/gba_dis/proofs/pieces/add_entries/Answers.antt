use Rattle.std.proofs.Common.{◌≡◌, true, false, sym, refl, arith}
use Rattle.gba_terms.specs.Bits.{bit}
use Rattle.gba_dis.proofs.Digits.{entries_done, entries_passed, entries_pushed}
use Rattle.gba_dis.proofs.pieces.add_entries.Goals as goal
use Rattle.gba_dis.proofs.pieces.add_entries.Goals.{then-bit+in_ok-add_entry, else-bit}

pub loop-register-preserved : goal.loop-register-preserved
loop-register-preserved c =
    elim c.if-bit.branch [
      | then-bit+in_ok-add_entry w ↦ entries_pushed c.loop-register.line.items c.if-bit.line.items _
          c.loop-register.register c.args.list c.loop-register.first c.if-bit.first (omega arith)
          (let t : true ≡ bit c.from.result c.from-in-loop-register.result = w.if-bit.ensures in
          sym (rw (c.from.ensures, c.from-in-loop-register.ensures) at t))
          c.loop-register.invariant (rw w.line-is w.in_ok-add_entry.ensures) w.first-is
      | else-bit w ↦ entries_passed c.loop-register.line.items c.if-bit.line.items _
          c.loop-register.register c.args.list c.loop-register.first c.if-bit.first (omega arith)
          (let t : false ≡ bit c.from.result c.from-in-loop-register.result = w.if-bit.ensures in
          sym (rw (c.from.ensures, c.from-in-loop-register.ensures) at t))
          c.loop-register.invariant (rw w.line-is refl) w.first-is
    ]

pub returns : goal.returns
returns c =
    entries_done c.loop-register.line.items _ c.loop-register.register c.args.list c.loop-register.first (omega arith)
    c.loop-register.invariant
