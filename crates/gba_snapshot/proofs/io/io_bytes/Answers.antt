use Rattle.std.proofs.Common.{◌∙◌, sym, ap, length, List, ℕ, arith}
use Rattle.gba_snapshot.proofs.Halfwords.{io_bytes-more, io_bytes-none}
use Rattle.gba_snapshot.proofs.io.io_bytes.Goals as goal

pub loop-half-init : goal.loop-half-init
loop-half-init c = (
  c.new-bytes.ensures ∙ sym (io_bytes-none c.args.core.now),
  ap (λ (bytes : List ℕ). length bytes) c.new-bytes.ensures,
)

pub loop-half-preserved : goal.loop-half-preserved
loop-half-preserved c = (
  io_bytes-more c.args.core.now c.loop-half.half c.io_half.result c.loop-half.bytes.items
      c.add_half.new.bytes.items c.loop-half.invariant.0 c.io_half.ensures c.add_half.ensures.items,
  omega (arith, c.add_half.ensures.len, c.loop-half.invariant.1),
)
