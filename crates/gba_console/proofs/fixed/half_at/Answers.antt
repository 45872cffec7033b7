use Rattle.std.proofs.Common.{ℕ, ◌<◌, ◌^◌, sym, subst}
use Rattle.std.proofs.Math.Facts.{Fits-of_lt}
use Rattle.gba_bus.specs.declared.width.Width.TheVariants.{Half}
use Rattle.gba_io.specs.BusLaws.{core_code_fits}
use Rattle.gba_console.proofs.fixed.half_at.Goals as goal

pub overflow_cast-result : goal.overflow_cast-result
overflow_cast-result c =
    Fits-of_lt (subst (λ (n : ℕ). n < 2 ^ 16) (sym c.code.ensures.value)
    (core_code_fits c.args.core.now c.args.address Half))
