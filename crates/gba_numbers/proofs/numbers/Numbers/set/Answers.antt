use Rattle.std.proofs.Common.{arith}
use Rattle.gba_numbers.proofs.ByPlace.{byte-small, length-small, length_b-small}
use Rattle.gba_numbers.proofs.numbers.Numbers.set.Goals as goal

pub set_single-requires-clause-length_a : goal.set_single-requires-clause-length_a
set_single-requires-clause-length_a c =
    λ is. length-small c.args.field c.args.value c.requires.known (rw (← c.place-place.ensures.place) is)
    c.requires.fits

pub set_single-requires-clause-length_b : goal.set_single-requires-clause-length_b
set_single-requires-clause-length_b c =
    λ is. length_b-small c.args.field c.args.value c.requires.known (rw (← c.place-place.ensures.place) is)
    c.requires.fits

pub overflow_cast-value : goal.overflow_cast-value
overflow_cast-value c =
    omega (
      arith,
      byte-small c.args.field c.args.value c.requires.known (omega (arith, c.place-place.ensures.place))
          c.requires.fits,
    )

pub overflow_cast-value-then-place-lt-WAVE_0 : goal.overflow_cast-value-then-place-lt-WAVE_0
overflow_cast-value-then-place-lt-WAVE_0 c =
    omega (
      arith,
      byte-small c.args.field c.args.value c.requires.known (omega (arith, c.place-place.ensures.place))
          c.requires.fits,
    )

pub overflow_cast-self : goal.overflow_cast-self
overflow_cast-self c =
    omega (
      arith,
      byte-small c.args.field c.args.value c.requires.known (omega (arith, c.place-place.ensures.place))
          c.requires.fits,
    )

pub overflow_cast-self-else-place-lt-WAVE_1 : goal.overflow_cast-self-else-place-lt-WAVE_1
overflow_cast-self-else-place-lt-WAVE_1 c =
    omega (
      arith,
      byte-small c.args.field c.args.value c.requires.known (omega (arith, c.place-place.ensures.place))
          c.requires.fits,
    )
