use Rattle.std.proofs.Common.{arith}
use Rattle.gba_numbers.proofs.numbers.Numbers.is_whole.Goals as goal

pub returns : goal.returns
returns c = rw (← c.self.view_is) (record {
  values = c.self.invariant.2;
  queue_a = c.self.invariant.0;
  queue_b = c.self.invariant.1;
  short_a = omega (arith, c.len-length.ensures.fits, c.len-length.ensures.value);
  short_b = omega (arith, c.len-length-2.ensures.fits, c.len-length-2.ensures.value);
  wave0 = c.self.invariant.3;
  wave1 = c.self.invariant.4;
})
