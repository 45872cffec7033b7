use Rattle.std.proofs.Common.{◌≡◌, ℕ, ◌*◌, ◌<◌, slice_index}
use Rattle.gba_ppu_mix.specs.Painting.{painted_stack_colour, painted_stack_of, place_at}
use Rattle.gba_ppu_mix.proofs.line.mix.Given as goal

abbrev pub invariant-loop-k : goal.invariant-loop-k
invariant-loop-k l = (x : ℕ) → x < 8 * l.k
    → slice_index l.colours x ≡ painted_stack_colour l.b (slice_index l.lines.shows x)
    (painted_stack_of l.c (place_at l.lines x))
