use Rattle.gba_ppu_obj.proofs.Foremost.{foremost_seen, in_some_window, nothing_seen, window_of_each}
use Rattle.gba_ppu_obj.proofs.laws.the_foremost_sprite_is_seen.Goals as goal

pub returns : goal.returns
returns c = record {
  nothing = nothing_seen;
  foremost = foremost_seen;
  in_window = in_some_window;
  whole_window = window_of_each;
}
