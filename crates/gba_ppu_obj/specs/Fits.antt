use Rattle.std.specs.Prelude.{◌<◌, ◌≤◌}
use Rattle.gba_ppu_obj.specs.declared.sprite.Sprite.{Sprite}

-- The sizes that the numbers of a sprite's picture have, as the code needs them. Only private functions cite them.
pub record SpriteFits (s : Sprite) : Type 0 where
  pub width : s.width ≤ 64
  pub height : s.height ≤ 64
  pub first_tile : s.first_tile < 1024
  pub row_units : s.row_units ≤ 32
  pub tile_units : s.tile_units ≤ 2
  pub palette_start : s.palette_start ≤ 496
