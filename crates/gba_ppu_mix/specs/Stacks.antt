use Rattle.std.specs.Prelude.{ℕ, ◌&&◌, ◌+◌, ◌*◌, nat_lt, true, if◌then◌else◌}
use Rattle.gba_terms.specs.Bits.{bit}
use Rattle.gba_ppu_reg.specs.Registers.{Picture}
use Rattle.gba_ppu_dot.specs.Control.{control_of, priority_of}
use Rattle.gba_ppu_dot.specs.Dots.{clear_dot}
use Rattle.gba_ppu_dot.specs.declared.dot.Dot.{Dot}
use Rattle.gba_ppu_mix.specs.declared.stacks.Layer.{Layer}
use Rattle.gba_ppu_mix.specs.declared.stacks.Layer.TheVariants.{Background0, Background1, Background2, Background3, Sprites, Backdrop, Nothing}
use Rattle.gba_ppu_mix.specs.declared.stacks.Ranks.{Ranks}

-- the dots of the layers at a place
pub record Dots : Type 0 where
  pub sprite : Dot
  pub background0 : Dot
  pub background1 : Dot
  pub background2 : Dot
  pub background3 : Dot

-- a layer that may be seen at a place, and its place in the order from the front
pub record Candidate : Type 0 where
  pub rank : ℕ
  pub layer : Layer

-- the foremost candidate, and the one behind it
pub record Stack : Type 0 where
  pub top : Candidate
  pub second : Candidate

-- the dot of a layer: the backdrop has the palette's entry 0
abbrev pub backdrop_dot : Dot
backdrop_dot = record clear_dot { opaque = true }

unfoldable pub dot_of : Dots → Layer → Dot
dot_of dots Background0 = dots.background0
dot_of dots Background1 = dots.background1
dot_of dots Background2 = dots.background2
dot_of dots Background3 = dots.background3
dot_of dots Sprites = dots.sprite
dot_of dots Backdrop = backdrop_dot
dot_of dots Nothing = backdrop_dot

-- the bits of the layers in BLDCNT, and in what a window shows: six, so that bit 6 is never set
abbrev pub layer_bit : Layer → ℕ
layer_bit Background0 = 0
layer_bit Background1 = 1
layer_bit Background2 = 2
layer_bit Background3 = 3
layer_bit Sprites = 4
layer_bit Backdrop = 5
layer_bit Nothing = 6

-- The order of the layers from the front, as numbers: by priority, and with one priority sprites before backgrounds and
-- these by their number (GBATEK, LCD I/O BG Control, LCD OBJ OAM Attributes). The backdrop is behind every priority,
-- and behind it there is nothing.
abbrev pub backdrop_rank : ℕ
backdrop_rank = 0x800

abbrev pub nothing_rank : ℕ
nothing_rank = 0x801

abbrev pub sprite_rank : ℕ → ℕ
sprite_rank priority = 8 * priority

abbrev pub background_rank : Picture → ℕ → ℕ
background_rank r background = 8 * priority_of (control_of background r) + background + 1

abbrev pub ranks_of : Picture → Ranks
ranks_of r = record {
  background0 = background_rank r 0;
  background1 = background_rank r 1;
  background2 = background_rank r 2;
  background3 = background_rank r 3;
}

-- The foremost candidate and the one behind it, with one candidate more.
abbrev pub nearer : Candidate → Candidate → Candidate
nearer new old = if nat_lt new.rank old.rank then new else old

unfoldable pub with_candidate : Candidate → Stack → Stack
with_candidate new s =
    if nat_lt new.rank s.top.rank
    then record { top = new; second = s.top }
    else record { top = s.top; second = nearer new s.second }

-- a layer is a candidate where its dot is opaque and the layer shows
unfoldable pub with_dot : ℕ → Layer → ℕ → Dot → Stack → Stack
with_dot shows layer rank dot s =
    if dot.opaque && bit shows (layer_bit layer) then with_candidate record { rank = rank; layer = layer } s else s

-- the backdrop alone
abbrev pub bottom : Stack
bottom = record {
  top = record { rank = backdrop_rank; layer = Backdrop };
  second = record { rank = nothing_rank; layer = Nothing };
}

-- the candidates of all layers
unfoldable pub front_of : ℕ → Ranks → Dots → Stack
front_of shows ranks dots =
    with_dot shows Background1 ranks.background1 dots.background1
    (with_dot shows Background0 ranks.background0 dots.background0
    (with_dot shows Sprites (sprite_rank dots.sprite.priority) dots.sprite bottom))

unfoldable pub stack_of : ℕ → Ranks → Dots → Stack
stack_of shows ranks dots =
    with_dot shows Background3 ranks.background3 dots.background3
    (with_dot shows Background2 ranks.background2 dots.background2 (front_of shows ranks dots))
