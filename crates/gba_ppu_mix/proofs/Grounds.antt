-- What the dots of layers have in common: a background's are plain, and colours have 15 bits.
use Rattle.std.proofs.Common.{◌≡◌, ℕ, zero, suc, ◌+◌, ◌*◌, ◌%◌, ◌<◌, Bool, true, false, List, slice_index, refl, sym, ◌∙◌, arith, true≢false}
use Rattle.std.specs.Prelude.{◌==◌, ◌&&◌, ◌||◌, nat_lt, if◌then◌else◌}
use Rattle.gba_terms.specs.Bits.{field}
use Rattle.gba_ppu_reg.specs.Registers.{Picture, picture_mode}
use Rattle.gba_ppu_dot.specs.Bytes.{half_at}
use Rattle.gba_ppu_dot.specs.Control.{control_of, priority_of, size_of, wraps}
use Rattle.gba_ppu_dot.specs.Dots.{clear_dot, coloured_dot, indexed_dot}
use Rattle.gba_ppu_dot.specs.Paints.{colour_of}
use Rattle.gba_ppu_dot.specs.declared.dot.Dot.{Dot}
use Rattle.gba_ppu_dot.specs.declared.dot.DotKind.TheVariants.{Plain}
use Rattle.gba_ppu_text.specs.Text.{text_pixel}
use Rattle.gba_ppu_affine.specs.Affine.{affine_dot, affine_pixel, map_dot, map_side, tile_at, tile_dot}
use Rattle.gba_ppu_affine.specs.Bitmap.{bitmap_dot, bitmap_pixel, colours_dot, entries_dot, is_inside, page_start}
use Rattle.gba_ppu_affine.specs.Places.{place_across, place_down}
use Rattle.gba_ppu_obj.specs.Attributes.{attributes_of, box_width, is_row_shown, left_of, top_of}
use Rattle.gba_ppu_obj.specs.Order.{first_over, over, wins}
use Rattle.gba_ppu_obj.specs.Places.{box_column, box_row}
use Rattle.gba_ppu_obj.specs.Sprites.{attributes_dot, box_number, sprite_dot, sprites_pixel}
use Rattle.gba_ppu_obj.specs.Tiles.{mapping_of, numbered_dot, shown_dot, sprite_of, window_dot}
use Rattle.gba_ppu_obj.specs.declared.attributes.Attributes.{Attributes}
use Rattle.gba_ppu_obj.specs.declared.sprite.Mapping.{Mapping}
use Rattle.gba_ppu_obj.specs.declared.sprite.Sprite.{Sprite}
use Rattle.gba_ppu_mix.specs.Layers.{background_dot, dot_of_kind, is_layer_on, kind_of, sprites_dot}
use Rattle.gba_ppu_mix.specs.declared.layers.BackgroundKind.{BackgroundKind}
use Rattle.gba_ppu_mix.specs.declared.layers.BackgroundKind.TheVariants.{Text, Affine, Bitmap, Absent}

pub record IsGround (d : Dot) : Type 0 where
  pub kind : d.kind ≡ Plain
  pub fits : d.direct ≡ true → d.entry < 0x8000

indexed : (d : Dot) → d.kind ≡ Plain → d.direct ≡ false → IsGround d
indexed d k e = record { kind = k; fits = λ h. absurd (true≢false (sym h ∙ e)) }

coloured : (d : Dot) → d.kind ≡ Plain → d.entry < 0x8000 → IsGround d
coloured d k e = record { kind = k; fits = λ h. e }

either : (t : Bool) (a b : Dot) → IsGround a → IsGround b → IsGround (if t then a else b)
either true a b x y = x
either false a b x y = y

fits_15 : (half : ℕ) → field half 0 15 < 0x8000
fits_15 half = omega arith

nothing : IsGround clear_dot
nothing = indexed clear_dot refl refl

text_ground : (r : Picture) (vram : List ℕ) (background y x : ℕ) → IsGround (text_pixel r vram background y x)
unfolding text_pixel
text_ground r vram background y x = indexed _ refl refl

tile_ground : (vram : List ℕ) (control tile column row : ℕ) → IsGround (tile_dot vram control tile column row)
unfolding tile_dot
tile_ground vram control tile column row = indexed _ refl refl

affine_at : (vram : List ℕ) (control u v : ℕ) → IsGround (affine_dot vram control u v)
unfolding affine_dot
affine_at vram control u v =
    let side = map_side (size_of control) in
    let inside = nat_lt u side && nat_lt v side in
    either (wraps control) (map_dot vram control (u % side) (v % side))
    (if inside then map_dot vram control u v else clear_dot)
    (tile_ground vram control (tile_at vram control (u % side) (v % side)) (u % side % 8) (v % side % 8))
    (either inside (map_dot vram control u v) clear_dot
    (tile_ground vram control (tile_at vram control u v) (u % 8) (v % 8)) nothing)

affine_ground : (r : Picture) (vram : List ℕ) (background x : ℕ) → IsGround (affine_pixel r vram background x)
unfolding affine_pixel
affine_ground r vram background x =
    affine_at vram (control_of background r) (place_across background r x) (place_down background r x)

colours_ground : (columns rows start : ℕ) (vram : List ℕ) (priority u v : ℕ)
    → IsGround (colours_dot columns rows start vram priority u v)
colours_ground columns rows start vram priority u v =
    let half = half_at vram (start + 2 * (columns * v + u)) in
    either (is_inside columns rows u v) (coloured_dot priority half) clear_dot
    (coloured (coloured_dot priority half) refl (fits_15 half)) nothing

entries_ground : (columns rows start : ℕ) (vram : List ℕ) (priority u v : ℕ)
    → IsGround (entries_dot columns rows start vram priority u v)
entries_ground columns rows start vram priority u v =
    let d = indexed_dot priority 0 (slice_index vram (start + columns * v + u)) in
    either (is_inside columns rows u v) d clear_dot (indexed d refl refl) nothing

bitmap_at : (mode page : ℕ) (vram : List ℕ) (priority u v : ℕ) → IsGround (bitmap_dot mode page vram priority u v)
unfolding bitmap_dot
bitmap_at mode page vram priority u v =
    let third = colours_dot 240 160 0 vram priority u v in
    let fourth = entries_dot 240 160 page vram priority u v in
    let fifth = colours_dot 160 128 page vram priority u v in
    either (mode == 3) third (if mode == 4 then fourth else if mode == 5 then fifth else clear_dot)
    (colours_ground 240 160 0 vram priority u v)
    (either (mode == 4) fourth (if mode == 5 then fifth else clear_dot) (entries_ground 240 160 page vram priority u v)
    (either (mode == 5) fifth clear_dot (colours_ground 160 128 page vram priority u v) nothing))

bitmap_ground : (r : Picture) (vram : List ℕ) (x : ℕ) → IsGround (bitmap_pixel r vram x)
unfolding bitmap_pixel
bitmap_ground r vram x =
    bitmap_at (picture_mode r) (page_start r) vram (priority_of (control_of 2 r)) (place_across 2 r x)
    (place_down 2 r x)

kind_ground : (kind : BackgroundKind) (r : Picture) (vram : List ℕ) (background y x : ℕ)
    → IsGround (dot_of_kind kind r vram background y x)
kind_ground Text r vram background y x = text_ground r vram background y x
kind_ground Affine r vram background y x = affine_ground r vram background x
kind_ground Bitmap r vram background y x = bitmap_ground r vram x
kind_ground Absent r vram background y x = nothing

pub background_ground : (r : Picture) (vram : List ℕ) (background y x : ℕ)
    → IsGround (background_dot r vram background y x)
unfolding background_dot
background_ground r vram background y x =
    let kind = kind_of (picture_mode r) background in
    either (is_layer_on r background) (dot_of_kind kind r vram background y x) clear_dot
    (kind_ground kind r vram background y x) nothing

-- a sprite's dot never has its colour with it
not_direct : (t : Bool) (a b : Dot) → a.direct ≡ false → b.direct ≡ false → (if t then a else b).direct ≡ false
not_direct true a b x y = x
not_direct false a b x y = y

over_direct : (best new : Dot) → best.direct ≡ false → new.direct ≡ false → (over best new).direct ≡ false
unfolding over
over_direct best new x y =
    not_direct (wins best new) record new { window = best.window || new.window } record best {
      window =
          best.window || new.window;
    } y x

all_direct : (dot_of : ℕ → Dot) → ((i : ℕ) → (dot_of i).direct ≡ false) → (count : ℕ)
    → (first_over dot_of count).direct ≡ false
unfolding first_over
all_direct dot_of each zero = refl
all_direct dot_of each (suc count) = over_direct (first_over dot_of count) (dot_of count) (all_direct dot_of each count)
    (each count)

numbered_direct : (s : Sprite) (number : ℕ) → (numbered_dot s number).direct ≡ false
unfolding numbered_dot
numbered_direct s number =
    not_direct (number == 0) clear_dot (if s.in_window then window_dot else shown_dot s number) refl
    (not_direct s.in_window window_dot (shown_dot s number) refl refl)

attributes_direct : (m : Mapping) (vram oam : List ℕ) (a : Attributes) (y x : ℕ)
    → (attributes_dot m vram oam a y x).direct ≡ false
unfolding attributes_dot
attributes_direct m vram oam a y x =
    let q = box_row (top_of a) y in
    let p = box_column (left_of a) x in
    let number = box_number m vram oam a q p in
    not_direct (is_row_shown a q)
    (if nat_lt p (box_width a) then numbered_dot (sprite_of m a) number else clear_dot) clear_dot
    (not_direct (nat_lt p (box_width a)) (numbered_dot (sprite_of m a) number) clear_dot
    (numbered_direct (sprite_of m a) number) refl) refl

sprites_direct : (r : Picture) (vram oam : List ℕ) (y x : ℕ) → (sprites_pixel r vram oam y x).direct ≡ false
unfolding sprites_pixel
sprites_direct r vram oam y x =
    all_direct (sprite_dot r vram oam y x)
    (λ i. attributes_direct (mapping_of r) vram oam (attributes_of oam i) y x) 128

pub sprites_not_direct : (r : Picture) (vram oam : List ℕ) (y x : ℕ) → (sprites_dot r vram oam y x).direct ≡ false
unfolding sprites_dot
sprites_not_direct r vram oam y x =
    not_direct (is_layer_on r 4) (sprites_pixel r vram oam y x) clear_dot (sprites_direct r vram oam y x) refl

-- so a colour has 15 bits
colour_by : (palette : List ℕ) (d : Dot) (t : Bool) → d.direct ≡ t → (d.direct ≡ true → d.entry < 0x8000)
    → colour_of palette d < 0x8000
unfolding colour_of
colour_by palette d true e fits = rw e (fits e)
colour_by palette d false e fits = rw e (fits_15 (half_at palette (2 * (d.entry % 512))))

pub colour_fits : (palette : List ℕ) (d : Dot) → (d.direct ≡ true → d.entry < 0x8000) → colour_of palette d < 0x8000
colour_fits palette d fits = colour_by palette d d.direct refl fits
