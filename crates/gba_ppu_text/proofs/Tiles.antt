-- A row of the map drawn tile by tile is that row dot by dot.
use Rattle.std.proofs.Common.{◌≡◌, ℕ, ◌+◌, ◌-◌, ◌*◌, ◌/◌, ◌%◌, ◌<◌, ◌≤◌, Bool, true, false, List, slice_index_or, subst, ap, sym, ◌∙◌, ⊎_elim, arith}
use Rattle.std.proofs.lemmas.Bool.{cases_lt}
use Rattle.gba_ppu_dot.specs.declared.dot.Dot.{Dot}
use Rattle.gba_ppu_text.specs.Text.{block_of, is_wide, map_dot, on_map, text_entry, tile_dot}

-- the dots of a tile lie side by side on the map, and none past its edge
beside : (twice : Bool) (start i : ℕ) → start % 8 ≡ 0 → i < 8 → on_map twice (start + i) ≡ on_map twice start + i
beside true start i a h = omega arith
beside false start i a h = omega arith

aligned : (twice : Bool) (start : ℕ) → start % 8 ≡ 0 → on_map twice start % 8 ≡ 0
aligned true start a = omega arith
aligned false start a = omega arith

column_of : (x i : ℕ) → x % 8 ≡ 0 → i < 8 → (x + i) % 8 ≡ i
column_of x i a h = omega arith

-- they have one entry
same_block : (control x i y : ℕ) → x % 8 ≡ 0 → i < 8 → block_of control (x + i) y ≡ block_of control x y
same_block control x i y a h = grind arith

same_place : (x i : ℕ) → x % 8 ≡ 0 → i < 8 → (x + i) % 256 / 8 ≡ x % 256 / 8
same_place x i a h = omega arith

same_entry : (vram : List ℕ) (control x i y : ℕ) → x % 8 ≡ 0 → i < 8
    → text_entry vram control (x + i) y ≡ text_entry vram control x y
unfolding text_entry
same_entry vram control x i y a h = rw (same_block control x i y a h, same_place x i a h)

tile_of : (vram : List ℕ) (control x i y : ℕ) → x % 8 ≡ 0 → i < 8
    → map_dot vram control (x + i) y ≡ tile_dot vram control (text_entry vram control x y) i (y % 8)
tile_of vram control x i y a h =
    ap (λ e. tile_dot vram control e ((x + i) % 8) (y % 8)) (same_entry vram control x i y a h)
    ∙ ap (λ column. tile_dot vram control (text_entry vram control x y) column (y % 8)) (column_of x i a h)

-- the tile that begins at a place of the row is that of the map there
drawn_tile : (vram : List ℕ) (control start i y : ℕ) → start % 8 ≡ 0 → i < 8
    → map_dot vram control (on_map (is_wide control) (start + i)) y
    ≡ tile_dot vram control (text_entry vram control (on_map (is_wide control) start) y) i (y % 8)
drawn_tile vram control start i y a h =
    ap (λ x. map_dot vram control x y) (beside (is_wide control) start i a h)
    ∙ tile_of vram control (on_map (is_wide control) start) i y (aligned (is_wide control) start a) h

in_tile : (base tile i : ℕ) → 8 * base + 8 * tile + i ≡ 8 * base + (8 * tile + i)
in_tile base tile i = omega arith

whole_tile : (base tile : ℕ) → (8 * base + 8 * tile) % 8 ≡ 0
whole_tile base tile = omega arith

pub drawn_here : (vram : List ℕ) (control base tile i y entry : ℕ)
    → entry ≡ text_entry vram control (on_map (is_wide control) (8 * base + 8 * tile)) y → i < 8
    → tile_dot vram control entry i (y % 8) ≡ map_dot vram control
    (on_map (is_wide control) (8 * base + (8 * tile + i))) y
drawn_here vram control base tile i y entry e h =
    ap (λ n. tile_dot vram control n i (y % 8)) e
    ∙ sym (drawn_tile vram control (8 * base + 8 * tile) i y (whole_tile base tile) h)
    ∙ ap (λ n. map_dot vram control (on_map (is_wide control) n) y) (in_tile base tile i)

-- eight dots more
pub eight_more : (pixel : ℕ → Dot) (old new : List Dot) (n : ℕ)
    → ((k : ℕ) (d : Dot) → k < 8 * n → slice_index_or old k d ≡ pixel k)
    → ((k : ℕ) (d : Dot) → k < 8 * n → slice_index_or new k d ≡ slice_index_or old k d)
    → ((i : ℕ) (d : Dot) → i < 8 → slice_index_or new (8 * n + i) d ≡ pixel (8 * n + i))
    → (k : ℕ) (d : Dot) → k < 8 * (n + 1) → slice_index_or new k d ≡ pixel k
eight_more pixel old new n was same drawn k d h =
    ⊎_elim
    (λ (low : k < 8 * n). same k d low ∙ was k d low)
    (λ (high : 8 * n ≤ k).
    let e : 8 * n + (k - 8 * n) ≡ k = omega arith in
    let P : ℕ → Type 0 = λ j. slice_index_or new j d ≡ pixel j in
    subst P e (drawn (k - 8 * n) d (omega arith)))
    (cases_lt k (8 * n))
