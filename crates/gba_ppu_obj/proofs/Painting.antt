-- Dots over one another.
use Rattle.std.proofs.Common.{◌≡◌, ℕ, ◌+◌, ◌-◌, ◌<◌, ◌≤◌, Bool, true, false, ◌||◌, List, ⊎_elim, ap, sym, ◌∙◌, refl, add-one, arith}
use Rattle.std.proofs.lemmas.Bool.{cases_lt, le-ltb, lt-ltb}
use Rattle.std.proofs.Math.Bool.{and-false}
use Rattle.gba_ppu_dot.specs.Dots.{clear_dot}
use Rattle.gba_ppu_dot.specs.declared.dot.Dot.{Dot}
use Rattle.gba_ppu_obj.specs.Attributes.{box_height, box_width, is_double, is_row_shown, is_shown, left_of, top_of}
use Rattle.gba_ppu_obj.specs.Order.{first_over, over}
use Rattle.gba_ppu_obj.specs.Places.{box_column, box_row}
use Rattle.gba_ppu_obj.specs.Sprites.{attributes_dot, box_number}
use Rattle.gba_ppu_obj.specs.Tiles.{numbered_dot, sprite_of}
use Rattle.gba_ppu_obj.specs.declared.attributes.Attributes.{Attributes}
use Rattle.gba_ppu_obj.specs.declared.sprite.Mapping.{Mapping}

pub or_false : (b : Bool) → (b || false) ≡ b
or_false true = refl
or_false false = refl

pub or_true : (b : Bool) → (b || true) ≡ true
or_true true = refl
or_true false = refl

-- nothing over a dot is that dot
pub over_clear : (best : Dot) → over best clear_dot ≡ best
unfolding over
over_clear best = ap (λ w. record best { window = w }) (or_false best.window)

-- one dot more over those before it
pub one_more : (dot_of : ℕ → Dot) (count : ℕ) → first_over dot_of (count + 1)
    ≡ over (first_over dot_of count) (dot_of count)
unfolding first_over
one_more dot_of count = rw (add-one) refl

pub none_yet : (dot_of : ℕ → Dot) → first_over dot_of 0 ≡ clear_dot
unfolding first_over
none_yet dot_of = refl

-- a sprite has nothing on a line that its box doesn't reach, and in a column that it doesn't reach
pub off_the_line : (m : Mapping) (vram oam : List ℕ) (a : Attributes) (y x : ℕ)
    → is_row_shown a (box_row (top_of a) y) ≡ false → attributes_dot m vram oam a y x ≡ clear_dot
unfolding attributes_dot
off_the_line m vram oam a y x off = rw off refl

beside_box : (m : Mapping) (vram oam : List ℕ) (a : Attributes) (y x : ℕ)
    → is_row_shown a (box_row (top_of a) y) ≡ true → box_width a ≤ box_column (left_of a) x
    → attributes_dot m vram oam a y x ≡ clear_dot
unfolding attributes_dot
beside_box m vram oam a y x on beside = rw (on, le-ltb (box_column (left_of a) x) (box_width a) beside) refl

in_box : (m : Mapping) (vram oam : List ℕ) (a : Attributes) (y x p : ℕ)
    → is_row_shown a (box_row (top_of a) y) ≡ true → box_column (left_of a) x ≡ p → p < box_width a
    → attributes_dot m vram oam a y x ≡ numbered_dot (sprite_of m a) (box_number m vram oam a (box_row (top_of a) y) p)
unfolding attributes_dot
in_box m vram oam a y x p on e within = rw (on, e, lt-ltb p (box_width a) within) refl

pub nothing_over : (old dot : Dot) → dot ≡ clear_dot → old ≡ over old dot
nothing_over old dot e = sym (ap (over old) e ∙ over_clear old)

-- what a box leaves on the line, place by place
pub drawn_at : (m : Mapping) (vram oam : List ℕ) (a : Attributes) (y x q left width start end first : ℕ) (old new : Dot)
    → q ≡ box_row (top_of a) y → left ≡ left_of a → width ≡ box_width a
    → is_row_shown a q ≡ true
    → first + (end - start) ≤ width
    → (start ≤ x → x < end → box_column left x ≡ first + (x - start))
    → (x < start → width ≤ box_column left x)
    → (end ≤ x → width ≤ box_column left x)
    → (x < start → new ≡ old)
    → (start ≤ x → x < end
    → new ≡ over old (numbered_dot (sprite_of m a) (box_number m vram oam a q (first + (x - start)))))
    → (end ≤ x → new ≡ old)
    → new ≡ over old (attributes_dot m vram oam a y x)
drawn_at m vram oam a y x q left width start end first old new row_is left_is width_is on within inside to_left to_right
    before drawn after =
    let shown : is_row_shown a (box_row (top_of a) y) ≡ true = ap (is_row_shown a) (sym row_is) ∙ on in
    let beside : width ≤ box_column left x → attributes_dot m vram oam a y x ≡ clear_dot =
    λ past. beside_box m vram oam a y x shown (rw (left_is, width_is) at past) in
    ⊎_elim
    (λ (low : x < start). before low ∙ nothing_over old _ (beside (to_left low)))
    (λ (from : start ≤ x).
    ⊎_elim
    (λ (below : x < end).
    let within_box : first + (x - start) < box_width a = rw (sym width_is) (omega arith) in
    let column : box_column (left_of a) x ≡ first + (x - start) = rw left_is at (inside from below) in
    drawn from below
    ∙ ap (over old)
    (ap (λ n. numbered_dot (sprite_of m a) (box_number m vram oam a n (first + (x - start)))) row_is
    ∙ sym (in_box m vram oam a y x (first + (x - start)) shown column within_box)))
    (λ (past : end ≤ x). after past ∙ nothing_over old _ (beside (to_right past)))
    (cases_lt x end))
    (cases_lt x start)

-- a row past the box's height isn't shown
past_box : (a : Attributes) (q most : ℕ) → box_height a ≤ most → most ≤ q → is_row_shown a q ≡ false
past_box a q most high low = rw (le-ltb q (box_height a) (omega (arith, high, low))) (and-false (is_shown a))

-- no box is higher than 128
high_at_most : (a : Attributes) → box_height a ≤ 128
high_at_most a = grind arith

pub too_low : (a : Attributes) (q : ℕ) → 128 ≤ q → is_row_shown a q ≡ false
too_low a q h = past_box a q 128 (high_at_most a) h

undoubled_at_most : (a : Attributes) → is_double a ≡ false → box_height a ≤ 64
undoubled_at_most a e = grind (arith, e)

pub too_low_undoubled : (a : Attributes) (q : ℕ) → is_double a ≡ false → 64 ≤ q → is_row_shown a q ≡ false
too_low_undoubled a q e h = past_box a q 64 (undoubled_at_most a e) h
