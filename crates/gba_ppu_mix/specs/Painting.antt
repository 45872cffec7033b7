use Rattle.std.specs.Prelude.{◌≡◌, ℕ, Bool, ◌&&◌, ◌||◌, ◌+◌, ◌*◌, ◌<◌, nat_lt, false, List, slice_index, if◌then◌else◌}
use Rattle.gba_terms.specs.Bits.{bit}
use Rattle.gba_ppu_reg.specs.Registers.{Picture}
use Rattle.gba_ppu_blend.specs.Colours.{both}
use Rattle.gba_ppu_mix.specs.Blending.{alone, changed_alone, is_alpha, is_target}
use Rattle.gba_ppu_mix.specs.Layers.{is_layer_on}
use Rattle.gba_ppu_mix.specs.Stacks.{backdrop_dot, backdrop_rank, nothing_rank}
use Rattle.gba_ppu_mix.specs.declared.blending.Blending.{Blending}
use Rattle.gba_ppu_mix.specs.declared.eights.EightCandidates.{EightCandidates}
use Rattle.gba_ppu_mix.specs.declared.eights.EightStacks.{EightStacks}
use Rattle.gba_ppu_mix.specs.declared.eights.LineConstants.{LineConstants}
use Rattle.gba_ppu_mix.specs.declared.paints.PaintedLines.{PaintedLines}
use Rattle.gba_ppu_mix.specs.declared.stacks.Layer.{Layer}
use Rattle.gba_ppu_mix.specs.declared.stacks.Layer.TheVariants.{Background0, Background1, Background2, Background3, Backdrop}
use Rattle.gba_ppu_mix.specs.declared.stacks.Ranks.{Ranks}
use Rattle.gba_ppu_mix.specs.declared.windows.Run.{Run}

-- How the code mixes a line: it knows each layer by its paints. Only private functions cite these.

-- whether any layer is on
abbrev pub has_layers : Picture → Bool
has_layers r = is_layer_on r 0 || is_layer_on r 1 || is_layer_on r 2 || is_layer_on r 3 || is_layer_on r 4

-- the colour where no layer has a dot, by what shows
abbrev pub backdrop_colour : List ℕ → Blending → ℕ → ℕ
backdrop_colour palette b shows = changed_alone palette b (bit shows 5) Backdrop backdrop_dot

-- What shows in a part of the line that no side of window 0 or 1 cuts: one thing in the sprite window, where it counts
-- there, and one elsewhere.
abbrev pub run_shows : Run → Bool → ℕ
run_shows run in_sprites = if run.has_sprites && in_sprites then run.sprites_show else run.shows

-- What a layer is a target of, and whether its dot is a semi-transparent sprite's, as bits 0, 1 and 2.
abbrev pub one_if : Bool → ℕ
one_if test = if test then 1 else 0

abbrev pub marks_of : Blending → Layer → Bool → ℕ
marks_of b layer semi =
    one_if (is_target b.first_targets layer) + 2 * one_if (is_target b.second_targets layer) + 4 * one_if semi

-- A candidate by its paint: its place in the order from the front, its colour and its marks.
pub record PaintedCandidate : Type 0 where
  pub rank : ℕ
  pub colour : ℕ
  pub marks : ℕ

-- a stack of them: the foremost one, and the one behind it
pub record PaintedStack : Type 0 where
  pub top : PaintedCandidate
  pub second : PaintedCandidate

abbrev pub painted_nearer : PaintedCandidate → PaintedCandidate → PaintedCandidate
painted_nearer new old = if nat_lt new.rank old.rank then new else old

unfoldable pub with_painted_candidate : PaintedCandidate → PaintedStack → PaintedStack
with_painted_candidate new s =
    if nat_lt new.rank s.top.rank
    then record { top = new; second = s.top }
    else record { top = s.top; second = painted_nearer new s.second }

-- a layer's place in the order, by its paint and what shows: behind everything where it isn't seen
abbrev pub unseen_rank : ℕ
unseen_rank = 0xffff

abbrev pub seen_rank : ℕ → ℕ → ℕ → ℕ → ℕ
seen_rank paint shows place rank =
    if nat_lt paint 0x8000 then (if bit shows place then rank else unseen_rank) else unseen_rank

abbrev pub painted_candidate : ℕ → ℕ → ℕ → ℕ → ℕ → PaintedCandidate
painted_candidate shows place rank marks paint =
    record { rank = seen_rank paint shows place rank; colour = paint; marks = marks }

-- what the layers have at a place
pub record Place : Type 0 where
  pub shows : ℕ
  pub sprite : ℕ
  pub sprite_rank : ℕ
  pub sprite_marks : ℕ
  pub background0 : ℕ
  pub background1 : ℕ
  pub background2 : ℕ
  pub background3 : ℕ

abbrev pub place_at : PaintedLines → ℕ → Place
place_at lines x = record {
  shows = slice_index lines.shows x;
  sprite = slice_index lines.sprites x;
  sprite_rank = slice_index lines.sprite_ranks x;
  sprite_marks = slice_index lines.sprite_marks x;
  background0 = slice_index lines.background0 x;
  background1 = slice_index lines.background1 x;
  background2 = slice_index lines.background2 x;
  background3 = slice_index lines.background3 x;
}

-- what all places of a line have in common: the ranks and marks of the backgrounds, and the backdrop
abbrev pub constants_of : Blending → Ranks → ℕ → LineConstants
constants_of b ranks backdrop = record {
  ranks = ranks;
  marks0 = marks_of b Background0 false;
  marks1 = marks_of b Background1 false;
  marks2 = marks_of b Background2 false;
  marks3 = marks_of b Background3 false;
  backdrop = backdrop;
  backdrop_marks = marks_of b Backdrop false;
}

-- the backdrop alone
abbrev pub painted_bottom : LineConstants → PaintedStack
painted_bottom c = record {
  top = record { rank = backdrop_rank; colour = c.backdrop; marks = c.backdrop_marks };
  second = record { rank = nothing_rank; colour = c.backdrop; marks = 0 };
}

-- the candidates of all layers
unfoldable pub painted_front_of : LineConstants → Place → PaintedStack
painted_front_of c p =
    with_painted_candidate (painted_candidate p.shows 1 c.ranks.background1 c.marks1 p.background1)
    (with_painted_candidate (painted_candidate p.shows 0 c.ranks.background0 c.marks0 p.background0)
    (with_painted_candidate (painted_candidate p.shows 4 p.sprite_rank p.sprite_marks p.sprite) (painted_bottom c)))

unfoldable pub painted_stack_of : LineConstants → Place → PaintedStack
painted_stack_of c p =
    with_painted_candidate (painted_candidate p.shows 3 c.ranks.background3 c.marks3 p.background3)
    (with_painted_candidate (painted_candidate p.shows 2 c.ranks.background2 c.marks2 p.background2)
    (painted_front_of c p))

-- the colour of a stack
unfoldable pub painted_stack_colour : Blending → ℕ → PaintedStack → ℕ
painted_stack_colour b shows s =
    if bit s.second.marks 1 && (bit s.top.marks 2 || (bit shows 5 && bit s.top.marks 0 && is_alpha b.effect))
    then both b.eva b.evb s.top.colour s.second.colour
    else if bit shows 5 && bit s.top.marks 0 then alone b.effect b.evy s.top.colour else s.top.colour

-- eight candidates and stacks
abbrev pub candidate_at : EightCandidates → ℕ → PaintedCandidate
candidate_at v i = record {
  rank = slice_index v.rank i;
  colour = slice_index v.colour i;
  marks = slice_index v.marks i;
}

abbrev pub stack_at : EightStacks → ℕ → PaintedStack
stack_at v i = record { top = candidate_at v.top i; second = candidate_at v.second i }

abbrev pub HasCandidates : EightCandidates → (ℕ → PaintedCandidate) → Type 0
HasCandidates v lane = (i : ℕ) → i < 8 → candidate_at v i ≡ lane i

abbrev pub HasStacks : EightStacks → (ℕ → PaintedStack) → Type 0
HasStacks v lane = (i : ℕ) → i < 8 → stack_at v i ≡ lane i
