use Rattle.std.specs.Prelude.{ℕ, Bool, ◌&&◌, ◌||◌, ◌==◌, min, true, false, List, if◌then◌else◌}
use Rattle.gba_terms.specs.Bits.{bit, field}
use Rattle.gba_ppu_reg.specs.Registers.{Picture, picture_kept}
use Rattle.gba_ppu_dot.specs.Paints.{colour_of}
use Rattle.gba_ppu_dot.specs.declared.dot.Dot.{Dot}
use Rattle.gba_ppu_dot.specs.declared.dot.DotKind.{DotKind}
use Rattle.gba_ppu_dot.specs.declared.dot.DotKind.TheVariants.{Plain, Semi}
use Rattle.gba_ppu_blend.specs.Colours.{both, brighter, darker}
use Rattle.gba_ppu_mix.specs.Stacks.{Dots, Stack, dot_of, layer_bit}
use Rattle.gba_ppu_mix.specs.declared.blending.Blending.{Blending}
use Rattle.gba_ppu_mix.specs.declared.blending.Effect.{Effect}
use Rattle.gba_ppu_mix.specs.declared.blending.Effect.TheVariants.{Unchanged, Alpha, Brighter, Darker}
use Rattle.gba_ppu_mix.specs.declared.stacks.Layer.{Layer}

-- BLDCNT, BLDALPHA and BLDY (GBATEK, LCD I/O Color Special Effects). Coefficients are sixteenths, and above 16 count as
-- 16.
abbrev pub effect_of : ℕ → Effect
effect_of number =
    if number == 0 then Unchanged else if number == 1 then Alpha else if number == 2 then Brighter else Darker

abbrev pub coefficient : ℕ → ℕ → ℕ
coefficient half low = min (field half low 5) 16

abbrev pub blending_of : Picture → Blending
blending_of r = record {
  first_targets = field (picture_kept 0x050 r) 0 6;
  second_targets = field (picture_kept 0x050 r) 8 6;
  effect = effect_of (field (picture_kept 0x050 r) 6 2);
  eva = coefficient (picture_kept 0x052 r) 0;
  evb = coefficient (picture_kept 0x052 r) 8;
  evy = coefficient (picture_kept 0x054 r) 0;
}

-- an effect on a single colour: alpha blending, which has no second colour here, leaves it
unfoldable pub alone : Effect → ℕ → ℕ → ℕ
alone Unchanged evy colour = colour
alone Alpha evy colour = colour
alone Brighter evy colour = brighter evy colour
alone Darker evy colour = darker evy colour

abbrev pub is_alpha : Effect → Bool
is_alpha Unchanged = false
is_alpha Alpha = true
is_alpha Brighter = false
is_alpha Darker = false

abbrev pub is_semi : DotKind → Bool
is_semi Plain = false
is_semi Semi = true

-- whether a layer is one of the targets
abbrev pub is_target : ℕ → Layer → Bool
is_target targets layer = bit targets (layer_bit layer)

-- The colour of the foremost layer's dot over that of the layer behind it. Where that one is a second target, a
-- semi-transparent sprite is blended with it whatever the effect is and wherever effects show (own: in every window).
-- Else the effect is on a first target alone, and where effects show.
abbrev pub is_changed : Blending → Bool → Layer → Bool
is_changed b effects layer = effects && is_target b.first_targets layer

abbrev pub is_blended : Blending → Bool → Layer → Dot → Bool
is_blended b effects layer dot = is_semi dot.kind || (is_changed b effects layer && is_alpha b.effect)

abbrev pub changed_alone : List ℕ → Blending → Bool → Layer → Dot → ℕ
changed_alone palette b effects layer dot =
    if is_changed b effects layer then alone b.effect b.evy (colour_of palette dot) else colour_of palette dot

unfoldable pub stack_colour : List ℕ → Blending → Bool → Dots → Stack → ℕ
stack_colour palette b effects dots s =
    let top = dot_of dots s.top.layer in
    if is_target b.second_targets s.second.layer && is_blended b effects s.top.layer top
    then both b.eva b.evb (colour_of palette top) (colour_of palette (dot_of dots s.second.layer))
    else changed_alone palette b effects s.top.layer top
