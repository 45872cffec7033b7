use Rattle.std.specs.Prelude.{ℕ, List, [], ◌∷◌}
use Rattle.gba_arm_table.specs.declared.parts.Part.{Part}
use Rattle.gba_arm_table.specs.Diagrams.{part, flag_part}
use Rattle.gba_thumb_table.specs.declared.operation.ThumbOp.{ThumbOp}
use Rattle.gba_thumb_table.specs.declared.operation.ThumbOp.TheVariants as op

-- The halfword of each operation as it is drawn (GBATEK, THUMB.1 to THUMB.19): its parts from bit 15
-- down, with how many bits each has.

-- a register
abbrev pub register_part : ℕ → Part
register_part number = part 3 number

abbrev pub diagram : ThumbOp → List Part
diagram (op.Format1 op o5 rs rd) = part 3 0x0 ∷ part 2 op ∷ part 5 o5 ∷ register_part rs ∷ register_part rd ∷ []
diagram (op.Format2 i op x3 rs rd) =
    part 5 0x3 ∷ flag_part i ∷ flag_part op ∷ part 3 x3 ∷ register_part rs ∷ register_part rd ∷ []
diagram (op.Format3 op rd n8) = part 3 0x1 ∷ part 2 op ∷ register_part rd ∷ part 8 n8 ∷ []
diagram (op.Format4 op rs rd) = part 6 0x10 ∷ part 4 op ∷ register_part rs ∷ register_part rd ∷ []
diagram (op.Format5 op h1 h2 rs rd) =
    part 6 0x11 ∷ part 2 op ∷ flag_part h1 ∷ flag_part h2 ∷ register_part rs ∷ register_part rd ∷ []
diagram (op.Format6 rd n8) = part 5 0x9 ∷ register_part rd ∷ part 8 n8 ∷ []
diagram (op.Format7 l b ro rb rd) =
    part 4 0x5 ∷ flag_part l ∷ flag_part b ∷ part 1 0 ∷ register_part ro ∷ register_part rb ∷ register_part rd ∷ []
diagram (op.Format8 h s ro rb rd) =
    part 4 0x5 ∷ flag_part h ∷ flag_part s ∷ part 1 1 ∷ register_part ro ∷ register_part rb ∷ register_part rd ∷ []
diagram (op.Format9 b l o5 rb rd) =
    part 3 0x3 ∷ flag_part b ∷ flag_part l ∷ part 5 o5 ∷ register_part rb ∷ register_part rd ∷ []
diagram (op.Format10 l o5 rb rd) = part 4 0x8 ∷ flag_part l ∷ part 5 o5 ∷ register_part rb ∷ register_part rd ∷ []
diagram (op.Format11 l rd n8) = part 4 0x9 ∷ flag_part l ∷ register_part rd ∷ part 8 n8 ∷ []
diagram (op.Format12 p rd n8) = part 4 0xA ∷ flag_part p ∷ register_part rd ∷ part 8 n8 ∷ []
diagram (op.Format13 s n7) = part 8 0xB0 ∷ flag_part s ∷ part 7 n7 ∷ []
diagram (op.Format14 l r list8) = part 4 0xB ∷ flag_part l ∷ part 2 2 ∷ flag_part r ∷ part 8 list8 ∷ []
diagram (op.Format15 l rb list8) = part 4 0xC ∷ flag_part l ∷ register_part rb ∷ part 8 list8 ∷ []
diagram (op.Format16 cond n8) = part 4 0xD ∷ part 4 cond ∷ part 8 n8 ∷ []
diagram (op.Format17 n8) = part 8 0xDF ∷ part 8 n8 ∷ []
diagram (op.Format18 n11) = part 5 0x1C ∷ part 11 n11 ∷ []
diagram (op.Format19 second n11) = part 4 0xF ∷ flag_part second ∷ part 11 n11 ∷ []
