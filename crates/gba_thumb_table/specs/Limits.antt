use Rattle.std.specs.Prelude.{ℕ, true, false, List, [], ◌∷◌}
use Rattle.gba_arm_table.specs.Limits.{Limit, limit, Within}
use Rattle.gba_thumb_table.specs.declared.operation.ThumbOp.{ThumbOp}
use Rattle.gba_thumb_table.specs.declared.operation.ThumbOp.TheVariants as op

-- The fields of an operation that could be out of their bits, each with the bound that its bits give, or a lower one
-- where the numbers above it stand for other operations (GBATEK, THUMB.1 to THUMB.19).

-- a register has three bits
abbrev pub low_register : ℕ → Limit
low_register number = limit number 8

-- the registers that an operation names
abbrev pub registers_of : ThumbOp → List Limit
registers_of (op.Format1 op o5 rs rd) = low_register rs ∷ low_register rd ∷ []
registers_of (op.Format2 true op x3 rs rd) = low_register rs ∷ low_register rd ∷ []
registers_of (op.Format2 false op x3 rs rd) = low_register x3 ∷ low_register rs ∷ low_register rd ∷ []
registers_of (op.Format3 op rd n8) = low_register rd ∷ []
registers_of (op.Format4 op rs rd) = low_register rs ∷ low_register rd ∷ []
registers_of (op.Format5 op h1 h2 rs rd) = low_register rs ∷ low_register rd ∷ []
registers_of (op.Format6 rd n8) = low_register rd ∷ []
registers_of (op.Format7 l b ro rb rd) = low_register ro ∷ low_register rb ∷ low_register rd ∷ []
registers_of (op.Format8 h s ro rb rd) = low_register ro ∷ low_register rb ∷ low_register rd ∷ []
registers_of (op.Format9 b l o5 rb rd) = low_register rb ∷ low_register rd ∷ []
registers_of (op.Format10 l o5 rb rd) = low_register rb ∷ low_register rd ∷ []
registers_of (op.Format11 l rd n8) = low_register rd ∷ []
registers_of (op.Format12 p rd n8) = low_register rd ∷ []
registers_of (op.Format15 l rb list8) = low_register rb ∷ []
registers_of _ = []

-- the numbers that are neither registers nor offsets: shift by a constant has three operations, since its fourth is add
-- and subtract, and the branch has fourteen conditions
abbrev pub immediates_of : ThumbOp → List Limit
immediates_of (op.Format1 op o5 rs rd) = limit op 3 ∷ limit o5 32 ∷ []
immediates_of (op.Format2 true op x3 rs rd) = limit x3 8 ∷ []
immediates_of (op.Format3 op rd n8) = limit op 4 ∷ limit n8 256 ∷ []
immediates_of (op.Format4 op rs rd) = limit op 16 ∷ []
immediates_of (op.Format5 op h1 h2 rs rd) = limit op 4 ∷ []
immediates_of (op.Format12 p rd n8) = limit n8 256 ∷ []
immediates_of (op.Format13 s n7) = limit n7 128 ∷ []
immediates_of (op.Format14 l r list8) = limit list8 256 ∷ []
immediates_of (op.Format15 l rb list8) = limit list8 256 ∷ []
immediates_of (op.Format16 cond n8) = limit cond 14 ∷ []
immediates_of (op.Format17 n8) = limit n8 256 ∷ []
immediates_of _ = []

-- the offset of a load, a store or a branch
abbrev pub offsets_of : ThumbOp → List Limit
offsets_of (op.Format6 rd n8) = limit n8 256 ∷ []
offsets_of (op.Format9 b l o5 rb rd) = limit o5 32 ∷ []
offsets_of (op.Format10 l o5 rb rd) = limit o5 32 ∷ []
offsets_of (op.Format11 l rd n8) = limit n8 256 ∷ []
offsets_of (op.Format16 cond n8) = limit n8 256 ∷ []
offsets_of (op.Format18 n11) = limit n11 2048 ∷ []
offsets_of (op.Format19 second n11) = limit n11 2048 ∷ []
offsets_of _ = []

-- an operation whose fields all fit their bits
pub record Fits (operation : ThumbOp) : Type 0 where
  pub registers : Within (registers_of operation)
  pub immediates : Within (immediates_of operation)
  pub offsets : Within (offsets_of operation)
