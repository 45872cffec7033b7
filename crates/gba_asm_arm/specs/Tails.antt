-- What follows the first letters of a name: a condition, and then a suffix.
use Rattle.std.specs.Prelude.{ℕ, nat_lt, List, [], ◌∷◌, length, take, drop, codes, Option, Some, None, if◌then◌else◌}
use Rattle.std.specs.Str.{bytes_eq}
use Rattle.gba_arm_table.specs.declared.operation.Condition.{Condition}
use Rattle.gba_arm_table.specs.declared.operation.Condition.TheVariants.{Equal, NotEqual, CarrySet, CarryClear, Minus, Plus, Overflow, NoOverflow, Higher, LowerOrSame, GreaterOrEqual, Less, Greater, LessOrEqual, Always}
use Rattle.gba_asm_arm.specs.declared.tails.Suffix.{Suffix}
use Rattle.gba_asm_arm.specs.declared.tails.Suffix.TheVariants as suffix

-- the condition that two letters name
unfoldable pub condition_of : List ℕ → Option Condition
condition_of name =
    if bytes_eq name (codes "eq") then Some Equal
    else if bytes_eq name (codes "ne") then Some NotEqual
    else if bytes_eq name (codes "cs") then Some CarrySet
    else if bytes_eq name (codes "cc") then Some CarryClear
    else if bytes_eq name (codes "mi") then Some Minus
    else if bytes_eq name (codes "pl") then Some Plus
    else if bytes_eq name (codes "vs") then Some Overflow
    else if bytes_eq name (codes "vc") then Some NoOverflow
    else if bytes_eq name (codes "hi") then Some Higher
    else if bytes_eq name (codes "ls") then Some LowerOrSame
    else if bytes_eq name (codes "ge") then Some GreaterOrEqual
    else if bytes_eq name (codes "lt") then Some Less
    else if bytes_eq name (codes "gt") then Some Greater
    else if bytes_eq name (codes "le") then Some LessOrEqual
    else if bytes_eq name (codes "al") then Some Always
    else None

-- letters that are a condition, or none, which is always
abbrev pub whole_condition : List ℕ → Option Condition
whole_condition [] = Some Always
whole_condition (b ∷ letters) = condition_of (b ∷ letters)

-- a condition, and the letters after it
pub record Conditioned : Type 0 where
  pub cond : Condition
  pub rest : List ℕ

abbrev pub conditioned : Condition → List ℕ → Conditioned
conditioned cond rest = record { cond = cond; rest = rest }

abbrev pub or_always : List ℕ → Option Condition → Conditioned
or_always letters (Some cond) = conditioned cond (drop 2 letters)
or_always letters None = conditioned Always letters

-- the condition that the first two letters name, if they name one
unfoldable pub condition_first : List ℕ → Conditioned
condition_first letters =
    if nat_lt (length letters) 2 then conditioned Always letters
    else or_always letters (condition_of (take 2 letters))

-- the suffix that letters name
unfoldable pub suffix_of : List ℕ → Option Suffix
suffix_of letters =
    if bytes_eq letters (codes "") then Some suffix.Plain
    else if bytes_eq letters (codes "s") then Some suffix.Set
    else if bytes_eq letters (codes "b") then Some suffix.Byte
    else if bytes_eq letters (codes "t") then Some suffix.User
    else if bytes_eq letters (codes "bt") then Some suffix.ByteUser
    else if bytes_eq letters (codes "h") then Some suffix.Half
    else if bytes_eq letters (codes "sb") then Some suffix.SignedByte
    else if bytes_eq letters (codes "sh") then Some suffix.SignedHalf
    else if bytes_eq letters (codes "ia") then Some suffix.IncrementAfter
    else if bytes_eq letters (codes "ib") then Some suffix.IncrementBefore
    else if bytes_eq letters (codes "da") then Some suffix.DecrementAfter
    else if bytes_eq letters (codes "db") then Some suffix.DecrementBefore
    else None
