use Rattle.std.specs.Prelude.{ℕ, ◌^◌, ◌<◌, List, length, slice_index}

-- numbers of eight bits
abbrev pub AreBytes : List ℕ → Type 0
AreBytes bytes = (place : ℕ) → place < length bytes → slice_index bytes place < 2 ^ 8
