use Rattle.std.specs.Prelude.{ℕ, Bool, ◌/◌, ◌%◌, ◌^◌, ◌==◌}

-- the number in the `width` bits of n from bit `low` up
abbrev pub field : ℕ → ℕ → ℕ → ℕ
field n low width = n / 2 ^ low % 2 ^ width

-- whether bit `place` of n is set
abbrev pub bit : ℕ → ℕ → Bool
bit n place = n / 2 ^ place % 2 == 1
