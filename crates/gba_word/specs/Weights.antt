use Rattle.std.specs.Prelude.{ℕ, Bool, if◌then◌else◌}

-- what a bit of this weight adds: its weight where it is set
abbrev pub weight : ℕ → Bool → ℕ
weight place set = if set then place else 0
