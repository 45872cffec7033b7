use Rattle.std.specs.Prelude.{ℕ, Bool, List, codes, if◌then◌else◌}

-- a truth as a digit
abbrev pub truth : Bool → List ℕ
truth set = if set then codes "1" else codes "0"
