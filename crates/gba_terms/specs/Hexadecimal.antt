use Rattle.std.specs.Prelude.{ℕ, zero, suc, ◌+◌, ◌-◌, ◌*◌, ◌/◌, ◌%◌, ◌^◌, List, [], ◌∷◌, nat_lt, if◌then◌else◌}

-- the lower case hexadecimal digit of a number below 16: 48 is '0' and 97 is 'a'
abbrev pub hex_digit : ℕ → ℕ
hex_digit n = if nat_lt n 10 then 48 + n else 97 + (n - 10)

-- n as so many hexadecimal digits, the highest first
abbrev pub hex : ℕ → ℕ → List ℕ
hex zero n = []
hex (suc count) n = hex_digit (n / 2 ^ (4 * count) % 16) ∷ hex count n
