use Rattle.std.specs.Prelude.{ℕ, ◌+◌, ◌/◌, ◌%◌, ◌==◌, if◌then◌else◌}

-- which byte of the memory an address has; 3072 and above are none
abbrev pub place : ℕ → ℕ
place address =
    if address / 1024 == 0x8000 then address % 1024
    else if address / 1024 == 0xc000 then 1024 + address % 1024
    else if address / 1024 == 0x20000 then 2048 + address % 1024
    else 3072
