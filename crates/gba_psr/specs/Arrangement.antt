use Rattle.std.specs.Prelude.{ℕ, List, ◌&&◌, ◌+◌, ◌-◌, map, nat_le, nat_lt, slice_index, if◌then◌else◌}
use Rattle.std.specs.List.{range_with_len}
use Rattle.gba_psr.specs.Modes.{first_banked, bank_distance}
use Rattle.gba_psr.specs.Status.{mode_of}

-- How `Registers` keeps the 37 numbers: the present mode's sixteen registers stand first, and where the mode has
-- registers of its own, the user's stand in their places. Only private functions cite it.

-- places from `first` up to `end` exchanged with those `distance` behind them
abbrev pub crossing : ℕ → ℕ → ℕ → ℕ → ℕ
crossing first end distance place =
    if nat_le first place && nat_lt place end then place + distance
    else if nat_le (first + distance) place && nat_lt place (end + distance) then place - distance
    else place

-- where the number of this place of the register file is kept in this mode
unfoldable pub seat : ℕ → ℕ → ℕ
seat mode place = crossing (first_banked mode) 15 (bank_distance mode) place

-- the register file of the numbers as they are kept
unfoldable pub arrangement : List ℕ → List ℕ
arrangement numbers =
    map (λ place. slice_index numbers (seat (mode_of (slice_index numbers 31)) place)) (range_with_len 0 37)
