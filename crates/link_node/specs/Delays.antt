use Rattle.std.specs.Prelude.{ℕ, ◌&&◌, ◌<◌, ◌≤◌, nat_lt, if◌then◌else◌, [], replicate, slice_index, slice_index_or}
use Rattle.link_node.specs.declared.delays.Delays.{Delays}

-- this project's profile: how long a signal takes from each console to each other one

-- the delay from a sender to a receiver, in cycles
unfoldable pub hop_of : Delays → ℕ → ℕ → ℕ
hop_of delays sender receiver =
    if nat_lt sender 4 && nat_lt receiver 4 then slice_index (slice_index_or delays.rows sender []) receiver else 0

-- one delay for all
unfoldable pub all_delays : ℕ → Delays
all_delays cycles = record { rows = replicate 4 (replicate 4 cycles) }

-- each delay is from 1 to 1,024 cycles
abbrev pub AreDelays : Delays → Type 0
AreDelays delays =
    (sender receiver : ℕ) → sender < 4 → receiver < 4
    → (0 < hop_of delays sender receiver) × (hop_of delays sender receiver ≤ 1024)
