use Rattle.std.specs.Prelude.{◌≡◌, ℕ, ◌+◌, ◌<◌, ◌≤◌, Bool, true, false, ◌||◌}
use Rattle.gba_register.specs.Before.{steps_before}
use Rattle.gba_ppu_reg.specs.declared.position.Position.{Position}
use Rattle.gba_ppu_reg.specs.Position.{IsPosition, after_cycles, begins_hblank, begins_line, cycle}

-- For how many cycles nothing comes, neither HBlank nor a line.

abbrev pub comes : Position → Bool
comes p = begins_hblank (cycle p) || begins_line (cycle p)

-- of so many cycles, those before the first one in which something comes
abbrev pub cycles_before : ℕ → Position → ℕ
cycles_before most p = steps_before cycle comes most p

-- the greatest number of cycles up to so many in none of which anything comes; and up to 512
unfoldable pub quiet_within : ℕ → Position → ℕ
quiet_within most p = cycles_before most p

abbrev pub quiet : Position → ℕ
quiet p = quiet_within 512 p

-- What the quiet cycles are, however many are looked at: in none of them anything comes, and in the next something does
-- where they are fewer than these; and of fewer cycles than are quiet all are.
pub record QuietPlaces : Type 0 where
  pub no_hblank : (most count : ℕ) (p : Position) → count < quiet_within most p
      → begins_hblank (after_cycles (count + 1) p) ≡ false
  pub no_line : (most count : ℕ) (p : Position) → count < quiet_within most p
      → begins_line (after_cycles (count + 1) p) ≡ false
  pub next : (most : ℕ) (p : Position) → quiet_within most p < most
      → comes (after_cycles (quiet_within most p) p) ≡ true
  pub fewer : (most count : ℕ) (p : Position) → count ≤ quiet_within most p → quiet_within count p ≡ count

-- In fewer cycles than a line has no dot comes twice, so that of 512 cycles at most the first one that comes to a dot
-- is the only one.
pub record VisitsOnce : Type 0 where
  pub once : (first second : ℕ) (p : Position) → IsPosition p → first < 1232 → second < 1232
      → (after_cycles first p).dot ≡ (after_cycles second p).dot → first ≡ second
