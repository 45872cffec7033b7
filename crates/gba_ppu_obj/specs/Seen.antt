use Rattle.std.specs.Prelude.{◌≡◌, ℕ, true, false, ◌<◌, ◌≤◌, ◌⊎◌}
use Rattle.gba_ppu_dot.specs.declared.dot.Dot.{Dot}
use Rattle.gba_ppu_obj.specs.Order.{first_over}

-- Which dot is seen, and where the sprite window is, without the order in which the sprites are gone through.
-- Dot j is in front of dot i: it has less priority, or the same and no greater number.
abbrev pub IsInFront : (ℕ → Dot) → ℕ → ℕ → Type 0
IsInFront dot_of j i =
    ((dot_of j).priority < (dot_of i).priority) ⊎ (((dot_of j).priority ≡ (dot_of i).priority) × (j ≤ i))

-- a dot is that of sprite j, which is in front of every opaque one, but for the window
pub record IsSeen (dot_of : ℕ → Dot) (count j : ℕ) (seen : Dot) : Type 0 where
  pub among : j < count
  pub opaque : (dot_of j).opaque ≡ true
  pub in_front : (i : ℕ) → i < count → (dot_of i).opaque ≡ true → IsInFront dot_of j i
  pub same : seen ≡ record (dot_of j) { window = seen.window }

-- Of so many dots, whatever they are: where none of them is opaque nothing is seen, and else the foremost one; the
-- place is in the window exactly where one of them is.
pub record SeesTheForemost : Type 0 where
  pub nothing : (dot_of : ℕ → Dot) (count : ℕ) → (first_over dot_of count).opaque ≡ false
      → (i : ℕ) → i < count → (dot_of i).opaque ≡ false
  pub foremost : (dot_of : ℕ → Dot) (count : ℕ) → (first_over dot_of count).opaque ≡ true
      → (j : ℕ) × IsSeen dot_of count j (first_over dot_of count)
  pub in_window : (dot_of : ℕ → Dot) (count : ℕ) → (first_over dot_of count).window ≡ true
      → (i : ℕ) × (i < count) × ((dot_of i).window ≡ true)
  pub whole_window : (dot_of : ℕ → Dot) (count i : ℕ) → i < count → (dot_of i).window ≡ true
      → (first_over dot_of count).window ≡ true
