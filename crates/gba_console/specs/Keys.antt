use Rattle.std.specs.Prelude.{ℕ, ◌+◌, ◌-◌, ◌^◌, List, [], ◌∷◌, nat_le, nat_lt, if◌then◌else◌}
use Rattle.gba_io.specs.Core.{Core, core_keyed}
use Rattle.gba_console.specs.declared.keys.KeyState.{KeyState}

-- The key changes that a step which begins at `clock` applies: those at the front of the list whose clock isn't above
-- it, one after another (that each is applied by the first step which begins at or after it is this project's
-- profile).

-- a board once they are applied
unfoldable pub after_keys : ℕ → List KeyState → Core → Core
after_keys clock [] b = b
after_keys clock (change ∷ changes) b =
    if nat_le change.clock clock then after_keys clock changes (core_keyed change.keys b) else b

-- how many of them that are
unfoldable pub due_count : ℕ → List KeyState → ℕ
due_count clock [] = 0
due_count clock (change ∷ changes) = if nat_le change.clock clock then 1 + due_count clock changes else 0

-- the clock of the first change, or one that no run reaches
abbrev pub due_of : List KeyState → ℕ
due_of [] = 2 ^ 64 - 1
due_of (change ∷ changes) = change.clock

-- The same for a console that is off below a clock: there the next change is due at once. Only private
-- functions and the console's invariant cite this.
abbrev pub next_due : ℕ → ℕ → List KeyState → ℕ
next_due off clock changes = if nat_lt clock off then 0 else due_of changes
