use Rattle.std.specs.Prelude.{ℕ, zero, suc, Bool, if◌then◌else◌}

-- Of so many steps of anything that moves, those before the first one at which an event comes. An event is what a state
-- has or hasn't.
unfoldable pub steps_before : {State : Type 0} → (State → State) → (State → Bool) → ℕ → State → ℕ
steps_before step event zero s = 0
steps_before step event (suc most) s = if event s then 0 else suc (steps_before step event most (step s))
