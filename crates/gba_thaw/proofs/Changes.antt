-- The changes of the keys that are due stand at the front.
use Rattle.std.proofs.Common.{◌≡◌, ℕ, List, [], ◌∷◌, refl}
use Rattle.std.specs.Prelude.{nat_le}
use Rattle.std.specs.List.{prefix_len}
use Rattle.gba_console.specs.Keys.{due_count}
use Rattle.gba_console.specs.declared.keys.KeyState.{KeyState}

pub due_is_prefix : (clock : ℕ) (keys : List KeyState)
    → due_count clock keys ≡ prefix_len (λ (change : KeyState). nat_le change.clock clock) keys
unfolding due_count
due_is_prefix clock [] = refl
due_is_prefix clock (change ∷ keys) = let rest = due_is_prefix clock keys in rw rest refl
