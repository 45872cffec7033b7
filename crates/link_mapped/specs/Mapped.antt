use Rattle.std.specs.Prelude.{ℕ, ◌≡◌, List, [], ◌∷◌}
use Rattle.std.proofs.Common.{suc}
use Rattle.link_node.specs.declared.signal.Incoming.{Incoming}
use Rattle.link_order.specs.Cut.{Cut}
use Rattle.link_order.specs.NodeKind.{NodeKind}

-- this project's profile: consoles that differ in what no step looks at

-- consoles by player, each changed by its player's function
abbrev pub each_mapped : {C : Type 0} → (ℕ → C → C) → List C → List C
each_mapped f [] = []
each_mapped f (x ∷ xs) = f 0 x ∷ each_mapped (λ i. f (suc i)) xs

-- a cut with each console changed so
abbrev pub mapped : {C : Type 0} → (ℕ → C → C) → Cut C → Cut C
mapped f cut = record { consoles = each_mapped f cut.consoles; delays = cut.delays; sent = cut.sent }

-- Two consoles of a player are alike where f makes of the one what g makes of the other. Both leave the clocks be:
-- alike consoles have the same.
pub record KeepsClocks {C : Type 0} (kind : NodeKind C) (f g : ℕ → C → C) : Type 0 where
  pub clock : (i : ℕ) (x y : C) → f i x ≡ g i y → kind.clock x ≡ kind.clock y
  pub was : (i : ℕ) (x y : C) → f i x ≡ g i y → kind.was x ≡ kind.was y

-- No step sees in what alike consoles differ: those that take the same signals tell the same, and are alike again.
pub record IsUnseen {C : Type 0} (kind : NodeKind C) (f g : ℕ → C → C) : Type 0 where
  pub clocks : KeepsClocks kind f g
  pub next : (i : ℕ) (x y : C) (due : List Incoming) → f i x ≡ g i y
      → f i (kind.next x due).0 ≡ g i (kind.next y due).0
  pub tells : (i : ℕ) (x y : C) (due : List Incoming) → f i x ≡ g i y → (kind.next x due).1 ≡ (kind.next y due).1
