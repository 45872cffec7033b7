use Rattle.std.proofs.Common.{◌≤◌, ◌<◌, ℕ, List, length, get_or, map, arith}
use Rattle.std.specs.List.{All}
use Rattle.std.proofs.lemmas.List.{length-map, get_or-map}
use Rattle.gba_console.specs.Machine.{limit_of}
use Rattle.gba_console.specs.declared.Console.{Console}

-- the consoles run as far as their room reaches
pub limits-reach : (until : ℕ) (consoles : List Console) → All (λ limit. until ≤ limit) (map limit_of consoles)
    → (k : ℕ) (d : Console) → k < length consoles → until ≤ limit_of (get_or consoles k d)
limits-reach until consoles all k d within =
    let there = all k 0 (omega (arith, within, length-map consoles limit_of)) in
    grind (arith, there, get_or-map)
