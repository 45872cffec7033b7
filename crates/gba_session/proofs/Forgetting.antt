-- Consoles that forget, one after another.
use Rattle.std.proofs.Common.{◌≡◌, ◌+◌, ◌<◌, ◌≤◌, ◌∙◌, ℕ, List, [], ◌∷◌, length, get_or, map, sym, ap, arith}
use Rattle.std.specs.List.{All}
use Rattle.std.proofs.lemmas.List.{get_or-map, length-map, same_lists}
use Rattle.gba_console.specs.Machine.{Machine, clock_of, forgotten, limit_of, without_limit}
use Rattle.gba_session.proofs.SoFar.{SoFar}

pub record Forgets (until k : ℕ) (old new : Machine) : Type 0 where
  pub plain : without_limit new ≡ forgotten (without_limit old)
  pub limit : until ≤ limit_of new

-- a machine of some
first-of : (ms : List Machine) → 0 < length ms → Machine
first-of [] some = absurd (omega (arith, some))
first-of (m ∷ ms) some = m

module _ (until i : ℕ) (old new : List Machine) (over : length old ≤ i) (held : SoFar (Forgets until) i old new) where
  pub all-forgotten : map without_limit new ≡ map forgotten (map without_limit old)
  all-forgotten =
      let long : length (map forgotten (map without_limit old)) ≡ length old =
      length-map (map without_limit old) forgotten ∙ length-map old without_limit in
      same_lists (map without_limit new) (map forgotten (map without_limit old))
      (length-map new without_limit ∙ held.many ∙ sym long) (λ k d within.
      let there : k < length new = omega (arith, within, length-map new without_limit) in
      let was : k < length old = omega (arith, there, held.many) in
      get_or-map without_limit new k d d there
      ∙ (held.changed k d d (omega (arith, was, over)) was).plain
      ∙ ap forgotten (sym (get_or-map without_limit old k d d was))
      ∙ sym (get_or-map forgotten (map without_limit old) k d d (omega (arith, was, length-map old without_limit))))

  pub all-limits : All (λ limit. until ≤ limit) (map limit_of new)
  all-limits k n within =
      let there : k < length new = omega (arith, within, length-map new limit_of) in
      let was : k < length old = omega (arith, there, held.many) in
      let d = first-of new (omega (arith, there)) in
      omega (arith, get_or-map limit_of new k d n there, (held.changed k d d (omega (arith, was, over)) was).limit)

-- what a console's turn needs
module _ (until i : ℕ) (old new : List Machine) (m : Machine) (held : SoFar (Forgets until) i old new)
    (within : i < length new) (here : m ≡ get_or new i m) where
  was : m ≡ get_or old i m
  was = here ∙ held.left i m (omega arith)

  there : i < length old
  there = omega (arith, within, held.many)

  pub clock-near : All (λ (m : Machine). until ≤ clock_of m + 16777216) old → until ≤ clock_of m + 16777216
  clock-near all =
      let near = all i m there in
      omega (arith, near, ap clock_of was)
