use Rattle.std.specs.Prelude.{◌≡◌, ℕ, Bool, ◌&&◌, ◌≤◌, ◌⊎◌, List, [], ◌∷◌, if◌then◌else◌}
use Rattle.gba_terms.specs.Bits.{bit}
use Rattle.gba_ppu_dot.specs.declared.dot.Dot.{Dot}
use Rattle.gba_ppu_mix.specs.Stacks.{Candidate, Dots, Stack, bottom, layer_bit, sprite_rank, stack_of}
use Rattle.gba_ppu_mix.specs.declared.stacks.Layer.{Layer}
use Rattle.gba_ppu_mix.specs.declared.stacks.Layer.TheVariants.{Background0, Background1, Background2, Background3, Sprites}
use Rattle.gba_ppu_mix.specs.declared.stacks.Ranks.{Ranks}

-- Which two candidates a stack has, without the order in which they come.
-- The candidates at a place beside the backdrop: the layers that show and whose dots are opaque.
abbrev pub is_candidate : ℕ → Layer → Dot → Bool
is_candidate shows layer dot = dot.opaque && bit shows (layer_bit layer)

abbrev pub and_if : Bool → Candidate → List Candidate → List Candidate
and_if is_one c cs = if is_one then c ∷ cs else cs

abbrev pub and_layer : ℕ → Layer → ℕ → Dot → List Candidate → List Candidate
and_layer shows layer rank dot cs = and_if (is_candidate shows layer dot) record { rank = rank; layer = layer } cs

abbrev pub front_candidates : ℕ → Ranks → Dots → List Candidate
front_candidates shows ranks dots =
    and_layer shows Background1 ranks.background1 dots.background1
    (and_layer shows Background0 ranks.background0 dots.background0
    (and_layer shows Sprites (sprite_rank dots.sprite.priority) dots.sprite []))

abbrev pub candidates_of : ℕ → Ranks → Dots → List Candidate
candidates_of shows ranks dots =
    and_layer shows Background3 ranks.background3 dots.background3
    (and_layer shows Background2 ranks.background2 dots.background2 (front_candidates shows ranks dots))

abbrev pub IsOneOf : Candidate → List Candidate → Type 0
IsOneOf c [] = ⊥
IsOneOf c (x ∷ xs) = (c ≡ x) ⊎ IsOneOf c xs

-- The top is the backdrop or a candidate, and none is in front of it. The second is a candidate, or the backdrop, or
-- nothing, and each candidate but the top is behind it or is it.
pub record HasForemost (cs : List Candidate) (s : Stack) : Type 0 where
  pub top : (s.top ≡ bottom.top) ⊎ IsOneOf s.top cs
  pub second : (s.second ≡ bottom.second) ⊎ (s.second ≡ bottom.top) ⊎ IsOneOf s.second cs
  pub in_front : (c : Candidate) → IsOneOf c cs → s.top.rank ≤ c.rank
  pub before_backdrop : s.top.rank ≤ bottom.top.rank
  pub next : (c : Candidate) → IsOneOf c cs → (c ≡ s.top) ⊎ (s.second.rank ≤ c.rank)
  pub next_backdrop : (bottom.top ≡ s.top) ⊎ (s.second.rank ≤ bottom.top.rank)
  pub order : s.top.rank ≤ s.second.rank

abbrev pub HasForemostOfLayers : Type 0
HasForemostOfLayers = (shows : ℕ) (ranks : Ranks) (dots : Dots)
    → HasForemost (candidates_of shows ranks dots) (stack_of shows ranks dots)

-- The second layer is never the top one again: the backdrop and nothing behind it count as layers too.
abbrev pub AreTwoLayers : Stack → Type 0
AreTwoLayers s = s.top.layer ≡ s.second.layer → ⊥

abbrev pub HasTwoLayers : Type 0
HasTwoLayers = (shows : ℕ) (ranks : Ranks) (dots : Dots) → AreTwoLayers (stack_of shows ranks dots)
