-- Files whose names are some of a list's.
use Rattle.std.proofs.Common.{◌≡◌, ◌⊎◌, ℕ, Bool, true, false, List, [], ◌∷◌, ◌++◌, length, refl, ap, ◌∙◌, inl, inr}
use Rattle.std.specs.Prelude.{◌||◌, ◌&&◌, not, nat_lt}
use Rattle.std.specs.Str.{bytes_eq}
use Rattle.gba_command.specs.LeftFiles.{is_among, NamesDiffer}
use Rattle.gba_command.specs.Writing.{Output}

-- their names are some of these, in their order
unfoldable pub ArePart : List Output → List (List ℕ) → Type 0
ArePart [] names = Unit {0}
ArePart (output ∷ outputs) [] = ⊥
ArePart (output ∷ outputs) (name ∷ names) =
    ((output.name ≡ name) × ArePart outputs names) ⊎ ArePart (output ∷ outputs) names

unfoldable pub has_name : List ℕ → List (List ℕ) → Bool
has_name name [] = false
has_name name (one ∷ names) = bytes_eq one name || has_name name names

unfoldable pub all_differ : List (List ℕ) → Bool
all_differ [] = true
all_differ (name ∷ names) = not (has_name name names) && all_differ names

part-late : (outputs : List Output) (name : List ℕ) (names : List (List ℕ)) → ArePart outputs names
    → ArePart outputs (name ∷ names)
unfolding ArePart
part-late [] name names h = tt
part-late (output ∷ outputs) name names h = inr h

pub part-append : (outputs more : List Output) (names others : List (List ℕ)) → ArePart outputs names
    → ArePart more others → ArePart (outputs ++ more) (names ++ others)
unfolding ArePart
part-append [] more [] others h k = k
part-append [] more (name ∷ names) others h k =
    part-late more name (names ++ others) (part-append [] more names others tt k)
part-append (output ∷ outputs) more [] others h k = absurd h
part-append (output ∷ outputs) more (name ∷ names) others (inl h) k =
    inl (h.0, part-append outputs more names others h.1 k)
part-append (output ∷ outputs) more (name ∷ names) others (inr h) k =
    inr (part-append (output ∷ outputs) more names others h k)

pub neither : (a b : Bool) → (a || b) ≡ false → (a ≡ false) × (b ≡ false)
neither true b h = absurd cc
neither false b h = (refl, h)

part-among : (name : List ℕ) (outputs : List Output) (names : List (List ℕ)) → ArePart outputs names
    → has_name name names ≡ false → is_among name outputs ≡ false
unfolding ArePart has_name is_among
part-among name [] names h none = refl
part-among name (output ∷ outputs) [] h none = absurd h
part-among name (output ∷ outputs) (one ∷ names) (inl h) none =
    let n = neither (bytes_eq one name) (has_name name names) none in
    let here : bytes_eq output.name name ≡ false = ap (λ (x : List ℕ). bytes_eq x name) h.0 ∙ n.0 in
    rw here (part-among name outputs names h.1 n.1)
part-among name (output ∷ outputs) (one ∷ names) (inr h) none =
    part-among name (output ∷ outputs) names h (neither (bytes_eq one name) (has_name name names) none).1

differ-parts : (a b : Bool) → (not a && b) ≡ true → (a ≡ false) × (b ≡ true)
differ-parts true b h = absurd cc
differ-parts false b h = (refl, h)

-- of different names, they differ
pub part-differ : (outputs : List Output) (names : List (List ℕ)) → ArePart outputs names → all_differ names ≡ true
    → NamesDiffer outputs
unfolding ArePart all_differ NamesDiffer
part-differ [] names h differ = tt
part-differ (output ∷ outputs) [] h differ = absurd h
part-differ (output ∷ outputs) (name ∷ names) (inl h) differ =
    let d = differ-parts (has_name name names) (all_differ names) differ in (
      part-among output.name outputs names h.1 (ap (λ (x : List ℕ). has_name x names) h.0 ∙ d.0),
      part-differ outputs names h.1 d.1,
    )
part-differ (output ∷ outputs) (name ∷ names) (inr h) differ =
    part-differ (output ∷ outputs) names h (differ-parts (has_name name names) (all_differ names) differ).1

-- whether each of these names has two bytes and more
unfoldable pub all_long : List (List ℕ) → Bool
all_long [] = true
all_long (name ∷ names) = nat_lt 1 (length name) && all_long names
