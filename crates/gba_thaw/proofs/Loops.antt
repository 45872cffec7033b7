-- The consoles that are thawed one after another.
use Rattle.std.proofs.Common.{◌≡◌, ◌<◌, ◌≤◌, ℕ, ◌+◌, List, [], ◌∷◌, ◌++◌, length, get_or, Option, Some, None, refl, ap, sym, ◌∙◌, subst, append_assoc, arith}
use Rattle.std.specs.Prelude.{take, drop, slice_set}
use Rattle.std.proofs.lemmas.List.{append-nil, drop_more, drop_all, drop-drop, drop-set-lt, length-set, take_all, take_more_set}
use Rattle.gba_console.specs.Machine.{Machine}
use Rattle.gba_filling.specs.Memories.{HaveLengths}
use Rattle.gba_filling.specs.Loose.{LooseConsole}
use Rattle.gba_snapshot.specs.Console.{backup_in}
use Rattle.gba_thaw.specs.Cut.{in_front}
use Rattle.gba_thaw.specs.Loose.{AllHaveLengths, all_thawed, behind, loose_thawed}

-- the consoles so far
pub record SoFar (until player : ℕ) (old cs : List Machine) (fs : List LooseConsole) : Type 0 where
  pub many : length cs ≡ length old
  pub rest : drop player cs ≡ drop player old
  pub so_far : all_thawed until old fs ≡ behind (take player cs) (all_thawed until (drop player old) (drop player fs))
  pub lengths : AllHaveLengths (drop player old) (drop player fs)

behind-none : (rest : Option (List Machine)) → rest ≡ behind [] rest
behind-none None = refl
behind-none (Some rest) = refl

behind-front : (front : List Machine) (one : Machine) (rest : Option (List Machine))
    → behind front (in_front (Some one) rest) ≡ behind (front ++ one ∷ []) rest
behind-front front one None = refl
behind-front front one (Some rest) = ap (λ (all : List Machine). Some all) (sym (append_assoc front (one ∷ []) rest))

pub none-yet : (until : ℕ) (old : List Machine) (fs : List LooseConsole) → AllHaveLengths old fs
    → SoFar until 0 old old fs
none-yet until old fs long =
    record { many = refl; rest = refl; so_far = behind-none (all_thawed until old fs); lengths = long }

module _ (until i : ℕ) (old cs : List Machine) (fs : List LooseConsole) (h : SoFar until i old cs fs)
    (within : i < length fs) (same : length fs ≡ length old) (m : Machine) (f : LooseConsole)
    (m_is : get_or cs i m ≡ m) (f_is : get_or fs i f ≡ f) where
  rest-after : drop (i + 1) cs ≡ drop (i + 1) old
  rest-after = sym (drop-drop 1 i cs) ∙ ap (drop 1) h.rest ∙ drop-drop 1 i old

  machines : drop i old ≡ m ∷ drop (i + 1) old
  machines =
      sym h.rest ∙ drop_more cs i m (omega (arith, within, same, h.many))
      ∙ ap (λ (x : Machine). x ∷ drop (i + 1) cs) m_is
      ∙ ap (λ (xs : List Machine). m ∷ xs) rest-after

  looses : drop i fs ≡ f ∷ drop (i + 1) fs
  looses = drop_more fs i f within ∙ ap (λ (x : LooseConsole). x ∷ drop (i + 1) fs) f_is

  all-are : all_thawed until old fs
      ≡ behind (take i cs) (in_front (loose_thawed until m f) (all_thawed until (drop (i + 1) old) (drop (i + 1) fs)))
  unfolding all_thawed
  all-are =
      h.so_far
      ∙ ap (λ (ms : List Machine). behind (take i cs) (all_thawed until ms (drop i fs))) machines
      ∙ ap (λ (ones : List LooseConsole). behind (take i cs) (all_thawed until (m ∷ drop (i + 1) old) ones)) looses

  longs : HaveLengths (backup_in m) f.memories × AllHaveLengths (drop (i + 1) old) (drop (i + 1) fs)
  unfolding AllHaveLengths
  longs =
      subst (AllHaveLengths (m ∷ drop (i + 1) old)) looses
      (subst (λ (ms : List Machine). AllHaveLengths ms (drop i fs)) machines h.lengths)

  pub here-long : HaveLengths (backup_in m) f.memories
  here-long = longs.0

  pub one-stops : loose_thawed until m f ≡ None → all_thawed until old fs ≡ None
  one-stops none =
      all-are ∙ ap (λ (one : Option Machine).
      behind (take i cs) (in_front one (all_thawed until (drop (i + 1) old) (drop (i + 1) fs)))) none

  pub one-more : (new : Machine) → loose_thawed until m f ≡ Some new → SoFar until (i + 1) old (slice_set cs i new) fs
  one-more new is = record {
    many = length-set cs i new ∙ h.many;
    rest = drop-set-lt (i + 1) cs i new (omega arith) ∙ rest-after;
    so_far =
        all-are ∙ ap (λ (one : Option Machine).
        behind (take i cs) (in_front one (all_thawed until (drop (i + 1) old) (drop (i + 1) fs)))) is
        ∙ behind-front (take i cs) new (all_thawed until (drop (i + 1) old) (drop (i + 1) fs))
        ∙ ap (λ (front : List Machine). behind front (all_thawed until (drop (i + 1) old) (drop (i + 1) fs)))
        (sym (take_more_set cs i new (omega (arith, within, same, h.many))));
    lengths = longs.1;
  }

pub all-done : (until i : ℕ) (old cs : List Machine) (fs : List LooseConsole) → SoFar until i old cs fs → length fs ≤ i
    → length fs ≡ length old → all_thawed until old fs ≡ Some cs
unfolding all_thawed
all-done until i old cs fs h over same =
    h.so_far
    ∙ ap (λ (ms : List Machine). behind (take i cs) (all_thawed until ms (drop i fs)))
    (drop_all i old (omega (arith, over, same)))
    ∙ ap (λ (all : List Machine). Some all)
    (append-nil (take i cs) ∙ take_all i cs (omega (arith, over, same, h.many)))
