-- A line that is read in steps: each step takes a piece from the front of those that are left, a word or a token, or
-- refuses the line with a kind.
use Rattle.std.specs.Prelude.{Bool, true, false, List, [], ◌∷◌, Option, Some, None, Result, Ok, Err}

-- one step after another: the first refusal decides
infixl 10 ◌>>=◌
abbrev pub ◌>>=◌ : {A B K : Type 0} → Result A K → (A → Result B K) → Result B K
(Ok x) >>= f = f x
(Err kind) >>= f = Err kind

-- refused with this kind unless the test holds
abbrev pub holds : {K : Type 0} → Bool → K → Result Bool K
holds true kind = Ok true
holds false kind = Err kind

-- what is read, and the pieces that are left after it
pub record Taken (L T : Type 0) : Type 0 where
  pub value : T
  pub left : L

abbrev pub taken : {L T : Type 0} → T → L → Taken L T
taken value left = record { value = value; left = left }

-- what a piece spells, or refused with this kind where it spells nothing
abbrev pub or_refused : {L T K : Type 0} → K → L → Option T → Result (Taken L T) K
or_refused kind left (Some value) = Ok (taken value left)
or_refused kind left None = Err kind

-- nothing is left, or else refused with this kind
abbrev pub no_more : {P K : Type 0} → K → List P → Result Bool K
no_more kind [] = Ok true
no_more kind (_ ∷ _) = Err kind
