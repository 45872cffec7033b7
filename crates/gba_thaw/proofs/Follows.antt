-- What a frozen file comes to follows from what its lines come to, whatever the whole is made into.
use Rattle.std.proofs.Common.{◌≡◌, ℕ, ◌+◌, Bool, true, false, List, [], ◌∷◌, length, Option, Some, None, Result, Ok, Err, refl, ap, sym, ◌∙◌}
use Rattle.std.specs.Prelude.{nat_lt, if◌then◌else◌}
use Rattle.gba_text.specs.Languages.{answer_of, error_at, go_on, lines_say}
use Rattle.gba_text.specs.declared.kinds.LineError.{LineError}
use Rattle.gba_frozen.specs.Reading.{Draft, at_end, fed_lines, frozen_language, is_past, judged, longest_file, nothing_read, with_line}
use Rattle.gba_frozen.specs.declared.kinds.Setup.{Setup}
use Rattle.gba_frozen.specs.declared.kinds.ThawKind.{ThawKind}
use Rattle.gba_frozen.specs.declared.kinds.ThawKind.TheVariants as kind

-- the draft itself, where there is a whole of it
abbrev pub kept : {A : Type 0} → Option A → Draft → Option Draft
kept (Some whole) d = Some d
kept None d = None

module _ {A : Type 0} (setup : Setup) (whole_of : Draft → Option A) where
  abbrev pub drafts : Draft → Option Draft
  drafts d = kept (whole_of d) d

  -- the answer of the draft that is answered
  abbrev whole-or : Option A → Result A (LineError ThawKind)
  whole-or (Some whole) = Ok whole
  whole-or None = Err (error_at 0 kind.Spelling)

  abbrev pub follow : Result Draft (LineError ThawKind) → Result A (LineError ThawKind)
  follow (Ok d) = whole-or (whole_of d)
  follow (Err e) = Err e

  judged-by : (whole : Option A) (number : ℕ) (d : Draft) → whole_of d ≡ whole
      → judged number whole ≡ follow (judged number (kept whole d))
  judged-by (Some whole) number d e = ap whole-or (sym e)
  judged-by None number d e = refl

  pub judged-follows : (number : ℕ) (d : Draft) → judged number (whole_of d) ≡ follow (judged number (drafts d))
  judged-follows number d = judged-by (whole_of d) number d refl

  past-by : (past : Bool) (number : ℕ) (d : Draft)
      → (if past then judged number (whole_of d) else Err (error_at (number + 1) kind.Spelling))
      ≡ follow (if past then judged number (drafts d) else Err (error_at (number + 1) kind.Spelling))
  past-by true number d = judged-follows number d
  past-by false number d = refl

  end-follows : (number : ℕ) (d : Draft) → at_end whole_of number d ≡ follow (at_end drafts number d)
  unfolding at_end
  end-follows number d = past-by (is_past d.at.slot) number d

  step-follows : (number : ℕ) (rest : List (List ℕ))
      → ((mid : Draft) → lines_say (frozen_language setup whole_of) number mid rest
      ≡ follow (lines_say (frozen_language setup drafts) number mid rest))
      → (next : Result Draft ThawKind)
      → go_on number (λ mid. lines_say (frozen_language setup whole_of) number mid rest) next
      ≡ follow (go_on number (λ mid. lines_say (frozen_language setup drafts) number mid rest) next)
  step-follows number rest each (Ok mid) = each mid
  step-follows number rest each (Err e) = refl

  lines-follow : (number : ℕ) (d : Draft) (lines : List (List ℕ))
      → lines_say (frozen_language setup whole_of) number d lines
      ≡ follow (lines_say (frozen_language setup drafts) number d lines)
  unfolding lines_say
  lines-follow number d [] = end-follows number d
  lines-follow number d (line ∷ rest) =
      step-follows (number + 1) rest (λ mid. lines-follow (number + 1) mid rest) (with_line setup d line)

  long-by : (long : Bool) (bytes : List ℕ)
      → (if long then Err (error_at 0 kind.Spelling)
      else lines_say (frozen_language setup whole_of) 0 nothing_read (fed_lines bytes))
      ≡ follow (if long then Err (error_at 0 kind.Spelling)
      else lines_say (frozen_language setup drafts) 0 nothing_read (fed_lines bytes))
  long-by true bytes = refl
  long-by false bytes = lines-follow 0 nothing_read (fed_lines bytes)

  pub answers-follow : (bytes : List ℕ)
      → answer_of (frozen_language setup whole_of) bytes ≡ follow (answer_of (frozen_language setup drafts) bytes)
  unfolding answer_of
  answers-follow bytes = long-by (nat_lt longest_file (length bytes)) bytes

  -- a file that comes to something has a draft that does
  some-of : (whole : Option A) (a : A) → whole-or whole ≡ Ok a → whole ≡ Some a
  some-of (Some one) a h = let same : one ≡ a = cc in ap (λ (x : A). Some x) same
  some-of None a h = absurd cc

  pub draft-of : (bytes : List ℕ) (a : A) → answer_of (frozen_language setup whole_of) bytes ≡ Ok a
      → (d : Draft) × (whole_of d ≡ Some a)
  draft-of bytes a h = by (answer_of (frozen_language setup drafts) bytes) (sym (answers-follow bytes) ∙ h) where
    by : (x : Result Draft (LineError ThawKind)) → follow x ≡ Ok a → (d : Draft) × (whole_of d ≡ Some a)
    by (Ok d) e = (d, some-of (whole_of d) a e)
    by (Err error) e = absurd cc
