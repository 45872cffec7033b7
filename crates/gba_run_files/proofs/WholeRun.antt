-- The calls of a whole run: all files are made empty, the first ones added, those that grow, those that are made at the
-- end, and the last file.
use Rattle.std.proofs.Common.{◌≡◌, List, [], ◌∷◌, ◌++◌, ◌∙◌, ap, sym, subst, append_assoc, map}
use Rattle.std.proofs.lemmas.List.{map-append}
use Rattle.gba_command.proofs.Calls.{files-stopped, files-then, performs-one, performs-stopped, performs-then}
use Rattle.gba_command.specs.Writing.{Call, IsStopped, Output, Performs, PerformsAll, SinkState, WriteEnd, Wrote, addition, creation}

abbrev pub added_pieces : List Output → List Output → List Output → List Output
added_pieces first grown last = first ++ (grown ++ last)

abbrev pub run_calls : List Output → List Output → List Output → List Output → List Call
run_calls made first grown last = map creation made ++ map addition (added_pieces first grown last)

module _ (Tells : Type 0) (made first grown last : List Output) (old : SinkState) where
  abbrev Ends : SinkState → WriteEnd → Type 0
  Ends new end = PerformsAll Tells (run_calls made first grown last) old new end

  abbrev Adds : List Output → SinkState → SinkState → WriteEnd → Type 0
  Adds pieces mid new end = PerformsAll Tells (map addition pieces) mid new end

  pub stopped-creating : (new : SinkState) (end : WriteEnd) → PerformsAll Tells (map creation made) old new end
      → IsStopped end → Ends new end
  stopped-creating new end h stopped =
      performs-stopped Tells (map creation made) (map addition (added_pieces first grown last)) old new end h stopped

  module _ (a : SinkState) (created : PerformsAll Tells (map creation made) old a Wrote) where
    all-created : (new : SinkState) (end : WriteEnd) → Adds (added_pieces first grown last) a new end → Ends new end
    all-created new end h =
        performs-then Tells (map creation made) (map addition (added_pieces first grown last)) old a new end created h

    pub stopped-first : (new : SinkState) (end : WriteEnd) → Adds first a new end → IsStopped end → Ends new end
    stopped-first new end h stopped =
        all-created new end (files-stopped Tells addition first (grown ++ last) a new end h stopped)

    module _ (b : SinkState) (added : Adds first a b Wrote) where
      first-added : (new : SinkState) (end : WriteEnd) → Adds (grown ++ last) b new end → Ends new end
      first-added new end h = all-created new end (files-then Tells addition first (grown ++ last) a b new end added h)

      pub stopped-growing : (new : SinkState) (end : WriteEnd) → Adds grown b new end → IsStopped end → Ends new end
      stopped-growing new end h stopped =
          first-added new end (files-stopped Tells addition grown last b new end h stopped)

      -- whether or not those that are made at the end were added
      pub grown-added : (c : SinkState) → Adds grown b c Wrote → (new : SinkState) (end : WriteEnd)
          → Adds last c new end → Ends new end
      grown-added c grew new end h = first-added new end (files-then Tells addition grown last b c new end grew h)

-- ---- and then the last file

module _ (Tells : Type 0) (made pieces : List Output) (entry : Output) (old : SinkState) where
  abbrev before : List Call
  before = map creation made ++ map addition pieces

  abbrev whole : List Call
  whole = map creation made ++ map addition (pieces ++ entry ∷ [])

  one-more : before ++ addition entry ∷ [] ≡ whole
  one-more =
      append_assoc (map creation made) (map addition pieces) (addition entry ∷ [])
      ∙ ap (λ (calls : List Call). map creation made ++ calls) (sym (map-append addition pieces (entry ∷ [])))

  pub stopped-before : (new : SinkState) (end : WriteEnd) → PerformsAll Tells before old new end → IsStopped end
      → PerformsAll Tells whole old new end
  stopped-before new end h stopped =
      subst (λ (calls : List Call). PerformsAll Tells calls old new end) one-more
      (performs-stopped Tells before (addition entry ∷ []) old new end h stopped)

  -- with it all calls are made, whether or not its own was done
  pub last-added : (mid : SinkState) → PerformsAll Tells before old mid Wrote → (new : SinkState) (end : WriteEnd)
      → Performs Tells (addition entry) mid new end → PerformsAll Tells whole old new end
  last-added mid done new end h =
      subst (λ (calls : List Call). PerformsAll Tells calls old new end) one-more
      (performs-then Tells before (addition entry ∷ []) old mid new end done
      (performs-one Tells (addition entry) mid new end h))
