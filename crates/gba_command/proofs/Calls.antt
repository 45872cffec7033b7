-- Calls of a sink, one after another.
use Rattle.std.proofs.Common.{◌≡◌, ℕ, suc, ◌+◌, ◌<◌, ◌≤◌, List, [], ◌∷◌, ◌++◌, length, drop, get_or, map, refl, sym, ap, ◌∙◌, subst, inl, inr, Result, add-one, drop-cons}
use Rattle.std.proofs.Math.ListN.{drop_of_length-le}
use Rattle.std.proofs.lemmas.List.{map-append}
use Rattle.gba_command.specs.declared.writing.WriteStop.{WriteStop}
use Rattle.gba_command.specs.declared.writing.WriteStop.TheVariants as writing
use Rattle.gba_command.specs.Cause.{Cause}
use Rattle.gba_command.specs.Answer.{Closes, Reported, end_status, end_report}
use Rattle.gba_command.specs.Views.{write_stop_value}
use Rattle.gba_command.specs.Writing.{Call, Output, SinkState, WriteEnd, Wrote, SinkFails, SinkLacks, IsStopped, Performs, PerformsAll}

-- the whole list of calls ends as its rest does from here
unfoldable pub Leads : Type 0 → List Call → List Call → SinkState → SinkState → Type 0
Leads Tells whole rest old mid =
    (new : SinkState) (end : WriteEnd) → PerformsAll Tells rest mid new end → PerformsAll Tells whole old new end

pub leads-first : (Tells : Type 0) (whole : List Call) (old : SinkState) → Leads Tells whole whole old old
unfolding Leads
leads-first Tells whole old = λ new end h. h

-- a call was done
pub leads-next : (Tells : Type 0) (whole rest left : List Call) (call : Call) (old mid next : SinkState)
    → left ≡ call ∷ rest → Leads Tells whole left old mid → Performs Tells call mid next Wrote
    → Leads Tells whole rest old next
unfolding Leads PerformsAll
leads-next Tells whole rest left call old mid next is leads done = λ new end h.
    leads new end (subst (λ calls. PerformsAll Tells calls mid new end) (sym is) (inr (next, done, h)))

-- a call wasn't done
pub leads-stop : (Tells : Type 0) (whole rest left : List Call) (call : Call) (old mid new : SinkState) (end : WriteEnd)
    → left ≡ call ∷ rest → Leads Tells whole left old mid → Performs Tells call mid new end → IsStopped end
    → PerformsAll Tells whole old new end
unfolding Leads PerformsAll
leads-stop Tells whole rest left call old mid new end is leads done stopped =
    leads new end (subst (λ calls. PerformsAll Tells calls mid new end) (sym is) (inl (done, stopped)))

-- every call was done
pub leads-last : (Tells : Type 0) (whole left : List Call) (old mid : SinkState) → left ≡ []
    → Leads Tells whole left old mid → PerformsAll Tells whole old mid Wrote
unfolding Leads PerformsAll
leads-last Tells whole left old mid none leads =
    leads mid Wrote (subst (λ calls. PerformsAll Tells calls mid mid Wrote) (sym none) (refl, refl))

-- calls that were all done, and calls behind them
pub performs-then : (Tells : Type 0) (before after : List Call) (old mid new : SinkState) (end : WriteEnd)
    → PerformsAll Tells before old mid Wrote → PerformsAll Tells after mid new end
    → PerformsAll Tells (before ++ after) old new end
unfolding PerformsAll
performs-then Tells [] after old mid new end done h = subst (λ state. PerformsAll Tells after state new end) done.0 h
performs-then Tells (call ∷ before) after old mid new end (inl done) h = absurd done.1
performs-then Tells (call ∷ before) after old mid new end (inr done) h =
    inr (done.0, done.1, performs-then Tells before after done.0 mid new end done.2 h)

-- calls of which one wasn't done, and those behind them
pub performs-stopped : (Tells : Type 0) (before after : List Call) (old new : SinkState) (end : WriteEnd)
    → PerformsAll Tells before old new end → IsStopped end → PerformsAll Tells (before ++ after) old new end
unfolding PerformsAll
performs-stopped Tells [] after old new end done stopped = absurd (subst IsStopped done.1 stopped)
performs-stopped Tells (call ∷ before) after old new end (inl done) stopped = inl done
performs-stopped Tells (call ∷ before) after old new end (inr done) stopped =
    inr (done.0, done.1, performs-stopped Tells before after done.0 new end done.2 stopped)

-- ---- the calls of files, several at once

module _ (Tells : Type 0) (call : Output → Call) where
  -- files whose calls were all done, and files behind them
  pub files-then : (before after : List Output) (old mid new : SinkState) (end : WriteEnd)
      → PerformsAll Tells (map call before) old mid Wrote → PerformsAll Tells (map call after) mid new end
      → PerformsAll Tells (map call (before ++ after)) old new end
  files-then before after old mid new end done h =
      subst (λ calls. PerformsAll Tells calls old new end) (sym (map-append call before after))
      (performs-then Tells (map call before) (map call after) old mid new end done h)

  -- files of which a call wasn't done, and those behind them
  pub files-stopped : (before after : List Output) (old new : SinkState) (end : WriteEnd)
      → PerformsAll Tells (map call before) old new end → IsStopped end
      → PerformsAll Tells (map call (before ++ after)) old new end
  files-stopped before after old new end done stopped =
      subst (λ calls. PerformsAll Tells calls old new end) (sym (map-append call before after))
      (performs-stopped Tells (map call before) (map call after) old new end done stopped)

  module _ (whole : List Call) (left here rest : List Output) (old mid : SinkState) (is : left ≡ here ++ rest)
      (leads : Leads Tells whole (map call left) old mid) where
    -- the calls of the next files were all done
    pub leads-files : (next : SinkState) → PerformsAll Tells (map call here) mid next Wrote
        → Leads Tells whole (map call rest) old next
    unfolding Leads
    leads-files next done = λ new end h.
        leads new end (subst (λ files. PerformsAll Tells (map call files) mid new end) (sym is)
        (files-then here rest mid next new end done h))

    -- one of them wasn't
    pub leads-broken : (new : SinkState) (end : WriteEnd) → PerformsAll Tells (map call here) mid new end
        → IsStopped end → PerformsAll Tells whole old new end
    unfolding Leads
    leads-broken new end done stopped =
        leads new end (subst (λ files. PerformsAll Tells (map call files) mid new end) (sym is)
        (files-stopped here rest mid new end done stopped))

  -- no file is left
  pub leads-none : (whole : List Call) (left : List Output) (old mid : SinkState) → left ≡ []
      → Leads Tells whole (map call left) old mid → PerformsAll Tells whole old mid Wrote
  leads-none whole left old mid none leads = leads-last Tells whole (map call left) old mid (ap (map call) none) leads

-- a stop is one
pub stopped : (stop : WriteStop) → IsStopped (write_stop_value stop)
stopped (writing.Fault name) = tt
stopped writing.NoMemory = tt

-- a stop and its report close a run
pub closes-stop : (Tells : Type 0) (status : ℕ) (conclusion : Result (List ℕ) Cause) (stop : WriteStop)
    (old new : SinkState) → status ≡ end_status (write_stop_value stop)
    → Reported Tells (end_report (write_stop_value stop)) old new
    → Closes Tells status conclusion (write_stop_value stop) old new
closes-stop Tells status conclusion (writing.Fault name) old new is reported = (is, reported)
closes-stop Tells status conclusion writing.NoMemory old new is reported = (is, reported)

-- one call alone
pub performs-one : (Tells : Type 0) (call : Call) (old new : SinkState) (end : WriteEnd)
    → Performs Tells call old new end → PerformsAll Tells (call ∷ []) old new end
unfolding PerformsAll
performs-one Tells call old new Wrote done = inr (new, done, (refl, refl))
performs-one Tells call old new (SinkFails name) done = inl (done, tt)
performs-one Tells call old new SinkLacks done = inl (done, tt)

-- and no call
pub performs-none : (Tells : Type 0) (old : SinkState) → PerformsAll Tells [] old old Wrote
unfolding PerformsAll
performs-none Tells old = (refl, refl)

-- the calls of files, from a place on: the file's there, and then those behind it
pub calls-from : {X Y Z : Type 0} (view : X → Y) (call : Y → Z) (files : List X) (i : ℕ) (file : X) → i < length files
    → file ≡ get_or files i file
    → map call (map view (drop i files)) ≡ call (view file) ∷ map call (map view (drop (i + 1) files))
calls-from view call files i file within is =
    let split : drop i files ≡ file ∷ drop (i + 1) files =
    rw add-one (drop-cons files i file within ∙ ap (λ x. x ∷ drop (suc i) files) (sym is)) in
    ap (λ xs. map call (map view xs)) split

-- and none where the place is their end
pub calls-none : {X Y Z : Type 0} (view : X → Y) (call : Y → Z) (files : List X) (i : ℕ) → length files ≤ i
    → map call (map view (drop i files)) ≡ []
calls-none view call files i past = ap (λ xs. map call (map view xs)) (drop_of_length-le files past)
