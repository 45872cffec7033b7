-- How the calls of a run end, and what is left to answer where no count rose.
use Rattle.std.proofs.Common.{◌≡◌, ◌⊎◌, ℕ, List, [], ◌∷◌, Option, Result, Ok, Err, sym, subst, inl, inr}
use Rattle.gba_store.specs.Files.{Files, Rose}
use Rattle.gba_store.specs.declared.outside.ReadError.{ReadError}
use Rattle.gba_command.specs.Law.{status_after}
use Rattle.gba_command.specs.Answer.{Answers, Closes, Concludes, Completes, Finishes, Refuses}
use Rattle.gba_command.specs.Cause.{Cause, Stop, Refused, Absent, StoreFails, LacksMemory, stop_report}
use Rattle.gba_command.specs.Plan.{Plan, outcome}
use Rattle.gba_store.specs.Given.{Gives}
use Rattle.gba_command.specs.Reading.{GoesTo}
use Rattle.gba_command.specs.Writing.{Call, Run, SinkState, NoneFell, WriteEnd, Wrote, SinkFails, SinkLacks, calls_of, Performs, PerformsAll}
use Rattle.gba_command.proofs.Ends.{Rose-earlier, Rose-later, said, absent-rose, fault-rose}

none-fell : (Tells : Type 0) (call : Call) (old new : SinkState) (end : WriteEnd) → Performs Tells call old new end
    → NoneFell old new
unfolding Performs
none-fell Tells call old new Wrote h = h.0
none-fell Tells call old new (SinkFails name) h = h.0
none-fell Tells call old new SinkLacks h = h.0

pub fails-rose : (Tells : Type 0) (calls : List Call) (old new : SinkState) (name : List ℕ)
    → PerformsAll Tells calls old new (SinkFails name) → Rose old.faults new.faults
unfolding PerformsAll Performs
fails-rose Tells [] old new name h = absurd cc
fails-rose Tells (call ∷ calls) old new name (inl h) = h.0.2
fails-rose Tells (call ∷ calls) old new name (inr h) =
    Rose-earlier old.faults h.0.faults new.faults h.1.0.faults (fails-rose Tells calls h.0 new name h.2)

pub lacks-rose : (Tells : Type 0) (calls : List Call) (old new : SinkState) → PerformsAll Tells calls old new SinkLacks
    → Rose old.wants new.wants
unfolding PerformsAll Performs
lacks-rose Tells [] old new h = absurd cc
lacks-rose Tells (call ∷ calls) old new (inl h) = h.0.1
lacks-rose Tells (call ∷ calls) old new (inr h) =
    Rose-earlier old.wants h.0.wants new.wants h.1.0.wants (lacks-rose Tells calls h.0 new h.2)

concluded : (Tells : Type 0) (status : ℕ) (conclusion : Result (List ℕ) Cause) (old new : SinkState)
    → Concludes Tells status conclusion old new → status ≡ status_after conclusion
concluded Tells status (Ok summary) old new h = h.0
concluded Tells status (Err cause) old new h = h.0

closed : (Tells : Type 0) (status : ℕ) (run : Run) (old mid new : SinkState) (end : WriteEnd)
    → PerformsAll Tells (calls_of run) old mid end → Closes Tells status run.end end mid new
    → (status ≡ status_after run.end) ⊎ ((status ≡ 9) × Rose old.faults new.faults)
    ⊎ ((status ≡ 10) × Rose old.wants new.wants)
closed Tells status run old mid new Wrote h k = inl (concluded Tells status run.end mid new k)
closed Tells status run old mid new (SinkFails name) h k =
    inr (inl (
      k.0,
      Rose-later old.faults mid.faults new.faults (none-fell Tells _ mid new k.1.0 k.1.1).faults
          (fails-rose Tells (calls_of run) old mid name h),
    ))
closed Tells status run old mid new SinkLacks h k =
    inr (inr (
      k.0,
      Rose-later old.wants mid.wants new.wants (none-fell Tells _ mid new k.1.0 k.1.1).wants
          (lacks-rose Tells (calls_of run) old mid h),
    ))

pub run-closed : (Tells : Type 0) (status : ℕ) (run : Run) (old new : SinkState) → Finishes Tells status run old new
    → (status ≡ status_after run.end) ⊎ ((status ≡ 9) × Rose old.faults new.faults)
    ⊎ ((status ≡ 10) × Rose old.wants new.wants)
run-closed Tells status run old new h = closed Tells status run old h.0 new h.1 h.2 h.3

lacking : (Tells : Type 0) (status : ℕ) (o : Result Run Stop) (old new : SinkState)
    → Refuses Tells status 10 (stop_report LacksMemory) old new → Completes Tells status o old new
lacking Tells status (Ok run) old new h = inr h
lacking Tells status (Err (Refused cause)) old new h = inr h
lacking Tells status (Err (Absent name)) old new h = h
lacking Tells status (Err (StoreFails name)) old new h = h
lacking Tells status (Err LacksMemory) old new h = h

completed : (Tells : Type 0) (status : ℕ) (run : Run) (old mid new : SinkState) (end : WriteEnd)
    → PerformsAll Tells (calls_of run) old mid end → Closes Tells status run.end end mid new
    → (Rose old.faults new.faults → ⊥) → Completes Tells status (Ok run) old new
completed Tells status run old mid new Wrote h k unrisen = inl (inl (mid, h, k))
completed Tells status run old mid new (SinkFails name) h k unrisen =
    absurd (unrisen (Rose-later old.faults mid.faults new.faults (none-fell Tells _ mid new k.1.0 k.1.1).faults
    (fails-rose Tells (calls_of run) old mid name h)))
completed Tells status run old mid new SinkLacks h k unrisen = inl (inr (mid, h, k))

module _ {Store : Type 0} (Tells : Type 0) (files : Store → Files)
    (Reads : List ℕ → ℕ → Option ReadError → Store → Store → Type 0)
    (absences faults : Store → ℕ) (gives : List ℕ → ℕ → Result (List ℕ) ReadError → Store → Store → Type 0)
    (says : (name : List ℕ) (most : ℕ) (answer : Result (List ℕ) ReadError) (old new : Store)
    → gives name most answer old new → Gives Tells files Reads absences faults name most answer old new)
    (SinkTells : Type 0) (status : ℕ) where
  pub completes : (plan : Plan Run) (old new : Store) (end : Result Run Stop) (before after : SinkState) → Tells
      → (Rose (absences old) (absences new) → ⊥) → (Rose (faults old) (faults new) → ⊥)
      → (Rose before.faults after.faults → ⊥) → GoesTo gives plan old new end
      → Answers SinkTells status end before after → Completes SinkTells status (outcome (files old) plan) before after
  completes plan old new (Ok run) before after tells present whole unrisen goes h =
      subst (λ (o : Result Run Stop). Completes SinkTells status o before after)
      (sym (said Tells files Reads absences faults gives says plan old new (Ok run) tells goes tt))
      (completed SinkTells status run before h.0 after h.1 h.2 h.3 unrisen)
  completes plan old new (Err (Refused cause)) before after tells present whole unrisen goes h =
      subst (λ (o : Result Run Stop). Completes SinkTells status o before after)
      (sym (said Tells files Reads absences faults gives says plan old new (Err (Refused cause)) tells goes tt)) (inl h)
  completes plan old new (Err (Absent name)) before after tells present whole unrisen goes h =
      absurd (present (absent-rose Tells files Reads absences faults gives says plan old new name goes))
  completes plan old new (Err (StoreFails name)) before after tells present whole unrisen goes h =
      absurd (whole (fault-rose Tells files Reads absences faults gives says plan old new name goes))
  completes plan old new (Err LacksMemory) before after tells present whole unrisen goes h =
      lacking SinkTells status (outcome (files old) plan) before after h
