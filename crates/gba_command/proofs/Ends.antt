-- What an end of a plan says of the files and of the counts.
use Rattle.std.proofs.Common.{◌≡◌, ℕ, ◌+◌, ◌≤◌, true, List, length, Option, Some, None, Result, Ok, Err, refl, sym, ap, ◌∙◌, subst, inl, inr, arith}
use Rattle.std.specs.Prelude.{nat_lt}
use Rattle.gba_store.specs.Counts.{CountsExactly}
use Rattle.gba_store.specs.Files.{Files, Rose}
use Rattle.gba_store.specs.declared.outside.ReadError.{ReadError}
use Rattle.gba_store.specs.declared.outside.ReadError.TheVariants as reading
use Rattle.gba_command.specs.Cause.{Cause, Stop, Absent, StoreFails, LacksMemory}
use Rattle.gba_command.specs.Law.{IsOfFiles}
use Rattle.gba_command.specs.Plan.{Plan, Done, Refuse, Read, after_file, outcome}
use Rattle.gba_store.specs.Given.{Gives}
use Rattle.gba_command.specs.Reading.{GoesTo, stop_at}
use Rattle.gba_command.proofs.Fronts.{front-long, front-whole}

-- a count that rose in a later part rose in the whole
pub Rose-earlier : (old mid new : ℕ) → old ≤ mid → Rose mid new → Rose old new
Rose-earlier old mid new before h = omega arith

-- and one that rose in an earlier part
pub Rose-later : (old mid new : ℕ) → mid ≤ new → Rose old mid → Rose old new
Rose-later old mid new after h = omega arith

-- `gives` is what one read does, which says what the contract of a store does
module _ {Store : Type 0} (Tells : Type 0) (files : Store → Files)
    (Reads : List ℕ → ℕ → Option ReadError → Store → Store → Type 0)
    (absences faults : Store → ℕ) (gives : List ℕ → ℕ → Result (List ℕ) ReadError → Store → Store → Type 0)
    (says : (name : List ℕ) (most : ℕ) (answer : Result (List ℕ) ReadError) (old new : Store)
    → gives name most answer old new → Gives Tells files Reads absences faults name most answer old new) where
  read-missing : {X : Type 0} (name : List ℕ) (most : ℕ) (long : Cause) (next : List ℕ → Result X Stop)
      (old new : Store) (refusal : ReadError) (end : Result X Stop)
      → Tells → gives name (most + 1) (Err refusal) old new → end ≡ Err (stop_at name refusal) → IsOfFiles end
      → after_file name most long next (files old name) ≡ end
  read-missing name most long next old new reading.Absent end tells h is of =
      ap (after_file name most long next) ((says name (most + 1) (Err reading.Absent) old new h).missing tells refl)
      ∙ sym is
  read-missing name most long next old new reading.Failed end tells h is of = absurd (subst IsOfFiles is of)
  read-missing name most long next old new reading.NoMemory end tells h is of = absurd (subst IsOfFiles is of)

  pub said : {X : Type 0} (plan : Plan X) (old new : Store) (end : Result X Stop) → Tells
      → GoesTo gives plan old new end → IsOfFiles end → outcome (files old) plan ≡ end
  unfolding GoesTo outcome
  said (Done x) old new end tells (inl h) of = absurd (subst IsOfFiles h.1 of)
  said (Done x) old new end tells (inr h) of = sym h.1
  said (Refuse cause) old new end tells (inl h) of = absurd (subst IsOfFiles h.1 of)
  said (Refuse cause) old new end tells (inr h) of = sym h.1
  said (Read name most long next) old new end tells (inl h) of = absurd (subst IsOfFiles h.1 of)
  said (Read name most long next) old new end tells (inr (inl h)) of =
      read-missing name most long (λ bytes. outcome (files old) (next bytes)) old new h.0 end tells h.1 h.2 of
  said (Read name most long next) old new end tells (inr (inr (inl h))) of =
      let front = (says name (most + 1) (Ok h.1) old h.0 h.2).front tells in
      let past : nat_lt most (length front.0) ≡ true = front-long most front.0 h.1 front.2 h.3 in
      ap (after_file name most long (λ bytes. outcome (files old) (next bytes))) front.1 ∙ rw past refl ∙ sym h.4.1
  said (Read name most long next) old new end tells (inr (inr (inr h))) of =
      let front = (says name (most + 1) (Ok h.1) old h.0 h.2).front tells in
      let whole = front-whole most front.0 h.1 front.2 h.3 in
      let rest : outcome (files h.0) (next h.1) ≡ end = said (next h.1) h.0 new end tells h.4 of in
      ap (after_file name most long (λ bytes. outcome (files old) (next bytes))) front.1 ∙ rw whole.1 refl
      ∙ ap (λ bytes. outcome (files old) (next bytes)) (sym whole.0)
      ∙ ap (λ f. outcome f (next h.1)) (sym ((says name (most + 1) (Ok h.1) old h.0 h.2).stays tells)) ∙ rest

  absent-read : (name other : List ℕ) (most : ℕ) (old new : Store) (refusal : ReadError)
      → gives name most (Err refusal) old new → stop_at name refusal ≡ Absent other → Rose (absences old) (absences new)
  absent-read name other most old new reading.Absent h is =
      (says name most (Err reading.Absent) old new h).absent refl
  absent-read name other most old new reading.Failed h is = absurd cc
  absent-read name other most old new reading.NoMemory h is = absurd cc

  pub absent-rose : {X : Type 0} (plan : Plan X) (old new : Store) (name : List ℕ)
      → GoesTo gives plan old new (Err (Absent name)) → Rose (absences old) (absences new)
  unfolding GoesTo
  absent-rose (Done x) old new name (inl h) = absurd cc
  absent-rose (Done x) old new name (inr h) = absurd cc
  absent-rose (Refuse cause) old new name (inl h) = absurd cc
  absent-rose (Refuse cause) old new name (inr h) = absurd cc
  absent-rose (Read next most long after) old new name (inl h) = absurd cc
  absent-rose (Read next most long after) old new name (inr (inl h)) =
      absent-read next name (most + 1) old new h.0 h.1 cc
  absent-rose (Read next most long after) old new name (inr (inr (inl h))) = absurd cc
  absent-rose (Read next most long after) old new name (inr (inr (inr h))) =
      Rose-earlier (absences old) (absences h.0) (absences new)
      (says next (most + 1) (Ok h.1) old h.0 h.2).later_absences (absent-rose (after h.1) h.0 new name h.4)

  failed-read : (name other : List ℕ) (most : ℕ) (old new : Store) (refusal : ReadError)
      → gives name most (Err refusal) old new → stop_at name refusal ≡ StoreFails other → Rose (faults old) (faults new)
  failed-read name other most old new reading.Absent h is = absurd cc
  failed-read name other most old new reading.Failed h is =
      (says name most (Err reading.Failed) old new h).failed refl
  failed-read name other most old new reading.NoMemory h is = absurd cc

  pub fault-rose : {X : Type 0} (plan : Plan X) (old new : Store) (name : List ℕ)
      → GoesTo gives plan old new (Err (StoreFails name)) → Rose (faults old) (faults new)
  unfolding GoesTo
  fault-rose (Done x) old new name (inl h) = absurd cc
  fault-rose (Done x) old new name (inr h) = absurd cc
  fault-rose (Refuse cause) old new name (inl h) = absurd cc
  fault-rose (Refuse cause) old new name (inr h) = absurd cc
  fault-rose (Read next most long after) old new name (inl h) = absurd cc
  fault-rose (Read next most long after) old new name (inr (inl h)) =
      failed-read next name (most + 1) old new h.0 h.1 cc
  fault-rose (Read next most long after) old new name (inr (inr (inl h))) = absurd cc
  fault-rose (Read next most long after) old new name (inr (inr (inr h))) =
      Rose-earlier (faults old) (faults h.0) (faults new) (says next (most + 1) (Ok h.1) old h.0 h.2).later_faults
      (fault-rose (after h.1) h.0 new name h.4)

  lacking-read : CountsExactly Reads absences faults
      → (name : List ℕ) (most : ℕ) (old new : Store) (refusal : ReadError) → gives name most (Err refusal) old new
      → stop_at name refusal ≡ LacksMemory → (absences new ≡ absences old) × (faults new ≡ faults old)
  lacking-read exact name most old new reading.Absent h is = absurd cc
  lacking-read exact name most old new reading.Failed h is = absurd cc
  lacking-read exact name most old new reading.NoMemory h is = exact name most (Some reading.NoMemory) old new
      (says name most (Err reading.NoMemory) old new h).read

  pub nothing-hidden : {X : Type 0} → CountsExactly Reads absences faults → (plan : Plan X) (old new : Store)
      → GoesTo gives plan old new (Err LacksMemory) → (absences new ≡ absences old) × (faults new ≡ faults old)
  unfolding GoesTo
  nothing-hidden exact (Done x) old new (inl h) = (ap absences h.0, ap faults h.0)
  nothing-hidden exact (Done x) old new (inr h) = absurd cc
  nothing-hidden exact (Refuse cause) old new (inl h) = (ap absences h.0, ap faults h.0)
  nothing-hidden exact (Refuse cause) old new (inr h) = absurd cc
  nothing-hidden exact (Read next most long after) old new (inl h) = (ap absences h.0, ap faults h.0)
  nothing-hidden exact (Read next most long after) old new (inr (inl h)) =
      lacking-read exact next (most + 1) old new h.0 h.1 cc
  nothing-hidden exact (Read next most long after) old new (inr (inr (inl h))) = absurd cc
  nothing-hidden exact (Read next most long after) old new (inr (inr (inr h))) =
      let given = exact next (most + 1) None old h.0 (says next (most + 1) (Ok h.1) old h.0 h.2).read in
      let rest = nothing-hidden exact (after h.1) h.0 new h.4 in
      (rest.0 ∙ given.0, rest.1 ∙ given.1)
