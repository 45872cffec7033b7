use Rattle.std.specs.Prelude.{◌≡◌, ℕ, ◌≤◌, List, Option, None, Result, IfOk, IsErrOf}
use Rattle.std.specs.Result.{result_err}
use Rattle.gba_store.specs.Files.{Files, Rose, IsFront}
use Rattle.gba_store.specs.declared.outside.ReadError.{ReadError}
use Rattle.gba_store.specs.declared.outside.ReadError.TheVariants as reading

-- A read of the first `most` bytes of a file, as the contract of a store says it: what the store says of the read
-- (`Reads`), what it answers if it tells its files, and its counts.
pub record Gives {Store : Type 0} (Tells : Type 0) (files : Store → Files)
    (Reads : List ℕ → ℕ → Option ReadError → Store → Store → Type 0) (absences faults : Store → ℕ) (name : List ℕ)
    (most : ℕ) (answer : Result (List ℕ) ReadError) (old new : Store) : Type 0 where
  pub read : Reads name most (result_err answer) old new
  pub stays : Tells → files new ≡ files old
  pub front : Tells → IfOk answer (IsFront (files old) name most)
  pub missing : Tells → IsErrOf answer reading.Absent → files old name ≡ None
  pub absent : IsErrOf answer reading.Absent → Rose (absences old) (absences new)
  pub failed : IsErrOf answer reading.Failed → Rose (faults old) (faults new)
  pub later_absences : absences old ≤ absences new
  pub later_faults : faults old ≤ faults new
