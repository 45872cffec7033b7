use Rattle.std.specs.Prelude.{◌≡◌, ℕ, List, Option, Some, None}
use Rattle.gba_store.specs.Files.{one_more}
use Rattle.gba_store.specs.declared.outside.ReadError.{ReadError}
use Rattle.gba_store.specs.declared.outside.ReadError.TheVariants as reading
use Rattle.gba_store.specs.declared.outside.WriteError.{WriteError}
use Rattle.gba_store.specs.declared.outside.WriteError.TheVariants as writing

-- What a count is after a call that was refused so, or not at all: one more after a refusal of its kind, and else as
-- before.

-- the count of absences, and of faults, of a store
abbrev pub absences_after : Option ReadError → ℕ → ℕ
absences_after None count = count
absences_after (Some reading.Absent) count = one_more count
absences_after (Some reading.Failed) count = count
absences_after (Some reading.NoMemory) count = count

abbrev pub read_faults_after : Option ReadError → ℕ → ℕ
read_faults_after None count = count
read_faults_after (Some reading.Absent) count = count
read_faults_after (Some reading.Failed) count = one_more count
read_faults_after (Some reading.NoMemory) count = count

-- the count of faults, and of wants of memory, of a sink
abbrev pub write_faults_after : Option WriteError → ℕ → ℕ
write_faults_after None count = count
write_faults_after (Some writing.Failed) count = one_more count
write_faults_after (Some writing.NoMemory) count = count

abbrev pub wants_after : Option WriteError → ℕ → ℕ
wants_after None count = count
wants_after (Some writing.Failed) count = count
wants_after (Some writing.NoMemory) count = one_more count

-- What a store says of its reads (`Reads`) fixes its counts: each read leaves them as its refusal says.
abbrev pub CountsExactly : {Store : Type 0} → (List ℕ → ℕ → Option ReadError → Store → Store → Type 0) → (Store → ℕ)
    → (Store → ℕ) → Type 0
CountsExactly {Store} Reads absences faults =
    (name : List ℕ) (most : ℕ) (refusal : Option ReadError) (old new : Store) → Reads name most refusal old new
    → (absences new ≡ absences_after refusal (absences old)) × (faults new ≡ read_faults_after refusal (faults old))
