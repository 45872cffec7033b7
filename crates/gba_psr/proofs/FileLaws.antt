use Rattle.std.proofs.Common.{◌≡◌, ◌≢◌, ℕ, ◌<◌, false, eqb, List, length, get_or, set, refl, ap, sym, ◌∙◌, arith}
use Rattle.std.proofs.lemmas.Bool.Decides.{nat_tests}
use Rattle.std.proofs.lemmas.List.{length-set, get_or-set_same, get_or-set_other}
use Rattle.gba_psr.specs.Entry.{after_entry, after_leave, entry_status, mode_entered, vector}
use Rattle.gba_psr.specs.Modes.{place, saved_place}
use Rattle.gba_psr.specs.RegisterFile.{status, flags, with_flags, mode, register, with_register, with_status, saved_status, with_saved_status, IsRegisterFile}
use Rattle.gba_psr.specs.Status.{mode_of, kept_status, written_status, flags_of, status_with_flags, IsStatus}
use Rattle.gba_psr.specs.declared.condition.Flags.{Flags}
use Rattle.gba_psr.specs.declared.exceptions.Exception.{Exception}
use Rattle.gba_psr.specs.declared.exceptions.Exception.TheVariants.{Undefined, Software, Interrupt}
use Rattle.gba_psr.proofs.Seats.{place_within, saved_place_within, saved_place_high, place_apart}

pub length-with_register : (file : List ℕ) (number value : ℕ) → length (with_register file number value) ≡ length file
unfolding with_register
length-with_register file number value = length-set file (place (mode file) number) value

pub status-with_register : (file : List ℕ) (number value : ℕ) → number < 16
    → status (with_register file number value) ≡ status file
unfolding with_register status
status-with_register file number value within =
    let low = place_within (mode file) number within in
    get_or-set_other file (place (mode file) number) 31 value 0 (omega (arith, low))

pub mode-with_register : (file : List ℕ) (number value : ℕ) → number < 16
    → mode (with_register file number value) ≡ mode file
unfolding mode
mode-with_register file number value within = ap mode_of (status-with_register file number value within)

pub register-with_register_same : (file : List ℕ) (number value : ℕ) → length file ≡ 37 → number < 16
    → register (with_register file number value) number ≡ value
unfolding register with_register
register-with_register_same file number value count within =
    let low = place_within (mode file) number within in
    let some : place (mode file) number < length file = omega (arith, low) in
    ap (λ (m : ℕ). get_or (with_register file number value) (place m number) 0)
    (mode-with_register file number value within)
    ∙ get_or-set_same file (place (mode file) number) value 0 some

pub register-with_register_other : (file : List ℕ) (number other value : ℕ) → number < 16 → other < 16 → other ≢ number
    → register (with_register file number value) other ≡ register file other
unfolding register with_register
register-with_register_other file number other value within within_other apart =
    ap (λ (m : ℕ). get_or (with_register file number value) (place m other) 0)
    (mode-with_register file number value within)
    ∙ get_or-set_other file (place (mode file) number) (place (mode file) other) value 0
    (λ same. apart (place_apart (mode file) other number within_other within same))

pub saved_status-with_register : (file : List ℕ) (number value : ℕ) → number < 16
    → saved_status (with_register file number value) ≡ saved_status file
unfolding saved_status with_register
saved_status-with_register file number value within =
    let low = place_within (mode file) number within in
    let high = saved_place_high (mode file) in
    ap (λ (m : ℕ). get_or (with_register file number value) (saved_place m) 0)
    (mode-with_register file number value within)
    ∙ get_or-set_other file (place (mode file) number) (saved_place (mode file)) value 0 (omega (arith, low, high))

pub length-with_status : (file : List ℕ) (value : ℕ) → length (with_status file value) ≡ length file
unfolding with_status
length-with_status file value = length-set file 31 (written_status (status file) value)

pub status-with_status : (file : List ℕ) (value : ℕ) → length file ≡ 37
    → status (with_status file value) ≡ written_status (status file) value
unfolding with_status status
status-with_status file value count =
    let some : 31 < length file = omega arith in
    get_or-set_same file 31 (written_status (status file) value) 0 some

pub mode-with_status : (file : List ℕ) (value : ℕ) → length file ≡ 37
    → mode (with_status file value) ≡ mode_of (written_status (status file) value)
unfolding mode
mode-with_status file value count = ap mode_of (status-with_status file value count)

-- a register after a change of CPSR is read at the new mode's place
pub register-with_status : (file : List ℕ) (number value : ℕ) → length file ≡ 37 → number < 16
    → register (with_status file value) number
    ≡ get_or file (place (mode_of (written_status (status file) value)) number) 0
unfolding register with_status
register-with_status file number value count within =
    let after = mode_of (written_status (status file) value) in
    let low = place_within after number within in
    ap (λ (m : ℕ). get_or (with_status file value) (place m number) 0) (mode-with_status file value count)
    ∙ get_or-set_other file 31 (place after number) (written_status (status file) value) 0 (omega (arith, low))

pub length-with_saved_status : (file : List ℕ) (value : ℕ) → length (with_saved_status file value) ≡ length file
unfolding with_saved_status
length-with_saved_status file value =
    grind (arith, nat_tests, length-set file (saved_place (mode file)) (kept_status value))

-- the present mode has an SPSR
pub own_saved : (file : List ℕ) (value : ℕ) → saved_place (mode file) ≢ 31
    → with_saved_status file value ≡ set file (saved_place (mode file)) (kept_status value)
unfolding with_saved_status
own_saved file value own =
    let some : eqb (saved_place (mode file)) 31 ≡ false = grind (arith, nat_tests) in
    rw some refl

pub status-own_saved : (file : List ℕ) (value : ℕ) → saved_place (mode file) ≢ 31
    → status (with_saved_status file value) ≡ status file
unfolding status
status-own_saved file value own =
    ap status (own_saved file value own)
    ∙ get_or-set_other file (saved_place (mode file)) 31 (kept_status value) 0 (λ e. own (sym e))

pub saved_status-own_saved : (file : List ℕ) (value : ℕ) → length file ≡ 37 → saved_place (mode file) ≢ 31
    → saved_status (with_saved_status file value) ≡ kept_status value
unfolding saved_status mode
saved_status-own_saved file value count own =
    let some : saved_place (mode file) < length file = rw count (saved_place_within (mode file)) in
    ap (λ (s : ℕ). get_or (with_saved_status file value) (saved_place (mode_of s)) 0) (status-own_saved file value own)
    ∙ ap (λ (f : List ℕ). get_or f (saved_place (mode file)) 0) (own_saved file value own)
    ∙ get_or-set_same file (saved_place (mode file)) (kept_status value) 0 some

-- what is written to CPSR is a CPSR again
pub written_IsStatus : (old value : ℕ) → IsStatus old → IsStatus (written_status old value)
written_IsStatus old value is = grind (arith, nat_tests)

-- a CPSR that is written back
pub written_back : (old value : ℕ) → IsStatus value → written_status old value ≡ value
written_back old value is = grind (arith, nat_tests)

-- an exception's CPSR is written as it is
pub entry_written : (kind : Exception) (old : ℕ) → written_status old (entry_status kind old) ≡ entry_status kind old
entry_written Undefined old = grind (arith, nat_tests)
entry_written Software old = grind (arith, nat_tests)
entry_written Interrupt old = grind (arith, nat_tests)

pub entry_mode : (kind : Exception) (old : ℕ) → mode_of (entry_status kind old) ≡ mode_entered kind
entry_mode Undefined old = omega arith
entry_mode Software old = omega arith
entry_mode Interrupt old = omega arith

-- the modes that an exception enters have an SPSR
pub entry_saved : (kind : Exception) → saved_place (mode_entered kind) ≢ 31
unfolding saved_place
entry_saved Undefined e = omega arith
entry_saved Software e = omega arith
entry_saved Interrupt e = omega arith

-- an exception's mode
entered_mode : (kind : Exception) (file : List ℕ) → length file ≡ 37
    → mode (with_status file (entry_status kind (status file))) ≡ mode_entered kind
entered_mode kind file count =
    mode-with_status file (entry_status kind (status file)) count
    ∙ ap mode_of (entry_written kind (status file)) ∙ entry_mode kind (status file)

pub file-with_register : (file : List ℕ) (number value : ℕ) → IsRegisterFile file → number < 16
    → IsRegisterFile (with_register file number value)
file-with_register file number value is within = record {
  count = length-with_register file number value ∙ is.count;
  status_kept = rw (status-with_register file number value within) is.status_kept;
}

pub file-with_status : (file : List ℕ) (value : ℕ) → IsRegisterFile file → IsRegisterFile (with_status file value)
file-with_status file value is = record {
  count = length-with_status file value ∙ is.count;
  status_kept = rw (status-with_status file value is.count) (written_IsStatus (status file) value is.status_kept);
}

-- the file of an exception before its link and its vector are written
abbrev pub with_entry : Exception → List ℕ → List ℕ
with_entry kind file = with_saved_status (with_status file (entry_status kind (status file))) (status file)

entered_saved : (kind : Exception) (file : List ℕ) → length file ≡ 37
    → saved_place (mode (with_status file (entry_status kind (status file)))) ≢ 31
entered_saved kind file count none = entry_saved kind (ap saved_place (sym (entered_mode kind file count)) ∙ none)

pub status-with_entry : (kind : Exception) (file : List ℕ) → length file ≡ 37
    → status (with_entry kind file) ≡ entry_status kind (status file)
status-with_entry kind file count =
    status-own_saved (with_status file (entry_status kind (status file))) (status file) (entered_saved kind file count)
    ∙ status-with_status file (entry_status kind (status file)) count ∙ entry_written kind (status file)

pub saved_status-with_entry : (kind : Exception) (file : List ℕ) → IsRegisterFile file
    → saved_status (with_entry kind file) ≡ status file
saved_status-with_entry kind file is =
    saved_status-own_saved (with_status file (entry_status kind (status file))) (status file)
    (length-with_status file (entry_status kind (status file)) ∙ is.count) (entered_saved kind file is.count)
    ∙ is.status_kept.stored

pub file-with_entry : (kind : Exception) (file : List ℕ) → IsRegisterFile file → IsRegisterFile (with_entry kind file)
file-with_entry kind file is = record {
  count = length-with_saved_status (with_status file (entry_status kind (status file))) (status file)
      ∙ length-with_status file (entry_status kind (status file)) ∙ is.count;
  status_kept =
      rw (status-with_entry kind file is.count, ← entry_written kind (status file))
      (written_IsStatus (status file) (entry_status kind (status file)) is.status_kept);
}

pub file-after_entry : (kind : Exception) (link : ℕ) (file : List ℕ) → IsRegisterFile file
    → IsRegisterFile (after_entry kind link file)
unfolding after_entry
file-after_entry kind link file is =
    file-with_register (with_register (with_entry kind file) 14 link) 15 (vector kind)
    (file-with_register (with_entry kind file) 14 link (file-with_entry kind file is) (omega arith)) (omega arith)

pub status-after_entry : (kind : Exception) (link : ℕ) (file : List ℕ) → length file ≡ 37
    → status (after_entry kind link file) ≡ entry_status kind (status file)
unfolding after_entry
status-after_entry kind link file count =
    status-with_register (with_register (with_entry kind file) 14 link) 15 (vector kind) (omega arith)
    ∙ status-with_register (with_entry kind file) 14 link (omega arith) ∙ status-with_entry kind file count

pub saved_status-after_entry : (kind : Exception) (link : ℕ) (file : List ℕ) → IsRegisterFile file
    → saved_status (after_entry kind link file) ≡ status file
unfolding after_entry
saved_status-after_entry kind link file is =
    saved_status-with_register (with_register (with_entry kind file) 14 link) 15 (vector kind) (omega arith)
    ∙ saved_status-with_register (with_entry kind file) 14 link (omega arith) ∙ saved_status-with_entry kind file is

pub link-after_entry : (kind : Exception) (link : ℕ) (file : List ℕ) → IsRegisterFile file
    → register (after_entry kind link file) 14 ≡ link
unfolding after_entry
link-after_entry kind link file is =
    register-with_register_other (with_register (with_entry kind file) 14 link) 15 14 (vector kind) (omega arith)
    (omega arith) (omega arith)
    ∙ register-with_register_same (with_entry kind file) 14 link (file-with_entry kind file is).count (omega arith)

pub counter-after_entry : (kind : Exception) (link : ℕ) (file : List ℕ) → IsRegisterFile file
    → register (after_entry kind link file) 15 ≡ vector kind
unfolding after_entry
counter-after_entry kind link file is =
    register-with_register_same (with_register (with_entry kind file) 14 link) 15 (vector kind)
    (file-with_register (with_entry kind file) 14 link (file-with_entry kind file is) (omega arith)).count (omega arith)

pub status-after_leave : (file : List ℕ) → length file ≡ 37 → saved_place (mode file) ≢ 31
    → IsStatus (saved_status file) → status (after_leave file) ≡ saved_status file
unfolding after_leave
status-after_leave file count own is =
    let some : eqb (saved_place (mode file)) 31 ≡ false = grind (arith, nat_tests) in
    rw some (status-with_status file (saved_status file) count ∙ written_back (status file) (saved_status file) is)

pub entered_then_left : (kind : Exception) (link : ℕ) (file : List ℕ) → IsRegisterFile file
    → status (after_leave (after_entry kind link file)) ≡ status file
unfolding mode
entered_then_left kind link file is =
    let inside : mode (after_entry kind link file) ≡ mode_entered kind =
    ap mode_of (status-after_entry kind link file is.count) ∙ entry_mode kind (status file) in
    let saved = saved_status-after_entry kind link file is in
    status-after_leave (after_entry kind link file) (file-after_entry kind link file is).count
    (λ none. entry_saved kind (ap saved_place (sym inside) ∙ none)) (rw saved is.status_kept)
    ∙ saved

pub status-with_flags : (file : List ℕ) (new : Flags) → length file ≡ 37
    → status (with_flags file new) ≡ status_with_flags (status file) new
unfolding with_flags status
status-with_flags file new count =
    let some : 31 < length file = omega arith in
    get_or-set_same file 31 (status_with_flags (status file) new) 0 some

mode_of-status_with_flags : (old : ℕ) (new : Flags) → mode_of (status_with_flags old new) ≡ mode_of old
mode_of-status_with_flags old new = grind (arith, nat_tests)

pub mode-with_flags : (file : List ℕ) (new : Flags) → length file ≡ 37 → mode (with_flags file new) ≡ mode file
unfolding mode
mode-with_flags file new count =
    ap mode_of (status-with_flags file new count) ∙ mode_of-status_with_flags (status file) new

flags_of-status_with_flags : (old : ℕ) (new : Flags) → flags_of (status_with_flags old new) ≡ new
flags_of-status_with_flags old new = grind (arith, nat_tests)

pub flags-with_flags : (file : List ℕ) (new : Flags) → length file ≡ 37 → flags (with_flags file new) ≡ new
unfolding flags
flags-with_flags file new count =
    ap flags_of (status-with_flags file new count) ∙ flags_of-status_with_flags (status file) new
