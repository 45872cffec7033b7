-- A register file whose flags are written over it.
use Rattle.std.proofs.Common.{◌≡◌, ℕ, ◌<◌, ◌+◌, ◌*◌, ◌^◌, List, length, get_or, set, ap, sym, subst, ◌∙◌, arith}
use Rattle.std.proofs.lemmas.Bool.Decides.{nat_tests}
use Rattle.std.proofs.lemmas.List.{length-set, get_or-set_other, set-get_or, set-set, set_comm}
use Rattle.gba_terms.specs.Bits.{field}
use Rattle.gba_word.specs.Sums.{flag_number}
use Rattle.gba_psr.specs.Modes.{place}
use Rattle.gba_psr.specs.RegisterFile.{status, flags, with_flags, mode, register, with_register, user_register, with_user_register, IsRegisterFile}
use Rattle.gba_psr.specs.Status.{flags_of, status_with_flags, IsStatus}
use Rattle.gba_psr.specs.declared.condition.Flags.{Flags}
use Rattle.gba_psr.proofs.FileLaws.{mode-with_flags, status-with_flags, status-with_register}
use Rattle.gba_psr.proofs.Seats.{place_within}

length-with_flags : (file : List ℕ) (new : Flags) → length (with_flags file new) ≡ length file
unfolding with_flags
length-with_flags file new = length-set file 31 (status_with_flags (status file) new)

pub register-with_flags : (file : List ℕ) (new : Flags) (number : ℕ) → length file ≡ 37 → number < 16
    → register (with_flags file new) number ≡ register file number
unfolding register with_flags
register-with_flags file new number count within =
    let low = place_within (mode file) number within in
    ap (λ m. get_or (set file 31 (status_with_flags (status file) new)) (place m number) 0)
    (mode-with_flags file new count)
    ∙ get_or-set_other file 31 (place (mode file) number) (status_with_flags (status file) new) 0 (omega arith)

pub with_register-with_flags : (file : List ℕ) (new : Flags) (number value : ℕ) → length file ≡ 37 → number < 16
    → with_flags (with_register file number value) new ≡ with_register (with_flags file new) number value
unfolding with_register with_flags
with_register-with_flags file new number value count within =
    let low = place_within (mode file) number within in
    ap (λ s. set (set file (place (mode file) number) value) 31 (status_with_flags s new))
    (status-with_register file number value within)
    ∙ set_comm file (place (mode file) number) 31 value (status_with_flags (status file) new) (omega arith)
    ∙ sym (ap (λ m. set (set file 31 (status_with_flags (status file) new)) (place m number) value)
    (mode-with_flags file new count))

pub user_register-with_flags : (file : List ℕ) (new : Flags) (number : ℕ) → number < 16
    → user_register (with_flags file new) number ≡ user_register file number
unfolding user_register with_flags
user_register-with_flags file new number within =
    get_or-set_other file 31 number (status_with_flags (status file) new) 0 (omega arith)

pub with_user_register-with_flags : (file : List ℕ) (new : Flags) (number value : ℕ) → number < 16
    → with_flags (with_user_register file number value) new ≡ with_user_register (with_flags file new) number value
unfolding with_user_register with_flags status
with_user_register-with_flags file new number value within =
    ap (λ s. set (set file number value) 31 (status_with_flags s new))
    (get_or-set_other file number 31 value 0 (omega arith))
    ∙ set_comm file number 31 value (status_with_flags (get_or file 31 0) new) (omega arith)

low-status_with_flags : (old : ℕ) (new : Flags) → field (status_with_flags old new) 0 28 ≡ field old 0 28
low-status_with_flags old new = grind (arith, nat_tests)

status_with_flags-again : (status : ℕ) (old new : Flags)
    → status_with_flags (status_with_flags status old) new ≡ status_with_flags status new
status_with_flags-again status old new =
    ap (λ n. flag_number new.negative * 2 ^ 31 + flag_number new.zero * 2 ^ 30 + flag_number new.carry * 2 ^ 29
    + flag_number new.overflow * 2 ^ 28 + n) (low-status_with_flags status old)

pub with_flags-with_flags : (file : List ℕ) (old new : Flags) → length file ≡ 37
    → with_flags (with_flags file old) new ≡ with_flags file new
unfolding with_flags
with_flags-with_flags file old new count =
    ap (λ s. set (set file 31 (status_with_flags (status file) old)) 31 (status_with_flags s new))
    (status-with_flags file old count)
    ∙ set-set file 31 (status_with_flags (status file) old)
    (status_with_flags (status_with_flags (status file) old) new)
    ∙ ap (set file 31) (status_with_flags-again (status file) old new)

own-status_with_flags : (old : ℕ) → IsStatus old → status_with_flags old (flags_of old) ≡ old
own-status_with_flags old is = grind (arith, nat_tests)

pub own_flags : (file : List ℕ) → IsRegisterFile file → with_flags file (flags file) ≡ file
unfolding with_flags flags status
own_flags file is = ap (set file 31) (own-status_with_flags (get_or file 31 0) is.status_kept) ∙ set-get_or file 31 0

IsStatus-with_flags : (old : ℕ) (new : Flags) → IsStatus old → IsStatus (status_with_flags old new)
IsStatus-with_flags old new is = record { stored = grind (arith, nat_tests); mode = grind (arith, nat_tests) }

pub file-with_flags : (file : List ℕ) (new : Flags) → IsRegisterFile file → IsRegisterFile (with_flags file new)
file-with_flags file new is = record {
  count = length-with_flags file new ∙ is.count;
  status_kept =
      subst IsStatus (sym (status-with_flags file new is.count)) (IsStatus-with_flags (status file) new is.status_kept);
}
