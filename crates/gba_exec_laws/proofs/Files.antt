-- What is written to a register file keeps it sound.
use Rattle.std.proofs.Common.{◌≡◌, ◌≢◌, ℕ, ◌<◌, ◌-◌, ◌%◌, ◌^◌, ◌==◌, Bool, true, false, List, length, get_or, set, refl, ap, sym, ◌∙◌, ⊎_elim, arith, if◌then◌else◌}
use Rattle.std.proofs.lemmas.Bool.{cases_eq}
use Rattle.std.proofs.lemmas.Bool.Decides.{nat_tests}
use Rattle.std.proofs.lemmas.List.{length-set, get_or-set_same, get_or-set_other}
use Rattle.gba_terms.specs.Bits.{bit}
use Rattle.gba_psr.specs.Entry.{after_entry, after_leave, entry_status, vector}
use Rattle.gba_psr.specs.Modes.{place, saved_place}
use Rattle.gba_psr.specs.RegisterFile.{mode, register, saved_status, status, with_flags, with_register, with_saved_status, with_status, with_user_register}
use Rattle.gba_psr.specs.Status.{kept_status, mode_of, status_with_flags, written_status}
use Rattle.gba_psr.specs.declared.condition.Flags.{Flags}
use Rattle.gba_psr.specs.declared.exceptions.Exception.{Exception}
use Rattle.gba_psr.specs.declared.exceptions.Exception.TheVariants.{Undefined, Software, Interrupt}
use Rattle.gba_psr.proofs.FileLaws.{counter-after_entry, file-with_register, file-with_status, register-with_register_other, register-with_register_same, status-after_entry, status-with_flags, status-with_register}
use Rattle.gba_psr.proofs.FlagsApart.{file-with_flags, register-with_flags}
use Rattle.gba_psr.proofs.Seats.{place_within, saved_place_high, saved_place_within}
use Rattle.gba_exec_registers.specs.Access.{after_jump, with_result}
use Rattle.gba_exec_laws.specs.Sound.{IsSoundFile, IsStoredFile}
use Rattle.gba_exec_laws.proofs.Words.{cut-word, flagged-word, kept-word, set-words, vector-word, written-word}

-- what an SPSR keeps of a number it keeps again
kept-kept : (value : ℕ) → kept_status (kept_status value) ≡ kept_status value
kept-kept value = grind (arith, nat_tests)

pub stored-register : (file : List ℕ) (number value : ℕ) → IsStoredFile file → number < 16 → value < 2 ^ 32
    → IsStoredFile (with_register file number value)
unfolding with_register
stored-register file number value is within word = record {
  whole = file-with_register file number value is.whole within;
  saved = λ at high.
      let low = place_within (mode file) number within in
      rw (get_or-set_other file (place (mode file) number) at value 0 (omega (arith, low, high))) (is.saved at high);
  words = set-words file (place (mode file) number) value is.words word;
}

pub sound-register : (file : List ℕ) (number value : ℕ) → IsSoundFile file → number < 15 → value < 2 ^ 32
    → IsSoundFile (with_register file number value)
sound-register file number value is within word = record {
  stored = stored-register file number value is.stored (omega (arith, within)) word;
  aligned =
      rw (
        register-with_register_other file number 15 value (omega arith) (omega arith) (omega arith),
        status-with_register file number value (omega arith),
      ) is.aligned;
}

-- the place of r15 is its number in each mode
counter-place : (mode : ℕ) → place mode 15 ≡ 15
unfolding place
counter-place mode = grind (arith, nat_tests)

pub stored-user : (file : List ℕ) (number value : ℕ) → IsStoredFile file → number < 16 → value < 2 ^ 32
    → IsStoredFile (with_user_register file number value)
unfolding with_user_register status
stored-user file number value is within word = record {
  whole = record {
    count = length-set file number value ∙ is.whole.count;
    status_kept = rw (get_or-set_other file number 31 value 0 (omega arith)) is.whole.status_kept;
  };
  saved = λ at high. rw (get_or-set_other file number at value 0 (omega (arith, high, within))) (is.saved at high);
  words = set-words file number value is.words word;
}

user-status : (file : List ℕ) (number value : ℕ) → number < 16
    → status (with_user_register file number value) ≡ status file
unfolding with_user_register status
user-status file number value within = get_or-set_other file number 31 value 0 (omega arith)

user-counter : (file : List ℕ) (number value : ℕ) → number < 15
    → register (with_user_register file number value) 15 ≡ register file 15
unfolding with_user_register register
user-counter file number value within =
    ap (λ p. get_or (set file number value) p 0) (counter-place (mode (with_user_register file number value)))
    ∙ get_or-set_other file number 15 value 0 (omega arith)
    ∙ sym (ap (λ p. get_or file p 0) (counter-place (mode file)))

pub sound-user : (file : List ℕ) (number value : ℕ) → IsSoundFile file → number < 15 → value < 2 ^ 32
    → IsSoundFile (with_user_register file number value)
sound-user file number value is within word = record {
  stored = stored-user file number value is.stored (omega (arith, within)) word;
  aligned = rw (user-counter file number value within, user-status file number value (omega arith)) is.aligned;
}

pub stored-status : (file : List ℕ) (value : ℕ) → IsStoredFile file → IsStoredFile (with_status file value)
unfolding with_status
stored-status file value is = record {
  whole = file-with_status file value is.whole;
  saved = λ at high.
      rw (get_or-set_other file 31 at (written_status (status file) value) 0 (omega (arith, high))) (is.saved at high);
  words = set-words file 31 (written_status (status file) value) is.words (written-word (status file) value);
}

pub stored-flags : (file : List ℕ) (new : Flags) → IsStoredFile file → IsStoredFile (with_flags file new)
unfolding with_flags
stored-flags file new is = record {
  whole = file-with_flags file new is.whole;
  saved = λ at high.
      rw (get_or-set_other file 31 at (status_with_flags (status file) new) 0 (omega (arith, high))) (is.saved at high);
  words = set-words file 31 (status_with_flags (status file) new) is.words (flagged-word (status file) new);
}

flags-state : (old : ℕ) (new : Flags) → bit (status_with_flags old new) 5 ≡ bit old 5
flags-state old new = grind (arith, nat_tests)

pub sound-flags : (file : List ℕ) (new : Flags) → IsSoundFile file → IsSoundFile (with_flags file new)
sound-flags file new is = record {
  stored = stored-flags file new is.stored;
  aligned =
      rw (
        register-with_flags file new 15 is.stored.whole.count (omega arith),
        status-with_flags file new is.stored.whole.count,
        flags-state (status file) new,
      ) is.aligned;
}

pub stored-place : (file : List ℕ) (p value : ℕ) → IsStoredFile file → 31 < p → p < 37
    → IsStoredFile (set file p (kept_status value))
unfolding status
stored-place file p value is high within = record {
  whole = record {
    count = length-set file p (kept_status value) ∙ is.whole.count;
    status_kept = rw (get_or-set_other file p 31 (kept_status value) 0 (omega (arith, high))) is.whole.status_kept;
  };
  saved = λ at above.
      let count = is.whole.count in
      ⊎_elim
      (λ (same : at ≡ p).
      let here : get_or (set file p (kept_status value)) at 0 ≡ kept_status value =
      ap (λ q. get_or (set file p (kept_status value)) q 0) same
      ∙ get_or-set_same file p (kept_status value) 0 (omega (arith, count, within)) in
      rw here (kept-kept value))
      (λ (other : at ≢ p). rw (get_or-set_other file p at (kept_status value) 0 other) (is.saved at above))
      (cases_eq at p);
  words = set-words file p (kept_status value) is.words (kept-word value);
}

saved-high : (mode : ℕ) → saved_place mode ≢ 31 → 31 < saved_place mode
saved-high mode own = let high = saved_place_high mode in omega (arith, high, own)

-- the low registers aren't where a mode's SPSR is
register-place : (file : List ℕ) (p value number : ℕ) → 31 < p → number < 16
    → register (set file p value) number ≡ register file number
unfolding register mode status
register-place file p value number high within =
    let low = place_within (mode file) number within in
    ap (λ s. get_or (set file p value) (place (mode_of s) number) 0)
    (get_or-set_other file p 31 value 0 (omega (arith, high)))
    ∙ get_or-set_other file p (place (mode file) number) value 0 (omega (arith, low, high))

status-place : (file : List ℕ) (p value : ℕ) → 31 < p → status (set file p value) ≡ status file
unfolding status
status-place file p value high = get_or-set_other file p 31 value 0 (omega (arith, high))

pub stored-saved : (file : List ℕ) (value : ℕ) → IsStoredFile file → IsStoredFile (with_saved_status file value)
unfolding with_saved_status
stored-saved file value is =
    by_own (saved_place (mode file) == 31) refl
  where
    by_own : (test : Bool) → saved_place (mode file) == 31 ≡ test
        → IsStoredFile (if test then file else set file (saved_place (mode file)) (kept_status value))
    by_own true none = is
    by_own false own =
        stored-place file (saved_place (mode file)) value is (saved-high (mode file) (grind (arith, nat_tests, own)))
        (saved_place_within (mode file))

pub sound-saved : (file : List ℕ) (value : ℕ) → IsSoundFile file → IsSoundFile (with_saved_status file value)
unfolding with_saved_status
sound-saved file value is =
    by_own (saved_place (mode file) == 31) refl
  where
    by_own : (test : Bool) → saved_place (mode file) == 31 ≡ test
        → IsSoundFile (if test then file else set file (saved_place (mode file)) (kept_status value))
    by_own true none = is
    by_own false own =
        let high = saved-high (mode file) (grind (arith, nat_tests, own)) in
        record {
          stored = stored-place file (saved_place (mode file)) value is.stored high (saved_place_within (mode file));
          aligned =
              rw (
                register-place file (saved_place (mode file)) (kept_status value) 15 high (omega arith),
                status-place file (saved_place (mode file)) (kept_status value) high,
              ) is.aligned;
        }

-- a target is cut to the address of an instruction
cut-target : (thumb : Bool) (target : ℕ)
    → (if thumb then target - target % 2 else target - target % 4) % (if thumb then 2 else 4) ≡ 0
cut-target true target = omega arith
cut-target false target = omega arith

pub sound-jump : (file : List ℕ) (target : ℕ) → IsStoredFile file → target < 2 ^ 32
    → IsSoundFile (after_jump file target)
unfolding after_jump
sound-jump file target is word =
    let value = if bit (status file) 5 then target - target % 2 else target - target % 4 in
    record {
      stored = stored-register file 15 value is (omega arith) (cut-word (bit (status file) 5) target word);
      aligned =
          rw (
            register-with_register_same file 15 value is.whole.count (omega arith),
            status-with_register file 15 value (omega arith),
          )
          (cut-target (bit (status file) 5) target);
    }

pub sound-result : (file : List ℕ) (number value : ℕ) → IsSoundFile file → number < 16 → value < 2 ^ 32
    → IsSoundFile (with_result file number value)
unfolding with_result
sound-result file number value is within word =
    by_number (number == 15) refl
  where
    by_number : (test : Bool) → number == 15 ≡ test
        → IsSoundFile (if test then after_jump file value else with_register file number value)
    by_number true counter = sound-jump file value is.stored word
    by_number false other = sound-register file number value is (grind (arith, nat_tests, within, other)) word

stored-entry-status : (kind : Exception) (file : List ℕ) → IsStoredFile file
    → IsStoredFile (with_saved_status (with_status file (entry_status kind (status file))) (status file))
stored-entry-status kind file is =
    stored-saved (with_status file (entry_status kind (status file))) (status file)
    (stored-status file (entry_status kind (status file)) is)

entry-state : (kind : Exception) (old : ℕ) → bit (entry_status kind old) 5 ≡ false
entry-state Undefined old = grind (arith, nat_tests)
entry-state Software old = grind (arith, nat_tests)
entry-state Interrupt old = grind (arith, nat_tests)

vector-aligned : (kind : Exception) → vector kind % 4 ≡ 0
vector-aligned Undefined = refl
vector-aligned Software = refl
vector-aligned Interrupt = refl

pub sound-entry : (kind : Exception) (link : ℕ) (file : List ℕ) → IsStoredFile file → link < 2 ^ 32
    → IsSoundFile (after_entry kind link file)
unfolding after_entry
sound-entry kind link file is word =
    let before = with_saved_status (with_status file (entry_status kind (status file))) (status file) in
    record {
      stored =
          stored-register (with_register before 14 link) 15 (vector kind)
          (stored-register before 14 link (stored-entry-status kind file is) (omega arith) word) (omega arith)
          (vector-word kind);
      aligned =
          rw (
            counter-after_entry kind link file is.whole,
            status-after_entry kind link file is.whole.count,
            entry-state kind (status file),
          ) (vector-aligned kind);
    }

pub stored-leave : (file : List ℕ) → IsStoredFile file → IsStoredFile (after_leave file)
unfolding after_leave
stored-leave file is =
    by_own (saved_place (mode file) == 31)
  where
    by_own : (test : Bool) → IsStoredFile (if test then file else with_status file (saved_status file))
    by_own true = is
    by_own false = stored-status file (saved_status file) is

-- r15 stays in a write of CPSR
pub counter-with_status : (file : List ℕ) (value : ℕ) → length file ≡ 37
    → register (with_status file value) 15 ≡ register file 15
unfolding with_status register
counter-with_status file value count =
    ap (λ p. get_or (set file 31 (written_status (status file) value)) p 0)
    (counter-place (mode (with_status file value)))
    ∙ get_or-set_other file 31 15 (written_status (status file) value) 0 (omega arith)
    ∙ sym (ap (λ p. get_or file p 0) (counter-place (mode file)))
