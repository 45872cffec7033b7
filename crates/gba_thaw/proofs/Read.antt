-- What is kept of a frozen file's lines, once all are read, and what the file comes to.
use Rattle.std.proofs.Common.{◌≡◌, ◌<◌, ◌≤◌, ℕ, zero, suc, ◌+◌, List, [], ◌∷◌, length, map, get_or, Option, Err, refl, ap, sym, ◌∙◌, subst, arith}
use Rattle.std.proofs.lemmas.List.{get_or-map}
use Rattle.gba_console.specs.Machine.{Machine}
use Rattle.gba_filling.specs.Consoles.{IsFilled}
use Rattle.gba_filling.specs.Filling.{FilledJob, IsFilledJob}
use Rattle.gba_filling.specs.Loose.{LooseConsole}
use Rattle.gba_frozen.specs.Places.{backup_of}
use Rattle.gba_frozen.specs.Reading.{ConsoleDraft, Draft, console_at_first, frozen_language, judged}
use Rattle.gba_frozen.specs.declared.kinds.Setup.{Setup}
use Rattle.gba_frozen.specs.declared.kinds.ThawKind.{ThawKind}
use Rattle.gba_image.specs.declared.backup.Backup.{Backup}
use Rattle.gba_image.specs.declared.backup.Backup.TheVariants.{Sram}
use Rattle.gba_snapshot.specs.Console.{backup_in}
use Rattle.gba_text.specs.Languages.{answer_of}
use Rattle.gba_text.specs.declared.kinds.LineError.{LineError}
use Rattle.gba_thaw.proofs.Follows.{answers-follow, drafts, follow, judged-follows}
use Rattle.gba_thaw.proofs.Wholes.{AllMatch, all-come, all-long}
use Rattle.gba_thaw.specs.Cut.{backup_at, cut_if, setup_of, whole_of}
use Rattle.gba_thaw.specs.Loose.{AllHaveLengths, all_thawed}
use Rattle.gba_filling.specs.Signals.{sent_of}
use Rattle.link_order.specs.Cut.{Cut}

-- ---- the answer

pub refused-as : {A : Type 0} (setup S : Setup) (w : Draft → Option A) (bytes : List ℕ) (e : LineError ThawKind)
    → setup ≡ S → ((whole : Draft → Option Draft) → answer_of (frozen_language setup whole) bytes ≡ Err e)
    → answer_of (frozen_language S w) bytes ≡ Err e
refused-as setup S w bytes e same each =
    answers-follow S w bytes
    ∙ ap (follow S w) (ap (λ (s : Setup). answer_of (frozen_language s (drafts S w)) bytes) (sym same)
    ∙ each (drafts S w))

pub thawed-as : {A : Type 0} (setup S : Setup) (w : Draft → Option A) (bytes : List ℕ) (number : ℕ) (d : Draft)
    → setup ≡ S
    → ((whole : Draft → Option Draft) → answer_of (frozen_language setup whole) bytes ≡ judged number (whole d))
    → answer_of (frozen_language S w) bytes ≡ judged number (w d)
thawed-as setup S w bytes number d same each =
    answers-follow S w bytes
    ∙ ap (follow S w) (ap (λ (s : Setup). answer_of (frozen_language s (drafts S w)) bytes) (sym same)
    ∙ each (drafts S w))
    ∙ sym (judged-follows S w number d)

-- ---- the consoles

match-from : (setup : Setup) (player : ℕ) (ms : List Machine) (ds : List ConsoleDraft) (fs : List LooseConsole)
    → length ds ≡ length ms → length fs ≡ length ms
    → ((j : ℕ) (f : LooseConsole) → j < length ms
    → IsFilled (backup_of setup (player + j)) (get_or ds j console_at_first) (get_or fs j f))
    → ((j : ℕ) (m : Machine) → j < length ms → backup_of setup (player + j) ≡ backup_in (get_or ms j m))
    → AllMatch ms ds fs
unfolding AllMatch
match-from setup player [] ds fs many same each kept = tt
match-from setup player (m ∷ ms) [] fs many same each kept = absurd (omega (arith, many))
match-from setup player (m ∷ ms) (d ∷ ds) [] many same each kept = absurd (omega (arith, same))
match-from setup player (m ∷ ms) (d ∷ ds) (f ∷ fs) many same each kept = (
  subst (λ (b : Backup). IsFilled b d f) (kept 0 m (omega arith)) (each 0 f (omega arith)),
  match-from setup (player + 1) ms ds fs (omega (arith, many)) (omega (arith, same))
      (λ j g within. let here : player + suc j ≡ player + 1 + j = omega arith in
      subst (λ (p : ℕ). IsFilled (backup_of setup p) (get_or ds j console_at_first) (get_or fs j g)) here
      (each (suc j) g (omega (arith, within))))
      (λ j n within. let here : player + suc j ≡ player + 1 + j = omega arith in
      subst (λ (p : ℕ). backup_of setup p ≡ backup_in (get_or ms j n)) here (kept (suc j) n (omega (arith, within)))),
)

-- what keeps the saves of each console of a job
setup-backup : (digest : List ℕ) (until : ℕ) (ms : List Machine) (j : ℕ) (m : Machine) → length ms ≤ 4 → j < length ms
    → backup_of (setup_of digest until ms) j ≡ backup_in (get_or ms j m)
setup-backup digest until ms j m few within = by j refl within where
  there : (k : ℕ) → k < length ms → backup_at k ms ≡ backup_in (get_or ms k m)
  there k inside = get_or-map backup_in ms k m Sram inside

  by : (k : ℕ) → j ≡ k → k < length ms → backup_of (setup_of digest until ms) k ≡ backup_in (get_or ms k m)
  by zero same inside = there 0 inside
  by (suc zero) same inside = there 1 inside
  by (suc (suc zero)) same inside = there 2 inside
  by (suc (suc (suc zero))) same inside = there 3 inside
  by (suc (suc (suc (suc k)))) same inside = absurd (omega (arith, inside, few))

module _ (digest : List ℕ) (until : ℕ) (start : Cut Machine) (setup : Setup)
    (same : setup ≡ setup_of digest until start.consoles) (few : length start.consoles ≤ 4) (j : FilledJob) (d : Draft)
    (held : IsFilledJob j setup d) (many : length d.consoles ≡ setup.consoles) where
  pub count-is : length j.consoles ≡ length start.consoles
  count-is = held.count ∙ ap (λ (s : Setup). s.consoles) same

  pub all-match : AllMatch start.consoles d.consoles j.consoles
  all-match =
      let count : setup.consoles ≡ length start.consoles = ap (λ (s : Setup). s.consoles) same in
      match-from (setup_of digest until start.consoles) 0 start.consoles d.consoles j.consoles (many ∙ count) count-is
      (λ k f within. let here : k ≡ 0 + k = omega arith in
      subst (λ (p : ℕ). IsFilled (backup_of (setup_of digest until start.consoles) p)
      (get_or d.consoles k console_at_first) (get_or j.consoles k f)) here
      (subst (λ (s : Setup). IsFilled (backup_of s k) (get_or d.consoles k console_at_first) (get_or j.consoles k f))
      same (held.consoles k f (omega (arith, within, count-is)))))
      (λ k m within. let here : k ≡ 0 + k = omega arith in
      subst (λ (p : ℕ). backup_of (setup_of digest until start.consoles) p ≡ backup_in (get_or start.consoles k m)) here
      (setup-backup digest until start.consoles k m few within))

  pub have-lengths : AllHaveLengths start.consoles j.consoles
  have-lengths = all-long start.consoles d.consoles j.consoles all-match

  -- what they come to is what the definition says
  pub whole-is : whole_of until start d
      ≡ cut_if start.delays (map sent_of d.sent) (all_thawed until start.consoles j.consoles)
  unfolding whole_of
  whole-is =
      ap (cut_if start.delays (map sent_of d.sent))
      (sym (all-come until start.consoles d.consoles j.consoles all-match))
