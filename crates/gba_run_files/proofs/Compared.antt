-- A run ends as its outputs' digests say.
use Rattle.std.proofs.Common.{◌≡◌, ◌≢◌, ◌⊎◌, ◌<◌, ℕ, zero, suc, ◌+◌, List, [], ◌∷◌, ◌++◌, length, Option, Some, None, Err, refl, sym, ap, ◌∙◌, subst, inl, inr, arith}
use Rattle.std.specs.Prelude.{option_and_then, slice_get}
use Rattle.sha2.specs.Sha256.{sha256}
use Rattle.gba_command.specs.Cause.{Cause, NoCommand, Job, Image, Digest, Source, Frozen}
use Rattle.gba_command.specs.Writing.{Output, Run}
use Rattle.gba_joblog.specs.Clash.{output_file}
use Rattle.gba_joblog.specs.Job.{ConsoleJob, WholeJob}
use Rattle.gba_joblog.specs.Outputs.{at_kind}
use Rattle.gba_joblog.specs.Statements.{output_of}
use Rattle.gba_joblog.specs.declared.outputs.OutKind.{OutKind}
use Rattle.gba_joblog.specs.declared.outputs.PerKind.{PerKind}
use Rattle.gba_run_files.specs.DigestsLaw.{AllAgree, Compares, HasDigest, IsFirstDifference, kind_number, stated_in}
use Rattle.gba_run_files.specs.Names.{RunNames, names_from, names_of, run_names}
use Rattle.gba_run_files.specs.Outputs.{console_difference, console_outputs, difference_of, or_later, outputs_of}
use Rattle.gba_run_files.specs.Written.{conclusion, log_line, log_of, log_output, written}
use Rattle.gba_run_files.proofs.ConsoleDifferences.{IsFirst, IsOfDigest, console-agrees, console-cause, console-first, console-has, console-none, differs_at, has-left, has-right, named, or-none, output-apart}

module _ (out : List ℕ) where
  -- ---- the outputs of all consoles

  abbrev stated_here : List ConsoleJob → ℕ → OutKind → Option (List ℕ)
  stated_here consoles k kind = option_and_then (stated_in kind) (slice_get consoles k)

  -- the outputs of the consoles from a player on, and their differences
  abbrev outputs_from : ℕ → ℕ → List ConsoleJob → List (PerKind (List ℕ)) → List Output
  outputs_from player count consoles files = outputs_of (names_from out player count) consoles files

  abbrev difference_from : ℕ → ℕ → List ConsoleJob → List (PerKind (List ℕ)) → Option Cause
  difference_from player count consoles files = difference_of (names_from out player count) consoles files

  abbrev HasAt : List Output → ℕ → ℕ → OutKind → List ℕ → Type 0
  HasAt outputs player k kind digest = HasDigest outputs (output_file out (player + k) kind) digest

  first-place : (outputs : List Output) (player : ℕ) (kind : OutKind) (digest : List ℕ)
      → HasDigest outputs (output_file out player kind) digest → HasAt outputs player 0 kind digest
  first-place outputs player kind digest h =
      let is : player ≡ player + 0 = omega arith in
      subst (λ (p : ℕ). HasDigest outputs (output_file out p kind) digest) is h

  later-place : (outputs : List Output) (player k : ℕ) (kind : OutKind) (digest : List ℕ)
      → HasAt outputs (player + 1) k kind digest → HasAt outputs player (suc k) kind digest
  later-place outputs player k kind digest h =
      let is : (player + 1) + k ≡ player + suc k = omega arith in
      subst (λ (p : ℕ). HasDigest outputs (output_file out p kind) digest) is h

  consoles-none : (player count : ℕ) (consoles : List ConsoleJob) (files : List (PerKind (List ℕ)))
      → length consoles ≡ count → length files ≡ count → difference_from player count consoles files ≡ None
      → (k : ℕ) (kind : OutKind) (digest : List ℕ) → stated_here consoles k kind ≡ Some digest
      → HasAt (outputs_from player count consoles files) player k kind digest
  unfolding difference_of outputs_of names_from
  consoles-none player count [] files long many h k kind digest says = absurd cc
  consoles-none player zero (c ∷ consoles) files long many h k kind digest says = absurd (omega (arith, long))
  consoles-none player (suc count) (c ∷ consoles) [] long many h k kind digest says = absurd (omega (arith, many))
  consoles-none player (suc count) (c ∷ consoles) (one ∷ files) long many h zero kind digest says =
      let o =
      or-none (console_difference (names_of out player) c one) (difference_from (player + 1) count consoles files) h in
      let here : List Output = console_outputs (names_of out player) c one in
      let more : List Output = outputs_from (player + 1) count consoles files in
      first-place (here ++ more) player kind digest (has-left here more (output_file out player kind) digest
      (console-agrees out player c one kind digest (console-none out player c one o.0 kind) says))
  consoles-none player (suc count) (c ∷ consoles) (one ∷ files) long many h (suc k) kind digest says =
      let o =
      or-none (console_difference (names_of out player) c one) (difference_from (player + 1) count consoles files) h in
      let here : List Output = console_outputs (names_of out player) c one in
      let more : List Output = outputs_from (player + 1) count consoles files in
      later-place (here ++ more) player k kind digest
      (has-right here more (output_file out (player + 1 + k) kind) digest
      (consoles-none (player + 1) count consoles files (omega (arith, long)) (omega (arith, many)) o.1 k kind
      digest says))

  -- the first difference of consoles from a player on
  record IsFirstOf (player : ℕ) (consoles : List ConsoleJob) (outputs : List Output) (cause : Cause) : Type 0 where
    k : ℕ
    kind : OutKind
    stated : List ℕ
    got : List ℕ
    says : stated_here consoles k kind ≡ Some stated
    is : cause ≡ Digest (output_file out (player + k) kind) stated got
    has : HasAt outputs player k kind got
    differs : got ≢ stated
    earlier : (j : ℕ) (another : OutKind) (digest : List ℕ)
        → (j < k) ⊎ ((j ≡ k) × (kind_number another < kind_number kind)) → stated_here consoles j another ≡ Some digest
        → HasAt outputs player j another digest

  consoles-first : (player count : ℕ) (consoles : List ConsoleJob) (files : List (PerKind (List ℕ))) (cause : Cause)
      → length consoles ≡ count → length files ≡ count → difference_from player count consoles files ≡ Some cause
      → IsFirstOf player consoles (outputs_from player count consoles files) cause
  unfolding difference_of outputs_of names_from
  consoles-first player zero [] files cause long many h = absurd cc
  consoles-first player (suc count) [] files cause long many h = absurd (omega (arith, long))
  consoles-first player zero (c ∷ consoles) files cause long many h = absurd (omega (arith, long))
  consoles-first player (suc count) (c ∷ consoles) [] cause long many h = absurd (omega (arith, many))
  consoles-first player (suc count) (c ∷ consoles) (one ∷ files) cause long many h =
      by (console_difference (names_of out player) c one) refl h
      (λ rest. consoles-first (player + 1) count consoles files cause (omega (arith, long)) (omega (arith, many))
      rest) where
        here : List Output
        here = console_outputs (names_of out player) c one

        more : List Output
        more = outputs_from (player + 1) count consoles files

        this-first : IsFirst (differs_at out player c one) cause → IsFirstOf player (c ∷ consoles) (here ++ more) cause
        this-first f =
            let a =
            output-apart (at_kind (names_of out player) f.kind) (output_of c f.kind) (at_kind one f.kind) cause
            f.found in
            let got : List ℕ = sha256 (at_kind one f.kind) in
            let file : List ℕ = output_file out player f.kind in
            let is : cause ≡ Digest file a.0 got
            = a.2.is ∙ ap (λ (name : List ℕ). Digest name a.0 got) (named out player f.kind) in
            let place : player ≡ player + 0 = omega arith in
            record {
              k = 0;
              kind = f.kind;
              stated = a.0;
              got = got;
              says = a.1;
              is = is ∙ ap (λ (p : ℕ). Digest (output_file out p f.kind) a.0 got) place;
              has = first-place (here ++ more) player f.kind got
                  (has-left here more file got (console-has out player c one f.kind a.0 got a.1 refl));
              differs = a.2.differs;
              earlier = before;
            } where
              before : (j : ℕ) (another : OutKind) (digest : List ℕ)
                  → (j < 0) ⊎ ((j ≡ 0) × (kind_number another < kind_number f.kind))
                  → stated_here (c ∷ consoles) j another ≡ Some digest → HasAt (here ++ more) player j another digest
              before j another digest (inl less) says = absurd (omega (arith, less))
              before zero another digest (inr less) says =
                  first-place (here ++ more) player another digest
                  (has-left here more (output_file out player another) digest
                  (console-agrees out player c one another digest (f.before another less.1) says))
              before (suc j) another digest (inr less) says = absurd (omega (arith, less.0))

        later-first : console_difference (names_of out player) c one ≡ None → IsFirstOf (player + 1) consoles more cause
            → IsFirstOf player (c ∷ consoles) (here ++ more) cause
        later-first none f =
            let place : (player + 1) + f.k ≡ player + suc f.k = omega arith in
            record {
              k = suc f.k;
              kind = f.kind;
              stated = f.stated;
              got = f.got;
              says = f.says;
              is = f.is ∙ ap (λ (p : ℕ). Digest (output_file out p f.kind) f.stated f.got) place;
              has = later-place (here ++ more) player f.k f.kind f.got
                  (has-right here more (output_file out (player + 1 + f.k) f.kind) f.got f.has);
              differs = f.differs;
              earlier = before;
            } where
              this : (another : OutKind) (digest : List ℕ) → stated_in another c ≡ Some digest
                  → HasAt (here ++ more) player 0 another digest
              this another digest says =
                  first-place (here ++ more) player another digest
                  (has-left here more (output_file out player another) digest
                  (console-agrees out player c one another digest (console-none out player c one none another) says))

              after : (j : ℕ) (another : OutKind) (digest : List ℕ) → HasAt more (player + 1) j another digest
                  → HasAt (here ++ more) player (suc j) another digest
              after j another digest has =
                  later-place (here ++ more) player j another digest
                  (has-right here more (output_file out (player + 1 + j) another) digest has)

              before : (j : ℕ) (another : OutKind) (digest : List ℕ)
                  → (j < suc f.k) ⊎ ((j ≡ suc f.k) × (kind_number another < kind_number f.kind))
                  → stated_here (c ∷ consoles) j another ≡ Some digest → HasAt (here ++ more) player j another digest
              before zero another digest order says = this another digest says
              before (suc j) another digest (inl less) says =
                  after j another digest (f.earlier j another digest (inl (omega (arith, less))) says)
              before (suc j) another digest (inr less) says =
                  after j another digest (f.earlier j another digest (inr (omega (arith, less.0), less.1)) says)

        by : (one_difference : Option Cause) → console_difference (names_of out player) c one ≡ one_difference
            → or_later one_difference (difference_from (player + 1) count consoles files) ≡ Some cause
            → (difference_from (player + 1) count consoles files ≡ Some cause
            → IsFirstOf (player + 1) consoles more cause)
            → IsFirstOf player (c ∷ consoles) (here ++ more) cause
        by (Some other) is k later = this-first (console-first out player c one cause (is ∙ k))
        by None is k later = later-first is (later k)

  -- ---- the run

  module _ (count : ℕ) (job : WholeJob) (files : List (PerKind (List ℕ))) (lines : List ℕ) (pieces : List Output)
      (long : length job.consoles ≡ count) (many : length files ≡ count) where
    abbrev run : Run
    run = written (run_names out count) job files lines pieces

    abbrev made : List Output
    made = outputs_from 0 count job.consoles files

    abbrev log : List Output
    log = log_output (run_names out count) (log_of job files) ∷ []

    whole : (k : ℕ) (kind : OutKind) (digest : List ℕ) → HasAt made 0 k kind digest
        → HasDigest run.outputs (output_file out k kind) digest
    whole k kind digest has =
        let place : 0 + k ≡ k = omega arith in
        has-left made log (output_file out k kind) digest
        (subst (λ (p : ℕ). HasDigest made (output_file out p kind) digest) place has)

    all-agree : difference_from 0 count job.consoles files ≡ None → AllAgree out job run
    all-agree none place digest says =
        whole place.player place.kind digest
        (consoles-none 0 count job.consoles files long many none place.player place.kind digest says)

    first-difference : (name stated got : List ℕ)
        → IsFirstOf 0 job.consoles made (Digest name stated got) → IsFirstDifference out job run name stated got
    first-difference name stated got f =
        let number : 0 + f.k ≡ f.k = omega arith in
        let is : Digest name stated got ≡ Digest (output_file out f.k f.kind) f.stated f.got
        = f.is ∙ ap (λ (p : ℕ). Digest (output_file out p f.kind) f.stated f.got) number in
        let named : name ≡ output_file out f.k f.kind = cc in
        let same : stated ≡ f.stated = cc in
        let gets : got ≡ f.got = cc in
        let has : HasDigest run.outputs (output_file out f.k f.kind) f.got = whole f.k f.kind f.got f.has in
        record {
          place = record { player = f.k; kind = f.kind };
          named = named;
          says = f.says ∙ ap (λ (d : List ℕ). Some d) (sym same);
          has = subst (λ (d : List ℕ). HasDigest run.outputs name d) (sym gets)
              (subst (λ (n : List ℕ). HasDigest run.outputs n f.got) (sym named) has);
          differs = λ equal. f.differs (sym gets ∙ equal ∙ same);
          earlier = λ other digest before says.
              whole other.player other.kind digest (f.earlier other.player other.kind digest before says);
        }

    found : (cause : Cause) → IsFirstOf 0 job.consoles made cause → Compares out job run (Err cause)
    found (Digest name stated got) f = first-difference name stated got f
    found NoCommand f = let is = f.is in absurd cc
    found (Job name error) f = let is = f.is in absurd cc
    found (Image name error) f = let is = f.is in absurd cc
    found (Source name error) f = let is = f.is in absurd cc
    found (Frozen name error) f = let is = f.is in absurd cc

    pub written-compared : Compares out job run run.end
    written-compared = by (difference_from 0 count job.consoles files) refl where
      by : (difference : Option Cause) → difference_from 0 count job.consoles files ≡ difference
          → Compares out job run (conclusion difference (lines ++ log_line (log_of job files)))
      by None is = all-agree is
      by (Some cause) is = found cause (consoles-first 0 count job.consoles files cause long many is)

-- ---- why a run is refused

consoles-cause : (names : List (PerKind (List ℕ))) (consoles : List ConsoleJob) (files : List (PerKind (List ℕ)))
    (cause : Cause) → difference_of names consoles files ≡ Some cause → IsOfDigest cause
unfolding difference_of
consoles-cause [] consoles files cause h = absurd cc
consoles-cause (n ∷ names) [] files cause h = absurd cc
consoles-cause (n ∷ names) (c ∷ consoles) [] cause h = absurd cc
consoles-cause (n ∷ names) (c ∷ consoles) (one ∷ files) cause h =
    by (console_difference n c one) refl h (λ rest. consoles-cause names consoles files cause rest) where
      by : (here : Option Cause) → console_difference n c one ≡ here
          → or_later here (difference_of names consoles files) ≡ Some cause
          → (difference_of names consoles files ≡ Some cause → IsOfDigest cause) → IsOfDigest cause
      by (Some other) is k later = console-cause n c one cause (is ∙ k)
      by None is k later = later k

-- a run is refused for nothing else
pub written-cause : (names : RunNames) (job : WholeJob) (files : List (PerKind (List ℕ))) (lines : List ℕ)
    (pieces : List Output) (cause : Cause) → (written names job files lines pieces).end ≡ Err cause → IsOfDigest cause
written-cause names job files lines pieces cause h = by (difference_of names.consoles job.consoles files) refl h where
  by : (difference : Option Cause) → difference_of names.consoles job.consoles files ≡ difference
      → conclusion difference (lines ++ log_line (log_of job files)) ≡ Err cause → IsOfDigest cause
  by None is k = absurd cc
  by (Some other) is k =
      let same : other ≡ cause = cc in
      consoles-cause names.consoles job.consoles files cause (is ∙ ap (λ (c : Cause). Some c) same)
