-- How the outputs of one console are compared with what the job states of them.
use Rattle.std.proofs.Common.{◌≡◌, ◌≢◌, ◌<◌, ◌≤◌, ℕ, ◌+◌, Bool, true, false, List, [], ◌∷◌, ◌++◌, length, nat_lt, Option, Some, None, refl, sym, ap, ◌∙◌, subst, arith}
use Rattle.std.specs.Prelude.{Contains, is_some, option_and_then, slice_index_or, if◌then◌else◌}
use Rattle.std.specs.List.{flat_map}
use Rattle.std.specs.Str.{bytes_eq}
use Rattle.std.proofs.lemmas.Bool.Decides.{nat_tests}
use Rattle.std.proofs.lemmas.List.Elements.{Contains-append_left, Contains-append_right}
use Rattle.sha2.specs.Sha256.{sha256}
use Rattle.gba_command.proofs.LeftFiles.{own-name, same-name}
use Rattle.gba_command.specs.Cause.{Cause, Digest}
use Rattle.gba_command.specs.Writing.{Output}
use Rattle.gba_joblog.proofs.EachKind.{at-per_kind}
use Rattle.gba_joblog.specs.Clash.{output_file}
use Rattle.gba_joblog.specs.Job.{ConsoleJob}
use Rattle.gba_joblog.specs.Outputs.{all_kinds, at_kind}
use Rattle.gba_joblog.specs.Statements.{asks_for, output_of}
use Rattle.gba_joblog.specs.declared.job.OutLine.{OutLine}
use Rattle.gba_joblog.specs.declared.outputs.OutKind.{OutKind}
use Rattle.gba_joblog.specs.declared.outputs.OutKind.TheVariants.{Frames, Samples, Words, State, Save}
use Rattle.gba_joblog.specs.declared.outputs.PerKind.{PerKind}
use Rattle.gba_run_files.specs.DigestsLaw.{HasDigest, digest_in, kind_number, stated_in}
use Rattle.gba_run_files.specs.Names.{names_of}
use Rattle.gba_run_files.specs.Outputs.{console_difference, console_outputs, digest_differs, first_differs, kind_differs, kind_output, or_later, output_differs, output_if}

-- ---- one output

-- what a difference of an output is
pub record IsDifference (name stated bytes : List ℕ) (cause : Cause) : Type 0 where
  pub is : cause ≡ Digest name stated (sha256 bytes)
  pub differs : sha256 bytes ≢ stated

digest-agrees : (name : List ℕ) (stated : Option (List ℕ)) (got digest : List ℕ) → digest_differs name stated got ≡ None
    → stated ≡ Some digest → got ≡ digest
digest-agrees name None got digest h is = absurd cc
digest-agrees name (Some stated) got digest h is = by (bytes_eq stated got) refl h where
  by : (t : Bool) → bytes_eq stated got ≡ t → (if t then None else Some (Digest name stated got)) ≡ None → got ≡ digest
  by true same k = let equal : stated ≡ got = same-name stated got same in cc
  by false same k = absurd cc

output-agrees : (name : List ℕ) (asked : Option OutLine) (bytes digest : List ℕ)
    → output_differs name asked bytes ≡ None → option_and_then digest_in asked ≡ Some digest → sha256 bytes ≡ digest
output-agrees name None bytes digest h is = absurd cc
output-agrees name (Some line) bytes digest h is = digest-agrees name line.digest (sha256 bytes) digest h is

digest-apart : (name : List ℕ) (stated : Option (List ℕ)) (bytes : List ℕ) (cause : Cause)
    → digest_differs name stated (sha256 bytes) ≡ Some cause
    → (digest : List ℕ) × (stated ≡ Some digest) × IsDifference name digest bytes cause
digest-apart name None bytes cause h = absurd cc
digest-apart name (Some stated) bytes cause h = by (bytes_eq stated (sha256 bytes)) refl h where
  by : (t : Bool) → bytes_eq stated (sha256 bytes) ≡ t
      → (if t then None else Some (Digest name stated (sha256 bytes))) ≡ Some cause
      → (digest : List ℕ) × (Some stated ≡ Some digest) × IsDifference name digest bytes cause
  by true same k = absurd cc
  by false same k =
      let apart : sha256 bytes ≢ stated
      = λ equal. let one : bytes_eq stated (sha256 bytes) ≡ true
      = subst (λ (x : List ℕ). bytes_eq stated x ≡ true) (sym equal) (own-name stated) in cc in
      (stated, refl, record { is = cc; differs = apart })

pub output-apart : (name : List ℕ) (asked : Option OutLine) (bytes : List ℕ) (cause : Cause)
    → output_differs name asked bytes ≡ Some cause
    → (digest : List ℕ) × (option_and_then digest_in asked ≡ Some digest) × IsDifference name digest bytes cause
output-apart name None bytes cause h = absurd cc
output-apart name (Some line) bytes cause h = digest-apart name line.digest bytes cause h

-- ---- the outputs of a console

-- the kinds are numbered in their order
kind-numbered : (kind : OutKind) → slice_index_or all_kinds (kind_number kind) Frames ≡ kind
kind-numbered Frames = refl
kind-numbered Samples = refl
kind-numbered Words = refl
kind-numbered State = refl
kind-numbered Save = refl

same-number : (one other : OutKind) → kind_number one ≡ kind_number other → one ≡ other
same-number one other same =
    sym (kind-numbered one) ∙ ap (λ n. slice_index_or all_kinds n Frames) same ∙ kind-numbered other

unfoldable AreNumbered : ℕ → List OutKind → Type 0
AreNumbered n [] = Unit {0}
AreNumbered n (kind ∷ kinds) = (kind_number kind ≡ n) × AreNumbered (n + 1) kinds

all-numbered : AreNumbered 0 all_kinds
unfolding AreNumbered
all-numbered = (refl, (refl, (refl, (refl, (refl, tt)))))

kinds-few : (kind : OutKind) → kind_number kind < 5
kinds-few Frames = omega arith
kinds-few Samples = omega arith
kinds-few Words = omega arith
kinds-few State = omega arith
kinds-few Save = omega arith

pub or-none : (one later : Option Cause) → or_later one later ≡ None → (one ≡ None) × (later ≡ None)
or-none None later h = (refl, h)
or-none (Some cause) later h = absurd cc

-- nothing is found before a kind
abbrev pub NoneBefore : (OutKind → Option Cause) → ℕ → Type 0
NoneBefore differs n = (kind : OutKind) → kind_number kind < n → differs kind ≡ None

one-more : (differs : OutKind → Option Cause) (kind : OutKind) (n : ℕ) → kind_number kind ≡ n → NoneBefore differs n
    → differs kind ≡ None → NoneBefore differs (n + 1)
one-more differs kind n here before none another below = by (nat_lt (kind_number another) n) refl where
  by : (t : Bool) → nat_lt (kind_number another) n ≡ t → differs another ≡ None
  by true less = before another (grind (arith, nat_tests))
  by false less =
      let least : n ≤ kind_number another = grind (arith, nat_tests) in
      ap differs (same-number another kind (omega (arith, below, here, least))) ∙ none

-- the first kind of which something is found
pub record IsFirst (differs : OutKind → Option Cause) (cause : Cause) : Type 0 where
  pub kind : OutKind
  pub found : differs kind ≡ Some cause
  pub before : NoneBefore differs (kind_number kind)

first-in : (differs : OutKind → Option Cause) (kinds : List OutKind) (n : ℕ) (cause : Cause) → AreNumbered n kinds
    → NoneBefore differs n → first_differs differs kinds ≡ Some cause → IsFirst differs cause
unfolding AreNumbered
first-in differs [] n cause numbered before h = absurd cc
first-in differs (kind ∷ kinds) n cause numbered before h =
    by (differs kind) refl h (λ none rest. first-in differs kinds (n + 1) cause numbered.1
    (one-more differs kind n numbered.0 before none) rest) where
      by : (one : Option Cause) → differs kind ≡ one → or_later one (first_differs differs kinds) ≡ Some cause
          → (differs kind ≡ None → first_differs differs kinds ≡ Some cause → IsFirst differs cause)
          → IsFirst differs cause
      by (Some other) is k later =
          record { kind = kind; found = is ∙ k; before = subst (NoneBefore differs) (sym numbered.0) before }
      by None is k later = later is k

none-in : (differs : OutKind → Option Cause) (kinds : List OutKind) (n : ℕ) → AreNumbered n kinds → NoneBefore differs n
    → first_differs differs kinds ≡ None → NoneBefore differs (n + length kinds)
unfolding AreNumbered
none-in differs [] n numbered before h kind below = before kind (omega (arith, below))
none-in differs (kind ∷ kinds) n numbered before h another below =
    let o = or-none (differs kind) (first_differs differs kinds) h in
    none-in differs kinds (n + 1) numbered.1 (one-more differs kind n numbered.0 before o.0) o.1 another
    (omega (arith, below))

none-yet : (differs : OutKind → Option Cause) → NoneBefore differs 0
none-yet differs kind below = absurd (omega (arith, below))

-- an output that is asked for is one of the console's
asked-there : (asked : Bool) (name bytes : List ℕ) → asked ≡ true
    → Contains (output_if asked name bytes) (record { name = name; bytes = bytes })
asked-there true name bytes is = (0, omega arith, refl)
asked-there false name bytes is = absurd cc

kinds-there : (names : PerKind (List ℕ)) (console : ConsoleJob) (files : PerKind (List ℕ)) (kind : OutKind)
    (kinds : List OutKind) (n : ℕ) → AreNumbered n kinds → n ≤ kind_number kind → kind_number kind < n + length kinds
    → asks_for console kind ≡ true
    → Contains (flat_map (kind_output names console files) kinds)
    (record { name = at_kind names kind; bytes = at_kind files kind })
unfolding AreNumbered
kinds-there names console files kind [] n numbered least below asks = absurd (omega (arith, least, below))
kinds-there names console files kind (one ∷ kinds) n numbered least below asks =
    by (nat_lt n (kind_number kind)) refl (λ more. kinds-there names console files kind kinds (n + 1) numbered.1
    (omega (arith, more)) (omega (arith, below)) asks) where
      output : Output
      output = record { name = at_kind names kind; bytes = at_kind files kind }

      rest : List Output
      rest = flat_map (kind_output names console files) kinds

      by : (t : Bool) → nat_lt n (kind_number kind) ≡ t → (n < kind_number kind → Contains rest output)
          → Contains (kind_output names console files one ++ rest) output
      by true more later =
          Contains-append_right (kind_output names console files one) rest output (later (grind (arith, nat_tests)))
      by false more later =
          let most : kind_number kind ≤ n = grind (arith, nat_tests) in
          let same : kind ≡ one = same-number kind one (omega (arith, least, most, numbered.0)) in
          Contains-append_left (kind_output names console files one) rest output
          (subst (λ (k : OutKind). Contains (kind_output names console files k) output) same
          (asked-there (asks_for console kind) (at_kind names kind) (at_kind files kind) asks))

stated-asked : (asked : Option OutLine) (digest : List ℕ) → option_and_then digest_in asked ≡ Some digest
    → is_some asked ≡ true
stated-asked None digest h = absurd cc
stated-asked (Some line) digest h = refl

pub has-left : (outputs more : List Output) (name digest : List ℕ) → HasDigest outputs name digest
    → HasDigest (outputs ++ more) name digest
has-left outputs more name digest h =
    let one : Output = record { name = name; bytes = h.bytes } in
    record { bytes = h.bytes; written = Contains-append_left outputs more one h.written; is = h.is }

pub has-right : (outputs more : List Output) (name digest : List ℕ) → HasDigest more name digest
    → HasDigest (outputs ++ more) name digest
has-right outputs more name digest h =
    let one : Output = record { name = name; bytes = h.bytes } in
    record { bytes = h.bytes; written = Contains-append_right outputs more one h.written; is = h.is }

module _ (out : List ℕ) where
  -- what a console's output of a kind is compared with
  abbrev pub differs_at : ℕ → ConsoleJob → PerKind (List ℕ) → OutKind → Option Cause
  differs_at player console files = kind_differs (names_of out player) console files

  pub named : (player : ℕ) (kind : OutKind) → at_kind (names_of out player) kind ≡ output_file out player kind
  named player kind = at-per_kind (output_file out player) kind

  -- what a console is asked for is one of its outputs
  pub console-there : (player : ℕ) (console : ConsoleJob) (files : PerKind (List ℕ)) (kind : OutKind)
      → asks_for console kind ≡ true
      → Contains (console_outputs (names_of out player) console files)
      (record { name = output_file out player kind; bytes = at_kind files kind })
  unfolding console_outputs
  console-there player console files kind asks =
      let names : PerKind (List ℕ) = names_of out player in
      let outputs : List Output = flat_map (kind_output names console files) all_kinds in
      subst (λ (name : List ℕ). Contains outputs (record { name = name; bytes = at_kind files kind }))
      (named player kind)
      (kinds-there names console files kind all_kinds 0 all-numbered (omega arith) (kinds-few kind) asks)

  pub console-has : (player : ℕ) (console : ConsoleJob) (files : PerKind (List ℕ)) (kind : OutKind)
      (stated digest : List ℕ) → stated_in kind console ≡ Some stated → sha256 (at_kind files kind) ≡ digest
      → HasDigest (console_outputs (names_of out player) console files) (output_file out player kind) digest
  console-has player console files kind stated digest says is =
      let there = console-there player console files kind (stated-asked (output_of console kind) stated says) in
      record { bytes = at_kind files kind; written = there; is = is }

  pub console-agrees : (player : ℕ) (console : ConsoleJob) (files : PerKind (List ℕ)) (kind : OutKind) (digest : List ℕ)
      → differs_at player console files kind ≡ None → stated_in kind console ≡ Some digest
      → HasDigest (console_outputs (names_of out player) console files) (output_file out player kind) digest
  console-agrees player console files kind digest none says =
      console-has player console files kind digest digest says
      (output-agrees (at_kind (names_of out player) kind) (output_of console kind) (at_kind files kind) digest
      none says)

  pub console-none : (player : ℕ) (console : ConsoleJob) (files : PerKind (List ℕ))
      → console_difference (names_of out player) console files ≡ None → (kind : OutKind)
      → differs_at player console files kind ≡ None
  unfolding console_difference
  console-none player console files h kind =
      none-in (differs_at player console files) all_kinds 0 all-numbered
      (none-yet (differs_at player console files)) h kind (kinds-few kind)

  pub console-first : (player : ℕ) (console : ConsoleJob) (files : PerKind (List ℕ)) (cause : Cause)
      → console_difference (names_of out player) console files ≡ Some cause
      → IsFirst (differs_at player console files) cause
  unfolding console_difference
  console-first player console files cause h =
      first-in (differs_at player console files) all_kinds 0 cause all-numbered
      (none-yet (differs_at player console files)) h

-- a stated digest that isn't that of an output
abbrev pub IsOfDigest : Cause → Type 0
IsOfDigest cause = (name : List ℕ) × (stated : List ℕ) × (got : List ℕ) × (cause ≡ Digest name stated got)

kinds-cause : (names : PerKind (List ℕ)) (console : ConsoleJob) (files : PerKind (List ℕ)) (kinds : List OutKind)
    (cause : Cause) → first_differs (kind_differs names console files) kinds ≡ Some cause → IsOfDigest cause
kinds-cause names console files [] cause h = absurd cc
kinds-cause names console files (kind ∷ kinds) cause h =
    by (kind_differs names console files kind) refl h (λ rest. kinds-cause names console files kinds cause rest) where
      by : (one : Option Cause) → kind_differs names console files kind ≡ one
          → or_later one (first_differs (kind_differs names console files) kinds) ≡ Some cause
          → (first_differs (kind_differs names console files) kinds ≡ Some cause → IsOfDigest cause) → IsOfDigest cause
      by (Some other) is k later =
          let a = output-apart (at_kind names kind) (output_of console kind) (at_kind files kind) cause (is ∙ k) in
          (at_kind names kind, a.0, sha256 (at_kind files kind), a.2.is)
      by None is k later = later k

pub console-cause : (names : PerKind (List ℕ)) (console : ConsoleJob) (files : PerKind (List ℕ)) (cause : Cause)
    → console_difference names console files ≡ Some cause → IsOfDigest cause
unfolding console_difference
console-cause names console files cause h = kinds-cause names console files all_kinds cause h
