-- A run writes the outputs that its job asks for, and no others.
use Rattle.std.proofs.Common.{◌≡◌, ◌⊎◌, ℕ, zero, suc, ◌+◌, Bool, true, false, List, [], ◌∷◌, ◌++◌, length, map, Option, Some, None, refl, sym, ap, ◌∙◌, subst, inl, inr, arith}
use Rattle.std.specs.Prelude.{Contains, IfOk, cond, is_some, option_and_then, slice_get, if◌then◌else◌}
use Rattle.std.specs.List.{All, count_by, flat_map, sum_by}
use Rattle.std.proofs.lemmas.List.{length-append}
use Rattle.std.proofs.lemmas.List.Elements.{All-append, All-cons, All-nil, Contains-append_left, Contains-append_right, Contains-push}
use Rattle.std.proofs.lemmas.List.Sums.{sum_by-cons}
use Rattle.gba_command.specs.Cause.{Cause}
use Rattle.gba_command.specs.Writing.{Output, Run}
use Rattle.gba_console.specs.Machine.{Machine}
use Rattle.gba_joblog.proofs.EachKind.{at-per_kind}
use Rattle.gba_joblog.specs.Clash.{output_file}
use Rattle.gba_joblog.specs.Job.{ConsoleJob, WholeJob}
use Rattle.gba_joblog.specs.Outputs.{all_kinds, at_kind}
use Rattle.gba_joblog.specs.Statements.{asks_for}
use Rattle.gba_joblog.specs.declared.outputs.OutKind.{OutKind}
use Rattle.gba_joblog.specs.declared.outputs.OutKind.TheVariants.{Frames, Samples, Words, State, Save}
use Rattle.gba_joblog.specs.declared.outputs.PerKind.{PerKind}
use Rattle.gba_run_files.proofs.ConsoleDifferences.{console-there}
use Rattle.gba_run_files.specs.AskedLaw.{HasFile, IsAskedFile, IsMade, KeepsAsked, console_count, is_asked, line_in}
use Rattle.gba_run_files.specs.DigestsLaw.{Place}
use Rattle.gba_run_files.specs.Names.{names_from, names_of, run_names}
use Rattle.gba_run_files.specs.Outputs.{console_outputs, difference_of, kind_output, output_if, outputs_of}
use Rattle.gba_run_files.specs.Written.{conclusion, files_at, log_line, log_of, log_output, summary_lines, written}
use Rattle.gba_session.specs.Files.{all_files, asks_of, bytes_if, files_of, output_bytes}
use Rattle.link_order.specs.Cut.{Cut}

-- ---- one output

made : (kind : OutKind) (m : Machine) → IsMade kind m (output_bytes kind m)
made Frames m = refl
made Samples m = refl
made Words m = refl
made State m = refl
made Save m = refl

-- what is asked for is written
pub asked-bytes : (console : ConsoleJob) (m : Machine) (kind : OutKind) → asks_for console kind ≡ true
    → at_kind (files_of (asks_of console) m) kind ≡ output_bytes kind m
asked-bytes console m kind asks =
    at-per_kind (bytes_if (asks_of console) m) kind
    ∙ ap (λ (asked : Bool). if asked then output_bytes kind m else []) (at-per_kind (asks_for console) kind ∙ asks)

-- a job asks one of its consoles for an output
pub asked-console : (kind : OutKind) (there : Option ConsoleJob) → is_some (option_and_then (line_in kind) there) ≡ true
    → (console : ConsoleJob) × (there ≡ Some console) × (asks_for console kind ≡ true)
asked-console kind None asks = absurd cc
asked-console kind (Some console) asks = (console, refl, asks)

-- ---- how many outputs there are

if-many : (asked : Bool) (name bytes : List ℕ) → length (output_if asked name bytes) ≡ cond asked 1 0
if-many true name bytes = refl
if-many false name bytes = refl

kinds-many : (names : PerKind (List ℕ)) (console : ConsoleJob) (files : PerKind (List ℕ)) (kinds : List OutKind)
    → length (flat_map (kind_output names console files) kinds) ≡ count_by (asks_for console) kinds
kinds-many names console files [] = refl
kinds-many names console files (kind ∷ kinds) =
    let here = kind_output names console files kind in
    let rest = flat_map (kind_output names console files) kinds in
    let both = length-append here rest in
    let one = if-many (asks_for console kind) (at_kind names kind) (at_kind files kind) in
    let count = sum_by-cons (λ one. cond (asks_for console one) 1 0) kind kinds in
    omega (arith, both, one, kinds-many names console files kinds, count)

console-many : (names : PerKind (List ℕ)) (console : ConsoleJob) (files : PerKind (List ℕ))
    → length (console_outputs names console files) ≡ console_count console
unfolding console_outputs
console-many names console files = kinds-many names console files all_kinds

module _ (out : List ℕ) where
  outputs-many : (player count : ℕ) (consoles : List ConsoleJob) (files : List (PerKind (List ℕ)))
      → length consoles ≡ count → length files ≡ count
      → length (outputs_of (names_from out player count) consoles files) ≡ sum_by console_count consoles
  unfolding outputs_of names_from
  outputs-many player zero [] files long many = refl
  outputs-many player (suc count) [] files long many = absurd (omega (arith, long))
  outputs-many player zero (c ∷ consoles) files long many = absurd (omega (arith, long))
  outputs-many player (suc count) (c ∷ consoles) [] long many = absurd (omega (arith, many))
  outputs-many player (suc count) (c ∷ consoles) (one ∷ files) long many =
      let here = console_outputs (names_of out player) c one in
      let rest = outputs_of (names_from out (player + 1) count) consoles files in
      let both = length-append here rest in
      let more = outputs-many (player + 1) count consoles files (omega (arith, long)) (omega (arith, many)) in
      omega (arith, both, more, console-many (names_of out player) c one, sum_by-cons console_count c consoles)

  -- ---- which outputs there are

  -- the file of an output of the console that stands so many places behind a player
  abbrev pub file_of : ℕ → ℕ → OutKind → PerKind (List ℕ) → Output
  file_of player k kind one = record { name = output_file out (player + k) kind; bytes = at_kind one kind }

  first-file : (player : ℕ) (kind : OutKind) (one : PerKind (List ℕ))
      → record { name = output_file out player kind; bytes = at_kind one kind } ≡ file_of player 0 kind one
  first-file player kind one =
      let is : player ≡ player + 0 = omega arith in
      ap (λ (p : ℕ). record { name = output_file out p kind; bytes = at_kind one kind }) is

  later-file : (player k : ℕ) (kind : OutKind) (one : PerKind (List ℕ))
      → file_of (player + 1) k kind one ≡ file_of player (suc k) kind one
  later-file player k kind one =
      let is : (player + 1) + k ≡ player + suc k = omega arith in
      ap (λ (p : ℕ). record { name = output_file out p kind; bytes = at_kind one kind }) is

  pub player-file : (player : ℕ) (kind : OutKind) (one : PerKind (List ℕ))
      → file_of 0 player kind one ≡ record { name = output_file out player kind; bytes = at_kind one kind }
  player-file player kind one =
      let is : 0 + player ≡ player = omega arith in
      ap (λ (p : ℕ). record { name = output_file out p kind; bytes = at_kind one kind }) is

  -- each that is asked for is there
  pub outputs-there : (player count : ℕ) (consoles : List ConsoleJob) (files : List (PerKind (List ℕ))) (k : ℕ)
      (kind : OutKind) (console : ConsoleJob) (one : PerKind (List ℕ)) → length consoles ≡ count
      → slice_get consoles k ≡ Some console → slice_get files k ≡ Some one → asks_for console kind ≡ true
      → Contains (outputs_of (names_from out player count) consoles files) (file_of player k kind one)
  unfolding outputs_of names_from
  outputs-there player count [] files k kind console one long is gives asks = absurd cc
  outputs-there player zero (c ∷ consoles) files k kind console one long is gives asks = absurd (omega (arith, long))
  outputs-there player (suc count) (c ∷ consoles) [] k kind console one long is gives asks = absurd cc
  outputs-there player (suc count) (c ∷ consoles) (f ∷ files) zero kind console one long is gives asks =
      let here = console_outputs (names_of out player) c f in
      let rest = outputs_of (names_from out (player + 1) count) consoles files in
      let same : c ≡ console = cc in
      let made_of : f ≡ one = cc in
      let asks_here : asks_for c kind ≡ true = ap (λ (x : ConsoleJob). asks_for x kind) same ∙ asks in
      subst (λ (x : PerKind (List ℕ)). Contains (here ++ rest) (file_of player 0 kind x)) made_of
      (subst (λ (x : Output). Contains (here ++ rest) x) (first-file player kind f)
      (Contains-append_left here rest _ (console-there out player c f kind asks_here)))
  outputs-there player (suc count) (c ∷ consoles) (f ∷ files) (suc k) kind console one long is gives asks =
      let here = console_outputs (names_of out player) c f in
      let rest = outputs_of (names_from out (player + 1) count) consoles files in
      subst (λ (x : Output). Contains (here ++ rest) x) (later-file player k kind one)
      (Contains-append_right here rest _
      (outputs-there (player + 1) count consoles files k kind console one (omega (arith, long)) is gives asks))

  -- what holds of each that is asked for holds of each output
  if-all : (P : Output → Type 0) (asked : Bool) (name bytes : List ℕ)
      → (asked ≡ true → P (record { name = name; bytes = bytes })) → All P (output_if asked name bytes)
  if-all P true name bytes h = All-cons P (record { name = name; bytes = bytes }) [] (h refl) (All-nil P)
  if-all P false name bytes h = All-nil P

  kinds-all : (P : Output → Type 0) (player : ℕ) (console : ConsoleJob) (files : PerKind (List ℕ))
      (kinds : List OutKind) → ((kind : OutKind) → asks_for console kind ≡ true → P (file_of player 0 kind files))
      → All P (flat_map (kind_output (names_of out player) console files) kinds)
  kinds-all P player console files [] h = All-nil P
  kinds-all P player console files (kind ∷ kinds) h =
      let name = at-per_kind (output_file out player) kind in
      let same : record { name = at_kind (names_of out player) kind; bytes = at_kind files kind }
      ≡ file_of player 0 kind files
      = ap (λ (x : List ℕ). record { name = x; bytes = at_kind files kind }) name ∙ first-file player kind files in
      All-append P (kind_output (names_of out player) console files kind)
      (flat_map (kind_output (names_of out player) console files) kinds)
      (if-all P (asks_for console kind) (at_kind (names_of out player) kind) (at_kind files kind)
      (λ asks. subst P (sym same) (h kind asks)))
      (kinds-all P player console files kinds h)

  console-all : (P : Output → Type 0) (player : ℕ) (console : ConsoleJob) (files : PerKind (List ℕ))
      → ((kind : OutKind) → asks_for console kind ≡ true → P (file_of player 0 kind files))
      → All P (console_outputs (names_of out player) console files)
  unfolding console_outputs
  console-all P player console files h = kinds-all P player console files all_kinds h

  outputs-all : (P : Output → Type 0) (player count : ℕ) (consoles : List ConsoleJob) (files : List (PerKind (List ℕ)))
      → ((k : ℕ) (kind : OutKind) (console : ConsoleJob) (one : PerKind (List ℕ)) → slice_get consoles k ≡ Some console
      → slice_get files k ≡ Some one → asks_for console kind ≡ true → P (file_of player k kind one))
      → All P (outputs_of (names_from out player count) consoles files)
  unfolding outputs_of names_from
  outputs-all P player zero consoles files h = All-nil P
  outputs-all P player (suc count) [] files h = All-nil P
  outputs-all P player (suc count) (c ∷ consoles) [] h = All-nil P
  outputs-all P player (suc count) (c ∷ consoles) (f ∷ files) h =
      All-append P (console_outputs (names_of out player) c f)
      (outputs_of (names_from out (player + 1) count) consoles files)
      (console-all P player c f (λ kind asks. h 0 kind c f refl refl asks))
      (outputs-all P (player + 1) count consoles files (λ k kind console one is gives asks.
      subst P (sym (later-file player k kind one)) (h (suc k) kind console one is gives asks)))

-- ---- the files of consoles

-- the console of a player that a job has, and what is written of it
pub files-give : (consoles : List ConsoleJob) (ms : List Machine) (k : ℕ) (console : ConsoleJob)
    → length ms ≡ length consoles → slice_get consoles k ≡ Some console
    → (m : Machine) × (slice_get ms k ≡ Some m)
    × (slice_get (all_files (map asks_of consoles) ms) k ≡ Some (files_of (asks_of console) m))
unfolding all_files
files-give [] ms k console many is = absurd cc
files-give (c ∷ consoles) [] k console many is = absurd (omega (arith, many))
files-give (c ∷ consoles) (m ∷ ms) zero console many is =
    let same : c ≡ console = cc in
    (m, refl, ap (λ (x : ConsoleJob). Some (files_of (asks_of x) m)) same)
files-give (c ∷ consoles) (m ∷ ms) (suc k) console many is = files-give consoles ms k console (omega (arith, many)) is

-- ---- the run

asked-if : (kind : OutKind) (there : Option ConsoleJob) (console : ConsoleJob) → there ≡ Some console
    → asks_for console kind ≡ true → is_some (option_and_then (line_in kind) there) ≡ true
asked-if kind there console is asks =
    ap (λ (x : Option ConsoleJob). is_some (option_and_then (line_in kind) x)) is ∙ asks

ends-so : (cause : Option Cause) (summary : List ℕ) → IfOk (conclusion cause summary) (λ end. end ≡ summary)
ends-so None summary = refl
ends-so (Some cause) summary = tt

module _ (out : List ℕ) (job : WholeJob) (cut : Cut Machine) (pieces : List Output) (count : ℕ)
    (long : length job.consoles ≡ count) (many : length cut.consoles ≡ length job.consoles)
    (files_many : length (files_at job cut) ≡ length job.consoles) where
  abbrev run : Run
  run = written (run_names out count) job (files_at job cut) (summary_lines cut.consoles) pieces

  abbrev outputs : List Output
  outputs = outputs_of (names_from out 0 count) job.consoles (files_at job cut)

  abbrev log : Output
  log = log_output (run_names out count) (log_of job (files_at job cut))

  has-file : (place : Place) → is_asked job place ≡ true → HasFile out cut run.outputs place
  has-file place asked =
      let a = asked-console place.kind (slice_get job.consoles place.player) asked in
      let f = files-give job.consoles cut.consoles place.player a.0 many a.1 in
      let one : PerKind (List ℕ) = files_of (asks_of a.0) f.0 in
      let file : Output = record { name = output_file out place.player place.kind; bytes = at_kind one place.kind } in
      let there : Contains outputs file = subst (Contains outputs) (player-file out place.player place.kind one)
      (outputs-there out 0 count job.consoles (files_at job cut) place.player place.kind a.0 one long a.1 f.2 a.2) in
      record {
        bytes = at_kind one place.kind;
        written = Contains-append_left outputs (log ∷ []) file there;
        console = f.0;
        of_player = f.1;
        made = subst (IsMade place.kind f.0) (sym (asked-bytes a.0 f.0 place.kind a.2)) (made place.kind f.0);
      }

  abbrev IsOurs : Output → Type 0
  IsOurs output = IsAskedFile out job cut output ⊎ (output ≡ log)

  is-ours : (k : ℕ) (kind : OutKind) (console : ConsoleJob) (one : PerKind (List ℕ))
      → slice_get job.consoles k ≡ Some console → slice_get (files_at job cut) k ≡ Some one
      → asks_for console kind ≡ true → IsOurs (file_of out 0 k kind one)
  is-ours k kind console one is gives asks =
      let f = files-give job.consoles cut.consoles k console many is in
      let same : one ≡ files_of (asks_of console) f.0 = cc in
      let bytes : at_kind one kind ≡ output_bytes kind f.0
      = ap (λ (x : PerKind (List ℕ)). at_kind x kind) same ∙ asked-bytes console f.0 kind asks in
      inl (record {
        place = record { player = k; kind = kind };
        asked = asked-if kind (slice_get job.consoles k) console is asks;
        named = ap (λ (output : Output). output.name) (player-file out k kind one);
        console = f.0;
        of_player = f.1;
        made = subst (IsMade kind f.0) (sym bytes) (made kind f.0);
      })

  pub keeps-asked : KeepsAsked out job cut run
  keeps-asked =
      let there = outputs-many out 0 count job.consoles (files_at job cut) long (files_many ∙ long) in
      record {
        log = log.bytes;
        asked = has-file;
        only =
            All-append IsOurs outputs (log ∷ [])
            (outputs-all out IsOurs 0 count job.consoles (files_at job cut) is-ours)
            (All-cons IsOurs log [] (inr refl) (All-nil IsOurs));
        log_there = Contains-push outputs log;
        many = length-append outputs (log ∷ []) ∙ ap (λ (n : ℕ). n + 1) there;
        players = many;
        summary = ends-so (difference_of (names_from out 0 count) job.consoles (files_at job cut))
            (summary_lines cut.consoles ++ log_line log.bytes);
      }
