-- What is written under another OUT, and for a job that states the digests of its outputs.
use Rattle.std.proofs.Common.{◌≡◌, ℕ, zero, suc, ◌+◌, ◌∙◌, Bool, true, false, List, [], ◌∷◌, ◌++◌, length, map, Option, Some, None, Ok, refl, ap, sym, arith}
use Rattle.std.specs.Prelude.{is_some}
use Rattle.std.specs.List.{AllZip, flat_map}
use Rattle.std.proofs.lemmas.List.{map-append}
use Rattle.sha2.specs.Sha256.{sha256}
use Rattle.gba_command.specs.Writing.{Output}
use Rattle.gba_inputs.specs.Filled.{filled_console, filled_consoles}
use Rattle.gba_inputs.specs.Inputs.{ConsoleInputs}
use Rattle.gba_inputs.specs.Law.{asked_of, off_of}
use Rattle.gba_inputs.proofs.Replay.{bytes_eq-same}
use Rattle.gba_joblog.specs.Job.{ConsoleJob, WholeJob}
use Rattle.gba_joblog.specs.Statements.{asks_for, output_of}
use Rattle.gba_joblog.specs.Outputs.{all_kinds, at_kind}
use Rattle.gba_joblog.specs.Clash.{output_file}
use Rattle.gba_joblog.specs.declared.job.OutLine.{OutLine}
use Rattle.gba_joblog.specs.declared.outputs.OutKind.{OutKind}
use Rattle.gba_joblog.specs.declared.outputs.OutKind.TheVariants.{Frames, Samples, Words, State, Save}
use Rattle.gba_joblog.specs.declared.outputs.PerKind.{PerKind}
use Rattle.gba_joblog.proofs.EachKind.{at-per_kind}
use Rattle.gba_session.proofs.SameRun.{RunsAs}
use Rattle.gba_session.specs.Files.{asks_of}
use Rattle.gba_run_files.proofs.StatedLists.{asked-same}
use Rattle.gba_run_files.specs.Law.{under}
use Rattle.gba_run_files.specs.Names.{names_from, names_of, run_names}
use Rattle.gba_run_files.specs.Outputs.{all_outs, console_difference, console_outputs, difference_of, first_differs, kind_differs, kind_output, kind_stated, output_differs, output_if, outputs_of, outs_of, stated_out}
use Rattle.gba_run_files.specs.Written.{log_line, log_of, written}

-- ---- under another OUT

if-under : (out : List ℕ) (asked : Bool) (name bytes : List ℕ)
    → output_if asked (out ++ name) bytes ≡ map (under out) (output_if asked name bytes)
if-under out true name bytes = refl
if-under out false name bytes = refl

kinds-under : (out : List ℕ) (player : ℕ) (console : ConsoleJob) (files : PerKind (List ℕ)) (kinds : List OutKind)
    → flat_map (kind_output (names_of out player) console files) kinds
    ≡ map (under out) (flat_map (kind_output (names_of [] player) console files) kinds)
kinds-under out player console files [] = refl
kinds-under out player console files (kind ∷ kinds) =
    let here : kind_output (names_of out player) console files kind
    ≡ map (under out) (kind_output (names_of [] player) console files kind) =
    rw (at-per_kind (output_file out player) kind, at-per_kind (output_file [] player) kind)
    (if-under out (asks_for console kind) (output_file [] player kind) (at_kind files kind)) in
    let rest = flat_map (kind_output (names_of [] player) console files) kinds in
    ap (λ xs. xs ++ flat_map (kind_output (names_of out player) console files) kinds) here
    ∙ ap (λ xs. map (under out) (kind_output (names_of [] player) console files kind) ++ xs)
    (kinds-under out player console files kinds)
    ∙ sym (map-append (under out) (kind_output (names_of [] player) console files kind) rest)

console-under : (out : List ℕ) (player : ℕ) (console : ConsoleJob) (files : PerKind (List ℕ))
    → console_outputs (names_of out player) console files
    ≡ map (under out) (console_outputs (names_of [] player) console files)
unfolding console_outputs
console-under out player console files = kinds-under out player console files all_kinds

pub outputs-under : (out : List ℕ) (player count : ℕ) (consoles : List ConsoleJob) (files : List (PerKind (List ℕ)))
    → outputs_of (names_from out player count) consoles files
    ≡ map (under out) (outputs_of (names_from [] player count) consoles files)
unfolding outputs_of names_from
outputs-under out player zero consoles files = refl
outputs-under out player (suc count) [] files = refl
outputs-under out player (suc count) (c ∷ consoles) [] = refl
outputs-under out player (suc count) (c ∷ consoles) (one ∷ files) =
    let left = outputs_of (names_from [] (player + 1) count) consoles files in
    ap (λ xs. xs ++ outputs_of (names_from out (player + 1) count) consoles files) (console-under out player c one)
    ∙ ap (λ xs. map (under out) (console_outputs (names_of [] player) c one) ++ xs)
    (outputs-under out (player + 1) count consoles files)
    ∙ sym (map-append (under out) (console_outputs (names_of [] player) c one) left)

-- what is written goes by OUT alone in its names
pub written-under : (out : List ℕ) (count : ℕ) (job : WholeJob) (files : List (PerKind (List ℕ))) (lines : List ℕ)
    (pieces plain : List Output) → (written (run_names out count) job files lines pieces).outputs
    ≡ map (under out) (written (run_names [] count) job files lines plain).outputs
written-under out count job files lines pieces plain =
    let made = outputs_of (names_from [] 0 count) job.consoles files in
    let log : Output = record { name = (run_names [] count).log; bytes = log_of job files } in
    ap (λ xs. xs ++ under out log ∷ []) (outputs-under out 0 count job.consoles files)
    ∙ sym (map-append (under out) made (log ∷ []))

-- ---- the digests are stated

-- what is said of an output with its digest stated
stated-twice : (asked : Option OutLine) (bytes : List ℕ)
    → stated_out (stated_out asked bytes) bytes ≡ stated_out asked bytes
stated-twice None bytes = refl
stated-twice (Some asked) bytes = refl

stated-agrees : (name : List ℕ) (asked : Option OutLine) (bytes : List ℕ)
    → output_differs name (stated_out asked bytes) bytes ≡ None
stated-agrees name None bytes = refl
stated-agrees name (Some asked) bytes = rw (bytes_eq-same (sha256 bytes)) refl

-- a console that says of its outputs what is stated of another's
module _ (console later : ConsoleJob) (files : PerKind (List ℕ)) (is : later.outs ≡ outs_of console files) where
  stated-kind : (kind : OutKind) → output_of later kind ≡ kind_stated console files kind
  unfolding outs_of
  stated-kind kind = ap (λ outs. at_kind outs kind) is ∙ at-per_kind (kind_stated console files) kind

  asked-kind : (kind : OutKind) → asks_for later kind ≡ asks_for console kind
  asked-kind kind =
      ap (λ (asked : Option OutLine). is_some asked) (stated-kind kind)
      ∙ asked-same (output_of console kind) (at_kind files kind)

  pub asks-again : asks_of later ≡ asks_of console
  asks-again =
      rw (asked-kind Frames, asked-kind Samples, asked-kind Words, asked-kind State, asked-kind Save) refl

  outs-one : outs_of later files ≡ outs_of console files
  unfolding outs_of
  outs-one =
      let twice : (kind : OutKind) → kind_stated later files kind ≡ kind_stated console files kind =
      λ kind. ap (λ asked. stated_out asked (at_kind files kind)) (stated-kind kind)
      ∙ stated-twice (output_of console kind) (at_kind files kind) in
      rw (twice Frames, twice Samples, twice Words, twice State, twice Save) refl

  outputs-kinds : (names : PerKind (List ℕ)) (kinds : List OutKind)
      → flat_map (kind_output names later files) kinds ≡ flat_map (kind_output names console files) kinds
  outputs-kinds names [] = refl
  outputs-kinds names (kind ∷ kinds) =
      ap (λ asked. output_if asked (at_kind names kind) (at_kind files kind)
      ++ flat_map (kind_output names later files) kinds) (asked-kind kind)
      ∙ ap (λ outputs. kind_output names console files kind ++ outputs) (outputs-kinds names kinds)

  outputs-one : (names : PerKind (List ℕ)) → console_outputs names later files ≡ console_outputs names console files
  unfolding console_outputs
  outputs-one names = outputs-kinds names all_kinds

  difference-kinds : (names : PerKind (List ℕ)) (kinds : List OutKind)
      → first_differs (kind_differs names later files) kinds ≡ None
  difference-kinds names [] = refl
  difference-kinds names (kind ∷ kinds) =
      let here : kind_differs names later files kind ≡ None =
      ap (λ asked. output_differs (at_kind names kind) asked (at_kind files kind)) (stated-kind kind)
      ∙ stated-agrees (at_kind names kind) (output_of console kind) (at_kind files kind) in
      rw here (difference-kinds names kinds)

  difference-one : (names : PerKind (List ℕ)) → console_difference names later files ≡ None
  unfolding console_difference
  difference-one names = difference-kinds names all_kinds

outs-head : (x y : PerKind (Option OutLine)) (xs ys : List (PerKind (Option OutLine))) → x ∷ xs ≡ y ∷ ys → x ≡ y
outs-head x y xs ys h = cc

outs-tail : (x y : PerKind (Option OutLine)) (xs ys : List (PerKind (Option OutLine))) → x ∷ xs ≡ y ∷ ys → xs ≡ ys
outs-tail x y xs ys h = cc

-- consoles that say of their outputs what is stated of others'
abbrev pub AreStatedBy : List ConsoleJob → List (PerKind (List ℕ)) → List ConsoleJob → Type 0
AreStatedBy consoles files later = map asked_of later ≡ all_outs consoles files

pub outs-again : (consoles later : List ConsoleJob) (files : List (PerKind (List ℕ))) → AreStatedBy consoles files later
    → all_outs later files ≡ all_outs consoles files
unfolding all_outs
outs-again [] [] files is = refl
outs-again [] (l ∷ later) files is = absurd cc
outs-again (c ∷ consoles) [] [] is = refl
outs-again (c ∷ consoles) (l ∷ later) [] is = absurd cc
outs-again (c ∷ consoles) [] (one ∷ files) is = absurd cc
outs-again (c ∷ consoles) (l ∷ later) (one ∷ files) is =
    ap (λ outs. outs ∷ all_outs later files) (outs-one c l one (outs-head _ _ _ _ is))
    ∙ ap (λ outs. outs_of c one ∷ outs) (outs-again consoles later files (outs-tail _ _ _ _ is))

outputs-again : (names : List (PerKind (List ℕ))) (consoles later : List ConsoleJob) (files : List (PerKind (List ℕ)))
    → AreStatedBy consoles files later → outputs_of names later files ≡ outputs_of names consoles files
unfolding all_outs outputs_of
outputs-again [] consoles later files is = refl
outputs-again (n ∷ names) [] [] files is = refl
outputs-again (n ∷ names) [] (l ∷ later) files is = absurd cc
outputs-again (n ∷ names) (c ∷ consoles) [] [] is = refl
outputs-again (n ∷ names) (c ∷ consoles) (l ∷ later) [] is = absurd cc
outputs-again (n ∷ names) (c ∷ consoles) [] (one ∷ files) is = absurd cc
outputs-again (n ∷ names) (c ∷ consoles) (l ∷ later) (one ∷ files) is =
    ap (λ outputs. outputs ++ outputs_of names later files) (outputs-one c l one (outs-head _ _ _ _ is) n)
    ∙ ap (λ outputs. console_outputs n c one ++ outputs)
    (outputs-again names consoles later files (outs-tail _ _ _ _ is))

difference-again : (names : List (PerKind (List ℕ))) (consoles later : List ConsoleJob)
    (files : List (PerKind (List ℕ))) → AreStatedBy consoles files later → difference_of names later files ≡ None
unfolding all_outs difference_of
difference-again [] consoles later files is = refl
difference-again (n ∷ names) consoles [] files is = refl
difference-again (n ∷ names) [] (l ∷ later) files is = absurd cc
difference-again (n ∷ names) (c ∷ consoles) (l ∷ later) [] is = absurd cc
difference-again (n ∷ names) (c ∷ consoles) (l ∷ later) (one ∷ files) is =
    let here = difference-one c l one (outs-head _ _ _ _ is) n in
    let rest = difference-again names consoles later files (outs-tail _ _ _ _ is) in
    rw (here, rest) refl

-- What is written for a job that states the digests of the outputs of another, where their logs are one.
pub written-outputs : (out : List ℕ) (count : ℕ) (job other : WholeJob) (files : List (PerKind (List ℕ)))
    (lines : List ℕ) (pieces : List Output) → AreStatedBy job.consoles files other.consoles
    → log_of other files ≡ log_of job files → (written (run_names out count) other files lines pieces).outputs
    ≡ (written (run_names out count) job files lines pieces).outputs
written-outputs out count job other files lines pieces is log =
    let names = run_names out count in
    ap (λ outputs. outputs ++ record { name = names.log; bytes = log_of other files } ∷ [])
    (outputs-again names.consoles job.consoles other.consoles files is)
    ∙ ap (λ bytes. outputs_of names.consoles job.consoles files ++ record { name = names.log; bytes = bytes } ∷ []) log

-- it ends with the summary
pub written-end : (out : List ℕ) (count : ℕ) (job other : WholeJob) (files : List (PerKind (List ℕ))) (lines : List ℕ)
    (pieces : List Output) → AreStatedBy job.consoles files other.consoles → log_of other files ≡ log_of job files
    → (written (run_names out count) other files lines pieces).end ≡ Ok (lines ++ log_line (log_of job files))
written-end out count job other files lines pieces is log =
    let none = difference-again (run_names out count).consoles job.consoles other.consoles files is in
    rw (none, log) refl

-- ---- the consoles run alike

head-off : (x y : ℕ) (xs ys : List ℕ) → x ∷ xs ≡ y ∷ ys → x ≡ y
head-off x y xs ys h = cc

tail-offs : (x y : ℕ) (xs ys : List ℕ) → x ∷ xs ≡ y ∷ ys → xs ≡ ys
tail-offs x y xs ys h = cc

pub filled-alike : (consoles later : List ConsoleJob) (inputs : List ConsoleInputs) (files : List (PerKind (List ℕ)))
    → length inputs ≡ length consoles → length files ≡ length consoles → map off_of later ≡ map off_of consoles
    → AreStatedBy (filled_consoles consoles inputs) files later
    → AllZip RunsAs (filled_consoles consoles inputs) (filled_consoles later inputs)
unfolding filled_consoles all_outs
filled-alike [] [] inputs files read made offs is = tt
filled-alike [] (l ∷ later) inputs files read made offs is = absurd cc
filled-alike (c ∷ consoles) later [] files read made offs is = absurd (omega (arith, read))
filled-alike (c ∷ consoles) later (i ∷ inputs) [] read made offs is = absurd (omega (arith, made))
filled-alike (c ∷ consoles) [] (i ∷ inputs) (one ∷ files) read made offs is = absurd cc
filled-alike (c ∷ consoles) (l ∷ later) (i ∷ inputs) (one ∷ files) read made offs is = (
  record {
    changes = refl;
    off = head-off l.off c.off (map off_of later) (map off_of consoles) offs;
    asks = asks-again (filled_console c i) (filled_console l i) one (outs-head _ _ _ _ is);
  },
  filled-alike consoles later inputs files (omega (arith, read)) (omega (arith, made))
      (tail-offs l.off c.off (map off_of later) (map off_of consoles) offs) (outs-tail _ _ _ _ is),
)

-- the outputs that a console is asked for are no input
pub asked-filled : (consoles : List ConsoleJob) (inputs : List ConsoleInputs) → length inputs ≡ length consoles
    → map asked_of (filled_consoles consoles inputs) ≡ map asked_of consoles
unfolding filled_consoles
asked-filled [] inputs read = refl
asked-filled (c ∷ consoles) [] read = absurd (omega (arith, read))
asked-filled (c ∷ consoles) (i ∷ inputs) read =
    ap (λ outs. asked_of c ∷ outs) (asked-filled consoles inputs (omega (arith, read)))
