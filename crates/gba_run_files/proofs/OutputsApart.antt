-- A name that no output of a job has is that of no file of its run.
use Rattle.std.proofs.Common.{◌≡◌, ℕ, zero, suc, ◌+◌, Bool, true, false, List, [], ◌∷◌, ◌++◌, refl, sym, subst}
use Rattle.std.specs.Prelude.{◌&&◌}
use Rattle.std.specs.List.{flat_map, list_any}
use Rattle.std.specs.Str.{bytes_eq}
use Rattle.gba_command.proofs.LeftFiles.{names-apart, own-name}
use Rattle.gba_command.proofs.Parts.{neither}
use Rattle.gba_command.specs.LeftFiles.{is_among}
use Rattle.gba_command.specs.Writing.{Output}
use Rattle.gba_joblog.proofs.EachKind.{at-per_kind}
use Rattle.gba_joblog.specs.Clash.{console_writes, is_output, log_file, output_file, writes, writes_as}
use Rattle.gba_joblog.specs.Job.{ConsoleJob, WholeJob}
use Rattle.gba_joblog.specs.Outputs.{all_kinds, at_kind}
use Rattle.gba_joblog.specs.Statements.{asks_for}
use Rattle.gba_joblog.specs.declared.outputs.OutKind.{OutKind}
use Rattle.gba_joblog.specs.declared.outputs.PerKind.{PerKind}
use Rattle.gba_run_files.specs.Names.{names_from, names_of, run_names}
use Rattle.gba_run_files.specs.Outputs.{console_outputs, kind_output, output_if, outputs_of}
use Rattle.gba_run_files.specs.Written.{log_of, log_output, written}

turned : (one other : List ℕ) → bytes_eq one other ≡ false → bytes_eq other one ≡ false
turned one other apart =
    names-apart other one (λ same.
    let equal : bytes_eq one other ≡ true = subst (λ (x : List ℕ). bytes_eq one x ≡ true) (sym same) (own-name one) in
    absurd cc)

both-apart : (name : List ℕ) (outputs more : List Output) → is_among name outputs ≡ false → is_among name more ≡ false
    → is_among name (outputs ++ more) ≡ false
unfolding is_among
both-apart name [] more h k = k
both-apart name (output ∷ outputs) more h k =
    let n = neither (bytes_eq output.name name) (is_among name outputs) h in
    rw n.0 (both-apart name outputs more n.1 k)

one-apart : (name : List ℕ) (output : Output) → bytes_eq name output.name ≡ false → is_among name (output ∷ []) ≡ false
unfolding is_among
one-apart name output apart = rw (turned name output.name apart) refl

none-apart : (name : List ℕ) → is_among name [] ≡ false
unfolding is_among
none-apart name = refl

if-apart : (asked : Bool) (name file bytes : List ℕ) → (asked && bytes_eq name file) ≡ false
    → is_among name (output_if asked file bytes) ≡ false
if-apart true name file bytes apart = one-apart name (record { name = file; bytes = bytes }) apart
if-apart false name file bytes apart = none-apart name

module _ (out name : List ℕ) where
  kinds-apart : (player : ℕ) (console : ConsoleJob) (files : PerKind (List ℕ)) (kinds : List OutKind)
      → list_any (writes_as out player console name) kinds ≡ false
      → is_among name (flat_map (kind_output (names_of out player) console files) kinds) ≡ false
  kinds-apart player console files [] apart = none-apart name
  kinds-apart player console files (kind ∷ kinds) apart =
      let n =
      neither (writes_as out player console name kind) (list_any (writes_as out player console name) kinds) apart in
      let here : is_among name (kind_output (names_of out player) console files kind) ≡ false
      = rw (at-per_kind (output_file out player) kind)
      (if-apart (asks_for console kind) name (output_file out player kind) (at_kind files kind) n.0) in
      both-apart name (kind_output (names_of out player) console files kind)
      (flat_map (kind_output (names_of out player) console files) kinds) here
      (kinds-apart player console files kinds n.1)

  console-apart : (player : ℕ) (console : ConsoleJob) (files : PerKind (List ℕ))
      → console_writes out player console name ≡ false
      → is_among name (console_outputs (names_of out player) console files) ≡ false
  unfolding console_writes console_outputs
  console-apart player console files apart = kinds-apart player console files all_kinds apart

  outputs-apart : (player count : ℕ) (consoles : List ConsoleJob) (files : List (PerKind (List ℕ)))
      → writes out player consoles name ≡ false
      → is_among name (outputs_of (names_from out player count) consoles files) ≡ false
  unfolding writes outputs_of names_from
  outputs-apart player zero consoles files apart = none-apart name
  outputs-apart player (suc count) [] files apart = none-apart name
  outputs-apart player (suc count) (c ∷ consoles) [] apart = none-apart name
  outputs-apart player (suc count) (c ∷ consoles) (one ∷ files) apart =
      let n = neither (console_writes out player c name) (writes out (player + 1) consoles name) apart in
      both-apart name (console_outputs (names_of out player) c one)
      (outputs_of (names_from out (player + 1) count) consoles files)
      (console-apart player c one n.0) (outputs-apart (player + 1) count consoles files n.1)

  pub written-apart : (count : ℕ) (job : WholeJob) (files : List (PerKind (List ℕ))) (lines : List ℕ)
      (pieces : List Output) → is_output out job.consoles name ≡ false
      → is_among name (written (run_names out count) job files lines pieces).outputs ≡ false
  unfolding is_output
  written-apart count job files lines pieces apart =
      let n = neither (bytes_eq name (log_file out)) (writes out 0 job.consoles name) apart in
      both-apart name (outputs_of (names_from out 0 count) job.consoles files)
      (log_output (run_names out count) (log_of job files) ∷ []) (outputs-apart 0 count job.consoles files n.1)
      (one-apart name (log_output (run_names out count) (log_of job files)) n.0)
