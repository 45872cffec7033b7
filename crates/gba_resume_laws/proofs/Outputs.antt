-- The outputs of the consoles of a job.
use Rattle.std.proofs.Common.{◌≡◌, ℕ, true, List, [], ◌∷◌, ◌++◌, length, map, Some, Result, Ok, Err, refl, sym, ◌∙◌, subst}
use Rattle.std.specs.List.{flat_map}
use Rattle.std.specs.Prelude.{Contains, IfOk, slice_get}
use Rattle.std.proofs.lemmas.List.Concat.{flat_map-cons}
use Rattle.gba_command.specs.Cause.{Cause}
use Rattle.gba_command.specs.Writing.{Output}
use Rattle.gba_console.specs.Machine.{Machine}
use Rattle.gba_joblog.specs.Clash.{output_file}
use Rattle.gba_joblog.specs.Job.{WholeJob}
use Rattle.gba_joblog.specs.Outputs.{at_kind}
use Rattle.gba_joblog.specs.declared.outputs.OutKind.{OutKind}
use Rattle.gba_joblog.specs.declared.outputs.OutKind.TheVariants.{Frames, Samples, Words, State, Save}
use Rattle.gba_joblog.specs.declared.outputs.PerKind.{PerKind}
use Rattle.gba_output.specs.StateFile.{summary_line}
use Rattle.gba_run_files.proofs.Asked.{asked-bytes, asked-console, files-give, outputs-there, player-file}
use Rattle.gba_run_files.specs.AskedLaw.{IsMade, is_asked}
use Rattle.gba_run_files.specs.DigestsLaw.{Place, file_at}
use Rattle.gba_run_files.specs.Names.{names_from}
use Rattle.gba_run_files.specs.Outputs.{outputs_of}
use Rattle.gba_run_files.specs.Written.{files_at}
use Rattle.gba_session.specs.Files.{asks_of, files_of, output_bytes}
use Rattle.link_order.specs.Cut.{Cut}

-- the file of an output that a job asks for, with what the console of its player made
pub record HasOutput (out : List ℕ) (cut : Cut Machine) (outputs : List Output) (place : Place) : Type 0 where
  pub console : Machine
  pub of_player : slice_get cut.consoles place.player ≡ Some console
  pub written : Contains outputs (record { name = file_at out place; bytes = output_bytes place.kind console })

pub has-output : (out : List ℕ) (job : WholeJob) (cut : Cut Machine) (place : Place)
    → length cut.consoles ≡ length job.consoles → is_asked job place ≡ true
    → HasOutput out cut (outputs_of (names_from out 0 (length job.consoles)) job.consoles (files_at job cut)) place
has-output out job cut place many asked =
    let a = asked-console place.kind (slice_get job.consoles place.player) asked in
    let f = files-give job.consoles cut.consoles place.player a.0 many a.1 in
    let one : PerKind (List ℕ) = files_of (asks_of a.0) f.0 in
    let outputs = outputs_of (names_from out 0 (length job.consoles)) job.consoles (files_at job cut) in
    let there : Contains outputs
    (record { name = output_file out place.player place.kind; bytes = at_kind one place.kind }) =
    subst (Contains outputs) (player-file out place.player place.kind one)
    (outputs-there out 0 (length job.consoles) job.consoles (files_at job cut) place.player place.kind a.0 one refl a.1
    f.2 a.2) in
    record {
      console = f.0;
      of_player = f.1;
      written =
          subst (λ (bytes : List ℕ). Contains outputs (record { name = file_at out place; bytes = bytes }))
          (asked-bytes a.0 f.0 place.kind a.2) there;
    }

pub is-made : (kind : OutKind) (m : Machine) (bytes : List ℕ) → IsMade kind m bytes → bytes ≡ output_bytes kind m
is-made Frames m bytes made = made
is-made Samples m bytes made = made
is-made Words m bytes made = made
is-made State m bytes made = made
is-made Save m bytes made = made

-- the last one
pub last-same : (xs ys : List Output) (x y : Output) → xs ++ x ∷ [] ≡ ys ++ y ∷ [] → x ≡ y
last-same [] [] x y same = cc
last-same [] (b ∷ ys) x y same = absurd (nothing-behind ys y (tails x b [] (ys ++ y ∷ []) same))
  where
    tails : (a b : Output) (rest other : List Output) → a ∷ rest ≡ b ∷ other → rest ≡ other
    tails a b rest other h = cc

    nothing-behind : (zs : List Output) (z : Output) → [] ≡ zs ++ z ∷ [] → ⊥
    nothing-behind [] z h = cc
    nothing-behind (c ∷ zs) z h = cc
last-same (a ∷ xs) [] x y same = absurd (nothing-behind xs x (tails a y (xs ++ x ∷ []) [] same))
  where
    tails : (a b : Output) (rest other : List Output) → a ∷ rest ≡ b ∷ other → rest ≡ other
    tails a b rest other h = cc

    nothing-behind : (zs : List Output) (z : Output) → zs ++ z ∷ [] ≡ [] → ⊥
    nothing-behind [] z h = cc
    nothing-behind (c ∷ zs) z h = cc
last-same (a ∷ xs) (b ∷ ys) x y same = let rest : xs ++ x ∷ [] ≡ ys ++ y ∷ [] = cc in last-same xs ys x y rest

-- lines that are the same one by one are the same text
pub same-text : (ms ns : List Machine) → map summary_line ms ≡ map summary_line ns
    → flat_map summary_line ms ≡ flat_map summary_line ns
same-text [] [] same = refl
same-text [] (n ∷ ns) same = absurd cc
same-text (m ∷ ms) [] same = absurd cc
same-text (m ∷ ms) (n ∷ ns) same =
    let head = heads (summary_line m) (summary_line n) (map summary_line ms) (map summary_line ns) same in
    let rest =
    same-text ms ns (tails (summary_line m) (summary_line n) (map summary_line ms) (map summary_line ns) same) in
    flat_map-cons summary_line m ms ∙ (λ i. head i ++ rest i) ∙ sym (flat_map-cons summary_line n ns)
  where
    heads : (x y : List ℕ) (xs ys : List (List ℕ)) → x ∷ xs ≡ y ∷ ys → x ≡ y
    heads x y xs ys h = cc

    tails : (x y : List ℕ) (xs ys : List (List ℕ)) → x ∷ xs ≡ y ∷ ys → xs ≡ ys
    tails x y xs ys h = cc

pub if-ok : {P Q : List ℕ → Type 0} (end : Result (List ℕ) Cause) → ((x : List ℕ) → P x → Q x) → IfOk end P → IfOk end Q
if-ok (Ok x) follows is = follows x is
if-ok (Err cause) follows is = tt
