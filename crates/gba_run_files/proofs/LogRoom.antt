-- How much longer a log is once the digests of its outputs are stated.
use Rattle.std.proofs.Common.{◌≡◌, ◌≤◌, ℕ, ◌+◌, ◌*◌, Bool, true, false, cond, List, [], ◌∷◌, ◌++◌, length, Option, Some, None, refl, sym, ap, subst, arith}
use Rattle.std.specs.Prelude.{codes, decimal}
use Rattle.std.specs.List.{All, flat_map}
use Rattle.std.proofs.lemmas.Bool.Decides.{nat_tests}
use Rattle.std.proofs.lemmas.List.{length-append}
use Rattle.std.proofs.lemmas.List.Elements.{All-cons, All-nil}
use Rattle.hex.specs.Hex.{encode_lower, lower_digits}
use Rattle.hex.proofs.HexLemmas.{length-encode_with}
use Rattle.sha2.specs.Sha256.{sha256}
use Rattle.gba_inputs.specs.Filled.{with_outputs}
use Rattle.gba_inputs.specs.Law.{AreOutputs}
use Rattle.gba_inputs.proofs.Replay.{with_outputs-sound}
use Rattle.link_node.specs.Delays.{hop_of}
use Rattle.link_node.specs.declared.delays.Delays.{Delays}
use Rattle.gba_joblog.specs.Cable.{all_pairs, is_joined, players_for}
use Rattle.gba_joblog.specs.Digests.{IsDigest}
use Rattle.gba_joblog.proofs.Digests.{IsDigest-sha256}
use Rattle.gba_joblog.specs.Job.{ConsoleJob, WholeJob}
use Rattle.gba_joblog.specs.Log.{asked_text, backup_text, changes_text, console_text, consoles_text, files_text, line_of, link_text, links_text, log_text, off_text, out_text, outs_text}
use Rattle.gba_joblog.specs.Soundness.{AreJobDelays, IsJob, IsOutput}
use Rattle.gba_joblog.specs.Outputs.{all_kinds, at_kind, out_name}
use Rattle.gba_joblog.specs.Statements.{output_of}
use Rattle.gba_joblog.specs.declared.cable.Pair.{Pair}
use Rattle.gba_joblog.specs.declared.job.OutLine.{OutLine}
use Rattle.gba_joblog.specs.declared.outputs.OutKind.{OutKind}
use Rattle.gba_joblog.specs.declared.outputs.PerKind.{PerKind}
use Rattle.gba_joblog.proofs.EachKind.{at-per_kind}
use Rattle.gba_run_files.specs.Law.{digests_room}
use Rattle.gba_run_files.specs.Outputs.{all_outs, kind_stated, outs_of, stated_out}
use Rattle.gba_run_files.specs.Written.{log_of, logged}

-- the digest of each file is one
digest-is : (bytes : List ℕ) → IsDigest (sha256 bytes)
digest-is bytes = IsDigest-sha256 bytes

digits-are : (bytes : List ℕ) → length (encode_lower (sha256 bytes)) ≡ 64
digits-are bytes =
    let is = digest-is bytes in omega (arith, length-encode_with lower_digits (sha256 bytes), is.sized)

stated-text : (name digits : List ℕ) → length digits ≡ 64
    → length (codes "out"
    ++ (codes " " ++ (name ++ (codes " " ++ (codes "sha256" ++ (codes " " ++ (digits ++ codes "\n")))))))
    ≡ length name + 77
stated-text name digits is =
    let tail = length-append digits (codes "\n") in
    let whole = length-append name (codes " " ++ (codes "sha256" ++ (codes " " ++ (digits ++ codes "\n")))) in
    omega (arith, tail, whole, is)

unstated-text : (name : List ℕ) → length (codes "out" ++ (codes " " ++ (name ++ codes "\n"))) ≡ length name + 5
unstated-text name = let whole = length-append name (codes "\n") in omega (arith, whole)

any-text : (name digits : List ℕ)
    → length name + 5
    ≤ length (codes "out"
    ++ (codes " " ++ (name ++ (codes " " ++ (codes "sha256" ++ (codes " " ++ (digits ++ codes "\n")))))))
any-text name digits =
    let tail = length-append digits (codes "\n") in
    let whole = length-append name (codes " " ++ (codes "sha256" ++ (codes " " ++ (digits ++ codes "\n")))) in
    omega (arith, tail, whole)

digest-text : (name bytes : List ℕ) (stated : Option (List ℕ))
    → length (asked_text name (Some (record { digest = Some (sha256 bytes) })))
    ≤ length (asked_text name (Some (record { digest = stated }))) + 72
digest-text name bytes None =
    let new : length (asked_text name (Some (record { digest = Some (sha256 bytes) }))) ≡ length name + 77 =
    stated-text name (encode_lower (sha256 bytes)) (digits-are bytes) in
    let old : length (asked_text name (Some (record { digest = None }))) ≡ length name + 5 = unstated-text name in
    omega (arith, new, old)
digest-text name bytes (Some stated) =
    let new : length (asked_text name (Some (record { digest = Some (sha256 bytes) }))) ≡ length name + 77 =
    stated-text name (encode_lower (sha256 bytes)) (digits-are bytes) in
    let old : length name + 5 ≤ length (asked_text name (Some (record { digest = Some stated }))) =
    any-text name (encode_lower stated) in
    omega (arith, new, old)

asked-more : (name bytes : List ℕ) (asked : Option OutLine)
    → length (asked_text name (stated_out asked bytes)) ≤ length (asked_text name asked) + 72
asked-more name bytes None = omega arith
asked-more name bytes (Some asked) = digest-text name bytes asked.digest

abbrev stated : ConsoleJob → PerKind (List ℕ) → ConsoleJob
stated console files = record console { outs = outs_of console files }

kinds-more : (console : ConsoleJob) (files : PerKind (List ℕ)) (kinds : List OutKind)
    → length (flat_map (out_text (stated console files)) kinds)
    ≤ length (flat_map (out_text console) kinds) + 72 * length kinds
unfolding outs_of
kinds-more console files [] = omega arith
kinds-more console files (kind ∷ kinds) =
    let is : out_text (stated console files) kind
    ≡ asked_text (out_name kind) (stated_out (output_of console kind) (at_kind files kind)) =
    ap (asked_text (out_name kind)) (at-per_kind (kind_stated console files) kind) in
    omega (
      arith,
      ap length is,
      asked-more (out_name kind) (at_kind files kind) (output_of console kind),
      kinds-more console files kinds,
      length-append (out_text (stated console files) kind) (flat_map (out_text (stated console files)) kinds),
      length-append (out_text console kind) (flat_map (out_text console) kinds),
    )

outs-more : (console : ConsoleJob) (files : PerKind (List ℕ))
    → length (outs_text (stated console files)) ≤ length (outs_text console) + 360
outs-more console files = kinds-more console files all_kinds

console-is : (player : ℕ) (console : ConsoleJob)
    → length (console_text player console)
    ≡ length (line_of (codes "console") (decimal player ∷ []))
    + (length (files_text console) + (length (backup_text console.backup)
    + (length (off_text console.off) + (length (changes_text console.changes) + length (outs_text console)))))
unfolding console_text
console-is player console =
    let first = line_of (codes "console") (decimal player ∷ []) in
    let left = off_text console.off ++ (changes_text console.changes ++ outs_text console) in
    omega (
      arith,
      length-append first (files_text console ++ (backup_text console.backup ++ left)),
      length-append (files_text console) (backup_text console.backup ++ left),
      length-append (backup_text console.backup) left,
      length-append (off_text console.off) (changes_text console.changes ++ outs_text console),
      length-append (changes_text console.changes) (outs_text console),
    )

consoles-more : (player : ℕ) (consoles : List ConsoleJob) (files : List (PerKind (List ℕ)))
    → length (consoles_text player (with_outputs consoles (all_outs consoles files)))
    ≤ length (consoles_text player consoles) + 360 * length consoles
unfolding consoles_text with_outputs all_outs
consoles-more player [] files = omega arith
consoles-more player (c ∷ consoles) [] = omega arith
consoles-more player (c ∷ consoles) (one ∷ files) =
    let rest = consoles-more (player + 1) consoles files in
    let here = console-is player (stated c one) in
    let was = console-is player c in
    let new = length-append (console_text player (stated c one))
    (consoles_text (player + 1) (with_outputs consoles (all_outs consoles files))) in
    let old = length-append (console_text player c) (consoles_text (player + 1) consoles) in
    omega (arith, rest, here, was, new, old, outs-more c one)

log-is : (job : WholeJob)
    → length (log_text job)
    ≡ 10 + (length (line_of (codes "cycles") (decimal job.cycles ∷ []))
    + (length (links_text (players_for (length job.consoles)) job.delays)
    + (length (consoles_text 0 job.consoles) + 4)))
unfolding log_text
log-is job =
    let cycles = line_of (codes "cycles") (decimal job.cycles ∷ []) in
    let links = links_text (players_for (length job.consoles)) job.delays in
    let end = consoles_text 0 job.consoles ++ line_of (codes "end") [] in
    omega (
      arith,
      length-append cycles (links ++ end),
      length-append links end,
      length-append (consoles_text 0 job.consoles) (line_of (codes "end") []),
    )

-- a cable of fewer players has no more links
joined-more : (few many : ℕ) (pair : Pair) → few ≤ many → is_joined few pair ≡ true → is_joined many pair ≡ true
joined-more few many pair le joined = grind (arith, nat_tests)

link-more : (few many : ℕ) (delays : Delays) (pair : Pair) → few ≤ many
    → length (link_text few delays pair) ≤ length (link_text many delays pair)
link-more few many delays pair le = by_test (is_joined few pair) refl where
  line : List ℕ
  line = line_of (codes "link")
      (decimal pair.sender ∷ decimal pair.receiver ∷ decimal (hop_of delays pair.sender pair.receiver) ∷ [])

  by_test : (b : Bool) → is_joined few pair ≡ b → length (cond b line []) ≤ length (link_text many delays pair)
  by_test true joined = let also = joined-more few many pair le joined in rw also (omega arith)
  by_test false joined = omega arith

pairs-more : (few many : ℕ) (delays : Delays) (pairs : List Pair) → few ≤ many
    → length (flat_map (link_text few delays) pairs) ≤ length (flat_map (link_text many delays) pairs)
pairs-more few many delays [] le = omega arith
pairs-more few many delays (pair ∷ pairs) le =
    omega (
      arith,
      length-append (link_text few delays pair) (flat_map (link_text few delays) pairs),
      length-append (link_text many delays pair) (flat_map (link_text many delays) pairs),
      link-more few many delays pair le,
      pairs-more few many delays pairs le,
    )

links-more : (few many : ℕ) (delays : Delays) → few ≤ many
    → length (links_text few delays) ≤ length (links_text many delays)
unfolding links_text
links-more few many delays le = pairs-more few many delays all_pairs le

players-more : (few many : ℕ) → few ≤ many → players_for few ≤ players_for many
players-more few many le = grind (arith, nat_tests)

stated-fewer : (consoles : List ConsoleJob) (files : List (PerKind (List ℕ)))
    → length (with_outputs consoles (all_outs consoles files)) ≤ length consoles
unfolding with_outputs all_outs
stated-fewer [] files = omega arith
stated-fewer (c ∷ consoles) [] = omega arith
stated-fewer (c ∷ consoles) (one ∷ files) = let rest = stated-fewer consoles files in omega (arith, rest)

pub log-more : (job : WholeJob) (files : List (PerKind (List ℕ))) → IsJob job
    → length (log_of job files) ≤ length (log_text job) + digests_room
log-more job files sound =
    let new = log-is (logged job files) in
    let old = log-is job in
    let now = length (with_outputs job.consoles (all_outs job.consoles files)) in
    let was = length job.consoles in
    let players = players-more now was (stated-fewer job.consoles files) in
    let links = links-more (players_for now) (players_for was) job.delays players in
    omega (arith, new, old, links, consoles-more 0 job.consoles files, sound.few_consoles)

-- the outputs that are stated are sound ones
stated-sound : (asked : Option OutLine) (bytes : List ℕ) → IsOutput (stated_out asked bytes)
stated-sound None bytes = tt
stated-sound (Some asked) bytes = digest-is bytes

pub outs-sound : (console : ConsoleJob) (files : PerKind (List ℕ)) → AreOutputs (outs_of console files)
unfolding outs_of
outs-sound console files kind =
    rw (at-per_kind (kind_stated console files) kind)
    (stated-sound (output_of console kind) (at_kind files kind))

pub record AreStated (consoles : List ConsoleJob) (files : List (PerKind (List ℕ))) : Type 0 where
  pub each : All AreOutputs (all_outs consoles files)
  pub long : length (all_outs consoles files) ≡ length consoles

pub all-stated : (consoles : List ConsoleJob) (files : List (PerKind (List ℕ))) → length files ≡ length consoles
    → AreStated consoles files
unfolding all_outs
all-stated [] files long = record { each = All-nil AreOutputs; long = refl }
all-stated (c ∷ consoles) [] long = absurd (omega (arith, long))
all-stated (c ∷ consoles) (one ∷ files) long =
    let rest = all-stated consoles files (omega (arith, long)) in
    record {
      each = All-cons AreOutputs (outs_of c one) (all_outs consoles files) (outs-sound c one) rest.each;
      long = omega (arith, rest.long);
    }

pub logged-sound : (job : WholeJob) (files : List (PerKind (List ℕ))) → IsJob job → length files ≡ length job.consoles
    → IsJob (logged job files)
logged-sound job files sound long =
    let outs = all-stated job.consoles files long in
    let all = with_outputs-sound job.consoles (all_outs job.consoles files) sound.each outs.each outs.long in
    record {
      some_cycles = sound.some_cycles;
      few_cycles = sound.few_cycles;
      delays = subst (λ n. AreJobDelays (players_for n) job.delays) (sym all.1) sound.delays;
      some_consoles = omega (arith, all.1, sound.some_consoles);
      few_consoles = omega (arith, all.1, sound.few_consoles);
      each = all.0;
    }
