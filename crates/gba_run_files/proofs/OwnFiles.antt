-- Each file of a job's run is the join of its pieces, and each piece is one of a file.
use Rattle.std.proofs.Common.{◌≡◌, ◌≢◌, ℕ, zero, suc, ◌+◌, ◌<◌, ◌≤◌, ◌∙◌, Bool, true, false, ◌||◌, List, [], ◌∷◌, ◌++◌, length, get_or, map, Result, Ok, refl, sym, ap, subst, arith, if◌then◌else◌}
use Rattle.std.specs.List.{All, flat_map}
use Rattle.std.specs.Str.{bytes_eq}
use Rattle.std.proofs.lemmas.List.{append-nil, get_or-map, length-map}
use Rattle.std.proofs.lemmas.List.Elements.{All-append, All-cons, All-head, All-nil, All-tail}
use Rattle.gba_command.proofs.LeftFiles.{has-own-files, names-apart, other-name, own-name}
use Rattle.gba_command.proofs.Parts.{neither}
use Rattle.gba_command.specs.Cause.{Cause}
use Rattle.gba_command.specs.LeftFiles.{HasOwnFiles, NamesDiffer, added, is_among, standard_output}
use Rattle.gba_command.specs.Writing.{Output, Run}
use Rattle.gba_console.specs.Machine.{Machine, forgotten}
use Rattle.gba_console.specs.Segments.{LiveSegments}
use Rattle.gba_image.specs.declared.images.ConsoleImages.{ConsoleImages}
use Rattle.gba_joblog.proofs.EachKind.{at-per_kind}
use Rattle.gba_joblog.specs.Clash.{output_file}
use Rattle.gba_joblog.specs.Job.{ConsoleJob, WholeJob}
use Rattle.gba_joblog.specs.Outputs.{all_kinds, at_kind}
use Rattle.gba_joblog.specs.Soundness.{IsJob}
use Rattle.gba_joblog.specs.Statements.{asks_for}
use Rattle.gba_joblog.specs.declared.outputs.OutKind.{OutKind}
use Rattle.gba_joblog.specs.declared.outputs.OutKind.TheVariants.{Frames, Samples, Words, State, Save}
use Rattle.gba_joblog.specs.declared.outputs.PerKind.{PerKind}
use Rattle.gba_run_files.proofs.Named.{added-append, frozen-apart, log-apart}
use Rattle.gba_run_files.proofs.OutputNames.{frozen-differ, outputs-differ, written-differ}
use Rattle.gba_run_files.proofs.Segmented.{advances}
use Rattle.gba_run_files.proofs.Whole.{other-added-none, output-added}
use Rattle.gba_run_files.specs.Frozen.{freeze_names, frozen_run}
use Rattle.gba_run_files.specs.Law.{ResumedRunsHaveOwnFiles}
use Rattle.gba_run_files.specs.Names.{names_from, names_of, run_names}
use Rattle.gba_run_files.specs.Outputs.{console_outputs, kind_output, outputs_of}
use Rattle.gba_run_files.specs.Pieces.{console_pieces, cut_pieces, growing_kinds, kind_piece, lasting_kinds, later_segments, piece_if, run_pieces, segment_pieces}
use Rattle.gba_run_files.specs.Written.{after_files, files_at, log_of, log_output, run_of, summary_lines}
use Rattle.gba_snapshot.specs.File.{frozen_file}
use Rattle.gba_session.proofs.Preparing.{reset-empty, start-can, start-long}
use Rattle.gba_session.proofs.Advancing.{until-many}
use Rattle.gba_session.proofs.Resuming.{begins-before, begins-below, no-steps}
use Rattle.gba_session.specs.Held.{CanRun}
use Rattle.link_order.specs.Cut.{Cut}
use Rattle.gba_session.specs.Files.{all_files, asks_of, bytes_if, files_of, output_bytes}
use Rattle.gba_session.proofs.Consoles.{files-long}
use Rattle.gba_session.specs.Start.{run_until}
use Rattle.gba_session.specs.Session.{Consoles, advanced, is_over, least_clock, prepared, resumed, segment_cut, whole_cut}

-- ---- what holds of each output, and of each piece

-- an output of a player
abbrev file_of : List ℕ → ℕ → OutKind → List ℕ → Output
file_of out player kind bytes = record { name = output_file out player kind; bytes = bytes }

module _ (P : Output → Type 0) (out : List ℕ) where
  if-holds : (asked : Bool) (file : Output) → (asked ≡ true → P file) → All P (if asked then file ∷ [] else [])
  if-holds true file is = All-cons P file [] (is refl) (All-nil P)
  if-holds false file is = All-nil P

  kinds-hold : (player : ℕ) (console : ConsoleJob) (files : PerKind (List ℕ)) (kinds : List OutKind)
      → ((kind : OutKind) → asks_for console kind ≡ true → P (file_of out player kind (at_kind files kind)))
      → All P (flat_map (kind_output (names_of out player) console files) kinds)
  kinds-hold player console files [] each = All-nil P
  kinds-hold player console files (kind ∷ kinds) each =
      All-append P (kind_output (names_of out player) console files kind)
      (flat_map (kind_output (names_of out player) console files) kinds)
      (rw (at-per_kind (output_file out player) kind)
      (if-holds (asks_for console kind) (file_of out player kind (at_kind files kind)) (each kind)))
      (kinds-hold player console files kinds each)

  console-holds : (player : ℕ) (console : ConsoleJob) (files : PerKind (List ℕ))
      → ((kind : OutKind) → asks_for console kind ≡ true → P (file_of out player kind (at_kind files kind)))
      → All P (console_outputs (names_of out player) console files)
  unfolding console_outputs
  console-holds player console files each = kinds-hold player console files all_kinds each

  asked-bytes : (console : ConsoleJob) (m : Machine) (kind : OutKind) → asks_for console kind ≡ true
      → at_kind (files_of (asks_of console) m) kind ≡ output_bytes kind m
  asked-bytes console m kind asked =
      at-per_kind (bytes_if (asks_of console) m) kind
      ∙ ap (λ (b : Bool). if b then output_bytes kind m else []) (at-per_kind (asks_for console) kind ∙ asked)

  -- what holds of each output that is asked for holds of all outputs of consoles from a player on
  pub outputs-hold : (player : ℕ) (consoles : List ConsoleJob) (ms : List Machine) → length ms ≡ length consoles
      → ((j : ℕ) (kind : OutKind) (c : ConsoleJob) (m : Machine) → j < length consoles
      → asks_for (get_or consoles j c) kind ≡ true
      → P (file_of out (player + j) kind (output_bytes kind (get_or ms j m))))
      → All P (outputs_of (names_from out player (length consoles)) consoles (all_files (map asks_of consoles) ms))
  unfolding outputs_of names_from all_files
  outputs-hold player [] ms many each = All-nil P
  outputs-hold player (c ∷ consoles) [] many each = absurd (omega (arith, many))
  outputs-hold player (c ∷ consoles) (m ∷ ms) many each =
      All-append P (console_outputs (names_of out player) c (files_of (asks_of c) m))
      (outputs_of (names_from out (player + 1) (length consoles)) consoles (all_files (map asks_of consoles) ms))
      (console-holds player c (files_of (asks_of c) m) (λ kind asked.
      let here : player + 0 ≡ player = omega arith in
      subst (λ (bytes : List ℕ). P (file_of out player kind bytes)) (sym (asked-bytes c m kind asked))
      (subst (λ (k : ℕ). P (file_of out k kind (output_bytes kind m))) here (each 0 kind c m (omega arith) asked))))
      (outputs-hold (player + 1) consoles ms (omega (arith, many)) (λ j kind d n within asked.
      let there : player + suc j ≡ player + 1 + j = omega arith in
      subst (λ (k : ℕ). P (file_of out k kind (output_bytes kind (get_or ms j n)))) there
      (each (suc j) kind d n (omega (arith, within)) asked)))

  -- the same of the pieces
  piece-holds : (player : ℕ) (kind : OutKind) (bytes : List ℕ) → ((some : List ℕ) → P (file_of out player kind some))
      → All P (piece_if (output_file out player kind) bytes)
  piece-holds player kind [] each = All-nil P
  piece-holds player kind (byte ∷ bytes) each =
      All-cons P (file_of out player kind (byte ∷ bytes)) [] (each (byte ∷ bytes)) (All-nil P)

  kind-piece-holds : (player : ℕ) (kind : OutKind) (asked : Bool) (bytes : List ℕ)
      → (asked ≡ true → (some : List ℕ) → P (file_of out player kind some))
      → All P (if asked then piece_if (output_file out player kind) bytes else [])
  kind-piece-holds player kind true bytes each = piece-holds player kind bytes (each refl)
  kind-piece-holds player kind false bytes each = All-nil P

  console-pieces-hold : (player : ℕ) (asks : PerKind Bool) (m : Machine) (kinds : List OutKind)
      → ((kind : OutKind) → at_kind asks kind ≡ true → (some : List ℕ) → P (file_of out player kind some))
      → All P (console_pieces kinds (names_of out player) asks m)
  console-pieces-hold player asks m [] each = All-nil P
  console-pieces-hold player asks m (kind ∷ kinds) each =
      All-append P (kind_piece (names_of out player) asks m kind) (console_pieces kinds (names_of out player) asks m)
      (rw (at-per_kind (output_file out player) kind)
      (kind-piece-holds player kind (at_kind asks kind) (output_bytes kind m) (each kind)))
      (console-pieces-hold player asks m kinds each)

  cut-pieces-hold : (kinds : List OutKind) (player count : ℕ) (asks : List (PerKind Bool)) (ms : List Machine)
      → ((j : ℕ) (kind : OutKind) (a : PerKind Bool) → j < count → j < length asks
      → at_kind (get_or asks j a) kind ≡ true → (some : List ℕ) → P (file_of out (player + j) kind some))
      → All P (cut_pieces kinds (names_from out player count) asks ms)
  unfolding cut_pieces names_from
  cut-pieces-hold kinds player zero asks ms each = All-nil P
  cut-pieces-hold kinds player (suc count) [] ms each = All-nil P
  cut-pieces-hold kinds player (suc count) (a ∷ asks) [] each = All-nil P
  cut-pieces-hold kinds player (suc count) (a ∷ asks) (m ∷ ms) each =
      All-append P (console_pieces kinds (names_of out player) a m)
      (cut_pieces kinds (names_from out (player + 1) count) asks ms)
      (console-pieces-hold player a m kinds (λ kind asked some.
      let here : player + 0 ≡ player = omega arith in
      subst (λ (k : ℕ). P (file_of out k kind some)) here (each 0 kind a (omega arith) (omega arith) asked some)))
      (cut-pieces-hold kinds (player + 1) count asks ms (λ j kind b less within asked some.
      let there : player + suc j ≡ player + 1 + j = omega arith in
      subst (λ (k : ℕ). P (file_of out k kind some)) there
      (each (suc j) kind b (omega (arith, less)) (omega (arith, within)) asked some)))

  -- each player's asked-for outputs have it
  abbrev HoldsOfAsked : ℕ → List (PerKind Bool) → Type 0
  HoldsOfAsked count asks =
      (j : ℕ) (kind : OutKind) (a : PerKind Bool) → j < count → j < length asks → at_kind (get_or asks j a) kind ≡ true
      → (some : List ℕ) → P (file_of out j kind some)

  shifted : (count : ℕ) (asks : List (PerKind Bool)) → HoldsOfAsked count asks
      → (j : ℕ) (kind : OutKind) (a : PerKind Bool) → j < count → j < length asks
      → at_kind (get_or asks j a) kind ≡ true → (some : List ℕ) → P (file_of out (0 + j) kind some)
  shifted count asks each j kind a less within asked some =
      let here : j ≡ 0 + j = omega arith in
      subst (λ (k : ℕ). P (file_of out k kind some)) here (each j kind a less within asked some)

  segments-hold : (count most : ℕ) (s : Consoles) (asks : List (PerKind Bool)) → s.asks ≡ asks → HoldsOfAsked count asks
      → All P (segment_pieces most (names_from out 0 count) s)
  unfolding segment_pieces
  segments-hold count zero s asks same each = All-nil P
  segments-hold count (suc most) s asks same each =
      by (is_over s) (segments-hold count most (advanced s) asks (kept s ∙ same) each) where
        kept : (s : Consoles) → (advanced s).asks ≡ s.asks
        kept s = (advances s).asks

        by : (over : Bool) → All P (segment_pieces most (names_from out 0 count) (advanced s))
            → All P (if over then []
            else cut_pieces growing_kinds (names_from out 0 count) s.asks (segment_cut (advanced s)).consoles
            ++ segment_pieces most (names_from out 0 count) (advanced s))
        by true rest = All-nil P
        by false rest =
            All-append P (cut_pieces growing_kinds (names_from out 0 count) s.asks (segment_cut (advanced s)).consoles)
            (segment_pieces most (names_from out 0 count) (advanced s))
            (subst (λ (all : List (PerKind Bool)). All P (cut_pieces growing_kinds (names_from out 0 count) all
            (segment_cut (advanced s)).consoles)) (sym same)
            (cut-pieces-hold growing_kinds 0 count asks (segment_cut (advanced s)).consoles (shifted count asks each)))
            rest

  pub pieces-hold : (count : ℕ) (s : Consoles) → HoldsOfAsked count s.asks
      → All P (run_pieces (names_from out 0 count) s)
  pieces-hold count s each =
      All-append P (segment_pieces (suc (later_segments s)) (names_from out 0 count) s)
      (cut_pieces lasting_kinds (names_from out 0 count) s.asks (whole_cut s).consoles)
      (segments-hold count (suc (later_segments s)) s s.asks refl each)
      (cut-pieces-hold lasting_kinds 0 count s.asks (whole_cut s).consoles (shifted count s.asks each))

-- ---- a file is among the outputs

among-append : (name : List ℕ) (a b : List Output) → is_among name (a ++ b) ≡ (is_among name a || is_among name b)
unfolding is_among
among-append name [] b = refl
among-append name (output ∷ a) b = by (bytes_eq output.name name) (among-append name a b) where
  by : (t : Bool) → is_among name (a ++ b) ≡ (is_among name a || is_among name b)
      → (t || is_among name (a ++ b)) ≡ ((t || is_among name a) || is_among name b)
  by true rest = refl
  by false rest = rest

among-first : (name : List ℕ) (a b : List Output) → is_among name a ≡ true → is_among name (a ++ b) ≡ true
among-first name a b there = among-append name a b ∙ ap (λ (t : Bool). t || is_among name b) there

among-second : (name : List ℕ) (a b : List Output) → is_among name b ≡ true → is_among name (a ++ b) ≡ true
among-second name a b there =
    among-append name a b ∙ by (is_among name a) there where
      by : (t : Bool) → is_among name b ≡ true → (t || is_among name b) ≡ true
      by true is = refl
      by false is = is

among-own : (output : Output) (outputs : List Output) → is_among output.name (output ∷ outputs) ≡ true
unfolding is_among
among-own output outputs = rw (own-name output.name) refl

kinds-among : (out : List ℕ) (player : ℕ) (console : ConsoleJob) (files : PerKind (List ℕ)) (kind : OutKind)
    → asks_for console kind ≡ true
    → is_among (output_file out player kind) (console_outputs (names_of out player) console files) ≡ true
unfolding console_outputs
kinds-among out player console files kind asked = by kind refl where
  name : List ℕ
  name = output_file out player kind

  here : (one : OutKind) → kind ≡ one
      → is_among name (kind_output (names_of out player) console files one) ≡ true
  here one same =
      rw (at-per_kind (output_file out player) one)
      (ap (λ (b : Bool). is_among name (if b then file_of out player one (at_kind files one) ∷ [] else []))
      (ap (asks_for console) (sym same) ∙ asked)
      ∙ ap (λ (k : OutKind). is_among name (file_of out player k (at_kind files one) ∷ [])) (sym same)
      ∙ among-own (file_of out player kind (at_kind files one)) [])

  f : OutKind → List Output
  f = kind_output (names_of out player) console files

  by : (one : OutKind) → kind ≡ one → is_among name (flat_map f all_kinds) ≡ true
  by Frames same = among-first name (f Frames) _ (here Frames same)
  by Samples same = among-second name (f Frames) _ (among-first name (f Samples) _ (here Samples same))
  by Words same =
      among-second name (f Frames) _ (among-second name (f Samples) _ (among-first name (f Words) _ (here Words same)))
  by State same =
      among-second name (f Frames) _ (among-second name (f Samples) _ (among-second name (f Words) _
      (among-first name (f State) _ (here State same))))
  by Save same =
      among-second name (f Frames) _ (among-second name (f Samples) _ (among-second name (f Words) _
      (among-second name (f State) _ (among-first name (f Save) _ (here Save same)))))

pub output-among : (out : List ℕ) (player j k : ℕ) (consoles : List ConsoleJob) (files : List (PerKind (List ℕ)))
    (c : ConsoleJob) (kind : OutKind) → k ≡ player + j → length files ≡ length consoles → j < length consoles
    → asks_for (get_or consoles j c) kind ≡ true
    → is_among (output_file out k kind) (outputs_of (names_from out player (length consoles)) consoles files) ≡ true
unfolding outputs_of names_from
output-among out player j k [] files c kind is many within asked = absurd (omega (arith, within))
output-among out player j k (d ∷ consoles) [] c kind is many within asked = absurd (omega (arith, many))
output-among out player zero k (d ∷ consoles) (one ∷ files) c kind is many within asked =
    let here : player ≡ k = omega (arith, is) in
    among-first (output_file out k kind) (console_outputs (names_of out player) d one)
    (outputs_of (names_from out (player + 1) (length consoles)) consoles files)
    (subst (λ (p : ℕ). is_among (output_file out k kind) (console_outputs (names_of out p) d one) ≡ true) (sym here)
    (kinds-among out k d one kind asked))
output-among out player (suc j) k (d ∷ consoles) (one ∷ files) c kind is many within asked =
    among-second (output_file out k kind) (console_outputs (names_of out player) d one)
    (outputs_of (names_from out (player + 1) (length consoles)) consoles files)
    (output-among out (player + 1) j k consoles files c kind (omega (arith, is)) (omega (arith, many))
    (omega (arith, within)) asked)

-- ---- a job's run

one-console : (consoles : List ConsoleJob) → 0 < length consoles → ConsoleJob
one-console [] some = absurd (omega (arith, some))
one-console (c ∷ consoles) some = c

last-among : (before : List Output) (last : Output) → is_among last.name (before ++ last ∷ []) ≡ true
last-among before last = among-second last.name before (last ∷ []) (among-own last [])

added-last : (name : List ℕ) (last : Output) → bytes_eq last.name name ≡ false → added name (last ∷ []) ≡ []
unfolding added
added-last name last apart = rw apart refl

added-own : (last : Output) → added last.name (last ∷ []) ≡ last.bytes
unfolding added
added-own last = rw (own-name last.name) (append-nil last.bytes)

-- of consoles that run in segments, from a start at which their lists are empty
module _ (law : LiveSegments) (out : List ℕ) (job : WholeJob) (sound : IsJob job) (s : Consoles)
    (asked : s.asks ≡ map asks_of job.consoles) (started : length s.start.consoles ≡ length job.consoles)
    (can : CanRun s.start) (within : s.to ≤ s.until) (reset : (k : ℕ) (m : Machine) → k < length job.consoles
    → get_or (run_until s.to s.start).consoles k m ≡ forgotten (get_or s.start.consoles k m)) where
  abbrev count : ℕ
  count = length job.consoles

  abbrev machines : List Machine
  machines = (whole_cut s).consoles

  abbrev outputs : List Output
  outputs = outputs_of (names_from out 0 count) job.consoles (files_at job (whole_cut s))

  abbrev pieces : List Output
  pieces = run_pieces (names_from out 0 count) s

  asks-long : length s.asks ≡ count
  asks-long = ap (λ (asks : List (PerKind Bool)). length asks) asked ∙ length-map job.consoles asks_of

  start-many : length s.start.consoles ≡ length s.asks
  start-many = started ∙ sym asks-long

  machines-many : length machines ≡ count
  machines-many = until-many s.until s.start ∙ started

  asks-are : (j : ℕ) (kind : OutKind) (c : ConsoleJob) (a : PerKind Bool) → j < count
      → at_kind (get_or s.asks j a) kind ≡ asks_for (get_or job.consoles j c) kind
  asks-are j kind c a less =
      ap (λ (all : List (PerKind Bool)). at_kind (get_or all j a) kind) asked
      ∙ ap (λ (asks : PerKind Bool). at_kind asks kind) (get_or-map asks_of job.consoles j c a less)
      ∙ at-per_kind (asks_for (get_or job.consoles j c)) kind

  added-to : (j : ℕ) (kind : OutKind) (c : ConsoleJob) (m : Machine) → j < count
      → asks_for (get_or job.consoles j c) kind ≡ true
      → added (output_file out j kind) pieces ≡ output_bytes kind (get_or machines j m)
  added-to j kind c m less asks =
      let a = asks_of c in
      output-added law out s count sound.few_consoles can within (sym asks-long) start-many reset j kind less a m
      (asks-are j kind c a less ∙ asks)

  files_long : length (files_at job (whole_cut s)) ≡ count
  files_long =
      files-long (map asks_of job.consoles) machines
      (omega (arith, length-map job.consoles asks_of, machines-many)) ∙ length-map job.consoles asks_of

  among-outputs : (j : ℕ) (kind : OutKind) (a : PerKind Bool) → j < count → at_kind (get_or s.asks j a) kind ≡ true
      → is_among (output_file out j kind) outputs ≡ true
  among-outputs j kind a less asks =
      let c = one-console job.consoles sound.some_consoles in
      output-among out 0 j j job.consoles (files_at job (whole_cut s)) c kind (omega arith) files_long less
      (sym (asks-are j kind c a less) ∙ asks)

  -- the files of a run that writes no more than these
  pub lone-files : (end : Result (List ℕ) Cause)
      → HasOwnFiles (record { outputs = outputs; pieces = pieces; end = end })
  lone-files end =
      let P : Output → Type 0 = λ piece. is_among piece.name outputs ≡ true in
      let Q : Output → Type 0 = λ output. added output.name pieces ≡ output.bytes in
      record {
        apart = (outputs-differ out count job.consoles (files_at job (whole_cut s)) sound.few_consoles).1;
        own = pieces-hold P out count s (λ j kind a less inside asks some. among-outputs j kind a less asks);
        whole = outputs-hold Q out 0 job.consoles machines machines-many (λ j kind c m less asks.
            let here : j ≡ 0 + j = omega arith in
            subst (λ (k : ℕ). added (output_file out k kind) pieces ≡ output_bytes kind (get_or machines j m)) here
            (added-to j kind c m less asks));
      }

  -- the files of a run that writes one more behind these, by a name of its own
  module _ (last : Output)
      (apart : (player : ℕ) (kind : OutKind) → player < 10 → output_file out player kind ≢ last.name)
      (none : is_among standard_output (outputs ++ last ∷ []) ≡ false) (end : Result (List ℕ) Cause) where
    output-whole : (j : ℕ) (kind : OutKind) (c : ConsoleJob) (m : Machine) → j < count
        → asks_for (get_or job.consoles j c) kind ≡ true
        → added (output_file out (0 + j) kind) (pieces ++ last ∷ []) ≡ output_bytes kind (get_or machines j m)
    output-whole j kind c m less asks =
        let here : 0 + j ≡ j = omega arith in
        let few : j < 10 = omega (arith, less, sound.few_consoles) in
        ap (λ (k : ℕ). added (output_file out k kind) (pieces ++ last ∷ [])) here
        ∙ added-append (output_file out j kind) pieces (last ∷ [])
        ∙ ap (λ (bytes : List ℕ). bytes ++ added (output_file out j kind) (last ∷ [])) (added-to j kind c m less asks)
        ∙ ap (λ (bytes : List ℕ). output_bytes kind (get_or machines j m) ++ bytes)
        (added-last (output_file out j kind) last
        (names-apart last.name (output_file out j kind) (λ same. apart j kind few (sym same))))
        ∙ append-nil (output_bytes kind (get_or machines j m))

    last-whole : added last.name (pieces ++ last ∷ []) ≡ last.bytes
    last-whole =
        added-append last.name pieces (last ∷ [])
        ∙ ap (λ (bytes : List ℕ). bytes ++ added last.name (last ∷ []))
        (other-added-none law out s count sound.few_consoles can within (sym asks-long) start-many reset
        last.name apart)
        ∙ added-own last

    pub own-files : HasOwnFiles (record { outputs = outputs ++ last ∷ []; pieces = pieces ++ last ∷ []; end = end })
    own-files =
        let P : Output → Type 0 = λ piece. is_among piece.name (outputs ++ last ∷ []) ≡ true in
        let Q : Output → Type 0 = λ output. added output.name (pieces ++ last ∷ []) ≡ output.bytes in
        record {
          apart = none;
          own = All-append P pieces (last ∷ [])
              (pieces-hold P out count s (λ j kind a less inside asks some.
              among-first (output_file out j kind) outputs (last ∷ []) (among-outputs j kind a less asks)))
              (All-cons P last [] (last-among outputs last) (All-nil P));
          whole = All-append Q outputs (last ∷ [])
              (outputs-hold Q out 0 job.consoles machines machines-many output-whole)
              (All-cons Q last [] last-whole (All-nil Q));
        }

-- those of a job's run from reset
module _ (law : LiveSegments) (out : List ℕ) (job : WholeJob) (images : List ConsoleImages) (sound : IsJob job)
    (many : length images ≡ length job.consoles) where
  abbrev first : Consoles
  first = prepared job images

  reset : (k : ℕ) (m : Machine) → k < length job.consoles
      → get_or (run_until 0 first.start).consoles k m ≡ forgotten (get_or first.start.consoles k m)
  reset k m less = reset-empty job images k m (omega (arith, less, start-long job images sound many))

  job-files : (last : Output) → ((player : ℕ) (kind : OutKind) → player < 10 → output_file out player kind ≢ last.name)
      → is_among standard_output
      (outputs_of (names_from out 0 (length job.consoles)) job.consoles (files_at job (whole_cut first)) ++ last ∷ [])
      ≡ false
      → (end : Result (List ℕ) Cause) → HasOwnFiles (record {
        outputs = outputs_of (names_from out 0 (length job.consoles)) job.consoles (files_at job (whole_cut first))
            ++ last ∷ [];
        pieces = run_pieces (names_from out 0 (length job.consoles)) first ++ last ∷ [];
        end = end;
      })
  job-files last apart none end =
      own-files law out job sound first refl (start-long job images sound many) (start-can job images sound many)
      (omega arith) reset last apart none end

  -- it writes its log there
  abbrev log : Output
  log = log_output (run_names out (length job.consoles)) (log_of job (files_at job (whole_cut first)))

  pub run-own-files : HasOwnFiles (run_of (run_names out (length job.consoles)) job first)
  run-own-files =
      let names = run_names out (length job.consoles) in
      job-files log (log-apart out)
      (written-differ out (length job.consoles) job (files_at job (whole_cut first))
      (summary_lines (whole_cut first).consoles) (run_pieces names.consoles first) sound.few_consoles).1
      (run_of names job first).end

  -- and one that is frozen at its end its frozen file
  abbrev frozen : List ℕ → Output
  frozen digest = log_output (freeze_names out (length job.consoles)) (frozen_file digest (whole_cut first))

  pub frozen-own-files : (digest : List ℕ)
      → HasOwnFiles (frozen_run (freeze_names out (length job.consoles)) job digest first)
  frozen-own-files digest =
      job-files (frozen digest) (frozen-apart out)
      (frozen-differ out (length job.consoles) job.consoles (files_at job (whole_cut first))
      (frozen_file digest (whole_cut first)) sound.few_consoles).1
      (Ok (summary_lines (whole_cut first).consoles))

-- those of a run that goes on from a cut, which writes no more
pub resumed-own-files : LiveSegments → ResumedRunsHaveOwnFiles
resumed-own-files law out job start sound many can awaited empty =
    let s = resumed job start in
    let past = begins-below job.cycles (least_clock start) in
    let stays : run_until s.to start ≡ start = no-steps start s.to awaited past in
    lone-files law out job sound s refl many can
    (omega (arith, begins-before job.cycles (least_clock start) sound.some_cycles)) (λ k m less.
    ap (λ (c : Cut Machine). get_or c.consoles k m) stays
    ∙ ap (λ (ms : List Machine). get_or ms k m) (sym empty)
    ∙ get_or-map forgotten start.consoles k m m (omega (arith, less, many)))
    (Ok (summary_lines (whole_cut s).consoles))

-- ---- a run with files before its own

differ-first : (a b : List Output) → NamesDiffer (a ++ b) → NamesDiffer a
unfolding NamesDiffer
differ-first [] b h = tt
differ-first (output ∷ a) b h =
    let parts = neither (is_among output.name a) (is_among output.name b) (sym (among-append output.name a b) ∙ h.0) in
    (parts.0, differ-first a b h.1)

first-apart : (a b : List Output) → NamesDiffer (a ++ b) → All (λ x. is_among x.name b ≡ false) a
unfolding NamesDiffer
first-apart [] b h = All-nil (λ x. is_among x.name b ≡ false)
first-apart (output ∷ a) b h =
    let parts = neither (is_among output.name a) (is_among output.name b) (sym (among-append output.name a b) ∙ h.0) in
    All-cons (λ x. is_among x.name b ≡ false) output a parts.1 (first-apart a b h.1)

each-other : (name : List ℕ) (b : List Output) → is_among name b ≡ false → All (λ y. bytes_eq name y.name ≡ false) b
unfolding is_among
each-other name [] none = All-nil (λ y. bytes_eq name y.name ≡ false)
each-other name (output ∷ b) none =
    let parts = neither (bytes_eq output.name name) (is_among name b) none in
    let apart : bytes_eq name output.name ≡ false =
    names-apart name output.name (λ same. other-name output.name name parts.0 (sym same)) in
    All-cons (λ y. bytes_eq name y.name ≡ false) output b apart (each-other name b parts.1)

second-apart : (a b : List Output) → NamesDiffer (a ++ b) → All (λ y. is_among y.name a ≡ false) b
unfolding NamesDiffer is_among
second-apart [] b h = λ k d within. refl
second-apart (output ∷ a) b h =
    let parts = neither (is_among output.name a) (is_among output.name b) (sym (among-append output.name a b) ∙ h.0) in
    let others = each-other output.name b parts.1 in
    let rest = second-apart a b h.1 in
    λ k d within. let other = others k d within in let left = rest k d within in rw other left

none-of : (name : List ℕ) (pieces outputs : List Output) → All (λ piece. is_among piece.name outputs ≡ true) pieces
    → is_among name outputs ≡ false → added name pieces ≡ []
unfolding added
none-of name [] outputs own none = refl
none-of name (piece ∷ pieces) outputs own none =
    let P : Output → Type 0 = λ one. is_among one.name outputs ≡ true in
    let here : is_among piece.name outputs ≡ true = All-head P piece pieces own in
    let apart : bytes_eq piece.name name ≡ false =
    names-apart piece.name name (λ same.
    let there : is_among name outputs ≡ true = subst (λ (n : List ℕ). is_among n outputs ≡ true) same here in
    absurd cc) in
    rw apart (none-of name pieces outputs (All-tail P piece pieces own) none)

pub own-after : (first : List Output) (run : Run) → NamesDiffer (first ++ run.outputs)
    → is_among standard_output (first ++ run.outputs) ≡ false → HasOwnFiles run → HasOwnFiles (after_files first run)
own-after first run differ apart own =
    let both : List Output = first ++ run.outputs in
    let P : Output → Type 0 = λ piece. is_among piece.name both ≡ true in
    let Q : Output → Type 0 = λ output. added output.name (first ++ run.pieces) ≡ output.bytes in
    let parts = neither (is_among standard_output first) (is_among standard_output run.outputs)
    (sym (among-append standard_output first run.outputs) ∙ apart) in
    let alone = has-own-files first run.end (differ-first first run.outputs differ) parts.0 in
    let before = first-apart first run.outputs differ in
    let behind = second-apart first run.outputs differ in
    record {
      apart = apart;
      own = All-append P first run.pieces (λ k d within. among-first _ first run.outputs (alone.own k d within))
          (λ k d within. among-second _ first run.outputs (own.own k d within));
      whole = All-append Q first run.outputs
          (λ k d within. let name = (get_or first k d).name in
          added-append name first run.pieces
          ∙ ap (λ (bytes : List ℕ). added name first ++ bytes)
          (none-of name run.pieces run.outputs own.own (before k d within))
          ∙ append-nil (added name first) ∙ alone.whole k d within)
          (λ k d within. let name = (get_or run.outputs k d).name in
          added-append name first run.pieces
          ∙ ap (λ (bytes : List ℕ). bytes ++ added name run.pieces)
          (none-of name first first alone.own (behind k d within))
          ∙ own.whole k d within);
    }
