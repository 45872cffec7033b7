-- The files of a run have different names.
use Rattle.std.proofs.Common.{◌≡◌, ℕ, zero, suc, ◌+◌, ◌<◌, ◌≤◌, Bool, true, false, List, [], ◌∷◌, ◌++◌, length, map, refl, sym, ap, ◌∙◌, subst, inl, inr, arith}
use Rattle.std.specs.Prelude.{codes, ◌&&◌, nat_lt}
use Rattle.std.specs.List.{flat_map}
use Rattle.std.specs.Str.{bytes_eq}
use Rattle.std.proofs.lemmas.Bool.Decides.{nat_tests}
use Rattle.std.proofs.lemmas.Fmt.{decimal_digit}
use Rattle.std.proofs.lemmas.List.{append_cancel_left, length-append, map-append}
use Rattle.gba_command.proofs.LeftFiles.{same-name, names-apart, own-name}
use Rattle.gba_command.proofs.Parts.{ArePart, part-append, part-differ, all_differ, has_name, all_long}
use Rattle.gba_command.specs.LeftFiles.{NamesDiffer, is_among, standard_output}
use Rattle.gba_command.specs.Writing.{Output}
use Rattle.gba_joblog.specs.Clash.{log_file, output_file}
use Rattle.gba_joblog.specs.Job.{ConsoleJob, WholeJob}
use Rattle.gba_joblog.specs.Outputs.{all_kinds, at_kind, out_name}
use Rattle.gba_joblog.specs.Statements.{asks_for}
use Rattle.gba_joblog.specs.declared.outputs.OutKind.{OutKind}
use Rattle.gba_joblog.specs.declared.outputs.PerKind.{PerKind}
use Rattle.gba_joblog.proofs.EachKind.{at-per_kind}
use Rattle.gba_run_files.specs.Law.{under}
use Rattle.gba_run_files.specs.Frozen.{frozen_name}
use Rattle.gba_run_files.specs.Names.{names_from, names_of, run_names}
use Rattle.gba_run_files.specs.Outputs.{console_outputs, kind_output, output_if, outputs_of}
use Rattle.gba_run_files.specs.Written.{log_of, written}
use Rattle.gba_run_files.proofs.RunAgain.{outputs-under, written-under}

-- ---- files under OUT

front-eq : (out a b : List ℕ) → bytes_eq (out ++ a) (out ++ b) ≡ bytes_eq a b
front-eq out a b = by (bytes_eq a b) refl where
  by : (t : Bool) → bytes_eq a b ≡ t → bytes_eq (out ++ a) (out ++ b) ≡ bytes_eq a b
  by true is =
      ap (λ (x : List ℕ). bytes_eq (out ++ a) (out ++ x)) (sym (same-name a b is)) ∙ own-name (out ++ a) ∙ sym is
  by false is =
      names-apart (out ++ a) (out ++ b) (λ same.
      let differ : bytes_eq a b ≡ true
      = subst (λ (x : List ℕ). bytes_eq a x ≡ true) (append_cancel_left out a b same) (own-name a) in absurd cc)
      ∙ sym is

among-under : (out name : List ℕ) (outputs : List Output)
    → is_among (out ++ name) (map (under out) outputs) ≡ is_among name outputs
unfolding is_among
among-under out name [] = refl
among-under out name (output ∷ outputs) =
    rw (front-eq out output.name name, among-under out name outputs) refl

pub differ-under : (out : List ℕ) (outputs : List Output) → NamesDiffer outputs → NamesDiffer (map (under out) outputs)
unfolding NamesDiffer
differ-under out [] h = tt
differ-under out (output ∷ outputs) h = (among-under out output.name outputs ∙ h.0, differ-under out outputs h.1)

long-parts : (a b : Bool) → (a && b) ≡ true → (a ≡ true) × (b ≡ true)
long-parts true b h = (refl, h)
long-parts false b h = absurd cc

too-long : (out name : List ℕ) → nat_lt 1 (length name) ≡ true → bytes_eq (out ++ name) standard_output ≡ false
too-long out name long = names-apart (out ++ name) standard_output (λ same.
    let more : 1 < length name = grind (arith, nat_tests) in
    let whole = length-append out name in
    let one : length (out ++ name) ≡ 1 = ap length same in
    omega (arith, more, whole, one))

-- of names of two bytes and more, none of the files under OUT is standard output
pub apart-under : (out : List ℕ) (outputs : List Output) (names : List (List ℕ)) → ArePart outputs names
    → all_long names ≡ true → is_among standard_output (map (under out) outputs) ≡ false
unfolding ArePart all_long is_among
apart-under out [] names h long = refl
apart-under out (output ∷ outputs) [] h long = absurd h
apart-under out (output ∷ outputs) (name ∷ names) (inl h) long =
    let l = long-parts (nat_lt 1 (length name)) (all_long names) long in
    let here : bytes_eq (out ++ output.name) standard_output ≡ false
    = ap (λ (x : List ℕ). bytes_eq (out ++ x) standard_output) h.0 ∙ too-long out name l.0 in
    rw here (apart-under out outputs names h.1 l.1)
apart-under out (output ∷ outputs) (name ∷ names) (inr h) long =
    apart-under out (output ∷ outputs) names h (long-parts (nat_lt 1 (length name)) (all_long names) long).1

-- ---- the names of a run's files

-- the names that consoles from this player on may write; a player's number is one digit
abbrev digit_file : ℕ → OutKind → List ℕ
digit_file player kind = codes "." ++ ((48 + player) ∷ (codes "." ++ out_name kind))

unfoldable pub player_names : ℕ → ℕ → List (List ℕ)
player_names player zero = []
player_names player (suc count) = map (digit_file player) all_kinds ++ player_names (player + 1) count

one-digit : (player : ℕ) (kind : OutKind) → player < 10 → output_file [] player kind ≡ digit_file player kind
one-digit player kind few =
    ap (λ (digits : List ℕ). codes "." ++ (digits ++ (codes "." ++ out_name kind)))
    (decimal_digit player (omega (arith, few)))

if-part : (asked : Bool) (name bytes : List ℕ) → ArePart (output_if asked name bytes) (name ∷ [])
unfolding ArePart
if-part true name bytes = inl (refl, tt)
if-part false name bytes = tt

kinds-part : (player : ℕ) (console : ConsoleJob) (files : PerKind (List ℕ)) (kinds : List OutKind) → player < 10
    → ArePart (flat_map (kind_output (names_of [] player) console files) kinds) (map (digit_file player) kinds)
unfolding ArePart
kinds-part player console files [] few = tt
kinds-part player console files (kind ∷ kinds) few =
    let name : at_kind (names_of [] player) kind ≡ digit_file player kind
    = at-per_kind (output_file [] player) kind ∙ one-digit player kind few in
    let here : ArePart (kind_output (names_of [] player) console files kind) (digit_file player kind ∷ [])
    = subst (λ (n : List ℕ). ArePart (output_if (asks_for console kind) n (at_kind files kind))
    (digit_file player kind ∷ []))
    (sym name) (if-part (asks_for console kind) (digit_file player kind) (at_kind files kind)) in
    part-append (kind_output (names_of [] player) console files kind)
    (flat_map (kind_output (names_of [] player) console files) kinds) (digit_file player kind ∷ [])
    (map (digit_file player) kinds) here (kinds-part player console files kinds few)

console-part : (player : ℕ) (console : ConsoleJob) (files : PerKind (List ℕ)) → player < 10
    → ArePart (console_outputs (names_of [] player) console files) (map (digit_file player) all_kinds)
unfolding console_outputs
console-part player console files few = kinds-part player console files all_kinds few

nothing : (names : List (List ℕ)) → ArePart [] names
unfolding ArePart
nothing names = tt

outputs-part : (player count : ℕ) (consoles : List ConsoleJob) (files : List (PerKind (List ℕ)))
    → player + count < 10 → ArePart (outputs_of (names_from [] player count) consoles files) (player_names player count)
unfolding outputs_of names_from player_names
outputs-part player zero consoles files few = nothing []
outputs-part player (suc count) [] files few = nothing (player_names player (suc count))
outputs-part player (suc count) (c ∷ consoles) [] few = nothing (player_names player (suc count))
outputs-part player (suc count) (c ∷ consoles) (one ∷ files) few =
    part-append (console_outputs (names_of [] player) c one)
    (outputs_of (names_from [] (player + 1) count) consoles files)
    (map (digit_file player) all_kinds) (player_names (player + 1) count)
    (console-part player c one (omega (arith, few)))
    (outputs-part (player + 1) count consoles files (omega (arith, few)))

abbrev pub run_file_names : ℕ → List (List ℕ)
run_file_names count = player_names 0 count ++ log_file [] ∷ []

one-part : (output : Output) → ArePart (output ∷ []) (output.name ∷ [])
unfolding ArePart
one-part output = inl (refl, tt)

pub written-part : (count : ℕ) (job : WholeJob) (files : List (PerKind (List ℕ))) (lines : List ℕ)
    (pieces : List Output) → count ≤ 4
    → ArePart (written (run_names [] count) job files lines pieces).outputs (run_file_names count)
written-part count job files lines pieces few =
    let log : Output = record { name = log_file []; bytes = log_of job files } in
    part-append (outputs_of (names_from [] 0 count) job.consoles files) (log ∷ []) (player_names 0 count)
    (log_file [] ∷ []) (outputs-part 0 count job.consoles files (omega (arith, few))) (one-part log)

pub names-differ : (count : ℕ) → count ≤ 4
    → (all_differ (run_file_names count) ≡ true) × (all_long (run_file_names count) ≡ true)
unfolding player_names all_differ has_name all_long
names-differ zero few = (refl, refl)
names-differ (suc zero) few = (refl, refl)
names-differ (suc (suc zero)) few = (refl, refl)
names-differ (suc (suc (suc zero))) few = (refl, refl)
names-differ (suc (suc (suc (suc zero)))) few = (refl, refl)
names-differ (suc (suc (suc (suc (suc n))))) few = absurd (omega (arith, few))

pub written-differ : (out : List ℕ) (count : ℕ) (job : WholeJob) (files : List (PerKind (List ℕ))) (lines : List ℕ)
    (pieces : List Output) → count ≤ 4 → NamesDiffer (written (run_names out count) job files lines pieces).outputs
    × (is_among standard_output (written (run_names out count) job files lines pieces).outputs ≡ false)
written-differ out count job files lines pieces few =
    let plain : List Output = (written (run_names [] count) job files lines pieces).outputs in
    let part : ArePart plain (run_file_names count) = written-part count job files lines pieces few in
    let n = names-differ count few in
    let is = written-under out count job files lines pieces pieces in (
      subst (λ (l : List Output). NamesDiffer l) (sym is)
          (differ-under out plain (part-differ plain (run_file_names count) part n.0)),
      subst (λ (l : List Output). is_among standard_output l ≡ false) (sym is)
          (apart-under out plain (run_file_names count) part n.1),
    )

-- ---- the names of a run that writes no file more

player-names : (count : ℕ) → count ≤ 4
    → (all_differ (player_names 0 count) ≡ true) × (all_long (player_names 0 count) ≡ true)
unfolding player_names all_differ has_name all_long
player-names zero few = (refl, refl)
player-names (suc zero) few = (refl, refl)
player-names (suc (suc zero)) few = (refl, refl)
player-names (suc (suc (suc zero))) few = (refl, refl)
player-names (suc (suc (suc (suc zero)))) few = (refl, refl)
player-names (suc (suc (suc (suc (suc n))))) few = absurd (omega (arith, few))

pub outputs-differ : (out : List ℕ) (count : ℕ) (consoles : List ConsoleJob) (files : List (PerKind (List ℕ)))
    → count ≤ 4 → NamesDiffer (outputs_of (names_from out 0 count) consoles files)
    × (is_among standard_output (outputs_of (names_from out 0 count) consoles files) ≡ false)
outputs-differ out count consoles files few =
    let plain : List Output = outputs_of (names_from [] 0 count) consoles files in
    let part : ArePart plain (player_names 0 count) = outputs-part 0 count consoles files (omega (arith, few)) in
    let n = player-names count few in
    let is = outputs-under out 0 count consoles files in (
      subst (λ (l : List Output). NamesDiffer l) (sym is)
          (differ-under out plain (part-differ plain (player_names 0 count) part n.0)),
      subst (λ (l : List Output). is_among standard_output l ≡ false) (sym is)
          (apart-under out plain (player_names 0 count) part n.1),
    )

-- ---- the names of a run that is frozen

abbrev frozen_file_names : ℕ → List (List ℕ)
frozen_file_names count = player_names 0 count ++ frozen_name [] ∷ []

frozen-names : (count : ℕ) → count ≤ 4
    → (all_differ (frozen_file_names count) ≡ true) × (all_long (frozen_file_names count) ≡ true)
unfolding player_names all_differ has_name all_long
frozen-names zero few = (refl, refl)
frozen-names (suc zero) few = (refl, refl)
frozen-names (suc (suc zero)) few = (refl, refl)
frozen-names (suc (suc (suc zero))) few = (refl, refl)
frozen-names (suc (suc (suc (suc zero)))) few = (refl, refl)
frozen-names (suc (suc (suc (suc (suc n))))) few = absurd (omega (arith, few))

abbrev frozen_output : List ℕ → List ℕ → Output
frozen_output out bytes = record { name = frozen_name out; bytes = bytes }

abbrev frozen_outputs : List ℕ → ℕ → List ConsoleJob → List (PerKind (List ℕ)) → List ℕ → List Output
frozen_outputs out count consoles files bytes =
    outputs_of (names_from out 0 count) consoles files ++ frozen_output out bytes ∷ []

pub frozen-under : (out : List ℕ) (count : ℕ) (consoles : List ConsoleJob) (files : List (PerKind (List ℕ)))
    (bytes : List ℕ)
    → frozen_outputs out count consoles files bytes ≡ map (under out) (frozen_outputs [] count consoles files bytes)
frozen-under out count consoles files bytes =
    ap (λ (xs : List Output). xs ++ frozen_output out bytes ∷ []) (outputs-under out 0 count consoles files)
    ∙ sym (map-append (under out) (outputs_of (names_from [] 0 count) consoles files) (frozen_output [] bytes ∷ []))

pub frozen-differ : (out : List ℕ) (count : ℕ) (consoles : List ConsoleJob) (files : List (PerKind (List ℕ)))
    (bytes : List ℕ) → count ≤ 4 → NamesDiffer (frozen_outputs out count consoles files bytes)
    × (is_among standard_output (frozen_outputs out count consoles files bytes) ≡ false)
frozen-differ out count consoles files bytes few =
    let plain : List Output = frozen_outputs [] count consoles files bytes in
    let part : ArePart plain (frozen_file_names count) =
    part-append (outputs_of (names_from [] 0 count) consoles files) (frozen_output [] bytes ∷ []) (player_names 0 count)
    (frozen_name [] ∷ []) (outputs-part 0 count consoles files (omega (arith, few)))
    (one-part (frozen_output [] bytes)) in
    let n = frozen-names count few in
    let is = frozen-under out count consoles files bytes in (
      subst (λ (l : List Output). NamesDiffer l) (sym is)
          (differ-under out plain (part-differ plain (frozen_file_names count) part n.0)),
      subst (λ (l : List Output). is_among standard_output l ≡ false) (sym is)
          (apart-under out plain (frozen_file_names count) part n.1),
    )
