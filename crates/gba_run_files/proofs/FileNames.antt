-- Names of files.
use Rattle.std.proofs.Common.{◌≡◌, ◌≤◌, ◌<◌, ℕ, zero, suc, ◌+◌, ◌-◌, List, [], ◌∷◌, ◌++◌, ◌∙◌, length, map, refl, sym, ap, arith}
use Rattle.std.specs.Prelude.{codes, decimal}
use Rattle.std.proofs.lemmas.Fmt.{decimal_digit}
use Rattle.std.proofs.lemmas.List.{append-nil, append_assoc, length-append, map-append}
use Rattle.gba_joblog.specs.Clash.{output_file}
use Rattle.gba_joblog.specs.Outputs.{out_name}
use Rattle.gba_joblog.specs.declared.outputs.OutKind.{OutKind}
use Rattle.gba_joblog.specs.declared.outputs.OutKind.TheVariants.{Frames, Samples, Words, State, Save}
use Rattle.gba_joblog.specs.declared.outputs.PerKind.{PerKind}
use Rattle.gba_run_files.specs.Names.{names_from, names_of}
use Rattle.gba_run_files.specs.Views.{names_value}
use Rattle.gba_run_files.specs.declared.names.Names.{Names}

kind-short : (kind : OutKind) → length (out_name kind) ≤ 7
kind-short Frames = omega arith
kind-short Samples = omega arith
kind-short Words = omega arith
kind-short State = omega arith
kind-short Save = omega arith

pub name-short : (out : List ℕ) (player : ℕ) (kind : OutKind) → length out ≤ 180 → player < 4
    → length (output_file out player kind) ≤ 200
name-short out player kind short few =
    let digit : length (decimal player) ≡ 1 = ap length (decimal_digit player (omega (arith, few))) in
    let tail = length-append (decimal player) (codes "." ++ out_name kind) in
    let whole = length-append out (codes "." ++ (decimal player ++ (codes "." ++ out_name kind))) in
    omega (arith, digit, tail, whole, short, kind-short kind)

names-cons : (out : List ℕ) (player count : ℕ) → player < count
    → names_from out player (count - player) ≡ names_of out player ∷ names_from out (player + 1) (count - (player + 1))
unfolding names_from
names-cons out player count within =
    let is : count - player ≡ suc (count - (player + 1)) = omega (arith, within) in
    rw is refl

-- the names so far and those that are left
pub names-more : (out : List ℕ) (player count : ℕ) (old new : List Names) (one : Names) (all : List (PerKind (List ℕ)))
    → player < count → new ≡ old ++ one ∷ [] → names_value one ≡ names_of out player
    → map names_value old ++ names_from out player (count - player) ≡ all
    → map names_value new ++ names_from out (player + 1) (count - (player + 1)) ≡ all
names-more out player count old new one all within kept is before =
    let left = names_from out (player + 1) (count - (player + 1)) in
    ap (λ (xs : List Names). map names_value xs ++ left) kept
    ∙ ap (λ (xs : List (PerKind (List ℕ))). xs ++ left) (map-append names_value old (one ∷ []))
    ∙ append_assoc (map names_value old) (names_value one ∷ []) left
    ∙ ap (λ (x : PerKind (List ℕ)). map names_value old ++ x ∷ left) is
    ∙ ap (λ (xs : List (PerKind (List ℕ))). map names_value old ++ xs) (sym (names-cons out player count within))
    ∙ before

names-none : (out : List ℕ) (player count : ℕ) → count ≤ player → names_from out player (count - player) ≡ []
unfolding names_from
names-none out player count past =
    let is : count - player ≡ 0 = omega (arith, past) in
    rw is refl

pub names-whole : (out : List ℕ) (player count : ℕ) (names : List Names) (all : List (PerKind (List ℕ)))
    → count ≤ player → map names_value names ++ names_from out player (count - player) ≡ all
    → map names_value names ≡ all
names-whole out player count names all past before =
    sym (append-nil (map names_value names))
    ∙ ap (λ (xs : List (PerKind (List ℕ))). map names_value names ++ xs) (sym (names-none out player count past))
    ∙ before

pub names-long : (out : List ℕ) (player count : ℕ) → length (names_from out player count) ≡ count
unfolding names_from
names-long out player zero = refl
names-long out player (suc count) = omega (arith, names-long out (player + 1) count)
