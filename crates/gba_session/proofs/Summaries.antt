-- The lines of the summary, one after another.
use Rattle.std.proofs.Common.{◌≡◌, ℕ, ◌<◌, ◌+◌, List, ◌∷◌, ◌++◌, length, drop, get_or, map, refl, sym, ap, ◌∙◌, append_assoc}
use Rattle.std.specs.List.{flat_map}
use Rattle.std.proofs.lemmas.List.{drop_more}
use Rattle.gba_console.specs.Machine.{Machine, without_limit}
use Rattle.gba_output.specs.StateFile.{summary_line}

-- a console's line doesn't tell how far it may run
same-line : (m : Machine) → summary_line (without_limit m) ≡ summary_line m
unfolding summary_line
same-line m = refl

more-lines : (m : Machine) (ms : List Machine)
    → flat_map summary_line (map without_limit (m ∷ ms))
    ≡ summary_line (without_limit m) ++ flat_map summary_line (map without_limit ms)
more-lines m ms = refl

-- the lines so far, and those that are left
pub line-added : (lines new all : List ℕ) (ms : List Machine) (i : ℕ) (m : Machine) → i < length ms → m ≡ get_or ms i m
    → new ≡ lines ++ summary_line m → lines ++ flat_map summary_line (map without_limit (drop i ms)) ≡ all
    → new ++ flat_map summary_line (map without_limit (drop (i + 1) ms)) ≡ all
line-added lines new all ms i m within here added before =
    let left = flat_map summary_line (map without_limit (drop (i + 1) ms)) in
    let split : drop i ms ≡ m ∷ drop (i + 1) ms =
    drop_more ms i m within ∙ ap (λ (x : Machine). x ∷ drop (i + 1) ms) (sym here) in
    let whole : flat_map summary_line (map without_limit (drop i ms)) ≡ summary_line m ++ left =
    ap (λ (xs : List Machine). flat_map summary_line (map without_limit xs)) split ∙ more-lines m (drop (i + 1) ms)
    ∙ ap (λ line. line ++ left) (same-line m) in
    ap (λ xs. xs ++ left) added ∙ append_assoc lines (summary_line m) left ∙ ap (λ xs. lines ++ xs) (sym whole) ∙ before
