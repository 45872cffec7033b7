-- Digits, and lists of registers, one more each time.
use Rattle.std.proofs.Common.{◌≡◌, ◌<◌, ℕ, zero, suc, ◌+◌, ◌-◌, ◌*◌, ◌/◌, ◌%◌, ◌^◌, Bool, true, false, cond, List, [], ◌∷◌, ◌++◌, refl, sym, ap, ◌∙◌, append_assoc, arith}
use Rattle.std.proofs.lemmas.List.{append-nil}
use Rattle.gba_terms.specs.Bits.{bit}
use Rattle.gba_terms.specs.Hexadecimal.{hex, hex_digit}
use Rattle.gba_dis.specs.Pieces.{Comma, entries_from, register, register_name, text_of}

suc_before : (k : ℕ) → 0 < k → k ≡ suc (k - 1)
suc_before k h = omega arith

pub hex_more : (k n : ℕ) → 0 < k → hex k n ≡ hex_digit (n / 2 ^ (4 * (k - 1)) % 16) ∷ hex (k - 1) n
hex_more k n h = ap (λ j. hex j n) (suc_before k h)

-- the digits that are left, after one more
pub hex_pushed : (line new start : List ℕ) (k n : ℕ) (all : List ℕ) → 0 < k → line ++ hex k n ≡ all
    → new ≡ line ++ hex_digit (n / 2 ^ (4 * (k - 1)) % 16) ∷ [] → new ++ hex (k - 1) n ≡ all
hex_pushed line new start k n all h e pushed =
    ap (λ xs. xs ++ hex (k - 1) n) pushed
    ∙ append_assoc line (hex_digit (n / 2 ^ (4 * (k - 1)) % 16) ∷ []) (hex (k - 1) n)
    ∙ ap (λ ds. line ++ ds) (sym (hex_more k n h)) ∙ e

left_over : (n : ℕ) → n < 16 → 16 - n ≡ suc (16 - (n + 1))
left_over n h = omega arith

-- a register with the comma before it
abbrev pub entry : Bool → ℕ → List ℕ
entry first n = cond first (register_name n) (44 ∷ 32 ∷ register_name n)

set_by : (more n list : ℕ) (first : Bool) (t : Bool) → bit list n ≡ t → t ≡ true
    → text_of (entries_from (suc more) n first list) ≡ entry first n ++ text_of (entries_from more (n + 1) false list)
unfolding entries_from
set_by more n list true t e h = rw (e, h) refl
set_by more n list false t e h = rw (e, h) refl

pub entries_set : (n list : ℕ) (first : Bool) → n < 16 → bit list n ≡ true
    → text_of (entries_from (16 - n) n first list)
    ≡ entry first n ++ text_of (entries_from (16 - (n + 1)) (n + 1) false list)
entries_set n list first h set =
    ap (λ more. text_of (entries_from more n first list)) (left_over n h)
    ∙ set_by (16 - (n + 1)) n list first (bit list n) refl set

unset_by : (more n list : ℕ) (first : Bool) → bit list n ≡ false
    → text_of (entries_from (suc more) n first list) ≡ text_of (entries_from more (n + 1) first list)
unfolding entries_from
unset_by more n list first h = rw h refl

pub entries_unset : (n list : ℕ) (first : Bool) → n < 16 → bit list n ≡ false
    → text_of (entries_from (16 - n) n first list) ≡ text_of (entries_from (16 - (n + 1)) (n + 1) first list)
entries_unset n list first h unset =
    ap (λ more. text_of (entries_from more n first list)) (left_over n h) ∙ unset_by (16 - (n + 1)) n list first unset

pub entries_end : (first : Bool) (list : ℕ) → text_of (entries_from 0 16 first list) ≡ []
unfolding entries_from
entries_end first list = refl

-- the registers that are left, after one more
pub entries_pushed : (line new all : List ℕ) (n list : ℕ) (first next : Bool) → n < 16 → bit list n ≡ true
    → line ++ text_of (entries_from (16 - n) n first list) ≡ all → new ≡ line ++ entry first n → next ≡ false
    → new ++ text_of (entries_from (16 - (n + 1)) (n + 1) next list) ≡ all
entries_pushed line new all n list first next h set e pushed later =
    rw (pushed, later)
    (append_assoc line (entry first n) (text_of (entries_from (16 - (n + 1)) (n + 1) false list))
    ∙ ap (λ rest. line ++ rest) (sym (entries_set n list first h set)) ∙ e)

pub entries_passed : (line new all : List ℕ) (n list : ℕ) (first next : Bool) → n < 16 → bit list n ≡ false
    → line ++ text_of (entries_from (16 - n) n first list) ≡ all → new ≡ line → next ≡ first
    → new ++ text_of (entries_from (16 - (n + 1)) (n + 1) next list) ≡ all
entries_passed line new all n list first next h unset e same later =
    rw (same, later) (ap (λ rest. line ++ rest) (sym (entries_unset n list first h unset)) ∙ e)

pub entries_done : (line all : List ℕ) (n list : ℕ) (first : Bool) → n ≡ 16
    → line ++ text_of (entries_from (16 - n) n first list) ≡ all → line ≡ all
entries_done line all n list first h e =
    let here : line ++ text_of (entries_from 0 16 first list) ≡ all = rw h at e in
    sym (append-nil line) ∙ ap (λ rest. line ++ rest) (sym (entries_end first list)) ∙ here
