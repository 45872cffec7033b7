-- The registers of a line, one after another.
use Rattle.std.proofs.Common.{◌≡◌, ℕ, suc, ◌+◌, ◌-◌, ◌<◌, List, ◌++◌, refl, sym, ap, ◌∙◌, append_assoc, append-nil, arith}
use Rattle.gba_psr.specs.RegisterFile.{register}
use Rattle.gba_freeze.specs.StepLine.{registers_from, word_text}

one_more : (more number : ℕ) (file : List ℕ)
    → registers_from (suc more) number file ≡ word_text (register file number) ++ registers_from more (number + 1) file
unfolding registers_from
one_more more number file = refl

-- a register is added, and the rest is still to come
pub added : (before after start : List ℕ) (number : ℕ) (file : List ℕ) → number < 16
    → before ++ registers_from (16 - number) number file ≡ start
    → after ≡ before ++ word_text (register file number)
    → after ++ registers_from (16 - (number + 1)) (number + 1) file ≡ start
added before after start number file within e grown =
    let more = 15 - number in
    let rest : 16 - (number + 1) ≡ more = omega arith in
    let here : 16 - number ≡ suc more = omega (arith, within) in
    let word = word_text (register file number) in
    ap (λ (bytes : List ℕ). bytes ++ registers_from (16 - (number + 1)) (number + 1) file) grown
    ∙ ap (λ (n : ℕ). (before ++ word) ++ registers_from n (number + 1) file) rest
    ∙ append_assoc before word (registers_from more (number + 1) file)
    ∙ ap (λ (bytes : List ℕ). before ++ bytes) (sym (one_more more number file))
    ∙ ap (λ (n : ℕ). before ++ registers_from n number file) (sym here)
    ∙ e

-- none is left
pub none_left : (bytes start : List ℕ) (number left : ℕ) (file : List ℕ) → left ≡ 0
    → bytes ++ registers_from left number file ≡ start → bytes ≡ start
unfolding registers_from
none_left bytes start number left file none e =
    sym (append-nil bytes) ∙ ap (λ (n : ℕ). bytes ++ registers_from n number file) (sym none) ∙ e
