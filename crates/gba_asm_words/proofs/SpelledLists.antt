-- A list of registers that is spelled one by one is read as it stands.
use Rattle.std.proofs.Common.{◌≡◌, ◌<◌, ℕ, zero, suc, ◌+◌, ◌*◌, ◌/◌, ◌%◌, ◌^◌, Bool, true, false, cond, ◌==◌, List, [], ◌∷◌, ◌++◌, Some, Ok, bit_or, refl, sym, ap, ◌∙◌, arith}
use Rattle.std.proofs.Math.Nat.{mod-eq_of_lt}
use Rattle.std.proofs.lemmas.Bool.Decides.{nat_tests}
use Rattle.std.proofs.lemmas.Nat.{mod-pow-add, mod_below, or_comm, or_shifted}
use Rattle.gba_asm_words.specs.declared.lists.ListPlace.{ListPlace}
use Rattle.gba_asm_words.specs.declared.lists.ListPlace.TheVariants.{Opened, AfterRegister, Closed}
use Rattle.gba_asm_words.specs.Lists.{list_at, list_from, list_step, state}
use Rattle.gba_asm_words.specs.Names.{register_of}
use Rattle.gba_text.specs.Steps.{taken}
use Rattle.gba_asm_words.specs.Tokens.{Token, Word, Mark}
use Rattle.gba_asm_words.proofs.ListSteps.{list_from-closed}

-- The registers of a list from this one on, of so many, by their names; a comma (44) parts them.
abbrev pub listed : (ℕ → List ℕ) → ℕ → ℕ → Bool → ℕ → List Token
listed name zero n first list = []
listed name (suc more) n first list =
    cond (list / 2 ^ n % 2 == 1)
    (cond first (Word (name n) ∷ listed name more (n + 1) false list)
    (Mark 44 ∷ Word (name n) ∷ listed name more (n + 1) false list))
    (listed name more (n + 1) first list)

place_of : Bool → ℕ → ListPlace
place_of true k = Opened
place_of false k = AfterRegister k

one_more : (list n : ℕ) → list % 2 ^ (n + 1) ≡ (list / 2 ^ n % 2) * 2 ^ n + list % 2 ^ n
one_more list n =
    let e : n + 1 ≡ 1 + n = omega arith in
    ap (λ k. list % 2 ^ k) e ∙ mod-pow-add list 1 n

joined_bit : (list n acc : ℕ) → acc ≡ list % 2 ^ n → list / 2 ^ n % 2 ≡ 1 → bit_or acc (2 ^ n) ≡ list % 2 ^ (n + 1)
joined_bit list n acc e h =
    let small : list % 2 ^ n < 2 ^ n = mod_below list (2 ^ n) (omega arith) in
    let one : 1 * 2 ^ n ≡ 2 ^ n = omega arith in
    let sum : bit_or (2 ^ n) (list % 2 ^ n) ≡ 1 * 2 ^ n + list % 2 ^ n =
    ap (λ x. bit_or x (list % 2 ^ n)) (sym one) ∙ or_shifted 1 n (list % 2 ^ n) small in
    ap (λ x. bit_or x (2 ^ n)) e ∙ or_comm (list % 2 ^ n) (2 ^ n) ∙ sum
    ∙ sym (one_more list n ∙ ap (λ b. b * 2 ^ n + list % 2 ^ n) h)

left_bit : (list n acc : ℕ) → acc ≡ list % 2 ^ n → (list / 2 ^ n % 2 == 1) ≡ false → acc ≡ list % 2 ^ (n + 1)
left_bit list n acc e h =
    let none : list / 2 ^ n % 2 ≡ 0 = grind (arith, nat_tests) in
    e ∙ sym (one_more list n ∙ ap (λ b. b * 2 ^ n + list % 2 ^ n) none ∙ omega arith)

closed_read : (acc : ℕ) (rest : List Token) (k : ℕ) (first : Bool)
    → list_from (state acc (place_of first k)) (Mark 125 ∷ rest) ≡ Ok (taken acc rest)
unfolding list_from list_step place_of
closed_read acc rest k true = list_from-closed (state acc Closed) rest refl
closed_read acc rest k false = list_from-closed (state acc Closed) rest refl

word_read : (acc n : ℕ) (word : List ℕ) (ts : List Token) (k : ℕ) → register_of word ≡ Some n
    → list_from (state acc (place_of true k)) (Word word ∷ ts)
    ≡ list_from (state (bit_or acc (2 ^ n)) (place_of false n)) ts
unfolding list_from list_step place_of
word_read acc n word ts k h = rw h refl

next_read : (acc n : ℕ) (word : List ℕ) (ts : List Token) (k : ℕ) → register_of word ≡ Some n
    → list_from (state acc (place_of false k)) (Mark 44 ∷ Word word ∷ ts)
    ≡ list_from (state (bit_or acc (2 ^ n)) (place_of false n)) ts
unfolding list_from list_step place_of
next_read acc n word ts k h = rw h refl

read_by : (name : ℕ → List ℕ) (acc n list k : ℕ) (more : List Token) (first t : Bool) (rest : List Token)
    (others : List Token) → (list / 2 ^ n % 2 == 1) ≡ t → register_of (name n) ≡ Some n → acc ≡ list % 2 ^ n
    → ((a j : ℕ) → a ≡ list % 2 ^ (n + 1)
    → list_from (state a (place_of false j)) (more ++ Mark 125 ∷ rest) ≡ Ok (taken (list % 2 ^ 16) rest))
    → ((a j : ℕ) → a ≡ list % 2 ^ (n + 1)
    → list_from (state a (place_of first j)) (others ++ Mark 125 ∷ rest) ≡ Ok (taken (list % 2 ^ 16) rest))
    → list_from (state acc (place_of first k))
    (cond t (cond first (Word (name n) ∷ more) (Mark 44 ∷ Word (name n) ∷ more)) others ++ Mark 125 ∷ rest)
    ≡ Ok (taken (list % 2 ^ 16) rest)
read_by name acc n list k more true true rest others e named same deeper passed =
    let set : list / 2 ^ n % 2 ≡ 1 = grind (arith, nat_tests) in
    word_read acc n (name n) (more ++ Mark 125 ∷ rest) k named
    ∙ deeper (bit_or acc (2 ^ n)) n (joined_bit list n acc same set)
read_by name acc n list k more false true rest others e named same deeper passed =
    let set : list / 2 ^ n % 2 ≡ 1 = grind (arith, nat_tests) in
    next_read acc n (name n) (more ++ Mark 125 ∷ rest) k named
    ∙ deeper (bit_or acc (2 ^ n)) n (joined_bit list n acc same set)
read_by name acc n list k more first false rest others e named same deeper passed =
    passed acc k (left_bit list n acc same e)

read_from : (name : ℕ → List ℕ) → ((n : ℕ) → n < 16 → register_of (name n) ≡ Some n)
    → (more n list acc k : ℕ) (first : Bool) (rest : List Token) → n + more ≡ 16 → acc ≡ list % 2 ^ n
    → list_from (state acc (place_of first k)) (listed name more n first list ++ Mark 125 ∷ rest)
    ≡ Ok (taken (list % 2 ^ 16) rest)
read_from name named zero n list acc k first rest e same =
    let all : n ≡ 16 = omega (arith, e) in
    closed_read acc rest k first ∙ ap (λ a. Ok (taken a rest)) (same ∙ ap (λ j. list % 2 ^ j) all)
read_from name named (suc more) n list acc k first rest e same =
    let later : n + 1 + more ≡ 16 = omega (arith, e) in
    read_by name acc n list k (listed name more (n + 1) false list) first (list / 2 ^ n % 2 == 1) rest
    (listed name more (n + 1) first list) refl (named n (omega (arith, e))) same
    (λ a j h. read_from name named more (n + 1) list a j false rest later h)
    (λ a j h. read_from name named more (n + 1) list a j first rest later h)

-- a list of sixteen bits in braces (123 and 125)
pub list_spelled : (name : ℕ → List ℕ) → ((n : ℕ) → n < 16 → register_of (name n) ≡ Some n)
    → (list : ℕ) (rest : List Token) → list < 2 ^ 16
    → list_at (Mark 123 ∷ (listed name 16 0 true list ++ Mark 125 ∷ rest)) ≡ Ok (taken list rest)
unfolding list_at place_of
list_spelled name named list rest h =
    let none : 0 ≡ list % 2 ^ 0 = omega arith in
    read_from name named 16 0 list 0 0 true rest refl none ∙ ap (λ a. Ok (taken a rest)) (mod-eq_of_lt h)
