-- The assembler reads a list of registers as it is listed.
use Rattle.std.proofs.Common.{◌≡◌, ◌<◌, ◌≤◌, ℕ, zero, suc, ◌+◌, ◌-◌, ◌/◌, ◌%◌, ◌^◌, Bool, true, false, cond, ◌==◌, nat_le, nat_lt, List, [], ◌∷◌, ◌++◌, codes, Some, Ok, refl, sym, ap, ◌∙◌, lt-ltb, le-leb, lit<, append_assoc, arith}
use Rattle.std.proofs.lemmas.List.{append-nil}
use Rattle.std.proofs.lemmas.Bool.Decides.{nat_tests}
use Rattle.gba_terms.specs.Bits.{bit}
use Rattle.gba_thumb_table.specs.declared.operation.ThumbOp.TheVariants.{Format14, Format15}
use Rattle.gba_text.specs.Steps.{taken}
use Rattle.gba_asm_words.specs.Lists.{list_at}
use Rattle.gba_asm_words.specs.Tokens.{Token, Word}
use Rattle.gba_asm_words.specs.Tokens as token
use Rattle.gba_asm_words.proofs.SpelledLists.{list_spelled, listed}
use Rattle.gba_asm_thumb.specs.Forms.{block_form, form_of, stack_form, thumb_statement}
use Rattle.gba_asm_thumb.specs.Names.{other_of, thumb_name}
use Rattle.gba_asm_thumb.specs.Statement.{Operation}
use Rattle.gba_dis.specs.Pieces.{Piece, Name, Plain, Comma, Mark, braces, entries, entries_from, register, register_name}
use Rattle.gba_dis.specs.Thumb.{stack_list}
use Rattle.gba_dis.proofs.Readers.{low_read, register_back}
use Rattle.gba_dis.proofs.Spelling.{tokens_of}

pub tokens_append : (ps qs : List Piece) → tokens_of (ps ++ qs) ≡ tokens_of ps ++ tokens_of qs
tokens_append [] qs = refl
tokens_append (Name w ∷ ps) qs = ap (λ ts. Word w ∷ ts) (tokens_append ps qs)
tokens_append (Plain w ∷ ps) qs = ap (λ ts. Word w ∷ ts) (tokens_append ps qs)
tokens_append (Comma ∷ ps) qs = ap (λ ts. token.Mark 44 ∷ ts) (tokens_append ps qs)
tokens_append (Mark m ∷ ps) qs = ap (λ ts. token.Mark m ∷ ts) (tokens_append ps qs)

listed_by : (n : ℕ) (first t : Bool) (deep passed : List Piece) (more others : List Token) → tokens_of deep ≡ more
    → tokens_of passed ≡ others
    → tokens_of (cond t (cond first (register n ∷ deep) (Comma ∷ register n ∷ deep)) passed)
    ≡ cond t (cond first (Word (register_name n) ∷ more) (token.Mark 44 ∷ Word (register_name n) ∷ more)) others
listed_by n true true deep passed more others e f = ap (λ ts. Word (register_name n) ∷ ts) e
listed_by n false true deep passed more others e f = ap (λ ts. token.Mark 44 ∷ Word (register_name n) ∷ ts) e
listed_by n first false deep passed more others e f = f

tokens_listed : (more n list : ℕ) (first : Bool)
    → tokens_of (entries_from more n first list) ≡ listed register_name more n first list
unfolding entries_from
tokens_listed zero n list first = refl
tokens_listed (suc more) n list first =
    listed_by n first (bit list n) (entries_from more (n + 1) false list) (entries_from more (n + 1) first list) _ _
    (tokens_listed more (n + 1) list false) (tokens_listed more (n + 1) list first)

braces_tokens : (list : ℕ) (ps : List Piece)
    → tokens_of (braces list ++ ps)
    ≡ token.Mark 123 ∷ (listed register_name 16 0 true list ++ token.Mark 125 ∷ tokens_of ps)
unfolding braces
braces_tokens list ps =
    ap (λ qs. tokens_of (Mark 123 ∷ qs)) (append_assoc (entries list) (Mark 125 ∷ []) ps)
    ∙ ap (λ ts. token.Mark 123 ∷ ts) (tokens_append (entries list) (Mark 125 ∷ ps)
    ∙ ap (λ ts. ts ++ token.Mark 125 ∷ tokens_of ps) (tokens_listed 16 0 list true))

-- a list in braces, before other pieces
pub list_read : (list : ℕ) (ps : List Piece) → list < 2 ^ 16
    → list_at (tokens_of (braces list ++ ps)) ≡ Ok (taken list (tokens_of ps))
list_read list ps h =
    ap list_at (braces_tokens list ps) ∙ list_spelled register_name register_back list (tokens_of ps) h

braces_read : (list : ℕ) → list < 2 ^ 16 → list_at (tokens_of (braces list)) ≡ Ok (taken list [])
braces_read list h = ap (λ ps. list_at (tokens_of ps)) (sym (append-nil (braces list))) ∙ list_read list [] h

pub push_said : (r : Bool) (list : ℕ) → list < 256
    → thumb_statement (codes "push") (tokens_of (braces (stack_list false r list)))
    ≡ Ok (Operation (Some (Format14 false r list)))
unfolding thumb_statement thumb_name other_of form_of stack_form
push_said false list h = rw (braces_read list (omega arith), lt-ltb _ _ h) refl
push_said true list h =
    let none : nat_lt (list + 2 ^ 14) 256 ≡ false = grind (arith, nat_tests) in
    let some : nat_le 16384 (list + 2 ^ 14) ≡ true = le-leb _ _ (omega arith) in
    let rest : list + 2 ^ 14 - 16384 ≡ list = omega arith in
    rw (braces_read (list + 2 ^ 14) (omega arith), none, some, rest, lt-ltb _ _ h) refl

pub pop_said : (r : Bool) (list : ℕ) → list < 256
    → thumb_statement (codes "pop") (tokens_of (braces (stack_list true r list)))
    ≡ Ok (Operation (Some (Format14 true r list)))
unfolding thumb_statement thumb_name other_of form_of stack_form
pop_said false list h = rw (braces_read list (omega arith), lt-ltb _ _ h) refl
pop_said true list h =
    let none : nat_lt (list + 2 ^ 15) 256 ≡ false = grind (arith, nat_tests) in
    let some : nat_le 32768 (list + 2 ^ 15) ≡ true = le-leb _ _ (omega arith) in
    let rest : list + 2 ^ 15 - 32768 ≡ list = omega arith in
    rw (braces_read (list + 2 ^ 15) (omega arith), none, some, rest, lt-ltb _ _ h) refl

pub block_said : (l : Bool) (rb list : ℕ) → rb < 8 → list < 256
    → block_form l (Word (register_name rb) ∷ token.Mark 33 ∷ token.Mark 44 ∷ tokens_of (braces list))
    ≡ Ok (Operation (Some (Format15 l rb list)))
unfolding block_form
block_said l rb list h k = rw (low_read rb _ h, braces_read list (omega arith), lt-ltb _ _ k) refl
