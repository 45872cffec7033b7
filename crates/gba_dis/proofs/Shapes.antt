-- Every statement's line is read as its pieces, and is short: at most 123 bytes in ARM code and 61 in Thumb code.
use Rattle.std.proofs.Common.{◌≡◌, ◌<◌, ◌≤◌, ℕ, zero, suc, ◌+◌, ◌*◌, ◌-◌, ◌/◌, ◌%◌, ◌^◌, Bool, true, false, cond, not, ◌&&◌, ◌==◌, nat_lt, List, [], ◌∷◌, ◌++◌, length, codes, Option, Some, None, IfSome, refl, sym, ap, ◌∙◌, length-append, append_assoc, lit<, lit≤, arith}
use Rattle.std.specs.List.{list_all}
use Rattle.std.proofs.lemmas.Bool.Decides.{nat_tests}
use Rattle.gba_terms.specs.Bits.{bit}
use Rattle.gba_word.specs.declared.kinds.Shift.{Shift}
use Rattle.gba_word.specs.declared.kinds.Shift.TheVariants.{Lsl, Lsr, Asr, Ror}
use Rattle.gba_arm_table.specs.declared.operation.ArmOp.{ArmOp}
use Rattle.gba_arm_table.specs.declared.operation.ArmOp.TheVariants as operation
use Rattle.gba_arm_table.specs.declared.operation.CompareOp.{CompareOp}
use Rattle.gba_arm_table.specs.declared.operation.CompareOp.TheVariants.{Tst, Teq, Cmp, Cmn}
use Rattle.gba_arm_table.specs.declared.operation.ComputeOp.{ComputeOp}
use Rattle.gba_arm_table.specs.declared.operation.ComputeOp.TheVariants.{And, Eor, Sub, Rsb, Add, Adc, Sbc, Rsc, Orr, Mov, Bic, Mvn}
use Rattle.gba_arm_table.specs.declared.operation.Condition.{Condition}
use Rattle.gba_arm_table.specs.declared.operation.Condition.TheVariants.{Equal, NotEqual, CarrySet, CarryClear, Minus, Plus, Overflow, NoOverflow, Higher, LowerOrSame, GreaterOrEqual, Less, Greater, LessOrEqual, Always, Never}
use Rattle.gba_arm_table.specs.declared.operation.HalfKind.{HalfKind}
use Rattle.gba_arm_table.specs.declared.operation.HalfKind.TheVariants.{StoreHalf, LoadHalf, LoadSignedByte, LoadSignedHalf}
use Rattle.gba_arm_table.specs.declared.operation.HalfOffset.{HalfOffset}
use Rattle.gba_arm_table.specs.declared.operation.HalfOffset.TheVariants as half
use Rattle.gba_arm_table.specs.declared.operation.Operand.{Operand}
use Rattle.gba_arm_table.specs.declared.operation.Operand.TheVariants as operand
use Rattle.gba_arm_table.specs.declared.operation.Source.{Source}
use Rattle.gba_arm_table.specs.declared.operation.Source.TheVariants as source
use Rattle.gba_arm_table.specs.declared.operation.TransferOffset.{TransferOffset}
use Rattle.gba_arm_table.specs.declared.operation.TransferOffset.TheVariants as transfer
use Rattle.gba_arm_table.specs.Limits.{Fits, Within, half_registers, operand_registers, source_registers, transfer_registers}
use Rattle.gba_asm_words.specs.Tokens.{is_word_byte}
use Rattle.gba_dis.specs.Arm.{address, arm_pieces, block_base, block_mark, block_suffix, branch_base, close_address, compare_text, compute_text, condition_text, fields_text, first_operand, half_base, half_distance, half_suffix, immediate, letters_if, long_base, mark_if, name, open_address, second, shift_pieces, shift_text, shifted, source_pieces, status_text, transfer_base, transfer_distance, transfer_suffix, user_mark}
use Rattle.gba_dis.specs.Pieces.{Piece, Name, Plain, Comma, Mark, braces, digit_count, digits, digits_text, entries, entries_from, number, number_text, piece_text, register, register_name, text_of}
use Rattle.gba_dis.proofs.Numerals.{hex_length, hex_words}
use Rattle.gba_dis.proofs.Texts.{text_of_append}
use Rattle.gba_dis.proofs.Spelling.{EndsWord, IsSpelling, IsWord, all_append, both, is_inner_mark}
use Rattle.gba_terms.specs.Hexadecimal.{hex}

-- pieces that are read as they stand, of at most so many bytes
pub record Fine (most : ℕ) (pieces : List Piece) : Type 0 where
  pub spelled : IsSpelling pieces
  pub short : length (text_of pieces) ≤ most

-- letters of which a word is made, at most so many
pub record Letters (most : ℕ) (word : List ℕ) : Type 0 where
  pub all : list_all is_word_byte word ≡ true
  pub few : length word ≤ most

pub joined : {j k : ℕ} {a b : List ℕ} → Letters j a → Letters k b → Letters (j + k) (a ++ b)
joined {a = a} {b = b} f g = record {
  all = all_append is_word_byte a b f.all g.all;
  few = omega (arith, length-append a b, f.few, g.few);
}

pub wider : {m n : ℕ} {ps : List Piece} → m ≤ n → Fine m ps → Fine n ps
wider h f = record { spelled = f.spelled; short = omega (arith, h, f.short) }

pub done : Fine 0 []
done = record { spelled = tt; short = omega arith }

pub after_name : {k n : ℕ} {w : List ℕ} {ps : List Piece} → Letters k w → 0 < length w → Fine n ps
    → Fine (k + 1 + n) (Name w ∷ ps)
after_name {w = w} {ps = ps} l some f = record {
  spelled = (record { bytes = l.all; some = some }, f.spelled);
  short = omega (arith, length-append (w ++ 32 ∷ []) (text_of ps), length-append w (32 ∷ []), l.few, f.short);
}

pub after_word : {k n : ℕ} {w : List ℕ} {ps : List Piece} → Letters k w → 0 < length w → EndsWord ps → Fine n ps
    → Fine (k + n) (Plain w ∷ ps)
after_word {w = w} {ps = ps} l some ends f = record {
  spelled = (record { bytes = l.all; some = some }, ends, f.spelled);
  short = omega (arith, length-append w (text_of ps), l.few, f.short);
}

pub after_comma : {n : ℕ} {ps : List Piece} → Fine n ps → Fine (2 + n) (Comma ∷ ps)
after_comma {ps = ps} f = record { spelled = f.spelled; short = omega (arith, f.short) }

pub after_mark : {n : ℕ} {ps : List Piece} (m : ℕ) → is_inner_mark m ≡ true → Fine n ps → Fine (1 + n) (Mark m ∷ ps)
after_mark m inner f = record { spelled = (inner, f.spelled); short = omega (arith, f.short) }

ends_append : (ps qs : List Piece) → EndsWord ps → EndsWord qs → EndsWord (ps ++ qs)
ends_append [] qs h k = k
ends_append (Name w ∷ ps) qs h k = h
ends_append (Plain w ∷ ps) qs h k = h
ends_append (Comma ∷ ps) qs h k = tt
ends_append (Mark m ∷ ps) qs h k = tt

spelled_append : (ps qs : List Piece) → IsSpelling ps → IsSpelling qs → EndsWord qs → IsSpelling (ps ++ qs)
spelled_append [] qs h k e = k
spelled_append (Name w ∷ ps) qs h k e = (h.0, spelled_append ps qs h.1 k e)
spelled_append (Plain w ∷ ps) qs h k e = (h.0, ends_append ps qs h.1 e, spelled_append ps qs h.2 k e)
spelled_append (Comma ∷ ps) qs h k e = spelled_append ps qs h k e
spelled_append (Mark m ∷ ps) qs h k e = (h.0, spelled_append ps qs h.1 k e)

pub appended : {m n : ℕ} {ps qs : List Piece} → Fine m ps → Fine n qs → EndsWord qs → Fine (m + n) (ps ++ qs)
appended {ps = ps} {qs = qs} f g e = record {
  spelled = spelled_append ps qs f.spelled g.spelled e;
  short = omega (arith, ap length (text_of_append ps qs), length-append (text_of ps) (text_of qs), f.short, g.short);
}

-- the words that name registers and numbers
register_by : (n : ℕ) (t : Bool) → nat_lt n 10 ≡ t → n < 16
    → Letters 3 (cond t (114 ∷ (48 + n) ∷ []) (114 ∷ 49 ∷ (48 + (n - 10)) ∷ []))
register_by n true e h =
    let d : is_word_byte (48 + n) ≡ true = grind (arith, nat_tests) in
    record { all = both _ _ refl (both _ _ d refl); few = lit≤ tt }
register_by n false e h =
    let d : is_word_byte (48 + (n - 10)) ≡ true = grind (arith, nat_tests) in
    record { all = both _ _ refl (both _ _ refl (both _ _ d refl)); few = lit≤ tt }

register_letters : (n : ℕ) → n < 16 → Letters 3 (register_name n)
unfolding register_name
register_letters n h = register_by n (nat_lt n 10) refl h

register_some_by : (n : ℕ) (t : Bool) → 0 < length (cond t (114 ∷ (48 + n) ∷ []) (114 ∷ 49 ∷ (48 + (n - 10)) ∷ []))
register_some_by n true = omega arith
register_some_by n false = omega arith

register_some : (n : ℕ) → 0 < length (register_name n)
unfolding register_name
register_some n = register_some_by n (nat_lt n 10)

pub after_register : {k : ℕ} {ps : List Piece} (n : ℕ) → n < 16 → EndsWord ps → Fine k ps
    → Fine (3 + k) (register n ∷ ps)
after_register n h ends f = after_word (register_letters n h) (register_some n) ends f

digits_letters : (c n : ℕ) → c ≤ 8 → Letters 10 (digits_text c n)
unfolding digits_text
digits_letters c n h = record {
  all = both _ _ refl (both _ _ refl (hex_words c n));
  few = omega (arith, hex_length c n, h);
}

digits_some : (c n : ℕ) → 0 < length (digits_text c n)
unfolding digits_text
digits_some c n = omega arith

pub after_digits : {k : ℕ} {ps : List Piece} (c n : ℕ) → c ≤ 8 → EndsWord ps → Fine k ps
    → Fine (10 + k) (digits c n ∷ ps)
after_digits c n h ends f = after_word (digits_letters c n h) (digits_some c n) ends f

few_digits : (n : ℕ) → digit_count n ≤ 8
few_digits n = grind (arith, nat_tests)

number_letters : (n : ℕ) → Letters 10 (number_text n)
unfolding number_text
number_letters n = digits_letters (digit_count n) n (few_digits n)

number_some : (n : ℕ) → 0 < length (number_text n)
unfolding number_text
number_some n = digits_some (digit_count n) n

pub after_number : {k : ℕ} {ps : List Piece} (n : ℕ) → EndsWord ps → Fine k ps → Fine (10 + k) (number n ∷ ps)
after_number n ends f = after_word (number_letters n) (number_some n) ends f

-- lists of registers
entry_ends : (more n list : ℕ) → EndsWord (entries_from more n false list)
unfolding entries_from
entry_ends zero n list = tt
entry_ends (suc more) n list = by_test (bit list n) (entry_ends more (n + 1) list) where
  by_test : (t : Bool) → EndsWord (entries_from more (n + 1) false list) → EndsWord (cond t (Comma ∷ register n
      ∷ entries_from more (n + 1) false list) (entries_from more (n + 1) false list))
  by_test true h = tt
  by_test false h = h

entry_fine : (m n list more : ℕ) (first t : Bool) → n < 16 → EndsWord (entries_from more (n + 1) false list)
    → ((next : Bool) → Fine m (entries_from more (n + 1) next list))
    → Fine (5 + m) (cond t (cond first (register n ∷ entries_from more (n + 1) false list) (Comma ∷ register n
    ∷ entries_from more (n + 1) false list)) (entries_from more (n + 1) first list))
entry_fine m n list more true true h ends rest = wider (omega arith) (after_register n h ends (rest false))
entry_fine m n list more false true h ends rest =
    wider (omega arith) (after_comma (after_register n h ends (rest false)))
entry_fine m n list more first false h ends rest = wider (omega arith) (rest first)

-- so many registers of a list, before the others
pub front_fine : (j : ℕ) (m n list others more : ℕ) → more ≡ j + others → n + j ≤ 16
    → ((first : Bool) → Fine m (entries_from others (n + j) first list)) → (first : Bool)
    → Fine (5 * j + m) (entries_from more n first list)
unfolding entries_from
front_fine zero m n list others more e h rest first =
    let same : others ≡ more = omega (arith, e) in
    let place : n + 0 ≡ n = omega arith in
    let f : Fine m (entries_from more n first list) = rw (same, place) at (rest first) in
    wider (omega arith) f
front_fine (suc j) m n list others more e h rest first =
    let one : more ≡ suc (j + others) = omega (arith, e) in
    let place : n + suc j ≡ n + 1 + j = omega arith in
    let deeper : (first : Bool) → Fine (5 * j + m) (entries_from (j + others) (n + 1) first list) =
    λ first. front_fine j m (n + 1) list others (j + others) refl (omega (arith, h)) (λ f. rw place at (rest f))
    first in
    rw one (wider (omega arith) (entry_fine (5 * j + m) n list (j + others) first (bit list n) (omega (arith, h))
    (entry_ends
    (j + others) (n + 1) list) deeper))

none_left : (n list : ℕ) (first : Bool) → Fine 0 (entries_from 0 n first list)
unfolding entries_from
none_left n list first = done

pub entries_fine : (list : ℕ) → Fine 80 (entries list)
entries_fine list = front_fine 16 0 0 list 0 16 refl (lit≤ tt) (λ first. none_left 16 list first) true

braces_joined : (list : ℕ) (ps : List Piece) → braces list ++ ps ≡ Mark 123 ∷ (entries list ++ Mark 125 ∷ ps)
unfolding braces
braces_joined list ps = ap (λ qs. Mark 123 ∷ qs) (append_assoc (entries list) (Mark 125 ∷ []) ps)

pub braces_fine : {m k : ℕ} {ps : List Piece} (list : ℕ) → Fine m (entries list) → Fine k ps
    → Fine (1 + (m + (1 + k))) (braces list ++ ps)
braces_fine {ps = ps} list e f = rw braces_joined (after_mark 123 refl (appended e (after_mark 125 refl f) tt))

-- names
pub condition_letters : (c : Condition) → Letters 2 (condition_text c)
condition_letters Equal = record { all = refl; few = lit≤ tt }
condition_letters NotEqual = record { all = refl; few = lit≤ tt }
condition_letters CarrySet = record { all = refl; few = lit≤ tt }
condition_letters CarryClear = record { all = refl; few = lit≤ tt }
condition_letters Minus = record { all = refl; few = lit≤ tt }
condition_letters Plus = record { all = refl; few = lit≤ tt }
condition_letters Overflow = record { all = refl; few = lit≤ tt }
condition_letters NoOverflow = record { all = refl; few = lit≤ tt }
condition_letters Higher = record { all = refl; few = lit≤ tt }
condition_letters LowerOrSame = record { all = refl; few = lit≤ tt }
condition_letters GreaterOrEqual = record { all = refl; few = lit≤ tt }
condition_letters Less = record { all = refl; few = lit≤ tt }
condition_letters Greater = record { all = refl; few = lit≤ tt }
condition_letters LessOrEqual = record { all = refl; few = lit≤ tt }
condition_letters Always = record { all = refl; few = lit≤ tt }
condition_letters Never = record { all = refl; few = lit≤ tt }

pub named : {j k n : ℕ} {base suffix : List ℕ} {ps : List Piece} (c : Condition) → Letters j base → 0 < length base
    → Letters k suffix → Fine n ps → Fine (j + 2 + k + 1 + n) (name base c suffix ∷ ps)
named {base = base} {suffix = suffix} c b some s f =
    after_name (joined (joined b (condition_letters c)) s)
    (omega (arith, length-append (base ++ condition_text c) suffix, length-append base (condition_text c), some)) f

if_letters : (t : Bool) (k : ℕ) (w : List ℕ) → Letters k w → Letters k (letters_if t w)
if_letters true k w h = h
if_letters false k w h = record { all = refl; few = omega arith }

compute_letters : (o : ComputeOp) → (Letters 3 (compute_text o)) × (0 < length (compute_text o))
compute_letters And = (record { all = refl; few = lit≤ tt }, lit< tt)
compute_letters Eor = (record { all = refl; few = lit≤ tt }, lit< tt)
compute_letters Sub = (record { all = refl; few = lit≤ tt }, lit< tt)
compute_letters Rsb = (record { all = refl; few = lit≤ tt }, lit< tt)
compute_letters Add = (record { all = refl; few = lit≤ tt }, lit< tt)
compute_letters Adc = (record { all = refl; few = lit≤ tt }, lit< tt)
compute_letters Sbc = (record { all = refl; few = lit≤ tt }, lit< tt)
compute_letters Rsc = (record { all = refl; few = lit≤ tt }, lit< tt)
compute_letters Orr = (record { all = refl; few = lit≤ tt }, lit< tt)
compute_letters Mov = (record { all = refl; few = lit≤ tt }, lit< tt)
compute_letters Bic = (record { all = refl; few = lit≤ tt }, lit< tt)
compute_letters Mvn = (record { all = refl; few = lit≤ tt }, lit< tt)

compare_letters : (o : CompareOp) → (Letters 3 (compare_text o)) × (0 < length (compare_text o))
compare_letters Tst = (record { all = refl; few = lit≤ tt }, lit< tt)
compare_letters Teq = (record { all = refl; few = lit≤ tt }, lit< tt)
compare_letters Cmp = (record { all = refl; few = lit≤ tt }, lit< tt)
compare_letters Cmn = (record { all = refl; few = lit≤ tt }, lit< tt)

shift_letters : (s : Shift) → (Letters 3 (shift_text s)) × (0 < length (shift_text s))
shift_letters Lsl = (record { all = refl; few = lit≤ tt }, lit< tt)
shift_letters Lsr = (record { all = refl; few = lit≤ tt }, lit< tt)
shift_letters Asr = (record { all = refl; few = lit≤ tt }, lit< tt)
shift_letters Ror = (record { all = refl; few = lit≤ tt }, lit< tt)

half_letters : (k : HalfKind) → (Letters 3 (half_base k)) × (0 < length (half_base k)) × Letters 2 (half_suffix k)
half_letters StoreHalf = (record { all = refl; few = lit≤ tt }, lit< tt, record { all = refl; few = lit≤ tt })
half_letters LoadHalf = (record { all = refl; few = lit≤ tt }, lit< tt, record { all = refl; few = lit≤ tt })
half_letters LoadSignedByte = (record { all = refl; few = lit≤ tt }, lit< tt, record { all = refl; few = lit≤ tt })
half_letters LoadSignedHalf = (record { all = refl; few = lit≤ tt }, lit< tt, record { all = refl; few = lit≤ tt })

long_letters : (s a : Bool) → (Letters 5 (long_base s a)) × (0 < length (long_base s a))
long_letters true true = (record { all = refl; few = lit≤ tt }, lit< tt)
long_letters true false = (record { all = refl; few = lit≤ tt }, lit< tt)
long_letters false true = (record { all = refl; few = lit≤ tt }, lit< tt)
long_letters false false = (record { all = refl; few = lit≤ tt }, lit< tt)

transfer_letters : (l : Bool) → (Letters 3 (transfer_base l)) × (0 < length (transfer_base l))
transfer_letters true = (record { all = refl; few = lit≤ tt }, lit< tt)
transfer_letters false = (record { all = refl; few = lit≤ tt }, lit< tt)

suffix_letters : (b u : Bool) → Letters 2 (transfer_suffix b u)
suffix_letters true true = record { all = refl; few = lit≤ tt }
suffix_letters true false = record { all = refl; few = lit≤ tt }
suffix_letters false true = record { all = refl; few = lit≤ tt }
suffix_letters false false = record { all = refl; few = lit≤ tt }

block_letters : (l : Bool) → (Letters 3 (block_base l)) × (0 < length (block_base l))
block_letters true = (record { all = refl; few = lit≤ tt }, lit< tt)
block_letters false = (record { all = refl; few = lit≤ tt }, lit< tt)

end_letters : (p u : Bool) → Letters 2 (block_suffix p u)
end_letters true true = record { all = refl; few = lit≤ tt }
end_letters true false = record { all = refl; few = lit≤ tt }
end_letters false true = record { all = refl; few = lit≤ tt }
end_letters false false = record { all = refl; few = lit≤ tt }

branch_letters : (l : Bool) → (Letters 2 (branch_base l)) × (0 < length (branch_base l))
branch_letters true = (record { all = refl; few = lit≤ tt }, lit< tt)
branch_letters false = (record { all = refl; few = lit≤ tt }, lit< tt)

status_letters : (s : Bool) → Letters 4 (status_text s)
status_letters true = record { all = refl; few = lit≤ tt }
status_letters false = record { all = refl; few = lit≤ tt }

status_some : (s : Bool) (w : List ℕ) → 0 < length (status_text s ++ w)
status_some true w = omega arith
status_some false w = omega arith

fields_letters : (fields : ℕ) → Letters 5 (fields_text fields)
fields_letters fields =
    let line : Letters 1 (codes "_") = record { all = refl; few = lit≤ tt } in
    joined (joined (joined (joined line
    (if_letters (bit fields 3) 1 (codes "f") (record { all = refl; few = lit≤ tt })))
    (if_letters (bit fields 2) 1 (codes "s") (record { all = refl; few = lit≤ tt })))
    (if_letters (bit fields 1) 1 (codes "x") (record { all = refl; few = lit≤ tt })))
    (if_letters (bit fields 0) 1 (codes "c") (record { all = refl; few = lit≤ tt }))

-- operands
pub immediate_fine : {k : ℕ} {ps : List Piece} (n : ℕ) → EndsWord ps → Fine k ps
    → Fine (11 + k) (Mark 35 ∷ number n ∷ ps)
immediate_fine n ends f = wider (omega arith) (after_mark 35 refl (after_number n ends f))

shifted_fine : (s : Shift) (n : ℕ) → Fine 17 (shifted s n)
shifted_fine s n =
    after_comma (after_name (shift_letters s).0 (shift_letters s).1 (immediate_fine n tt done))

unshifted_by : (s : Shift) (n : ℕ) (t : Bool) → Fine 17 (cond t [] (shifted s n))
unshifted_by s n true = wider (lit≤ tt) done
unshifted_by s n false = shifted_fine s n

extended_by : (n : ℕ) (t : Bool) → Fine 17 (cond t (Comma ∷ Plain (codes "rrx") ∷ []) (shifted Ror n))
extended_by n true =
    wider (lit≤ tt) (after_comma (after_word {k = 3} (record { all = refl; few = lit≤ tt }) (lit< tt) tt done))
extended_by n false = shifted_fine Ror n

shift_fine : (s : Shift) (n : ℕ) → Fine 17 (shift_pieces s n)
shift_fine Lsl n = unshifted_by Lsl n (n == 0)
shift_fine Lsr n = shifted_fine Lsr _
shift_fine Asr n = shifted_fine Asr _
shift_fine Ror n = extended_by n (n == 0)

unshifted_ends : (s : Shift) (n : ℕ) (t : Bool) → EndsWord (cond t [] (shifted s n))
unshifted_ends s n true = tt
unshifted_ends s n false = tt

extended_ends : (n : ℕ) (t : Bool) → EndsWord (cond t (Comma ∷ Plain (codes "rrx") ∷ []) (shifted Ror n))
extended_ends n true = tt
extended_ends n false = tt

shift_ends : (s : Shift) (n : ℕ) → EndsWord (shift_pieces s n)
shift_ends Lsl n = unshifted_ends Lsl n (n == 0)
shift_ends Lsr n = tt
shift_ends Asr n = tt
shift_ends Ror n = extended_ends n (n == 0)

second_fine : (o : Operand) → Within (operand_registers o) → Fine 20 (second o)
unfolding second
second_fine (operand.Immediate value turn) h = wider (lit≤ tt) (immediate_fine _ tt done)
second_fine (operand.Fixed rm kind amount) h = after_register rm h.0 (shift_ends kind amount) (shift_fine kind amount)
second_fine (operand.ByRegister rm kind rs) h =
    wider (lit≤ tt) (after_register rm h.0 tt (after_comma (after_name (shift_letters kind).0 (shift_letters kind).1
    (after_register rs h.1.0 tt done))))

source_fine : (s : Source) → Within (source_registers s) → Fine 20 (source_pieces s)
source_fine (source.Immediate value turn) h = wider (lit≤ tt) (immediate_fine _ tt done)
source_fine (source.Plain rm) h = wider (lit≤ tt) (after_register rm h.0 tt done)

minus_fine : {k : ℕ} {ps : List Piece} (t : Bool) → Fine k ps → Fine (1 + k) (mark_if t 45 ps)
minus_fine true f = after_mark 45 refl f
minus_fine false f = wider (omega arith) f

close_fine : (pre write : Bool) → Fine 2 (close_address pre write)
unfolding close_address
close_fine true true = after_mark 93 refl (after_mark 33 refl done)
close_fine true false = wider (lit≤ tt) (after_mark 93 refl done)
close_fine false write = wider (lit≤ tt) done

close_ends : (pre write : Bool) → EndsWord (close_address pre write)
unfolding close_address
close_ends true write = tt
close_ends false write = tt

half_fine : (up : Bool) (o : HalfOffset) → Within (half_registers o) → Fine 21 (half_distance up o)
unfolding half_distance
half_fine up (half.Number value) h =
    wider (lit≤ tt) (after_mark 35 refl (minus_fine (not up) (after_number value tt done)))
half_fine up (half.Plain rm) h = wider (lit≤ tt) (minus_fine (not up) (after_register rm h.0 tt done))

transfer_fine : (up : Bool) (o : TransferOffset) → Within (transfer_registers o) → Fine 21 (transfer_distance up o)
unfolding transfer_distance
transfer_fine up (transfer.Number value) h =
    wider (lit≤ tt) (after_mark 35 refl (minus_fine (not up) (after_number value tt done)))
transfer_fine up (transfer.Shifted rm kind amount) h =
    minus_fine (not up) (after_register rm h.0 (shift_ends kind amount) (shift_fine kind amount))

open_fine : {k : ℕ} {ps : List Piece} (pre : Bool) (rn : ℕ) → rn < 16 → Fine k ps
    → Fine (7 + k) (open_address pre rn ++ ps)
unfolding open_address
open_fine true rn h f = wider (omega arith) (after_mark 91 refl (after_register rn h tt (after_comma f)))
open_fine false rn h f =
    wider (omega arith) (after_mark 91 refl (after_register rn h tt (after_mark 93 refl (after_comma f))))

address_fine : (pre write : Bool) (rn : ℕ) (ds : List Piece) → rn < 16 → Fine 21 ds → Fine 30 (address pre write rn ds)
address_fine pre write rn ds h f =
    open_fine pre rn h (appended f (close_fine pre write) (close_ends pre write))

first_fine : {k : ℕ} {ps : List Piece} (o : ComputeOp) (rn : ℕ) → rn < 16 → Fine k ps
    → Fine (5 + k) (first_operand o rn ++ ps)
first_fine And rn h f = wider (omega arith) (after_register rn h tt (after_comma f))
first_fine Eor rn h f = wider (omega arith) (after_register rn h tt (after_comma f))
first_fine Sub rn h f = wider (omega arith) (after_register rn h tt (after_comma f))
first_fine Rsb rn h f = wider (omega arith) (after_register rn h tt (after_comma f))
first_fine Add rn h f = wider (omega arith) (after_register rn h tt (after_comma f))
first_fine Adc rn h f = wider (omega arith) (after_register rn h tt (after_comma f))
first_fine Sbc rn h f = wider (omega arith) (after_register rn h tt (after_comma f))
first_fine Rsc rn h f = wider (omega arith) (after_register rn h tt (after_comma f))
first_fine Orr rn h f = wider (omega arith) (after_register rn h tt (after_comma f))
first_fine Mov rn h f = wider (omega arith) f
first_fine Bic rn h f = wider (omega arith) (after_register rn h tt (after_comma f))
first_fine Mvn rn h f = wider (omega arith) f

user_fine : (user : Bool) → Fine 1 (user_mark user)
unfolding user_mark
user_fine true = after_mark 94 refl done
user_fine false = wider (lit≤ tt) done

block_fine : (rn list : ℕ) (write user : Bool) → rn < 16
    → Fine 89 (register rn ∷ (block_mark write ++ (braces list ++ user_mark user)))
unfolding block_mark
block_fine rn list true user h =
    wider (lit≤ tt) (after_register rn h tt
    (after_mark 33 refl (after_comma (braces_fine list (entries_fine list) (user_fine user)))))
block_fine rn list false user h =
    wider (lit≤ tt) (after_register rn h tt (after_comma (braces_fine list (entries_fine list) (user_fine user))))

-- the line of an ARM statement
pub arm_fine : (at : ℕ) (o : ArmOp) → Fits o → Fine 123 (arm_pieces at o)
unfolding arm_pieces
arm_fine at (operation.Exchange c rm) h =
    wider (lit≤ tt) (named {j = 2} {k = 0} {base = codes "bx"} {suffix = []} c (record { all = refl; few = lit≤ tt })
    (lit< tt) (record { all = refl; few = lit≤ tt }) (after_register rm h.registers.0 tt done))
arm_fine at (operation.Multiply c false set rd rn rs rm) h =
    wider (lit≤ tt) (named {j = 3} {k = 1} {base = codes "mul"} c (record { all = refl; few = lit≤ tt }) (lit< tt)
    (if_letters set 1 (codes "s") (record { all = refl; few = lit≤ tt }))
    (after_register rd h.registers.0 tt
    (after_comma (after_register rm h.registers.1.1.1.0 tt (after_comma (after_register rs h.registers.1.1.0 tt
    done))))))
arm_fine at (operation.Multiply c true set rd rn rs rm) h =
    wider (lit≤ tt) (named {j = 3} {k = 1} {base = codes "mla"} c (record { all = refl; few = lit≤ tt }) (lit< tt)
    (if_letters set 1 (codes "s") (record { all = refl; few = lit≤ tt }))
    (after_register rd h.registers.0 tt
    (after_comma (after_register rm h.registers.1.1.1.0 tt (after_comma (after_register rs h.registers.1.1.0 tt
    (after_comma (after_register rn h.registers.1.0 tt done))))))))
arm_fine at (operation.MultiplyLong c signed accumulate set hi lo rs rm) h =
    wider (lit≤ tt) (named {k = 1} c (long_letters signed accumulate).0 (long_letters signed accumulate).1
    (if_letters set 1 (codes "s") (record { all = refl; few = lit≤ tt }))
    (after_register lo h.registers.1.0 tt
    (after_comma (after_register hi h.registers.0 tt (after_comma (after_register rm h.registers.1.1.1.0 tt
    (after_comma (after_register rs h.registers.1.1.0 tt done))))))))
arm_fine at (operation.Swap c byte rn rd rm) h =
    wider (lit≤ tt) (named {j = 3} {k = 1} {base = codes "swp"} c (record { all = refl; few = lit≤ tt }) (lit< tt)
    (if_letters byte 1 (codes "b") (record { all = refl; few = lit≤ tt }))
    (after_register rd h.registers.1.0 tt
    (after_comma (after_register rm h.registers.1.1.0 tt (after_comma (after_mark 91 refl
    (after_register rn h.registers.0 tt (after_mark 93 refl done))))))))
arm_fine at (operation.Half c kind pre up write rn rd offset) h =
    let l = half_letters kind in
    wider (lit≤ tt) (named c l.0 l.1 l.2
    (after_register rd h.registers.1.0 tt (after_comma (address_fine pre write rn _ h.registers.0
    (half_fine up offset h.registers.1.1)))))
arm_fine at (operation.ReadStatus c saved rd) h =
    wider (lit≤ tt) (named {j = 3} {k = 0} {base = codes "mrs"} {suffix = []} c (record { all = refl; few = lit≤ tt })
    (lit< tt) (record { all = refl; few = lit≤ tt })
    (after_register rd h.registers.0 tt (after_comma (after_word (status_letters saved) (omega (
      arith,
      status_some saved [],
      length-append (status_text saved) [],
    )) tt done))))
arm_fine at (operation.WriteStatus c saved fields source) h =
    wider (lit≤ tt) (named {j = 3} {k = 0} {base = codes "msr"} {suffix = []} c (record { all = refl; few = lit≤ tt })
    (lit< tt) (record { all = refl; few = lit≤ tt })
    (after_word (joined (status_letters saved) (fields_letters fields)) (status_some saved (fields_text fields)) tt
    (after_comma (source_fine source h.registers))))
arm_fine at (operation.Compute c op set rn rd operand) h =
    wider (lit≤ tt) (named {k = 1} c (compute_letters op).0 (compute_letters op).1
    (if_letters set 1 (codes "s") (record { all = refl; few = lit≤ tt }))
    (after_register rd h.registers.1.0 tt
    (after_comma (first_fine op rn h.registers.0 (second_fine operand h.registers.1.1)))))
arm_fine at (operation.Compare c op rn operand) h =
    wider (lit≤ tt) (named {k = 0} {suffix = []} c (compare_letters op).0 (compare_letters op).1
    (record { all = refl; few = lit≤ tt })
    (after_register rn h.registers.0 tt (after_comma (second_fine operand h.registers.1))))
arm_fine at (operation.Transfer c load byte pre up write rn rd offset) h =
    wider (lit≤ tt) (named c (transfer_letters load).0 (transfer_letters load).1
    (suffix_letters byte (not pre && write))
    (after_register rd h.registers.1.0 tt
    (after_comma (address_fine pre write rn _ h.registers.0 (transfer_fine up offset
    h.registers.1.1)))))
arm_fine at (operation.Block c load pre up user write rn list) h =
    wider (lit≤ tt) (named c (block_letters load).0 (block_letters load).1 (end_letters pre up)
    (block_fine rn list write user
    h.registers.0))
arm_fine at (operation.Branch c link offset) h =
    wider (lit≤ tt) (named {k = 0} {suffix = []} c (branch_letters link).0 (branch_letters link).1
    (record { all = refl; few = lit≤ tt }) (after_digits 8 _ (lit≤ tt) tt done))
arm_fine at (operation.Interrupt c comment) h =
    wider (lit≤ tt) (named {j = 3} {k = 0} {base = codes "swi"} {suffix = []} c (record { all = refl; few = lit≤ tt })
    (lit< tt) (record { all = refl; few = lit≤ tt }) (immediate_fine comment tt done))
