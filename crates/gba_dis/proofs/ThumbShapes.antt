-- Every Thumb statement's line is read as its pieces, and is short.
use Rattle.std.proofs.Common.{◌≡◌, ◌<◌, ◌≤◌, ℕ, zero, suc, ◌+◌, ◌*◌, ◌-◌, ◌/◌, ◌%◌, ◌^◌, Bool, true, false, cond, ◌==◌, List, [], ◌∷◌, ◌++◌, length, codes, refl, sym, ap, ◌∙◌, length-append, lit<, lit≤, arith}
use Rattle.gba_terms.specs.Bits.{bit}
use Rattle.gba_arm_table.specs.Numbers.{condition_of}
use Rattle.gba_thumb_table.specs.declared.operation.ThumbOp.{ThumbOp}
use Rattle.gba_thumb_table.specs.declared.operation.ThumbOp.TheVariants as operation
use Rattle.gba_thumb_table.specs.Limits.{Fits}
use Rattle.gba_dis.specs.Arm.{condition_text, immediate}
use Rattle.gba_dis.specs.Pieces.{Piece, Name, Comma, Mark, braces, entries, entries_from, number, register, text_of}
use Rattle.gba_dis.specs.Thumb.{block_name, branch_name, branch_pieces, by_number, by_register, byte_name, call_pieces, half_name, high_name, high_pieces, high_register, load_name, number_name, number_pieces, shift_name, signed_name, stack_list, stack_name, sum_name, sum_pieces, three_pieces, thumb_pieces, two_number_pieces, two_pieces, two_register_name}
use Rattle.gba_dis.proofs.Shapes.{Fine, Letters, after_comma, after_digits, after_mark, after_name, after_number, after_register, braces_fine, condition_letters, done, front_fine, immediate_fine, joined, wider}
use Rattle.gba_dis.proofs.Spelling.{EndsWord}
use Rattle.std.proofs.lemmas.List.{append-nil}

-- a name of at most so many letters
pub record IsName (most : ℕ) (word : List ℕ) : Type 0 where
  pub letters : Letters most word
  pub some : 0 < length word

picked : (t : Bool) (a b : List ℕ) → IsName 5 a → IsName 5 b → IsName 5 (cond t a b)
picked true a b f g = f
picked false a b f g = g

shift_is : (op : ℕ) → IsName 5 (shift_name op)
shift_is op =
    picked (op == 0) (codes "lsl") _ (record { letters = record { all = refl; few = lit≤ tt }; some = lit< tt })
    (picked (op == 1) (codes "lsr") (codes "asr")
    (record { letters = record { all = refl; few = lit≤ tt }; some = lit< tt })
    (record { letters = record { all = refl; few = lit≤ tt }; some = lit< tt }))

number_is : (op : ℕ) → IsName 5 (number_name op)
number_is op =
    picked (op == 0) (codes "mov") _ (record { letters = record { all = refl; few = lit≤ tt }; some = lit< tt })
    (picked (op == 1) (codes "cmp") _ (record { letters = record { all = refl; few = lit≤ tt }; some = lit< tt })
    (picked (op == 2) (codes "add") (codes "sub")
    (record { letters = record { all = refl; few = lit≤ tt }; some = lit< tt })
    (record { letters = record { all = refl; few = lit≤ tt }; some = lit< tt })))

two_register_is : (op : ℕ) → IsName 5 (two_register_name op)
two_register_is op =
    picked (op == 0) (codes "and") _ (record { letters = record { all = refl; few = lit≤ tt }; some = lit< tt })
    (picked (op == 1) (codes "eor") _ (record { letters = record { all = refl; few = lit≤ tt }; some = lit< tt })
    (picked (op == 2) (codes "lsl") _ (record { letters = record { all = refl; few = lit≤ tt }; some = lit< tt })
    (picked (op == 3) (codes "lsr") _ (record { letters = record { all = refl; few = lit≤ tt }; some = lit< tt })
    (picked (op == 4) (codes "asr") _ (record { letters = record { all = refl; few = lit≤ tt }; some = lit< tt })
    (picked (op == 5) (codes "adc") _ (record { letters = record { all = refl; few = lit≤ tt }; some = lit< tt })
    (picked (op == 6) (codes "sbc") _ (record { letters = record { all = refl; few = lit≤ tt }; some = lit< tt })
    (picked (op == 7) (codes "ror") _ (record { letters = record { all = refl; few = lit≤ tt }; some = lit< tt })
    (picked (op == 8) (codes "tst") _ (record { letters = record { all = refl; few = lit≤ tt }; some = lit< tt })
    (picked (op == 9) (codes "neg") _ (record { letters = record { all = refl; few = lit≤ tt }; some = lit< tt })
    (picked (op == 10) (codes "cmp") _ (record { letters = record { all = refl; few = lit≤ tt }; some = lit< tt })
    (picked (op == 11) (codes "cmn") _ (record { letters = record { all = refl; few = lit≤ tt }; some = lit< tt })
    (picked (op == 12) (codes "orr") _ (record { letters = record { all = refl; few = lit≤ tt }; some = lit< tt })
    (picked (op == 13) (codes "mul") _ (record { letters = record { all = refl; few = lit≤ tt }; some = lit< tt })
    (picked (op == 14) (codes "bic") (codes "mvn")
    (record { letters = record { all = refl; few = lit≤ tt }; some = lit< tt })
    (record { letters = record { all = refl; few = lit≤ tt }; some = lit< tt })))))))))))))))

high_is : (op : ℕ) → IsName 5 (high_name op)
high_is op =
    picked (op == 0) (codes "add") _ (record { letters = record { all = refl; few = lit≤ tt }; some = lit< tt })
    (picked (op == 1) (codes "cmp") (codes "mov")
    (record { letters = record { all = refl; few = lit≤ tt }; some = lit< tt })
    (record { letters = record { all = refl; few = lit≤ tt }; some = lit< tt }))

sum_is : (t : Bool) → IsName 5 (sum_name t)
sum_is true = (record { letters = record { all = refl; few = lit≤ tt }; some = lit< tt })
sum_is false = (record { letters = record { all = refl; few = lit≤ tt }; some = lit< tt })

load_is : (t : Bool) → IsName 5 (load_name t)
load_is true = (record { letters = record { all = refl; few = lit≤ tt }; some = lit< tt })
load_is false = (record { letters = record { all = refl; few = lit≤ tt }; some = lit< tt })

half_is : (t : Bool) → IsName 5 (half_name t)
half_is true = (record { letters = record { all = refl; few = lit≤ tt }; some = lit< tt })
half_is false = (record { letters = record { all = refl; few = lit≤ tt }; some = lit< tt })

stack_is : (t : Bool) → IsName 5 (stack_name t)
stack_is true = (record { letters = record { all = refl; few = lit≤ tt }; some = lit< tt })
stack_is false = (record { letters = record { all = refl; few = lit≤ tt }; some = lit< tt })

block_is : (t : Bool) → IsName 5 (block_name t)
block_is true = (record { letters = record { all = refl; few = lit≤ tt }; some = lit< tt })
block_is false = (record { letters = record { all = refl; few = lit≤ tt }; some = lit< tt })

byte_is : (l b : Bool) → IsName 5 (byte_name l b)
byte_is true true = (record { letters = record { all = refl; few = lit≤ tt }; some = lit< tt })
byte_is true false = (record { letters = record { all = refl; few = lit≤ tt }; some = lit< tt })
byte_is false true = (record { letters = record { all = refl; few = lit≤ tt }; some = lit< tt })
byte_is false false = (record { letters = record { all = refl; few = lit≤ tt }; some = lit< tt })

signed_is : (l b : Bool) → IsName 5 (signed_name l b)
signed_is true true = (record { letters = record { all = refl; few = lit≤ tt }; some = lit< tt })
signed_is true false = (record { letters = record { all = refl; few = lit≤ tt }; some = lit< tt })
signed_is false true = (record { letters = record { all = refl; few = lit≤ tt }; some = lit< tt })
signed_is false false = (record { letters = record { all = refl; few = lit≤ tt }; some = lit< tt })

branch_is : (n : ℕ) → IsName 5 (branch_name n)
branch_is n =
    let b : Letters 3 (codes "b") = record { all = refl; few = lit≤ tt } in
    record {
      letters = joined b (condition_letters (condition_of n));
      some = omega (arith, length-append (codes "b") (condition_text (condition_of n)));
    }

name_fine : {k : ℕ} {w : List ℕ} {ps : List Piece} → IsName 5 w → Fine k ps → Fine (6 + k) (Name w ∷ ps)
name_fine n f = wider (omega arith) (after_name n.letters n.some f)

two_fine : (w : List ℕ) (a b : ℕ) → IsName 5 w → a < 16 → b < 16 → Fine 61 (two_pieces w a b)
two_fine w a b n h k =
    wider (lit≤ tt) (name_fine n (after_register a h tt (after_comma (after_register b k tt done))))

three_fine : (w : List ℕ) (a b c : ℕ) → IsName 5 w → a < 16 → b < 16 → c < 16 → Fine 61 (three_pieces w a b c)
three_fine w a b c n h k l =
    wider (lit≤ tt)
    (name_fine n (after_register a h tt (after_comma (after_register b k tt (after_comma (after_register c l tt
    done))))))

number_fine : (w : List ℕ) (a n : ℕ) → IsName 5 w → a < 16 → Fine 61 (number_pieces w a n)
number_fine w a n i h = wider (lit≤ tt) (name_fine i (after_register a h tt (after_comma (immediate_fine n tt done))))

two_number_fine : (w : List ℕ) (a b n : ℕ) → IsName 5 w → a < 16 → b < 16 → Fine 61 (two_number_pieces w a b n)
two_number_fine w a b n i h k =
    wider (lit≤ tt)
    (name_fine i (after_register a h tt (after_comma (after_register b k tt (after_comma (immediate_fine n tt
    done))))))

sum_fine : (i t : Bool) (x rs rd : ℕ) → x < 16 → rs < 16 → rd < 16 → Fine 61 (sum_pieces i t x rs rd)
sum_fine true t x rs rd h k l = two_number_fine _ rd rs x (sum_is t) l k
sum_fine false t x rs rd h k l = three_fine _ rd rs x (sum_is t) l k h

pub high_small : (t : Bool) (n : ℕ) → n < 8 → high_register t n < 16
high_small true n h = omega (arith, h)
high_small false n h = omega (arith, h)

high_by : (op : ℕ) (t h1 h2 : Bool) (rs rd : ℕ) → rs < 8 → rd < 8
    → Fine 61 (cond t (Name (codes "bx") ∷ register (high_register h2 rs) ∷ []) (two_pieces (high_name op)
    (high_register h1 rd) (high_register h2 rs)))
high_by op true h1 h2 rs rd h k =
    wider (lit≤ tt) (name_fine (record { letters = record { all = refl; few = lit≤ tt }; some = lit< tt })
    (after_register _ (high_small h2 rs h) tt done))
high_by op false h1 h2 rs rd h k = two_fine _ _ _ (high_is op) (high_small h1 rd k) (high_small h2 rs h)

by_register_fine : (w : List ℕ) (a b c : ℕ) → IsName 5 w → a < 16 → b < 16 → c < 16 → Fine 61 (by_register w a b c)
by_register_fine w a b c n h k l =
    wider (lit≤ tt)
    (name_fine n (after_register a h tt (after_comma (after_mark 91 refl (after_register b k tt (after_comma
    (after_register c l tt (after_mark 93 refl done))))))))

by_number_fine : (w : List ℕ) (a b n : ℕ) → IsName 5 w → a < 16 → b < 16 → Fine 61 (by_number w a b n)
by_number_fine w a b n i h k =
    wider (lit≤ tt)
    (name_fine i (after_register a h tt (after_comma (after_mark 91 refl (after_register b k tt (after_comma
    (immediate_fine n tt (after_mark 93 refl done))))))))

-- a register that isn't in a list is passed over
skipped : (more n list : ℕ) (first : Bool) → list / 2 ^ n % 2 ≡ 0
    → entries_from (suc more) n first list ≡ entries_from more (n + 1) first list
unfolding entries_from
skipped more n list first e = rw e refl

-- a list without the registers 8 to 13
record HasGap (list : ℕ) : Type 0 where
  r8 : list / 2 ^ 8 % 2 ≡ 0
  r9 : list / 2 ^ 9 % 2 ≡ 0
  r10 : list / 2 ^ 10 % 2 ≡ 0
  r11 : list / 2 ^ 11 % 2 ≡ 0
  r12 : list / 2 ^ 12 % 2 ≡ 0
  r13 : list / 2 ^ 13 % 2 ≡ 0

past_gap : (list : ℕ) (first : Bool) → HasGap list → entries_from 8 8 first list ≡ entries_from 2 14 first list
past_gap list first h =
    skipped 7 8 list first h.r8 ∙ skipped 6 9 list first h.r9 ∙ skipped 5 10 list first h.r10
    ∙ skipped 4 11 list first h.r11 ∙ skipped 3 12 list first h.r12 ∙ skipped 2 13 list first h.r13

none_left : (n list : ℕ) (first : Bool) → Fine 0 (entries_from 0 n first list)
unfolding entries_from
none_left n list first = done

gap_fine : (list : ℕ) → HasGap list → Fine 50 (entries list)
gap_fine list h =
    let last : (first : Bool) → Fine 10 (entries_from 2 14 first list) =
    front_fine 2 0 14 list 0 2 refl (lit≤ tt) (λ first. none_left 16 list first) in
    front_fine 8 10 0 list 8 16 refl (lit≤ tt) (λ first. rw (past_gap list first h) (last first)) true

low_gap : (list : ℕ) → list < 256 → HasGap list
low_gap list h =
    record {
      r8 = omega arith;
      r9 = omega arith;
      r10 = omega arith;
      r11 = omega arith;
      r12 = omega arith;
      r13 = omega arith;
    }

stack_gap : (l r : Bool) (list : ℕ) → list < 256 → HasGap (stack_list l r list)
stack_gap true true list h =
    record {
      r8 = omega arith;
      r9 = omega arith;
      r10 = omega arith;
      r11 = omega arith;
      r12 = omega arith;
      r13 = omega arith;
    }
stack_gap false true list h =
    record {
      r8 = omega arith;
      r9 = omega arith;
      r10 = omega arith;
      r11 = omega arith;
      r12 = omega arith;
      r13 = omega arith;
    }
stack_gap l false list h = low_gap list h

list_fine : (list : ℕ) → HasGap list → Fine 52 (braces list)
list_fine list h =
    let f : Fine (1 + (50 + (1 + 0))) (braces list ++ []) = braces_fine list (gap_fine list h) done in
    wider (lit≤ tt) (rw append-nil at f)

low_entries : (list : ℕ) → list < 256 → Fine 40 (entries list)
low_entries list h =
    let r14 : list / 2 ^ 14 % 2 ≡ 0 = omega arith in
    let r15 : list / 2 ^ 15 % 2 ≡ 0 = omega arith in
    let last : (first : Bool) → entries_from 8 8 first list ≡ entries_from 0 16 first list =
    λ first. past_gap list first (low_gap list h) ∙ skipped 1 14 list first r14 ∙ skipped 0 15 list first r15 in
    front_fine 8 0 0 list 8 16 refl (lit≤ tt) (λ first. rw (last first) (none_left 16 list first)) true

low_list : (list : ℕ) → list < 256 → Fine 42 (braces list)
low_list list h =
    let f : Fine (1 + (40 + (1 + 0))) (braces list ++ []) = braces_fine list (low_entries list h) done in
    wider (lit≤ tt) (rw append-nil at f)

block_fine : (w : List ℕ) (rb list : ℕ) → IsName 5 w → rb < 16 → list < 256
    → Fine 61 (Name w ∷ register rb ∷ Mark 33 ∷ Comma ∷ braces list)
block_fine w rb list n h low =
    wider (lit≤ tt) (name_fine n (after_register rb h tt (after_mark 33 refl (after_comma (low_list list low)))))

branch_fine : (w : List ℕ) (target : ℕ) → IsName 5 w → Fine 61 (branch_pieces w target)
branch_fine w target n = wider (lit≤ tt) (name_fine n (after_digits 8 target (lit≤ tt) tt done))

base_small : (p : Bool) → cond p 13 15 < 16
base_small true = lit< tt
base_small false = lit< tt

-- the line of a Thumb statement
pub thumb_fine : (at : ℕ) (o : ThumbOp) → Fits o → Fine 61 (thumb_pieces at o)
unfolding thumb_pieces
thumb_fine at (operation.Format1 op o5 rs rd) h =
    two_number_fine _ rd rs _ (shift_is op) (omega (arith, h.registers.1.0)) (omega (arith, h.registers.0))
thumb_fine at (operation.Format2 true t x3 rs rd) h =
    sum_fine true t x3 rs rd (omega (arith, h.immediates.0)) (omega (arith, h.registers.0))
    (omega (arith, h.registers.1.0))
thumb_fine at (operation.Format2 false t x3 rs rd) h =
    sum_fine false t x3 rs rd (omega (arith, h.registers.0)) (omega (arith, h.registers.1.0))
    (omega (arith, h.registers.1.1.0))
thumb_fine at (operation.Format3 op rd n8) h = number_fine _ rd n8 (number_is op) (omega (arith, h.registers.0))
thumb_fine at (operation.Format4 op rs rd) h =
    two_fine _ rd rs (two_register_is op) (omega (arith, h.registers.1.0)) (omega (arith, h.registers.0))
thumb_fine at (operation.Format5 op h1 h2 rs rd) h = high_by op (op == 3) h1 h2 rs rd h.registers.0 h.registers.1.0
thumb_fine at (operation.Format6 rd n8) h =
    by_number_fine _ rd 15 _ (record { letters = record { all = refl; few = lit≤ tt }; some = lit< tt })
    (omega (arith, h.registers.0)) (lit< tt)
thumb_fine at (operation.Format7 l b ro rb rd) h =
    by_register_fine _ rd rb ro (byte_is l b) (omega (arith, h.registers.1.1.0)) (omega (arith, h.registers.1.0))
    (omega (arith, h.registers.0))
thumb_fine at (operation.Format8 hh s ro rb rd) h =
    by_register_fine _ rd rb ro (signed_is hh s) (omega (arith, h.registers.1.1.0)) (omega (arith, h.registers.1.0))
    (omega (arith, h.registers.0))
thumb_fine at (operation.Format9 b l o5 rb rd) h =
    by_number_fine _ rd rb _ (byte_is l b) (omega (arith, h.registers.1.0)) (omega (arith, h.registers.0))
thumb_fine at (operation.Format10 l o5 rb rd) h =
    by_number_fine _ rd rb _ (half_is l) (omega (arith, h.registers.1.0)) (omega (arith, h.registers.0))
thumb_fine at (operation.Format11 l rd n8) h =
    by_number_fine _ rd 13 _ (load_is l) (omega (arith, h.registers.0)) (lit< tt)
thumb_fine at (operation.Format12 p rd n8) h =
    two_number_fine _ rd _ _ (record { letters = record { all = refl; few = lit≤ tt }; some = lit< tt })
    (omega (arith, h.registers.0)) (base_small p)
thumb_fine at (operation.Format13 s n7) h = number_fine _ 13 _ (sum_is s) (lit< tt)
thumb_fine at (operation.Format14 l r list8) h =
    wider (lit≤ tt) (name_fine (stack_is l) (list_fine _ (stack_gap l r list8 h.immediates.0)))
thumb_fine at (operation.Format15 l rb list8) h =
    block_fine (block_name l) rb list8 (block_is l) (omega (arith, h.registers.0)) h.immediates.0
thumb_fine at (operation.Format16 c n8) h = branch_fine _ _ (branch_is c)
thumb_fine at (operation.Format17 n8) h =
    wider (lit≤ tt) (name_fine (record { letters = record { all = refl; few = lit≤ tt }; some = lit< tt })
    (immediate_fine n8 tt done))
thumb_fine at (operation.Format18 n11) h =
    branch_fine _ _ (record { letters = record { all = refl; few = lit≤ tt }; some = lit< tt })
thumb_fine at (operation.Format19 second n11) h = wider (lit≤ tt) done

pub call_fine : (at first second : ℕ) → Fine 61 (call_pieces at first second)
unfolding call_pieces
call_fine at first second = branch_fine _ _ (record { letters = record { all = refl; few = lit≤ tt }; some = lit< tt })
