-- The assembler's readers take the words of a listing for what they name.
use Rattle.std.proofs.Common.{◌≡◌, ◌<◌, ◌≤◌, ℕ, zero, suc, ◌+◌, ◌*◌, ◌%◌, ◌^◌, Bool, true, false, cond, nat_le, nat_lt, List, [], ◌∷◌, length, Some, Ok, refl, sym, ap, ◌∙◌, lt-ltb, le-leb, lit<, lit≤, arith}
use Rattle.std.specs.Str.Parse.{digits_value}
use Rattle.std.proofs.Math.Nat.{mod-eq_of_lt}
use Rattle.std.proofs.lemmas.Bool.Decides.{nat_tests}
use Rattle.gba_terms.specs.Hexadecimal.{hex}
use Rattle.gba_text.specs.Steps.{taken}
use Rattle.gba_asm_words.specs.Names.{high_register_of, low_register_of, register_of}
use Rattle.gba_asm_words.specs.Numbers.{hexadecimal_of, number_of}
use Rattle.gba_asm_words.specs.Readers.{Address, immediate_at, next_register_at, number_at, register_at, target_at, target_of}
use Rattle.gba_asm_words.specs.Tokens.{Token, Word, Mark}
use Rattle.gba_asm_thumb.specs.Forms.{low_register_at, next_low_register_at}
use Rattle.gba_dis.specs.Pieces.{digit_count, digits_text, number_text, register_name}
use Rattle.gba_dis.proofs.Numerals.{hex_digits, hex_length, hex_value, word_back}

-- a register's name is the register
pub register_back : (n : ℕ) → n < 16 → register_of (register_name n) ≡ Some n
unfolding register_name register_of low_register_of high_register_of
register_back zero h = refl
register_back (suc zero) h = refl
register_back (suc (suc zero)) h = refl
register_back (suc (suc (suc zero))) h = refl
register_back (suc (suc (suc (suc zero)))) h = refl
register_back (suc (suc (suc (suc (suc zero))))) h = refl
register_back (suc (suc (suc (suc (suc (suc zero)))))) h = refl
register_back (suc (suc (suc (suc (suc (suc (suc zero))))))) h = refl
register_back (suc (suc (suc (suc (suc (suc (suc (suc zero)))))))) h = refl
register_back (suc (suc (suc (suc (suc (suc (suc (suc (suc zero))))))))) h = refl
register_back (suc (suc (suc (suc (suc (suc (suc (suc (suc (suc zero)))))))))) h = refl
register_back (suc (suc (suc (suc (suc (suc (suc (suc (suc (suc (suc zero))))))))))) h = refl
register_back (suc (suc (suc (suc (suc (suc (suc (suc (suc (suc (suc (suc zero)))))))))))) h = refl
register_back (suc (suc (suc (suc (suc (suc (suc (suc (suc (suc (suc (suc (suc zero))))))))))))) h = refl
register_back (suc (suc (suc (suc (suc (suc (suc (suc (suc (suc (suc (suc (suc (suc zero)))))))))))))) h = refl
register_back (suc (suc (suc (suc (suc (suc (suc (suc (suc (suc (suc (suc (suc (suc (suc zero))))))))))))))) h = refl
register_back (suc (suc (suc (suc (suc (suc (suc (suc (suc (suc (suc (suc (suc (suc (suc (suc n)))))))))))))))) h =
    absurd (omega arith)

pub register_read : (n : ℕ) (ts : List Token) → n < 16 → register_at (Word (register_name n) ∷ ts) ≡ Ok (taken n ts)
unfolding register_at
register_read n ts h = rw (register_back n h) refl

pub next_register_read : (n : ℕ) (ts : List Token) → n < 16
    → next_register_at (Mark 44 ∷ Word (register_name n) ∷ ts) ≡ Ok (taken n ts)
unfolding next_register_at
next_register_read n ts h = rw (register_read n ts h) refl

pub low_read : (n : ℕ) (ts : List Token) → n < 8 → low_register_at (Word (register_name n) ∷ ts) ≡ Ok (taken n ts)
unfolding low_register_at
low_read n ts h = rw (register_read n ts (omega (arith, h)), lt-ltb _ _ h) refl

pub next_low_read : (n : ℕ) (ts : List Token) → n < 8
    → next_low_register_at (Mark 44 ∷ Word (register_name n) ∷ ts) ≡ Ok (taken n ts)
unfolding next_low_register_at
next_low_read n ts h = rw (low_read n ts h) refl

-- so many digits are enough for a number
digits_read : (c n : ℕ) → 1 ≤ c → c ≤ 8 → n < 2 ^ (4 * c) → n < 2 ^ 32 → number_of (digits_text c n) ≡ Some n
unfolding number_of hexadecimal_of digits_text
digits_read c n some few h small =
    let v : digits_value 16 (hex c n) ≡ n = hex_value c n 0 ∙ below n (2 ^ (4 * c)) h in
    let long : nat_le 2 (length (48 ∷ 120 ∷ hex c n)) ≡ true = le-leb _ _ (omega arith) in
    let one : nat_le 1 (length (hex c n)) ≡ true = le-leb _ _ (omega (arith, hex_length c n, some)) in
    let t : nat_lt (digits_value 16 (hex c n)) (2 ^ 32) ≡ true = rw v (lt-ltb _ _ small) in
    rw (long, one, hex_digits c n, t) (ap Some v)
  where
    below : (n m : ℕ) → n < m → 0 * m + n % m ≡ n
    below n m h = omega (arith, mod-eq_of_lt h)

-- the count of a number's digits
by_count : (n b c d : ℕ) (t : Bool) → nat_lt n b ≡ t → (n < b → n < 2 ^ (4 * c)) → (b ≤ n → n < 2 ^ (4 * d))
    → n < 2 ^ (4 * cond t c d)
by_count n b c d true e h k = h (grind (arith, nat_tests))
by_count n b c d false e h k = k (grind (arith, nat_tests))

enough_digits : (n : ℕ) → n < 2 ^ 32 → n < 2 ^ (4 * digit_count n)
enough_digits n h =
    by_count n 0x10 1 _ _ refl (λ k. k) (λ a.
    by_count n 0x100 2 _ _ refl (λ k. k) (λ b.
    by_count n 0x1000 3 _ _ refl (λ k. k) (λ c.
    by_count n 0x10000 4 _ _ refl (λ k. k) (λ d.
    by_count n 0x100000 5 _ _ refl (λ k. k) (λ e.
    by_count n 0x1000000 6 _ _ refl (λ k. k) (λ f.
    by_count n 0x10000000 7 8 _ refl (λ k. k) (λ g. h)))))))

some_digits : (n : ℕ) → 1 ≤ digit_count n
some_digits n = grind (arith, nat_tests)

few_digits : (n : ℕ) → digit_count n ≤ 8
few_digits n = grind (arith, nat_tests)

number_back : (n : ℕ) → n < 2 ^ 32 → number_of (number_text n) ≡ Some n
unfolding number_text
number_back n h = digits_read (digit_count n) n (some_digits n) (few_digits n) (enough_digits n h) h

pub number_read : (n : ℕ) (ts : List Token) → n < 2 ^ 32 → number_at (Word (number_text n) ∷ ts) ≡ Ok (taken n ts)
unfolding number_at
number_read n ts h = rw (number_back n h) refl

pub immediate_read : (n : ℕ) (ts : List Token) → n < 2 ^ 32
    → immediate_at (Mark 35 ∷ Word (number_text n) ∷ ts) ≡ Ok (taken n ts)
unfolding immediate_at
immediate_read n ts h = rw (number_read n ts h) refl

pub address_read : (n : ℕ) (ts : List Token) → n < 2 ^ 32
    → target_at (Word (digits_text 8 n) ∷ ts) ≡ Ok (taken (Address n) ts)
unfolding target_at target_of
address_read n ts h = rw (word_back n h) refl
