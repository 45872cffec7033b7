-- What is recorded of a transfer whose words have come.
use Rattle.std.proofs.Common.{ℕ, zero, suc, ◌≡◌, ◌-◌, ◌<◌, ◌≤◌, ◌^◌, Bool, true, false, not, ◌&&◌, ◌||◌, List, [], ◌∷◌, length, Some, if◌then◌else◌, refl, ap, sym, subst, ◌∙◌, inl, inr, arith}
use Rattle.std.specs.Prelude.{nat_le, nat_lt, slice_index}
use Rattle.std.proofs.lemmas.Bool.{cases_lt}
use Rattle.std.proofs.lemmas.Bool.Decides.{nat_tests}
use Rattle.std.proofs.lemmas.List.{ext_get_or}
use Rattle.gba_serial.specs.Timing.{is_multi, word_width}
use Rattle.gba_serial.specs.SerialUnit.{SerialUnit, mode_of, was_received}
use Rattle.gba_serial.specs.End.{any_missing, any_received, is_missing, peer_word, transfer_of}
use Rattle.gba_serial.specs.declared.transfer.Running.{Running}
use Rattle.gba_serial.specs.declared.transfer.Transfer.{Transfer}
use Rattle.link_node.specs.declared.signal.LinkMode.{LinkMode}
use Rattle.link_node.specs.declared.signal.LinkMode.TheVariants.{Multi}
use Rattle.gba_agreement.specs.Agreement.{word_at, words_of}
use Rattle.gba_agreement.proofs.Course.{Course, HasPlace, IsOn, marks_of, multi-is, peer_of}

-- in Multi: each console's word has come, and ones stand in the other places
pub record HasWords (word : ℕ → ℕ) (count : ℕ) (u : SerialUnit) : Type 0 where
  pub there : (j : ℕ) → j < 4 → j < count → HasPlace Multi j true (word j) u
  pub blank : (j : ℕ) → j < 4 → count ≤ j → HasPlace Multi j false 0xffff u

word_at-there : (word : ℕ → ℕ) (count j : ℕ) → j < count → word_at word count j ≡ word j
word_at-there word count j below = let test : nat_lt j count ≡ true = grind (arith, nat_tests) in rw test refl

word_at-blank : (word : ℕ → ℕ) (count j : ℕ) → count ≤ j → word_at word count j ≡ 0xffff
word_at-blank word count j past = let test : nat_lt j count ≡ false = grind (arith, nat_tests) in rw test refl

words-at : (word : ℕ → ℕ) (count j : ℕ) → j < 4 → slice_index (words_of word count) j ≡ word_at word count j
words-at word count zero four = refl
words-at word count (suc zero) four = refl
words-at word count (suc (suc zero)) four = refl
words-at word count (suc (suc (suc zero))) four = refl
words-at word count (suc (suc (suc (suc j)))) four = absurd (omega arith)

place-is : (word : ℕ → ℕ) (count : ℕ) (u : SerialUnit) → HasWords word count u → (j : ℕ) → j < 4
    → slice_index u.words j ≡ slice_index (words_of word count) j
place-is word count u has j four =
    elim (cases_lt j count) [
      | inl below ↦ (has.there j four below).word_is ∙ sym (word_at-there word count j below)
          ∙ sym (words-at word count j four)
      | inr past ↦ (has.blank j four past).word_is ∙ sym (word_at-blank word count j past)
          ∙ sym (words-at word count j four)
    ]

words-are : (word : ℕ → ℕ) (count : ℕ) (u : SerialUnit) → length u.words ≡ 4 → HasWords word count u
    → u.words ≡ words_of word count
words-are word count u four has =
    ext_get_or 0 u.words (words_of word count) four
    (λ i below. place-is word count u has i (omega (arith, below, four)))

and-false : (b : Bool) → (b && false) ≡ false
and-false true = refl
and-false false = refl

none-missing : (word : ℕ → ℕ) (run : Running) (u : SerialUnit) → u.run ≡ Some run → HasWords word u.count u → (j : ℕ)
    → j < 4 → is_missing run.got u.count j ≡ false
none-missing word run u runs has j four =
    elim (cases_lt j u.count) [
      | inl below ↦
          let got : was_received run.got j ≡ true =
          ap (λ some. was_received (marks_of some) j) (sym runs) ∙ (has.there j four below).got_is in
          ap (λ test. not (nat_le u.count j) && not test) got ∙ and-false (not (nat_le u.count j))
      | inr past ↦
          let test : nat_le u.count j ≡ true = grind (arith, nat_tests) in
          ap (λ b. not b && not (was_received run.got j)) test
    ]

any-missing : (word : ℕ → ℕ) (run : Running) (u : SerialUnit) → u.run ≡ Some run → HasWords word u.count u
    → any_missing run.got u.count ≡ false
any-missing word run u runs has =
    let none = none-missing word run u runs has in
    ap (λ a. a || is_missing run.got u.count 1 || is_missing run.got u.count 2 || is_missing run.got u.count 3)
    (none 0 (omega arith))
    ∙ ap (λ b. b || is_missing run.got u.count 2 || is_missing run.got u.count 3) (none 1 (omega arith))
    ∙ ap (λ c. c || is_missing run.got u.count 3) (none 2 (omega arith))
    ∙ none 3 (omega arith)

pub record IsMultiRecord (end : ℕ) (words : List ℕ) (t : Transfer) : Type 0 where
  pub mode : t.mode ≡ Multi
  pub end_is : t.end ≡ end
  pub words_are : t.words ≡ words
  pub right : t.error ≡ false

pub multi-record : (c : Course) (word : ℕ → ℕ) (run : Running) (u : SerialUnit) → IsOn c u → u.run ≡ Some run
    → is_multi c.mode ≡ true → HasWords word c.count u → IsMultiRecord c.end (words_of word c.count) (transfer_of run u)
unfolding transfer_of
multi-record c word run u on runs multi has =
    let both : Some run ≡ Some on.run = sym runs ∙ on.runs in
    let same : run ≡ on.run = cc in
    let is : is_multi (mode_of u) ≡ true = ap is_multi on.mode_is ∙ multi in
    let here : HasWords word u.count u = subst (λ n. HasWords word n u) (sym on.count_is) has in
    record {
      mode = on.mode_is ∙ multi-is c.mode multi;
      end_is = ap (λ (r : Running). r.end) same ∙ on.end_is;
      words_are = ap (λ test. if test then u.words else 0 ∷ 0 ∷ 0 ∷ 0 ∷ []) is
          ∙ words-are word c.count u (on.four_words multi) has;
      right = ap (λ test. test && any_missing run.got u.count) is ∙ any-missing word run u runs here;
    }

-- in a Normal mode
pub record IsNormalRecord (mode : LinkMode) (end sent got : ℕ) (t : Transfer) : Type 0 where
  pub mode_is : t.mode ≡ mode
  pub end_is : t.end ≡ end
  pub sent_is : t.sent ≡ sent
  pub got_is : t.got ≡ got

or-any : (a b c d : Bool) → (j : ℕ) → j < 4 → was_received (a ∷ b ∷ c ∷ d ∷ []) j ≡ true → (a || b || c || d) ≡ true
or-any true b c d j four is = refl
or-any false true c d j four is = refl
or-any false false true d j four is = refl
or-any false false false true j four is = refl
or-any false false false false j four is = is-none j is
  where
    is-none : (j : ℕ) → was_received (false ∷ false ∷ false ∷ false ∷ []) j ≡ true → false ≡ true
    is-none zero e = e
    is-none (suc zero) e = e
    is-none (suc (suc zero)) e = e
    is-none (suc (suc (suc zero))) e = e
    is-none (suc (suc (suc (suc i)))) e = e

mark-received : (got : List Bool) (j : ℕ) → length got ≡ 4 → j < 4 → was_received got j ≡ true → any_received got ≡ true
mark-received (a ∷ b ∷ c ∷ d ∷ []) j four below is = or-any a b c d j below is
mark-received _ j four below is = absurd (omega (arith, four))

pub normal-record : (c : Course) (j word : ℕ) (run : Running) (u : SerialUnit) → IsOn c u → u.run ≡ Some run
    → is_multi c.mode ≡ false → j < 4 → HasPlace c.mode j true word u
    → IsNormalRecord c.mode c.end c.sent word (transfer_of run u)
unfolding transfer_of
normal-record c j word run u on runs normal four place =
    let both : Some run ≡ Some on.run = sym runs ∙ on.runs in
    let same : run ≡ on.run = cc in
    let is : is_multi (mode_of u) ≡ false = ap is_multi on.mode_is ∙ normal in
    let got : was_received run.got j ≡ true = ap (λ some. was_received (marks_of some) j) (sym runs) ∙ place.got_is in
    let peer : run.word ≡ word = ap peer_of (sym runs)
    ∙ ap (λ test. if test then slice_index u.words j else peer_of u.run) (sym normal) ∙ place.word_is in
    let long : length run.got ≡ 4 = ap (λ (r : Running). length r.got) same ∙ on.four_marks in
    record {
      mode_is = on.mode_is;
      end_is = ap (λ (r : Running). r.end) same ∙ on.end_is;
      sent_is = ap (λ (r : Running). r.sent) same ∙ on.sent_is;
      got_is = ap (λ test. if test then 0 else peer_word (mode_of u) run) is
          ∙ ap (λ any. if run.starter && not any then 2 ^ word_width (mode_of u) - 1 else run.word)
          (mark-received run.got j long four got)
          ∙ ap (λ test. if test then 2 ^ word_width (mode_of u) - 1 else run.word)
          (and-false run.starter) ∙ peer;
    }
