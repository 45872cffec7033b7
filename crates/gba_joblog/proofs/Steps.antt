-- The operands that are read.
use Rattle.std.proofs.Common.{◌≡◌, ◌≤◌, ◌<◌, ℕ, Bool, true, false, cond, List, eqb, nat_lt, Option, Some, None, Ok, Err, refl, ap, sym, ◌∙◌, arith}
use Rattle.std.specs.Prelude.{IfSome, codes}
use Rattle.std.specs.Str.{bytes_eq}
use Rattle.std.proofs.lemmas.Bool.{eqb-true}
use Rattle.std.proofs.lemmas.Bool.Decides.{nat_tests}
use Rattle.gba_text.specs.Numbers.{number_of, hex_number_of}
use Rattle.gba_text.specs.Steps.{◌>>=◌, Taken, taken}
use Rattle.gba_text.proofs.Numerals.{number-range}
use Rattle.gba_text.proofs.Steps.{bind-ok, ok-is, or_refused-some}
use Rattle.gba_joblog.specs.Operands.{LineWords, digest_at, digest_if, digest_in, digest_of, has_words, digits_at, digits_in, last_player, only, player_at, player_in, player_of, stated, word_at, number_in, number_at, keys_within, keys_in, keys_at}
use Rattle.gba_joblog.specs.Digests.{IsDigest}
use Rattle.gba_joblog.specs.declared.kinds.JobKind.TheVariants.{Order, Word}
use Rattle.gba_joblog.proofs.Digests.{IsDigest-digits}

pub number_at-range : (least most : ℕ) (ws : LineWords) (t : Taken LineWords ℕ) → number_at least most ws ≡ Ok t
    → (least ≤ t.value) × (t.value ≤ most)
unfolding number_at
number_at-range least most ws t h =
    let b = bind-ok (word_at ws) (number_in least most) t h in
    number-range least most t.value b.0.value (or_refused-some _ _ (number_of least most b.0.value) t b.2)

keys-range : (o : Option ℕ) (keys : ℕ) → keys_within o ≡ Some keys → keys < 1024
keys-range None keys h = absurd cc
keys-range (Some n) keys h = by_test (nat_lt n 1024) refl h where
  by_test : (t : Bool) → nat_lt n 1024 ≡ t → cond t (Some n) None ≡ Some keys → keys < 1024
  by_test true e s = let same : n ≡ keys = cc in grind (arith, nat_tests)
  by_test false e s = absurd cc

pub keys_at-range : (ws : LineWords) (t : Taken LineWords ℕ) → keys_at ws ≡ Ok t → t.value < 1024
unfolding keys_at
keys_at-range ws t h =
    let b = bind-ok (word_at ws) keys_in t h in
    keys-range (hex_number_of 3 b.0.value) t.value
    (or_refused-some _ _ (keys_within (hex_number_of 3 b.0.value)) t b.2)

only-is : (next : ℕ) (t u : Taken LineWords ℕ) → only next t ≡ Ok u → (t.value ≡ next) × (t ≡ u)
only-is next t u h = by_test (eqb t.value next) refl h where
  by_test : (b : Bool) → eqb t.value next ≡ b → cond b (Ok t) (Err Order) ≡ Ok u → (t.value ≡ next) × (t ≡ u)
  by_test true e s = (eqb-true t.value next e, ok-is t u s)
  by_test false e s = absurd cc

player_of-is : (next : ℕ) (word : Taken LineWords (List ℕ)) (t : Taken LineWords ℕ) (o : Option ℕ)
    → ((n : ℕ) → o ≡ Some n → n ≤ 3) → player_of next word o ≡ Ok t → (t.value ≡ next) × (next ≤ 3)
player_of-is next word t None few h = absurd cc
player_of-is next word t (Some n) few h =
    let is = only-is next (taken n word.left) t h in
    let low : n ≤ 3 = few n refl in
    (ap (λ (t : Taken LineWords ℕ). t.value) (sym is.1) ∙ is.0, omega (arith, low, is.0))

-- a console's number is the next one, and at most 3
pub player_at-is : (next : ℕ) (ws : LineWords) (t : Taken LineWords ℕ) → player_at next ws ≡ Ok t
    → (t.value ≡ next) × (next ≤ 3)
unfolding player_at
player_at-is next ws t h =
    let b = bind-ok (word_at ws) (player_in next) t h in
    player_of-is next b.0 t (number_of 0 last_player b.0.value)
    (λ n e. (number-range 0 last_player n b.0.value e).1) b.2

digits_at-is : (ws : LineWords) (t : Taken LineWords (List ℕ)) → digits_at ws ≡ Ok t → IsDigest t.value
unfolding digits_at
digits_at-is ws t h =
    let b = bind-ok (word_at ws) digits_in t h in
    IsDigest-digits b.0.value t.value (or_refused-some _ _ (digest_of b.0.value) t b.2)

digest_in-is : (word : Taken LineWords (List ℕ)) (u : Taken LineWords (Option (List ℕ))) → digest_in word ≡ Ok u
    → IfSome u.value IsDigest
digest_in-is word u h = by_test (bytes_eq word.value (codes "sha256")) h where
  by_test : (b : Bool) → cond b (digits_at word.left >>= (λ t. Ok (stated t))) (Err Word) ≡ Ok u
      → IfSome u.value IsDigest
  by_test true s =
      let d = bind-ok (digits_at word.left) (λ t. Ok (stated t)) u s in
      rw (← ok-is (stated d.0) u d.2) (digits_at-is word.left d.0 d.1)
  by_test false s = absurd cc

digest_if-is : (ws : LineWords) (b : Bool) (t : Taken LineWords (Option (List ℕ))) → digest_if ws b ≡ Ok t
    → IfSome t.value IsDigest
digest_if-is ws false t h = rw (← ok-is (taken None ws) t h) tt
digest_if-is ws true t h =
    let w = bind-ok (word_at ws) digest_in t h in
    digest_in-is w.0 t w.2

-- what a line states may be a digest
pub digest_at-is : (ws : LineWords) (t : Taken LineWords (Option (List ℕ))) → digest_at ws ≡ Ok t
    → IfSome t.value IsDigest
unfolding digest_at
digest_at-is ws t h = digest_if-is ws (has_words ws) t h
