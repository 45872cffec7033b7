-- The values of a log's words are read again as they were.
use Rattle.std.proofs.Common.{◌≡◌, ℕ, zero, suc, ◌/◌, ◌%◌, ◌^◌, ◌<◌, ◌≤◌, Bool, true, not, ◌&&◌, ◌==◌, nat_le, nat_lt, List, [], ◌∷◌, length, Option, Some, None, Ok, refl, ap, ◌∙◌, inl, inr, lit≤, arith, rules}
use Rattle.std.specs.Prelude.{IfSome, codes, decimal, slice_index}
use Rattle.std.specs.Char.{digit_value, is_ascii_digit, is_ascii_hexdigit}
use Rattle.std.specs.List.{list_all}
use Rattle.std.specs.Result.{result_ok}
use Rattle.std.specs.Str.{bytes_eq}
use Rattle.std.specs.Str.Parse.{digits_value}
use Rattle.std.proofs.lemmas.Bool.{leb-true, and_parts, cases_lt, eqb-true, le-leb, lt-ltb}
use Rattle.std.proofs.lemmas.Bool.Decides.{nat_tests}
use Rattle.std.proofs.lemmas.Fmt.{decimal_nonempty, digits_decimal, digits_value-decimal, length-decimal-le}
use Rattle.std.proofs.lemmas.Str.Parse.{IsNumeralModel, numerals_by_value}
use Rattle.hex.specs.Hex.{IsBytes, encode_lower, encode_with, lower_digits}
use Rattle.hex.proofs.HexLemmas.{decode_of-encode_lower, decode_sized-twice, length-encode_with}
use Rattle.gba_text.proofs.Spans.{first_of_all, rest_of_all}
use Rattle.gba_text.specs.Numbers.{all_digits, hex_number_of, is_number, number_of}
use Rattle.gba_text.specs.Steps.{taken}
use Rattle.gba_image.specs.declared.backup.Backup.{Backup}
use Rattle.gba_image.specs.declared.backup.Backup.TheVariants as backup
use Rattle.gba_joblog.specs.Backups.{backup_word}
use Rattle.gba_joblog.specs.Digests.{IsDigest, digest_size}
use Rattle.gba_joblog.specs.Log.{digest_words, keys_word}
use Rattle.gba_joblog.specs.Names.{is_name, is_name_byte, longest_name}
use Rattle.gba_joblog.specs.Operands.{LineWords, backup_at, digest_at, digest_of, digits_at, keys_at, name_at, number_at, out_kind_at, player_at, version_at}
use Rattle.gba_joblog.specs.Outputs.{out_name}
use Rattle.gba_joblog.specs.declared.draft.JobVersion.TheVariants.{One, Two}
use Rattle.gba_joblog.specs.declared.outputs.OutKind.{OutKind}
use Rattle.gba_joblog.specs.declared.outputs.OutKind.TheVariants.{Frames, Samples, State, Save}
use Rattle.gba_joblog.specs.declared.outputs.OutKind.TheVariants as output
use Rattle.gba_joblog.proofs.Spelling.{AreWords, IsWord, are_more, are_none, is_word_byte, list_all-weaker}

-- decimal numbers
abbrev AllDigits : List ℕ → Type 0
AllDigits ds = all_digits ds ≡ true

own : IsNumeralModel AllDigits (digits_value 10)
own = numerals_by_value AllDigits (search rules)

digit-word : (b : ℕ) → is_ascii_digit b ≡ true → is_word_byte b ≡ true
digit-word b h = grind (arith, nat_tests)

pub decimal-short : (n : ℕ) → n < 2 ^ 64 → length (decimal n) ≤ 20
decimal-short n small = length-decimal-le 20 n (omega arith) (omega arith) small

pub IsWord-decimal : (n : ℕ) → n < 2 ^ 64 → IsWord (decimal n)
IsWord-decimal n small = record {
  some = decimal_nonempty n small;
  bytes = list_all-weaker is_ascii_digit is_word_byte digit-word (decimal n) (digits_decimal own n small);
}

decimal-number : (n : ℕ) → n < 2 ^ 64 → is_number (decimal n) ≡ true
decimal-number n small =
    let some : nat_le 1 (length (decimal n)) ≡ true = le-leb 1 (length (decimal n)) (decimal_nonempty n small) in
    let few : nat_le (length (decimal n)) 20 ≡ true = le-leb (length (decimal n)) 20 (decimal-short n small) in
    let all : all_digits (decimal n) ≡ true = digits_decimal own n small in
    rw (some, few, all) refl

pub number-again : (least most n : ℕ) (ws : LineWords) → least ≤ n → n ≤ most → n < 2 ^ 64
    → number_at least most (decimal n ∷ ws) ≡ Ok (taken n ws)
unfolding number_at number_of
number-again least most n ws low high small =
    let is = decimal-number n small in
    let value : digits_value 10 (decimal n) ≡ n = digits_value-decimal own n small in
    let from : nat_le least n ≡ true = le-leb least n low in
    let to : nat_le n most ≡ true = le-leb n most high in
    rw (is, value, from, to) refl

pub player-again : (player : ℕ) (ws : LineWords) → player ≤ 3
    → player_at player (decimal player ∷ ws) ≡ Ok (taken player ws)
unfolding player_at number_of
player-again player ws few =
    let small : player < 2 ^ 64 = omega arith in
    let is = decimal-number player small in
    let value : digits_value 10 (decimal player) ≡ player = digits_value-decimal own player small in
    let to : nat_le player 3 ≡ true = le-leb player 3 few in
    let from : nat_le 0 player ≡ true = le-leb 0 player (omega arith) in
    let same : (player == player) ≡ true = grind (arith, nat_tests) in
    rw (is, value, from, to, same) refl

-- hexadecimal digits: the test of one, and of the first ones
abbrev is_right : ℕ → Bool
is_right d =
    is_ascii_hexdigit (slice_index lower_digits d) && (digit_value (slice_index lower_digits d) == d)
    && is_word_byte (slice_index lower_digits d)

abbrev all_right : ℕ → Bool
all_right zero = true
all_right (suc n) = is_right n && all_right n

all_right-at : (n d : ℕ) → all_right n ≡ true → d < n → is_right d ≡ true
all_right-at zero d h lt = absurd (omega arith)
all_right-at (suc n) d h lt =
    let parts = and_parts (is_right n) (all_right n) h in
    elim (cases_lt d n) [
      | inl below ↦ all_right-at n d parts.1 below
      | inr top ↦
          let e : d ≡ n = omega arith in
          rw e parts.0
    ]

record IsDigit (d : ℕ) : Type 0 where
  hexadecimal : is_ascii_hexdigit (slice_index lower_digits d) ≡ true
  value : digit_value (slice_index lower_digits d) ≡ d
  word : is_word_byte (slice_index lower_digits d) ≡ true

digit : (d : ℕ) → d < 16 → IsDigit d
digit d lt =
    let right = all_right-at 16 d refl lt in
    let c = slice_index lower_digits d in
    let front = first_of_all (is_ascii_hexdigit c && (digit_value c == d)) (is_word_byte c) right in
    record {
      hexadecimal = first_of_all (is_ascii_hexdigit c) (digit_value c == d) front;
      value = eqb-true (digit_value c) d (rest_of_all (is_ascii_hexdigit c) (digit_value c == d) front);
      word = rest_of_all (is_ascii_hexdigit c && (digit_value c == d)) (is_word_byte c) right;
    }

pub IsWord-keys : (keys : ℕ) → keys < 1024 → IsWord (keys_word keys)
IsWord-keys keys small =
    let a = digit (keys / 256) (omega arith) in
    let b = digit (keys / 16 % 16) (omega arith) in
    let c = digit (keys % 16) (omega arith) in
    record { some = omega arith; bytes = rw (a.word, b.word, c.word) refl }

pub keys-again : (keys : ℕ) (ws : LineWords) → keys < 1024 → keys_at (keys_word keys ∷ ws) ≡ Ok (taken keys ws)
unfolding keys_at hex_number_of
keys-again keys ws small =
    let a = digit (keys / 256) (omega arith) in
    let b = digit (keys / 16 % 16) (omega arith) in
    let c = digit (keys % 16) (omega arith) in
    let value : digits_value 16 (keys_word keys) ≡ keys = rw (a.value, b.value, c.value) (omega arith) in
    let below : nat_lt keys 1024 ≡ true = lt-ltb keys 1024 small in
    rw (a.hexadecimal, b.hexadecimal, c.hexadecimal, value, below) refl

digits-word : (bytes : List ℕ) → IsBytes bytes → list_all is_word_byte (encode_lower bytes) ≡ true
unfolding encode_with
digits-word [] small = refl
digits-word (b ∷ bytes) small =
    let here : b < 256 = small 0 in
    let high = digit (b / 16) (omega arith) in
    let low = digit (b % 16) (omega arith) in
    let rest = digits-word bytes (λ i. small (suc i)) in
    rw (high.word, low.word, rest) refl

pub digits-long : (digest : List ℕ) → IsDigest digest → length (encode_lower digest) ≡ 64
digits-long digest is = omega (arith, length-encode_with lower_digits digest, is.sized)

IsWord-digits : (digest : List ℕ) → IsDigest digest → IsWord (encode_lower digest)
IsWord-digits digest is = record {
  some = omega (arith, digits-long digest is);
  bytes = digits-word digest is.bytes;
}

digest_of-again : (digest : List ℕ) → IsDigest digest → digest_of (encode_lower digest) ≡ Some digest
digest_of-again digest is =
    ap result_ok (decode_sized-twice (encode_lower digest) digest_size (omega (arith, digits-long digest is))
    ∙ decode_of-encode_lower digest is.bytes)

digits-again : (digest : List ℕ) → IsDigest digest → digits_at (encode_lower digest ∷ []) ≡ Ok (taken digest [])
unfolding digits_at
digits-again digest is = let found = digest_of-again digest is in rw found refl

-- a stated digest
pub digest-again : (stated : Option (List ℕ)) → IfSome stated IsDigest
    → digest_at (digest_words stated) ≡ Ok (taken stated [])
unfolding digest_at
digest-again None is = refl
digest-again (Some digest) is = let again = digits-again digest is in rw again refl

sha256-word : IsWord (codes "sha256")
sha256-word = record { some = omega arith; bytes = refl }

pub AreWords-digest : (stated : Option (List ℕ)) → IfSome stated IsDigest → AreWords (digest_words stated)
AreWords-digest None is = are_none
AreWords-digest (Some digest) is =
    are_more (codes "sha256") (encode_lower digest ∷ []) sha256-word
    (are_more (encode_lower digest) [] (IsWord-digits digest is) are_none)

-- names
name_byte-word : (b : ℕ) → is_name_byte b ≡ true → is_word_byte b ≡ true
name_byte-word b h = grind (arith, nat_tests)

name-parts : (name : List ℕ) → is_name name ≡ true → (0 < length name) × (list_all is_name_byte name ≡ true)
unfolding is_name
name-parts name h =
    let some = nat_le 1 (length name) in
    let few = nat_le (length name) longest_name in
    let all = list_all is_name_byte name in
    let front : (some && few && all) ≡ true = first_of_all (some && few && all) (not (bytes_eq name (codes "-"))) h in
    let long : (some && few) ≡ true = first_of_all (some && few) all front in
    (leb-true 1 (length name) (first_of_all some few long), rest_of_all (some && few) all front)

pub IsWord-name : (name : List ℕ) → is_name name ≡ true → IsWord name
IsWord-name name is =
    let parts = name-parts name is in
    record { some = parts.0; bytes = list_all-weaker is_name_byte is_word_byte name_byte-word name parts.1 }

pub name-again : (name : List ℕ) (ws : LineWords) → is_name name ≡ true → name_at (name ∷ ws) ≡ Ok (taken name ws)
unfolding name_at
name-again name ws is = rw is refl

-- the version, and the kinds of output
pub version-again : version_at (codes "1" ∷ []) ≡ Ok (taken One [])
unfolding version_at
version-again = refl

pub second-again : version_at (codes "2" ∷ []) ≡ Ok (taken Two [])
unfolding version_at
second-again = refl

pub out-again : (out : OutKind) (ws : LineWords) → out_kind_at (out_name out ∷ ws) ≡ Ok (taken out ws)
unfolding out_kind_at
out-again Frames ws = refl
out-again Samples ws = refl
out-again output.Words ws = refl
out-again State ws = refl
out-again Save ws = refl

pub IsWord-out : (out : OutKind) → IsWord (out_name out)
IsWord-out Frames = record { some = omega arith; bytes = refl }
IsWord-out Samples = record { some = omega arith; bytes = refl }
IsWord-out output.Words = record { some = omega arith; bytes = refl }
IsWord-out State = record { some = omega arith; bytes = refl }
IsWord-out Save = record { some = omega arith; bytes = refl }

pub out-short : (out : OutKind) → length (out_name out) ≤ 7
out-short Frames = lit≤ tt
out-short Samples = lit≤ tt
out-short output.Words = lit≤ tt
out-short State = lit≤ tt
out-short Save = lit≤ tt

-- what keeps the saves
pub backup-again : (backup : Backup) (ws : LineWords) → backup_at (backup_word backup ∷ ws) ≡ Ok (taken backup ws)
unfolding backup_at
backup-again backup.Sram ws = refl
backup-again backup.Flash64 ws = refl
backup-again backup.Flash128 ws = refl

pub IsWord-backup : (backup : Backup) → IsWord (backup_word backup)
IsWord-backup backup.Sram = record { some = omega arith; bytes = refl }
IsWord-backup backup.Flash64 = record { some = omega arith; bytes = refl }
IsWord-backup backup.Flash128 = record { some = omega arith; bytes = refl }

pub backup-short : (backup : Backup) → length (backup_word backup) ≤ 8
backup-short backup.Sram = lit≤ tt
backup-short backup.Flash64 = lit≤ tt
backup-short backup.Flash128 = lit≤ tt
