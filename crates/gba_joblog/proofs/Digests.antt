-- Digests are 32 bytes: those of files, and those that digits spell.
use Rattle.std.proofs.Common.{◌≡◌, ◌*◌, ℕ, zero, suc, List, [], ◌∷◌, ◌++◌, length, Some, Result, Ok, Err, refl, ap, sym, ◌∙◌, arith}
use Rattle.std.specs.Int.{w32, to_be_bytes}
use Rattle.std.specs.Result.{result_ok}
use Rattle.hex.specs.Hex.{IsBytes, decode_sized}
use Rattle.hex.specs.declared.error.FromHexError.{FromHexError}
use Rattle.hex.proofs.HexLemmas.{decode_of-ok, decode_sized-ok, decode_sized-twice}
use Rattle.sha2.specs.Sha256.{digest_bytes, final_hash, initial_hash_256, sha256}
use Rattle.sha2.proofs.Facts256.{length-sha256}
use Rattle.gba_joblog.specs.Digests.{IsDigest, digest_size}
use Rattle.gba_joblog.specs.Operands.{digest_of}

pub IsBytes-append : (xs ys : List ℕ) → IsBytes xs → IsBytes ys → IsBytes (xs ++ ys)
IsBytes-append [] ys front back i = back i
IsBytes-append (x ∷ xs) ys front back zero = front 0
IsBytes-append (x ∷ xs) ys front back (suc i) = IsBytes-append xs ys (λ k. front (suc k)) back i

word_bytes : (n : ℕ) → IsBytes (to_be_bytes w32 n)
word_bytes n zero = omega arith
word_bytes n (suc zero) = omega arith
word_bytes n (suc (suc zero)) = omega arith
word_bytes n (suc (suc (suc zero))) = omega arith
word_bytes n (suc (suc (suc (suc i)))) = omega arith

digest_bytes-small : (h : List ℕ) (n : ℕ) → IsBytes (digest_bytes h n)
unfolding digest_bytes
digest_bytes-small h zero = λ i. omega arith
digest_bytes-small h (suc n) = IsBytes-append (digest_bytes h n) _ (digest_bytes-small h n) (word_bytes _)

sha256-small : (bytes : List ℕ) → IsBytes (sha256 bytes)
unfolding sha256
sha256-small bytes = digest_bytes-small (final_hash initial_hash_256 bytes) 8

-- the digest of each file
pub IsDigest-sha256 : (bytes : List ℕ) → IsDigest (sha256 bytes)
IsDigest-sha256 bytes = record { sized = length-sha256 bytes; bytes = sha256-small bytes }

IsDigest-decoded : (word digest : List ℕ) → decode_sized word digest_size ≡ Ok digest → IsDigest digest
IsDigest-decoded word digest h =
    let long : length word ≡ 2 * digest_size = decode_sized-ok word digest_size digest h in
    let ok = decode_of-ok word digest (sym (decode_sized-twice word digest_size long) ∙ h) in
    record { sized = omega (arith, ok.2); bytes = ok.3 }

-- what 64 digits spell
pub IsDigest-digits : (word digest : List ℕ) → digest_of word ≡ Some digest → IsDigest digest
IsDigest-digits word digest h = by_result (decode_sized word digest_size) refl h where
  by_result : (r : Result (List ℕ) FromHexError) → decode_sized word digest_size ≡ r → result_ok r ≡ Some digest
      → IsDigest digest
  by_result (Ok found) e s =
      let same : found ≡ digest = cc in
      IsDigest-decoded word digest (e ∙ ap Ok same)
  by_result (Err why) e s = absurd cc
