-- How many bytes the pieces of a log have.
use Rattle.std.proofs.Common.{◌≡◌, ℕ, ◌≤◌, List, length, Option, Some, arith}
use Rattle.std.specs.Prelude.{IfSome, codes}
use Rattle.std.proofs.lemmas.List.{length-append}
use Rattle.hex.specs.Hex.{encode_lower, lower_digits}
use Rattle.hex.proofs.HexLemmas.{length-encode_with}
use Rattle.gba_joblog.specs.Digests.{IsDigest}
use Rattle.gba_joblog.specs.Job.{NamedFile}
use Rattle.gba_joblog.specs.Soundness.{IsFile}
use Rattle.gba_joblog.specs.Log.{after_words, digest_words}
use Rattle.gba_joblog.proofs.NameTexts.{name-short}

-- a digest has 64 digits
pub digest_is : (digest : List ℕ) → IsDigest digest → length (encode_lower digest) ≡ 64
digest_is digest h = omega (arith, length-encode_with lower_digits digest, h.sized)

pub name_short : (file : NamedFile) → IsFile file → length file.name ≤ 200
name_short file h = name-short file.name h.named

-- the end of a line with a stated digest
pub digest_line_is : (stated : Option (List ℕ)) (digest : List ℕ) → stated ≡ Some digest → IfSome stated IsDigest
    → 73 ≡ length (after_words (digest_words stated))
digest_line_is stated digest is h =
    rw is (
    let sound : IsDigest digest = rw is at h in
    omega (arith, length-append (encode_lower digest) (codes "\n"), digest_is digest sound)
    )
