-- SHA-256 digests, as the language states them.
use Rattle.std.specs.Prelude.{◌≡◌, ℕ, List, length}
use Rattle.hex.specs.Hex.{IsBytes}
use Rattle.sha2.specs.Sha256.{sha256}

-- the bytes of a digest
abbrev pub digest_size : ℕ
digest_size = 32

-- bytes that may be a digest
pub record IsDigest (digest : List ℕ) : Type 0 where
  pub sized : length digest ≡ digest_size
  pub bytes : IsBytes digest

-- the digest of each file is one
abbrev pub DigestsAreSound : Type 0
DigestsAreSound = (bytes : List ℕ) → IsDigest (sha256 bytes)
