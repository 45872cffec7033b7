use Rattle.std.proofs.Common.{◌≡◌, ◌≢◌, ℕ, zero, suc, ◌+◌, ◌<◌, List, length, slice_index, refl, ◌∙◌, arith}
use Rattle.std.proofs.lemmas.List.{length-set, get_or-set_other}
use Rattle.gba_flash.specs.Flash.{erased}

pub erased-long : (first count : ℕ) (bytes : List ℕ) → length (erased first count bytes) ≡ length bytes
unfolding erased
erased-long first zero bytes = refl
erased-long first (suc count) bytes =
    length-set (erased first count bytes) (first + count) 0xff ∙ erased-long first count bytes

-- a byte that is none of those erased
pub erased-apart : (first count place : ℕ) (bytes : List ℕ) → ((k : ℕ) → k < count → place ≢ first + k)
    → slice_index (erased first count bytes) place ≡ slice_index bytes place
unfolding erased
erased-apart first zero place bytes apart = refl
erased-apart first (suc count) place bytes apart =
    get_or-set_other (erased first count bytes) (first + count) place 0xff 0 (apart count (omega arith))
    ∙ erased-apart first count place bytes (λ k below. apart k (omega (arith, below)))
