-- A list whose elements are written one after the other.
use Rattle.std.proofs.Common.{◌≡◌, ℕ, ◌+◌, ◌%◌, ◌^◌, ◌<◌, ◌≢◌, List, length, map, get_or, set, arith, below_more, get_or-set_other, get_or-set_same, length-set, sym, ◌∙◌}
use Rattle.std.specs.List.{range_with_len}
use Rattle.std.proofs.lemmas.List.{ext_get_or, get_or-map, length-map}
use Rattle.std.proofs.lemmas.List.FromFn.{fill_by_all}
use Rattle.gba_loose_devices.specs.Values.{bytes_cut}

-- so many of its elements are those of a function of the place
pub record IsFilled (f : ℕ → ℕ) (count done : ℕ) (values : List ℕ) : Type 0 where
  pub len : length values ≡ count
  pub same : (k : ℕ) → k < done → get_or values k 0 ≡ f k

pub filled-none : (f : ℕ → ℕ) (count : ℕ) (values : List ℕ) → length values ≡ count → IsFilled f count 0 values
filled-none f count values len = record { len = len; same = λ k lt. absurd (omega (arith, lt)) }

pub filled-more : (f : ℕ → ℕ) (count done value : ℕ) (values : List ℕ) → done < count → value ≡ f done
    → IsFilled f count done values → IsFilled f count (done + 1) (set values done value)
filled-more f count done value values inside is filled = record {
  len = length-set values done value ∙ filled.len;
  same = below_more _ _
      (λ k h. let ne : k ≢ done = omega (arith, h) in rw get_or-set_other (filled.same k h))
      (let lt : done < length values = omega (arith, filled.len) in get_or-set_same values done value 0 lt ∙ is);
}

pub filled-all : (f : ℕ → ℕ) (count done : ℕ) (values : List ℕ) → done ≡ count → IsFilled f count done values
    → values ≡ map f (range_with_len 0 count)
filled-all f count done values all filled =
    fill_by_all f values count 0 filled.len (λ k lt. filled.same k (omega (arith, all, lt)))

-- where the function is that of a list's elements
pub filled-bytes : (source : List ℕ) (count done : ℕ) (values : List ℕ) → done ≡ count → length source ≡ count
    → IsFilled (λ k. get_or source k 0 % 2 ^ 8) count done values → values ≡ bytes_cut source
filled-bytes source count done values all len filled =
    ext_get_or 0 values (bytes_cut source) (filled.len ∙ sym len ∙ sym (length-map source (λ b. b % 2 ^ 8)))
    (λ k lt. filled.same k (omega (arith, all, filled.len, lt))
    ∙ sym (get_or-map (λ b. b % 2 ^ 8) source k 0 0 (omega (arith, len, filled.len, lt))))
