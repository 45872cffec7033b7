-- The bytes of the I/O registers, read as halfwords.
use Rattle.std.proofs.Common.{◌≡◌, ℕ, zero, suc, ◌+◌, ◌-◌, ◌*◌, ◌/◌, ◌%◌, ◌<◌, ◌≤◌, ◌∙◌, ◌⊎◌, inl, inr, ap, sym, subst, List, [], ◌∷◌, ◌++◌, length, get_or, length-append, refl, arith}
use Rattle.std.proofs.lemmas.Bool.{cases_lt}
use Rattle.std.proofs.lemmas.List.{get_or-append_right, get_or_append_left, get_or_at}
use Rattle.gba_io.specs.Core.{Core, core_half_listed}
use Rattle.gba_loose_devices.specs.Values.{half_at}
use Rattle.gba_snapshot.specs.Io.{io_bytes}
use Rattle.gba_thaw_laws.specs.Laws.{HalvesAgain}

pub io-long : (halves : ℕ) (b : Core) → length (io_bytes halves b) ≡ 2 * halves
unfolding io_bytes
io-long zero b = refl
io-long (suc halves) b =
    let half = core_half_listed (2 * halves) b in
    let before = io-long halves b in
    let both = length-append (io_bytes halves b) (half % 256 ∷ half / 256 ∷ []) in
    omega (arith, before, both)

half-in-front : (xs ys : List ℕ) (n : ℕ) → n + 1 < length xs → half_at n (xs ++ ys) ≡ half_at n xs
half-in-front xs ys n inside =
    let low = get_or_append_left xs ys 0 n (omega arith) in
    let high = get_or_append_left xs ys 0 (n + 1) inside in
    omega (arith, low, high)

half-behind : (xs : List ℕ) (half n : ℕ) → length xs ≡ n → half_at n (xs ++ (half % 256 ∷ half / 256 ∷ [])) ≡ half
half-behind xs half n long =
    let one : n + 1 - n ≡ 1 = omega arith in
    let low = get_or_at xs (half % 256) (half / 256 ∷ []) 0 n long in
    let high : get_or (xs ++ (half % 256 ∷ half / 256 ∷ [])) (n + 1) 0 ≡ half / 256 =
    get_or-append_right xs (half % 256 ∷ half / 256 ∷ []) n (n + 1) 0 long (omega arith)
    ∙ ap (λ (k : ℕ). get_or (half % 256 ∷ half / 256 ∷ []) k 0) one in
    omega (arith, low, high)

abbrev ReadsHalves : ℕ → Core → Type 0
ReadsHalves halves b =
    (half : ℕ) → half < halves → half_at (2 * half) (io_bytes halves b) ≡ core_half_listed (2 * half) b

reads-more : (halves : ℕ) (b : Core) (half : ℕ) → ReadsHalves halves b → half < suc halves
    → (half < halves) ⊎ (halves ≤ half)
    → half_at (2 * half) (io_bytes (suc halves) b) ≡ core_half_listed (2 * half) b
unfolding io_bytes
reads-more halves b half before inside (inl lt) =
    let long = io-long halves b in
    let last = core_half_listed (2 * halves) b in
    half-in-front (io_bytes halves b) (last % 256 ∷ last / 256 ∷ []) (2 * half) (omega (arith, long, lt))
    ∙ before half lt
reads-more halves b half before inside (inr le) =
    let same : half ≡ halves = omega (arith, inside, le) in
    subst (λ (h : ℕ). half_at (2 * h) (io_bytes (suc halves) b) ≡ core_half_listed (2 * h) b) (sym same)
    (half-behind (io_bytes halves b) (core_half_listed (2 * halves) b) (2 * halves) (io-long halves b))

reads : (halves : ℕ) (b : Core) → ReadsHalves halves b
reads zero b half inside = absurd (omega (arith, inside))
reads (suc halves) b half inside = reads-more halves b half (reads halves b) inside (cases_lt half halves)

pub halves-again : HalvesAgain
halves-again b = reads 512 b
