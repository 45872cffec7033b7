-- Over a store in memory a plan has one end, but for want of memory.
use Rattle.std.proofs.Common.{◌≡◌, ◌≢◌, ℕ, ◌+◌, true, false, List, length, take, Some, None, Result, Err, sym, ap, ◌∙◌, subst, inl, inr}
use Rattle.std.specs.Prelude.{nat_lt}
use Rattle.gba_store.specs.Chosen.{IsRead, but_memory}
use Rattle.gba_store.specs.Files.{IsFront}
use Rattle.gba_store.specs.Memory.{Memory, content_in}
use Rattle.gba_store.specs.declared.outside.ReadError.{ReadError}
use Rattle.gba_store.specs.declared.outside.ReadError.TheVariants as reading
use Rattle.gba_command.specs.Cause.{Stop, LacksMemory}
use Rattle.gba_store.specs.Chosen.{GivesInMemory}
use Rattle.gba_command.specs.Plan.{Plan, Done, Refuse, Read}
use Rattle.gba_command.specs.Reading.{GoesTo, stop_at}

-- two reads that were given left the same store
same-store : (name : List ℕ) (old one other : Memory) → IsRead name None old one → IsRead name None old other
    → one ≡ other
same-store name old one other h k =
    let files = h.files ∙ sym k.files in
    let failing = h.failing ∙ sym k.failing in
    let reads = h.reads ∙ sym k.reads in
    let faults = h.faults ∙ sym k.faults in
    let absences = h.absences ∙ sym k.absences in
    λ i. record { files = files i; failing = failing i; reads = reads i; faults = faults i; absences = absences i }

-- and gave the same bytes
same-bytes : (old : Memory) (name : List ℕ) (most : ℕ) (one other : List ℕ)
    → IsFront (content_in old.files) name most one → IsFront (content_in old.files) name most other → one ≡ other
same-bytes old name most one other h k =
    let all : h.0 ≡ k.0 = cc in
    h.2 ∙ ap (take most) all ∙ sym k.2

refused-once : {X : Type 0} (name : List ℕ) (r s : ReadError) (end other : Result X Stop) → end ≡ Err (stop_at name r)
    → other ≡ Err (stop_at name s) → but_memory (Some r) ≡ but_memory (Some s) → end ≢ Err LacksMemory
    → other ≢ Err LacksMemory → end ≡ other
refused-once name reading.NoMemory s end other h k due apart apart' = absurd (apart h)
refused-once name reading.Absent reading.NoMemory end other h k due apart apart' = absurd (apart' k)
refused-once name reading.Failed reading.NoMemory end other h k due apart apart' = absurd (apart' k)
refused-once name reading.Absent reading.Absent end other h k due apart apart' = h ∙ sym k
refused-once name reading.Failed reading.Failed end other h k due apart apart' = h ∙ sym k
refused-once name reading.Absent reading.Failed end other h k due apart apart' = absurd cc
refused-once name reading.Failed reading.Absent end other h k due apart apart' = absurd cc

-- a read isn't both refused and given
not-both : {X : Type 0} (name : List ℕ) (r : ReadError) (end : Result X Stop) → end ≡ Err (stop_at name r)
    → but_memory (Some r) ≡ but_memory None → end ≢ Err LacksMemory → ⊥
not-both name reading.Absent end h due apart = cc
not-both name reading.Failed end h due apart = cc
not-both name reading.NoMemory end h due apart = apart h

pub once : {X : Type 0} (plan : Plan X) (old new newer : Memory) (end other : Result X Stop)
    → GoesTo GivesInMemory plan old new end → GoesTo GivesInMemory plan old newer other
    → end ≢ Err LacksMemory → other ≢ Err LacksMemory → end ≡ other
unfolding GoesTo
once (Done x) old new newer end other (inl h) k apart apart' = absurd (apart h.1)
once (Done x) old new newer end other (inr h) (inl k) apart apart' = absurd (apart' k.1)
once (Done x) old new newer end other (inr h) (inr k) apart apart' = h.1 ∙ sym k.1
once (Refuse cause) old new newer end other (inl h) k apart apart' = absurd (apart h.1)
once (Refuse cause) old new newer end other (inr h) (inl k) apart apart' = absurd (apart' k.1)
once (Refuse cause) old new newer end other (inr h) (inr k) apart apart' = h.1 ∙ sym k.1
once (Read name most long next) old new newer end other (inl h) k apart apart' = absurd (apart h.1)
once (Read name most long next) old new newer end other (inr h) (inl k) apart apart' = absurd (apart' k.1)
once (Read name most long next) old new newer end other (inr (inl h)) (inr (inl k)) apart apart' =
    refused-once name h.0 k.0 end other h.2 k.2 (h.1.read.due ∙ sym k.1.read.due) apart apart'
once (Read name most long next) old new newer end other (inr (inl h)) (inr (inr (inl k))) apart apart' =
    absurd (not-both name h.0 end h.2 (h.1.read.due ∙ sym k.2.read.due) apart)
once (Read name most long next) old new newer end other (inr (inl h)) (inr (inr (inr k))) apart apart' =
    absurd (not-both name h.0 end h.2 (h.1.read.due ∙ sym k.2.read.due) apart)
once (Read name most long next) old new newer end other (inr (inr (inl h))) (inr (inl k)) apart apart' =
    absurd (not-both name k.0 other k.2 (k.1.read.due ∙ sym h.2.read.due) apart')
once (Read name most long next) old new newer end other (inr (inr (inr h))) (inr (inl k)) apart apart' =
    absurd (not-both name k.0 other k.2 (k.1.read.due ∙ sym h.2.read.due) apart')
once (Read name most long next) old new newer end other (inr (inr (inl h))) (inr (inr (inl k))) apart apart' =
    h.4.1 ∙ sym k.4.1
once (Read name most long next) old new newer end other (inr (inr (inl h))) (inr (inr (inr k))) apart apart' =
    let same : h.1 ≡ k.1 = same-bytes old name (most + 1) h.1 k.1 (h.2.front tt) (k.2.front tt) in
    let long : nat_lt most (length k.1) ≡ true = rw same at h.3 in
    absurd cc
once (Read name most long next) old new newer end other (inr (inr (inr h))) (inr (inr (inl k))) apart apart' =
    let same : h.1 ≡ k.1 = same-bytes old name (most + 1) h.1 k.1 (h.2.front tt) (k.2.front tt) in
    let short : nat_lt most (length k.1) ≡ false = rw same at h.3 in
    absurd cc
once {X} (Read name most long next) old new newer end other (inr (inr (inr h))) (inr (inr (inr k))) apart apart' =
    let bytes : k.1 ≡ h.1 = same-bytes old name (most + 1) k.1 h.1 (k.2.front tt) (h.2.front tt) in
    let store : k.0 ≡ h.0 = same-store name old k.0 h.0 k.2.read h.2.read in
    once (next h.1) h.0 new newer end other h.4
    (subst (λ (b : List ℕ). GoesTo GivesInMemory (next b) h.0 newer other) bytes
    (subst (λ (s : Memory). GoesTo GivesInMemory (next k.1) s newer other) store k.4)) apart apart'
