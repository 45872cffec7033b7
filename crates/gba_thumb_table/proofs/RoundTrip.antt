use Rattle.std.proofs.Common.{ℕ, ◌/◌, ◌%◌, ◌<◌, ◌≡◌, ◌∙◌, ap, sym, subst, refl, Bool, true, false, List, [], ◌∷◌, arith}
use Rattle.std.proofs.lemmas.Bool.Decides.{nat_tests}
use Rattle.std.proofs.lemmas.Option.{IfSome_then}
use Rattle.std.specs.Prelude.{Some, Ok, Result, IfSome, IsOkAnd, ◌==◌}
use Rattle.gba_terms.specs.Bits.{field}
use Rattle.gba_word.specs.Sums.{flag_number}
use Rattle.gba_arm_table.specs.declared.encoding.EncodeError.{EncodeError}
use Rattle.gba_arm_table.specs.Limits.{Limit, Within, within}
use Rattle.gba_arm_table.specs.Diagrams.{pack}
use Rattle.gba_thumb_table.specs.declared.format.Format.{Format}
use Rattle.gba_thumb_table.specs.declared.format.Format.TheVariants as format
use Rattle.gba_thumb_table.specs.declared.operation.ThumbOp.{ThumbOp}
use Rattle.gba_thumb_table.specs.declared.operation.ThumbOp.TheVariants as op
use Rattle.gba_thumb_table.specs.Limits.{Fits, registers_of, immediates_of, offsets_of}
use Rattle.gba_thumb_table.specs.Table.{operation, operation_of}
use Rattle.gba_thumb_table.specs.Diagrams.{diagram}
use Rattle.gba_thumb_table.specs.Encoding.{encoding}
use Rattle.gba_thumb_table.proofs.Branching.{number}
use Rattle.gba_thumb_table.proofs.Settling.{Settled, format_in-settled}
use Rattle.gba_thumb_table.proofs.Reading.{operation-Fits}

-- An operation whose fields fit comes back from its halfword.

-- ---- flags and numbers

flag-small : (b : Bool) → flag_number b < 2
flag-small b = grind arith

flag-at : (n : ℕ) (b : Bool) → n ≡ flag_number b → (n == 1) ≡ b
flag-at n true e = grind (arith, nat_tests)
flag-at n false e = grind (arith, nat_tests)

-- ---- each format

-- a halfword that is settled for a format has the operation that the format reads
reads : (f : Format) → number f < 19 → (half : ℕ) (o : ThumbOp) → Settled f half → operation_of f (field half) ≡ Some o
    → operation half ≡ Some o
unfolding operation
reads f there half o s is = ap (λ g. operation_of g (field half)) (format_in-settled f there half s) ∙ is

format1-back : (half : ℕ) (kind o5 rs rd : ℕ) → half ≡ pack (diagram (op.Format1 kind o5 rs rd))
    → kind < 3 → o5 < 32 → rs < 8 → rd < 8 → operation half ≡ Some (op.Format1 kind o5 rs rd)
format1-back half kind o5 rs rd e b1 b2 b3 b4 =
    let high : field half 8 8 < 24 = omega arith in
    let read_kind : field half 11 2 ≡ kind = omega arith in
    let read_o5 : field half 6 5 ≡ o5 = omega arith in
    let read_rs : field half 3 3 ≡ rs = omega arith in
    let read_rd : field half 0 3 ≡ rd = omega arith in
    reads format.Format1 (omega arith) half _ (grind (arith, nat_tests))
    (rw (read_kind, read_o5, read_rs, read_rd) refl)

format2-back : (half : ℕ) (i kind : Bool) (x3 rs rd : ℕ) → half ≡ pack (diagram (op.Format2 i kind x3 rs rd))
    → x3 < 8 → rs < 8 → rd < 8 → operation half ≡ Some (op.Format2 i kind x3 rs rd)
format2-back half i kind x3 rs rd e b1 b2 b3 =
    let small_i : flag_number i < 2 = flag-small i in
    let small_kind : flag_number kind < 2 = flag-small kind in
    let high : field half 8 8 / 8 ≡ 3 = omega arith in
    let read_i : (field half 10 1 == 1) ≡ i = flag-at _ i (omega arith) in
    let read_kind : (field half 9 1 == 1) ≡ kind = flag-at _ kind (omega arith) in
    let read_x3 : field half 6 3 ≡ x3 = omega arith in
    let read_rs : field half 3 3 ≡ rs = omega arith in
    let read_rd : field half 0 3 ≡ rd = omega arith in
    reads format.Format2 (omega arith) half _ (grind (arith, nat_tests))
    (rw (read_i, read_kind, read_x3, read_rs, read_rd) refl)

format3-back : (half : ℕ) (kind rd n8 : ℕ) → half ≡ pack (diagram (op.Format3 kind rd n8))
    → kind < 4 → rd < 8 → n8 < 256 → operation half ≡ Some (op.Format3 kind rd n8)
format3-back half kind rd n8 e b1 b2 b3 =
    let high : field half 8 8 / 32 ≡ 1 = omega arith in
    let read_kind : field half 11 2 ≡ kind = omega arith in
    let read_rd : field half 8 3 ≡ rd = omega arith in
    let read_n8 : field half 0 8 ≡ n8 = omega arith in
    reads format.Format3 (omega arith) half _ (grind (arith, nat_tests)) (rw (read_kind, read_rd, read_n8) refl)

format4-back : (half : ℕ) (kind rs rd : ℕ) → half ≡ pack (diagram (op.Format4 kind rs rd))
    → kind < 16 → rs < 8 → rd < 8 → operation half ≡ Some (op.Format4 kind rs rd)
format4-back half kind rs rd e b1 b2 b3 =
    let high : field half 8 8 / 4 ≡ 16 = omega arith in
    let read_kind : field half 6 4 ≡ kind = omega arith in
    let read_rs : field half 3 3 ≡ rs = omega arith in
    let read_rd : field half 0 3 ≡ rd = omega arith in
    reads format.Format4 (omega arith) half _ (grind (arith, nat_tests)) (rw (read_kind, read_rs, read_rd) refl)

format5-back : (half : ℕ) (kind : ℕ) (h1 h2 : Bool) (rs rd : ℕ) → half ≡ pack (diagram (op.Format5 kind h1 h2 rs rd))
    → kind < 4 → rs < 8 → rd < 8 → operation half ≡ Some (op.Format5 kind h1 h2 rs rd)
format5-back half kind h1 h2 rs rd e b1 b2 b3 =
    let small_h1 : flag_number h1 < 2 = flag-small h1 in
    let small_h2 : flag_number h2 < 2 = flag-small h2 in
    let high : field half 8 8 / 4 ≡ 17 = omega arith in
    let read_kind : field half 8 2 ≡ kind = omega arith in
    let read_h1 : (field half 7 1 == 1) ≡ h1 = flag-at _ h1 (omega arith) in
    let read_h2 : (field half 6 1 == 1) ≡ h2 = flag-at _ h2 (omega arith) in
    let read_rs : field half 3 3 ≡ rs = omega arith in
    let read_rd : field half 0 3 ≡ rd = omega arith in
    reads format.Format5 (omega arith) half _ (grind (arith, nat_tests))
    (rw (read_kind, read_h1, read_h2, read_rs, read_rd) refl)

format6-back : (half : ℕ) (rd n8 : ℕ) → half ≡ pack (diagram (op.Format6 rd n8))
    → rd < 8 → n8 < 256 → operation half ≡ Some (op.Format6 rd n8)
format6-back half rd n8 e b1 b2 =
    let high : field half 8 8 / 8 ≡ 9 = omega arith in
    let read_rd : field half 8 3 ≡ rd = omega arith in
    let read_n8 : field half 0 8 ≡ n8 = omega arith in
    reads format.Format6 (omega arith) half _ (grind (arith, nat_tests)) (rw (read_rd, read_n8) refl)

format7-back : (half : ℕ) (l b : Bool) (ro rb rd : ℕ) → half ≡ pack (diagram (op.Format7 l b ro rb rd))
    → ro < 8 → rb < 8 → rd < 8 → operation half ≡ Some (op.Format7 l b ro rb rd)
format7-back half l b ro rb rd e b1 b2 b3 =
    let small_l : flag_number l < 2 = flag-small l in
    let small_b : flag_number b < 2 = flag-small b in
    let high : field half 8 8 / 16 ≡ 5 = omega arith in
    let high_2 : field half 8 8 / 2 % 2 ≡ 0 = omega arith in
    let read_l : (field half 11 1 == 1) ≡ l = flag-at _ l (omega arith) in
    let read_b : (field half 10 1 == 1) ≡ b = flag-at _ b (omega arith) in
    let read_ro : field half 6 3 ≡ ro = omega arith in
    let read_rb : field half 3 3 ≡ rb = omega arith in
    let read_rd : field half 0 3 ≡ rd = omega arith in
    reads format.Format7 (omega arith) half _ (grind (arith, nat_tests))
    (rw (read_l, read_b, read_ro, read_rb, read_rd) refl)

format8-back : (half : ℕ) (h s : Bool) (ro rb rd : ℕ) → half ≡ pack (diagram (op.Format8 h s ro rb rd))
    → ro < 8 → rb < 8 → rd < 8 → operation half ≡ Some (op.Format8 h s ro rb rd)
format8-back half h s ro rb rd e b1 b2 b3 =
    let small_h : flag_number h < 2 = flag-small h in
    let small_s : flag_number s < 2 = flag-small s in
    let high : field half 8 8 / 16 ≡ 5 = omega arith in
    let high_2 : field half 8 8 / 2 % 2 ≡ 1 = omega arith in
    let read_h : (field half 11 1 == 1) ≡ h = flag-at _ h (omega arith) in
    let read_s : (field half 10 1 == 1) ≡ s = flag-at _ s (omega arith) in
    let read_ro : field half 6 3 ≡ ro = omega arith in
    let read_rb : field half 3 3 ≡ rb = omega arith in
    let read_rd : field half 0 3 ≡ rd = omega arith in
    reads format.Format8 (omega arith) half _ (grind (arith, nat_tests))
    (rw (read_h, read_s, read_ro, read_rb, read_rd) refl)

format9-back : (half : ℕ) (b l : Bool) (o5 rb rd : ℕ) → half ≡ pack (diagram (op.Format9 b l o5 rb rd))
    → o5 < 32 → rb < 8 → rd < 8 → operation half ≡ Some (op.Format9 b l o5 rb rd)
format9-back half b l o5 rb rd e b1 b2 b3 =
    let small_b : flag_number b < 2 = flag-small b in
    let small_l : flag_number l < 2 = flag-small l in
    let high : field half 8 8 / 32 ≡ 3 = omega arith in
    let read_b : (field half 12 1 == 1) ≡ b = flag-at _ b (omega arith) in
    let read_l : (field half 11 1 == 1) ≡ l = flag-at _ l (omega arith) in
    let read_o5 : field half 6 5 ≡ o5 = omega arith in
    let read_rb : field half 3 3 ≡ rb = omega arith in
    let read_rd : field half 0 3 ≡ rd = omega arith in
    reads format.Format9 (omega arith) half _ (grind (arith, nat_tests))
    (rw (read_b, read_l, read_o5, read_rb, read_rd) refl)

format10-back : (half : ℕ) (l : Bool) (o5 rb rd : ℕ) → half ≡ pack (diagram (op.Format10 l o5 rb rd))
    → o5 < 32 → rb < 8 → rd < 8 → operation half ≡ Some (op.Format10 l o5 rb rd)
format10-back half l o5 rb rd e b1 b2 b3 =
    let small_l : flag_number l < 2 = flag-small l in
    let high : field half 8 8 / 16 ≡ 8 = omega arith in
    let read_l : (field half 11 1 == 1) ≡ l = flag-at _ l (omega arith) in
    let read_o5 : field half 6 5 ≡ o5 = omega arith in
    let read_rb : field half 3 3 ≡ rb = omega arith in
    let read_rd : field half 0 3 ≡ rd = omega arith in
    reads format.Format10 (omega arith) half _ (grind (arith, nat_tests)) (rw (read_l, read_o5, read_rb, read_rd) refl)

format11-back : (half : ℕ) (l : Bool) (rd n8 : ℕ) → half ≡ pack (diagram (op.Format11 l rd n8))
    → rd < 8 → n8 < 256 → operation half ≡ Some (op.Format11 l rd n8)
format11-back half l rd n8 e b1 b2 =
    let small_l : flag_number l < 2 = flag-small l in
    let high : field half 8 8 / 16 ≡ 9 = omega arith in
    let read_l : (field half 11 1 == 1) ≡ l = flag-at _ l (omega arith) in
    let read_rd : field half 8 3 ≡ rd = omega arith in
    let read_n8 : field half 0 8 ≡ n8 = omega arith in
    reads format.Format11 (omega arith) half _ (grind (arith, nat_tests)) (rw (read_l, read_rd, read_n8) refl)

format12-back : (half : ℕ) (p : Bool) (rd n8 : ℕ) → half ≡ pack (diagram (op.Format12 p rd n8))
    → rd < 8 → n8 < 256 → operation half ≡ Some (op.Format12 p rd n8)
format12-back half p rd n8 e b1 b2 =
    let small_p : flag_number p < 2 = flag-small p in
    let high : field half 8 8 / 16 ≡ 10 = omega arith in
    let read_p : (field half 11 1 == 1) ≡ p = flag-at _ p (omega arith) in
    let read_rd : field half 8 3 ≡ rd = omega arith in
    let read_n8 : field half 0 8 ≡ n8 = omega arith in
    reads format.Format12 (omega arith) half _ (grind (arith, nat_tests)) (rw (read_p, read_rd, read_n8) refl)

format13-back : (half : ℕ) (s : Bool) (n7 : ℕ) → half ≡ pack (diagram (op.Format13 s n7))
    → n7 < 128 → operation half ≡ Some (op.Format13 s n7)
format13-back half s n7 e b1 =
    let small_s : flag_number s < 2 = flag-small s in
    let high : field half 8 8 ≡ 0xB0 = omega arith in
    let read_s : (field half 7 1 == 1) ≡ s = flag-at _ s (omega arith) in
    let read_n7 : field half 0 7 ≡ n7 = omega arith in
    reads format.Format13 (omega arith) half _ (grind (arith, nat_tests)) (rw (read_s, read_n7) refl)

format14-back : (half : ℕ) (l r : Bool) (list8 : ℕ) → half ≡ pack (diagram (op.Format14 l r list8))
    → list8 < 256 → operation half ≡ Some (op.Format14 l r list8)
format14-back half l r list8 e b1 =
    let small_l : flag_number l < 2 = flag-small l in
    let small_r : flag_number r < 2 = flag-small r in
    let high : field half 8 8 / 16 ≡ 11 = omega arith in
    let high_2 : field half 8 8 / 2 % 4 ≡ 2 = omega arith in
    let read_l : (field half 11 1 == 1) ≡ l = flag-at _ l (omega arith) in
    let read_r : (field half 8 1 == 1) ≡ r = flag-at _ r (omega arith) in
    let read_list8 : field half 0 8 ≡ list8 = omega arith in
    reads format.Format14 (omega arith) half _ (grind (arith, nat_tests)) (rw (read_l, read_r, read_list8) refl)

format15-back : (half : ℕ) (l : Bool) (rb list8 : ℕ) → half ≡ pack (diagram (op.Format15 l rb list8))
    → rb < 8 → list8 < 256 → operation half ≡ Some (op.Format15 l rb list8)
format15-back half l rb list8 e b1 b2 =
    let small_l : flag_number l < 2 = flag-small l in
    let high : field half 8 8 / 16 ≡ 12 = omega arith in
    let read_l : (field half 11 1 == 1) ≡ l = flag-at _ l (omega arith) in
    let read_rb : field half 8 3 ≡ rb = omega arith in
    let read_list8 : field half 0 8 ≡ list8 = omega arith in
    reads format.Format15 (omega arith) half _ (grind (arith, nat_tests)) (rw (read_l, read_rb, read_list8) refl)

format16-back : (half : ℕ) (cond n8 : ℕ) → half ≡ pack (diagram (op.Format16 cond n8))
    → cond < 14 → n8 < 256 → operation half ≡ Some (op.Format16 cond n8)
format16-back half cond n8 e b1 b2 =
    let high : field half 8 8 / 16 ≡ 13 = omega arith in
    let high_2 : field half 8 8 % 16 < 14 = omega arith in
    let read_cond : field half 8 4 ≡ cond = omega arith in
    let read_n8 : field half 0 8 ≡ n8 = omega arith in
    reads format.Format16 (omega arith) half _ (grind (arith, nat_tests)) (rw (read_cond, read_n8) refl)

format17-back : (half : ℕ) (n8 : ℕ) → half ≡ pack (diagram (op.Format17 n8))
    → n8 < 256 → operation half ≡ Some (op.Format17 n8)
format17-back half n8 e b1 =
    let high : field half 8 8 ≡ 0xDF = omega arith in
    let read_n8 : field half 0 8 ≡ n8 = omega arith in
    reads format.Format17 (omega arith) half _ (grind (arith, nat_tests)) (rw read_n8 refl)

format18-back : (half : ℕ) (n11 : ℕ) → half ≡ pack (diagram (op.Format18 n11))
    → n11 < 2048 → operation half ≡ Some (op.Format18 n11)
format18-back half n11 e b1 =
    let high : field half 8 8 / 8 ≡ 28 = omega arith in
    let read_n11 : field half 0 11 ≡ n11 = omega arith in
    reads format.Format18 (omega arith) half _ (grind (arith, nat_tests)) (rw read_n11 refl)

format19-back : (half : ℕ) (second : Bool) (n11 : ℕ) → half ≡ pack (diagram (op.Format19 second n11))
    → n11 < 2048 → operation half ≡ Some (op.Format19 second n11)
format19-back half second n11 e b1 =
    let small_second : flag_number second < 2 = flag-small second in
    let high : field half 8 8 / 16 ≡ 15 = omega arith in
    let read_second : (field half 11 1 == 1) ≡ second = flag-at _ second (omega arith) in
    let read_n11 : field half 0 11 ≡ n11 = omega arith in
    reads format.Format19 (omega arith) half _ (grind (arith, nat_tests)) (rw (read_second, read_n11) refl)

-- ---- every format

pub operation-diagram : (o : ThumbOp) → Fits o → operation (pack (diagram o)) ≡ Some o
operation-diagram (op.Format1 kind o5 rs rd) fits =
    format1-back _ _ _ _ _ refl fits.immediates.0 fits.immediates.1.0 fits.registers.0 fits.registers.1.0
operation-diagram (op.Format2 true kind x3 rs rd) fits =
    format2-back _ true kind _ _ _ refl fits.immediates.0 fits.registers.0 fits.registers.1.0
operation-diagram (op.Format2 false kind x3 rs rd) fits =
    format2-back _ false kind _ _ _ refl fits.registers.0 fits.registers.1.0 fits.registers.1.1.0
operation-diagram (op.Format3 kind rd n8) fits =
    format3-back _ _ _ _ refl fits.immediates.0 fits.registers.0 fits.immediates.1.0
operation-diagram (op.Format4 kind rs rd) fits =
    format4-back _ _ _ _ refl fits.immediates.0 fits.registers.0 fits.registers.1.0
operation-diagram (op.Format5 kind h1 h2 rs rd) fits =
    format5-back _ _ h1 h2 _ _ refl fits.immediates.0 fits.registers.0 fits.registers.1.0
operation-diagram (op.Format6 rd n8) fits = format6-back _ _ _ refl fits.registers.0 fits.offsets.0
operation-diagram (op.Format7 l b ro rb rd) fits =
    format7-back _ l b _ _ _ refl fits.registers.0 fits.registers.1.0 fits.registers.1.1.0
operation-diagram (op.Format8 h s ro rb rd) fits =
    format8-back _ h s _ _ _ refl fits.registers.0 fits.registers.1.0 fits.registers.1.1.0
operation-diagram (op.Format9 b l o5 rb rd) fits =
    format9-back _ b l _ _ _ refl fits.offsets.0 fits.registers.0 fits.registers.1.0
operation-diagram (op.Format10 l o5 rb rd) fits =
    format10-back _ l _ _ _ refl fits.offsets.0 fits.registers.0 fits.registers.1.0
operation-diagram (op.Format11 l rd n8) fits = format11-back _ l _ _ refl fits.registers.0 fits.offsets.0
operation-diagram (op.Format12 p rd n8) fits = format12-back _ p _ _ refl fits.registers.0 fits.immediates.0
operation-diagram (op.Format13 s n7) fits = format13-back _ s _ refl fits.immediates.0
operation-diagram (op.Format14 l r list8) fits = format14-back _ l r _ refl fits.immediates.0
operation-diagram (op.Format15 l rb list8) fits = format15-back _ l _ _ refl fits.registers.0 fits.immediates.0
operation-diagram (op.Format16 cond n8) fits = format16-back _ _ _ refl fits.immediates.0 fits.offsets.0
operation-diagram (op.Format17 n8) fits = format17-back _ _ refl fits.immediates.0
operation-diagram (op.Format18 n11) fits = format18-back _ _ refl fits.offsets.0
operation-diagram (op.Format19 second n11) fits = format19-back _ second _ refl fits.offsets.0

Within-within : (limits : List Limit) → within limits ≡ true → Within limits
Within-within [] all = tt
Within-within (one ∷ rest) all =
    let here : one.number < one.bound = grind (arith, nat_tests) in
    let later : within rest ≡ true = grind arith in
    (here, Within-within rest later)

within-Within : (limits : List Limit) → Within limits → within limits ≡ true
within-Within [] all = refl
within-Within (one ∷ rest) all =
    let here : one.number < one.bound = all.0 in
    let later : within rest ≡ true = within-Within rest all.1 in
    grind (arith, nat_tests)

pub fitting : (o : ThumbOp) → within (registers_of o) ≡ true → within (immediates_of o) ≡ true
    → within (offsets_of o) ≡ true → Fits o
fitting o r i f = record { registers = Within-within _ r; immediates = Within-within _ i; offsets = Within-within _ f }

-- an operation whose fields fit is encoded
pub encoding-Fits : (o : ThumbOp) → Fits o → encoding o ≡ Ok (pack (diagram o))
unfolding encoding
encoding-Fits o h =
    let r : within (registers_of o) ≡ true = within-Within _ h.registers in
    let i : within (immediates_of o) ≡ true = within-Within _ h.immediates in
    let f : within (offsets_of o) ≡ true = within-Within _ h.offsets in
    rw (r, i, f) refl

-- an operation whose fields fit is encoded as a halfword that decodes to it
encoding-back : (o : ThumbOp) → Fits o → IsOkAnd (encoding o) (λ half. operation half ≡ Some o)
encoding-back o h =
    let P : Result ℕ EncodeError → Type 0 = λ r. IsOkAnd r (λ half. operation half ≡ Some o) in
    subst P (sym (encoding-Fits o h)) (operation-diagram o h)

-- the operation of a halfword is encoded as a halfword that decodes to it
pub operation-again : (half : ℕ)
    → IfSome (operation half) (λ o. IsOkAnd (encoding o) (λ again. operation again ≡ Some o))
operation-again half = IfSome_then (operation half) (operation-Fits half) encoding-back
