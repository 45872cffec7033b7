use Rattle.std.proofs.Common.{ℕ, ◌+◌, ◌*◌, ◌-◌, ◌/◌, ◌%◌, ◌^◌, ◌<◌, ◌≤◌, ◌≡◌, ◌∙◌, ap, sym, refl, subst, Bool, true, false, ◌&&◌, List, [], ◌∷◌, ◌++◌, arith, lit<, length, drop, get_or, add-one}
use Rattle.std.proofs.Math.Path.{ap₂}
use Rattle.std.proofs.Math.Nat.{mul-add-div_right, mul-add-mod_self_right, mod-eq_of_lt, le-mul_of_pos_right}
use Rattle.std.proofs.lemmas.Bool.Decides.{nat_tests}
use Rattle.std.proofs.Math.Seq.{drop-cons}
use Rattle.std.proofs.Math.Pow.{pow_mono}
use Rattle.std.proofs.lemmas.Nat.{pow-add, pow_pos, shr-shr, shr_high, shr_below, mod-pow-add, mod_below, mul-add-lt}
use Rattle.std.specs.Prelude.{nat_le, ◌==◌}
use Rattle.gba_terms.specs.Bits.{field}
use Rattle.gba_arm_table.specs.declared.parts.Part.{Part}
use Rattle.gba_arm_table.specs.Diagrams.{widths, pack, part, operand_parts, source_parts, transfer_parts}
use Rattle.gba_arm_table.specs.declared.operation.Operand.{Operand}
use Rattle.gba_arm_table.specs.declared.operation.Operand.TheVariants as operand
use Rattle.gba_arm_table.specs.declared.operation.Source.{Source}
use Rattle.gba_arm_table.specs.declared.operation.Source.TheVariants as source
use Rattle.gba_arm_table.specs.declared.operation.TransferOffset.{TransferOffset}
use Rattle.gba_arm_table.specs.declared.operation.TransferOffset.TheVariants as transfer_offset

-- ---- a field of `v * 2 ^ k + r`, where r has k bits

-- the field lies in r
field-lower : (v r low width e : ℕ) → field (v * 2 ^ (e + width + low) + r) low width ≡ field r low width
field-lower v r low width e =
    let split : v * 2 ^ (e + width + low) ≡ v * 2 ^ e * 2 ^ width * 2 ^ low =
    rw (pow-add 2 (e + width) low, pow-add 2 e width) (grind arith) in
    let divided : (v * 2 ^ e * 2 ^ width * 2 ^ low + r) / 2 ^ low ≡ v * 2 ^ e * 2 ^ width + r / 2 ^ low =
    mul-add-div_right (pow_pos low) _ _ in
    ap (λ n. (n + r) / 2 ^ low % 2 ^ width) split ∙ ap (λ n. n % 2 ^ width) divided ∙ mul-add-mod_self_right _ _ _

-- it lies in v
field-upper : (v r below k width : ℕ) → r < 2 ^ below
    → field (v * 2 ^ below + r) (below + k) width ≡ v / 2 ^ k % 2 ^ width
field-upper v r below k width small =
    ap (λ n. n % 2 ^ width) (sym (shr-shr (v * 2 ^ below + r) below k) ∙ ap (λ n. n / 2 ^ k) (shr_high v below r small))

-- it has its upper k bits in v and its lower m bits in r
field-across : (v r low m k : ℕ) → r < 2 ^ (m + low)
    → field (v * 2 ^ (m + low) + r) low (k + m) ≡ v % 2 ^ k * 2 ^ m + field r low m
field-across v r low m k small =
    let split : v * 2 ^ (m + low) ≡ v * 2 ^ m * 2 ^ low = rw (pow-add 2 m low) (grind arith) in
    let divided : (v * 2 ^ m * 2 ^ low + r) / 2 ^ low ≡ v * 2 ^ m + r / 2 ^ low = mul-add-div_right (pow_pos low) _ _ in
    let upper : (v * 2 ^ m + r / 2 ^ low) / 2 ^ m ≡ v = shr_high v m (r / 2 ^ low) (shr_below r m low small) in
    let lower : (v * 2 ^ m + r / 2 ^ low) % 2 ^ m ≡ r / 2 ^ low % 2 ^ m = mul-add-mod_self_right _ _ _ in
    ap (λ n. (n + r) / 2 ^ low % 2 ^ (k + m)) split
    ∙ ap (λ n. n % 2 ^ (k + m)) divided
    ∙ mod-pow-add (v * 2 ^ m + r / 2 ^ low) k m
    ∙ ap₂ (λ n p. n % 2 ^ k * 2 ^ m + p) upper lower

-- ---- a field of parts

pub pack-small : (parts : List Part) → pack parts < 2 ^ widths parts
pack-small [] = lit< tt
pack-small (one ∷ rest) =
    let head : one.value % 2 ^ one.width < 2 ^ one.width = mod_below _ _ (pow_pos _) in
    let sum : one.value % 2 ^ one.width * 2 ^ widths rest + pack rest < 2 ^ widths rest * 2 ^ one.width =
    mul-add-lt _ _ _ _ head (pack-small rest) in
    rw (pow-add 2 one.width (widths rest)) (grind arith)

-- what a field of parts is, computed from how wide they are
abbrev pub read : List Part → ℕ → ℕ → ℕ
read [] low width = 0
read (one ∷ rest) low width =
    elim (nat_le (low + width) (widths rest)) [
      | true ↦ read rest low width
      | false ↦ elim (nat_le (widths rest) low) [
        | true ↦ elim (low == widths rest && width == one.width) [
          | true ↦ one.value % 2 ^ one.width
          | false ↦ one.value % 2 ^ one.width / 2 ^ (low - widths rest) % 2 ^ width
        ]
        | false ↦ one.value % 2 ^ one.width % 2 ^ (low + width - widths rest) * 2 ^ (widths rest - low)
            + read rest low (widths rest - low)
      ]
    ]

-- one part more, v of w bits, above r of W bits
field-step : (v w r W low width here later : ℕ) → v < 2 ^ w → r < 2 ^ W → field r low width ≡ here
    → field r low (W - low) ≡ later → (b1 b2 b3 : Bool) → nat_le (low + width) W ≡ b1 → nat_le W low ≡ b2
    → (low == W && width == w) ≡ b3 → field (v * 2 ^ W + r) low width ≡ elim b1 [
      | true ↦ here
      | false ↦ elim b2 [
        | true ↦ elim b3 [ true ↦ v | false ↦ v / 2 ^ (low - W) % 2 ^ width ]
        | false ↦ v % 2 ^ (low + width - W) * 2 ^ (W - low) + later
      ]
    ]
field-step v w r W low width here later v_small r_small h l true b2 b3 e1 e2 e3 =
    let inside : low + width ≤ W = grind (arith, nat_tests) in
    let sum : W ≡ (W - (low + width)) + width + low = omega arith in
    ap (λ n. (v * 2 ^ n + r) / 2 ^ low % 2 ^ width) sum ∙ field-lower v r low width (W - (low + width)) ∙ h
field-step v w r W low width here later v_small r_small h l false true true e1 e2 e3 =
    let at : low ≡ W = grind (arith, nat_tests) in
    let whole : width ≡ w = grind (arith, nat_tests) in
    ap (λ n. (v * 2 ^ W + r) / 2 ^ n % 2 ^ width) at ∙ ap (λ n. n % 2 ^ width) (shr_high v W r r_small)
    ∙ ap (λ n. v % 2 ^ n) whole ∙ mod-eq_of_lt v_small
field-step v w r W low width here later v_small r_small h l false true false e1 e2 e3 =
    let above : W ≤ low = grind (arith, nat_tests) in
    let sum : low ≡ W + (low - W) = omega arith in
    ap (λ n. (v * 2 ^ W + r) / 2 ^ n % 2 ^ width) sum ∙ field-upper v r W (low - W) width r_small
field-step v w r W low width here later v_small r_small h l false false b3 e1 e2 e3 =
    let below : low < W = grind (arith, nat_tests) in
    let beyond : W < low + width = grind (arith, nat_tests) in
    let sum : W ≡ (W - low) + low = omega arith in
    let parted : width ≡ (low + width - W) + (W - low) = omega arith in
    let small : r < 2 ^ ((W - low) + low) = subst (λ n. r < 2 ^ n) sum r_small in
    ap₂ (λ n m. (v * 2 ^ n + r) / 2 ^ low % 2 ^ m) sum parted
    ∙ field-across v r low (W - low) (low + width - W) small
    ∙ ap (λ n. v % 2 ^ (low + width - W) * 2 ^ (W - low) + n) l

pub field-pack : (parts : List Part) (low width : ℕ) → field (pack parts) low width ≡ read parts low width
field-pack [] low width = grind arith
field-pack (one ∷ rest) low width =
    field-step (one.value % 2 ^ one.width) one.width (pack rest) (widths rest) low width
    (read rest low width) (read rest low (widths rest - low))
    (mod_below _ _ (pow_pos one.width)) (pack-small rest) (field-pack rest low width)
    (field-pack rest low (widths rest - low)) _ _ _ refl refl refl

-- ---- how the parts are put together one by one

-- the word so far and the rest are all parts
abbrev pub Packs : List Part → ℕ → List Part → Type 0
Packs all word rest = (word * 2 ^ widths rest + pack rest ≡ pack all) × (widths rest ≤ 32) × (widths all ≤ 32)

-- the word so far is no larger than the whole
pub Packs-small : (all : List Part) (word : ℕ) (rest : List Part) → Packs all word rest → word < 2 ^ 32
Packs-small all word rest h =
    let whole : pack all < 2 ^ widths all = pack-small all in
    let bound : 2 ^ widths all ≤ 2 ^ 32 = pow_mono h.2 in
    let grown : word ≤ word * 2 ^ widths rest = le-mul_of_pos_right word (pow_pos (widths rest)) in
    omega (arith, h.0)

pub Packs-step : (all : List Part) (word : ℕ) (one : Part) (rest : List Part) → Packs all word (one ∷ rest)
    → Packs all (word * 2 ^ one.width + one.value % 2 ^ one.width) rest
Packs-step all word one rest h =
    let shifted : word * 2 ^ (one.width + widths rest) ≡ word * 2 ^ one.width * 2 ^ widths rest =
    rw (pow-add 2 one.width (widths rest)) (grind arith) in
    ((grind (arith, shifted)), omega arith, h.2)

pub Packs-next : (all : List Part) (i word : ℕ) (d : Part) (value : ℕ) → i < length all → Packs all word (drop i all)
    → value ≡ field (get_or all i d).value 0 (get_or all i d).width
    → (word * 2 ^ (get_or all i d).width % 2 ^ 64 ≡ word * 2 ^ (get_or all i d).width)
    × Packs all (word * 2 ^ (get_or all i d).width + value) (drop (i + 1) all)
Packs-next all i word d value within h v =
    let one : Part = get_or all i d in
    let split : drop i all ≡ one ∷ drop (i + 1) all = rw add-one (drop-cons all i d within) in
    let packs : Packs all word (one ∷ drop (i + 1) all) = subst (Packs all word) split h in
    let next : Packs all (word * 2 ^ one.width + one.value % 2 ^ one.width) (drop (i + 1) all) =
    Packs-step all word one (drop (i + 1) all) packs in
    let small : word * 2 ^ one.width + one.value % 2 ^ one.width < 2 ^ 32 = Packs-small all _ (drop (i + 1) all) next in
    let same : value ≡ one.value % 2 ^ one.width = v ∙ ap (λ n. n % 2 ^ one.width) (omega arith) in
    (mod-eq_of_lt (omega arith), subst (λ n. Packs all (word * 2 ^ one.width + n) (drop (i + 1) all)) (sym same) next)

-- ---- parts within a part

widths-nested : (upper lower : List Part) (width value : ℕ) → widths lower ≡ width
    → widths (upper ++ part width value ∷ []) ≡ widths (upper ++ lower)
widths-nested [] lower width value e = omega (arith, e)
widths-nested (one ∷ rest) lower width value e = ap (λ n. one.width + n) (widths-nested rest lower width value e)

pub pack-nested : (upper lower : List Part) (width : ℕ) → widths lower ≡ width
    → pack (upper ++ part width (pack lower) ∷ []) ≡ pack (upper ++ lower)
pack-nested [] lower width e =
    let small : pack lower < 2 ^ width = subst (λ n. pack lower < 2 ^ n) e (pack-small lower) in
    let whole : pack lower % 2 ^ width ≡ pack lower = mod-eq_of_lt small in
    omega (arith, whole)
pack-nested (one ∷ rest) lower width e =
    ap₂ (λ n m. one.value % 2 ^ one.width * 2 ^ n + m) (widths-nested rest lower width (pack lower) e)
    (pack-nested rest lower width e)

-- what stands at the low end of data processing, of MSR and of a transfer has twelve bits
pub widths-operand : (operand : Operand) → widths (operand_parts operand) ≡ 12
widths-operand (operand.Immediate value turn) = refl
widths-operand (operand.Fixed rm kind amount) = refl
widths-operand (operand.ByRegister rm kind rs) = refl

pub widths-source : (source : Source) → widths (source_parts source) ≡ 12
widths-source (source.Immediate value turn) = refl
widths-source (source.Plain rm) = refl

pub widths-transfer : (offset : TransferOffset) → widths (transfer_parts offset) ≡ 12
widths-transfer (transfer_offset.Number value) = refl
widths-transfer (transfer_offset.Shifted rm kind amount) = refl

-- a word whose low end was put together first
pub pack-transfer : (whole upper : List Part) (offset : TransferOffset) (word : ℕ)
    → whole ≡ upper ++ transfer_parts offset → word ≡ pack (upper ++ part 12 (pack (transfer_parts offset)) ∷ [])
    → word ≡ pack whole
pack-transfer whole upper offset word is nested =
    nested ∙ pack-nested upper (transfer_parts offset) 12 (widths-transfer offset) ∙ sym (ap pack is)
