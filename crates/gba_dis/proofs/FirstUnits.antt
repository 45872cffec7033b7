-- The unit that bytes begin with.
use Rattle.std.proofs.Common.{◌≡◌, ◌<◌, ◌≤◌, ℕ, suc, ◌+◌, Bool, true, false, cond, List, [], ◌∷◌, length, drop, get_or, refl, sym, ap, ◌∙◌, arith}
use Rattle.std.specs.Int.{w16, w32, from_le_bytes}
use Rattle.gba_dis.specs.declared.units.Unit.{Unit}
use Rattle.gba_dis.specs.declared.units.Unit.TheVariants.{Word, Half, Call, Byte}
use Rattle.gba_dis.specs.Units.{arm_units, half_of, is_call, left_bytes, thumb_units}

pub arm_word : (bs : List ℕ) → 4 ≤ length bs
    → arm_units bs ≡ Word (from_le_bytes w32 (get_or bs 0 0 ∷ get_or bs 1 0 ∷ get_or bs 2 0 ∷ get_or bs 3 0 ∷ []))
    ∷ arm_units (drop 4 bs)
unfolding arm_units
arm_word (a ∷ b ∷ c ∷ d ∷ rest) h = refl
arm_word (a ∷ b ∷ c ∷ []) h = absurd (omega arith)
arm_word (a ∷ b ∷ []) h = absurd (omega arith)
arm_word (a ∷ []) h = absurd (omega arith)
arm_word [] h = absurd (omega arith)

pub arm_byte : (bs : List ℕ) → 0 < length bs → length bs < 4
    → arm_units bs ≡ Byte (get_or bs 0 0) ∷ arm_units (drop 1 bs)
unfolding arm_units
arm_byte (a ∷ b ∷ c ∷ d ∷ rest) h few = absurd (omega arith)
arm_byte (a ∷ b ∷ c ∷ []) h few = refl
arm_byte (a ∷ b ∷ []) h few = refl
arm_byte (a ∷ []) h few = refl
arm_byte [] h few = absurd (omega arith)

pub arm_none : (bs : List ℕ) → length bs ≡ 0 → arm_units bs ≡ []
unfolding arm_units
arm_none [] h = refl
arm_none (a ∷ rest) h = absurd (omega arith)

pub thumb_call : (bs : List ℕ) → 4 ≤ length bs
    → is_call (half_of (get_or bs 0 0) (get_or bs 1 0)) (half_of (get_or bs 2 0) (get_or bs 3 0)) ≡ true
    → thumb_units bs ≡ Call (half_of (get_or bs 0 0) (get_or bs 1 0)) (half_of (get_or bs 2 0) (get_or bs 3 0))
    ∷ thumb_units (drop 4 bs)
unfolding thumb_units
thumb_call (a ∷ b ∷ c ∷ d ∷ rest) h call = rw call refl
thumb_call (a ∷ b ∷ c ∷ []) h call = absurd (omega arith)
thumb_call (a ∷ b ∷ []) h call = absurd (omega arith)
thumb_call (a ∷ []) h call = absurd (omega arith)
thumb_call [] h call = absurd (omega arith)

pub thumb_half : (bs : List ℕ) → 4 ≤ length bs
    → is_call (half_of (get_or bs 0 0) (get_or bs 1 0)) (half_of (get_or bs 2 0) (get_or bs 3 0)) ≡ false
    → thumb_units bs ≡ Half (half_of (get_or bs 0 0) (get_or bs 1 0)) ∷ thumb_units (drop 2 bs)
unfolding thumb_units
thumb_half (a ∷ b ∷ c ∷ d ∷ rest) h call = rw call refl
thumb_half (a ∷ b ∷ c ∷ []) h call = absurd (omega arith)
thumb_half (a ∷ b ∷ []) h call = absurd (omega arith)
thumb_half (a ∷ []) h call = absurd (omega arith)
thumb_half [] h call = absurd (omega arith)

pub thumb_last_half : (bs : List ℕ) → 2 ≤ length bs → length bs < 4
    → thumb_units bs ≡ Half (half_of (get_or bs 0 0) (get_or bs 1 0)) ∷ thumb_units (drop 2 bs)
unfolding thumb_units
thumb_last_half (a ∷ b ∷ c ∷ d ∷ rest) h few = absurd (omega arith)
thumb_last_half (a ∷ b ∷ c ∷ []) h few = refl
thumb_last_half (a ∷ b ∷ []) h few = refl
thumb_last_half (a ∷ []) h few = absurd (omega arith)
thumb_last_half [] h few = absurd (omega arith)

pub thumb_byte : (bs : List ℕ) → length bs ≡ 1 → thumb_units bs ≡ Byte (get_or bs 0 0) ∷ thumb_units (drop 1 bs)
unfolding thumb_units
thumb_byte (a ∷ []) h = refl
thumb_byte [] h = absurd (omega arith)
thumb_byte (a ∷ b ∷ rest) h = absurd (omega arith)

pub thumb_none : (bs : List ℕ) → length bs ≡ 0 → thumb_units bs ≡ []
unfolding thumb_units
thumb_none [] h = refl
thumb_none (a ∷ rest) h = absurd (omega arith)

pub thumb_call_by : (bs : List ℕ) (first second : ℕ) → 4 ≤ length bs → first ≡ half_of (get_or bs 0 0) (get_or bs 1 0)
    → second ≡ half_of (get_or bs 2 0) (get_or bs 3 0) → true ≡ is_call first second
    → thumb_units bs ≡ Call first second ∷ thumb_units (drop 4 bs)
thumb_call_by bs first second h e f call =
    let here : is_call (half_of (get_or bs 0 0) (get_or bs 1 0)) (half_of (get_or bs 2 0) (get_or bs 3 0)) ≡ true =
    rw (e, f) at (sym call) in
    rw (e, f) (thumb_call bs h here)

pub thumb_half_by : (bs : List ℕ) (first second : ℕ) → 4 ≤ length bs → first ≡ half_of (get_or bs 0 0) (get_or bs 1 0)
    → second ≡ half_of (get_or bs 2 0) (get_or bs 3 0) → false ≡ is_call first second
    → thumb_units bs ≡ Half first ∷ thumb_units (drop 2 bs)
thumb_half_by bs first second h e f call =
    let here : is_call (half_of (get_or bs 0 0) (get_or bs 1 0)) (half_of (get_or bs 2 0) (get_or bs 3 0)) ≡ false =
    rw (e, f) at (sym call) in
    rw e (thumb_half bs h here)
