-- The picture's registers and its inner reference points.
use Rattle.std.proofs.Common.{◌≡◌, ℕ, zero, suc, ◌-◌, ◌*◌, ◌/◌, ◌%◌, ◌^◌, ◌<◌, ◌≤◌, ◌∙◌, ◌⊎◌, inl, inr, ap, sym, Bool, true, false, ◌&&◌, ◌||◌, ◌==◌, List, length, get_or, slice_index, bit_and, bit_or, if◌then◌else◌, refl, arith, eq-eqb, ne_eqb, lt-ltb, lit<, lit≤, ext_get_or, subst}
use Rattle.std.specs.List.{list_all}
use Rattle.std.specs.Int.Bits.{and_zero_r}
use Rattle.std.proofs.lemmas.Bool.{cond-true}
use Rattle.std.proofs.lemmas.List.FromFn.{get_or-map-range_with_len}
use Rattle.gba_register.specs.Rows.{row_at}
use Rattle.gba_devices.specs.Registers.{half_listed, owner_of, listed_of}
use Rattle.gba_devices.specs.State.{Devices}
use Rattle.gba_io.specs.Core.{Core, core_half_listed}
use Rattle.gba_io.specs.SerialRegisters.{is_serial}
use Rattle.gba_loose.proofs.Made.{made-again}
use Rattle.gba_loose_devices.specs.Picture.{halves_poured}
use Rattle.gba_loose_devices.specs.Values.{half_at}
use Rattle.gba_ppu_reg.specs.Position.{is_hblank, is_matched, is_vblank}
use Rattle.gba_ppu_reg.specs.Registers.{Picture, is_listed, picture_kept, picture_read, picture_read_at, picture_rows}
use Rattle.gba_ppu_reg.specs.declared.position.Position.{Position}
use Rattle.gba_serial.specs.Registers.{serial_listed}
use Rattle.gba_device_laws.specs.Holding.{PictureHolds}
use Rattle.gba_thaw_laws.specs.Laws.{PictureThawsAgain}
use Rattle.gba_thaw_laws.specs.Said.{AreHalvesOf}
use Rattle.gba_thaw_laws.proofs.Bits.{is_half_row, or-and-self, status-again, stored-small, uncut}

rows-halves : list_all is_half_row picture_rows ≡ true
unfolding picture_rows
rows-halves = refl

-- ---- an even offset below 056h is of the picture

not-serial : (half : ℕ) → half < 43 → is_serial (2 * half) ≡ false
not-serial half inside =
    let one = ne_eqb (2 * half - (2 * half) % 4) 0x120 (λ same. omega (arith, inside, same)) in
    let two = ne_eqb (2 * half - (2 * half) % 4) 0x124 (λ same. omega (arith, inside, same)) in
    let three = ne_eqb (2 * half - (2 * half) % 4) 0x128 (λ same. omega (arith, inside, same)) in
    let four = ne_eqb (2 * half - (2 * half) % 4) 0x134 (λ same. omega (arith, inside, same)) in
    λ i. one i || two i || three i || four i

of-first : {A : Type 0} (test : Bool) (one other : A) (f : A → ℕ) → test ≡ true
    → f (if test then one else other) ≡ f one
of-first test one other f is = ap f (cond-true test one other is)

picture-shown : (half : ℕ) (d : Devices) → half < 43
    → listed_of (owner_of (2 * half)) (2 * half) d
    ≡ bit_or (picture_kept (2 * half) d.picture) (picture_read_at (2 * half) d.place d.picture)
unfolding owner_of
picture-shown half d inside =
    of-first _ _ _ (λ owner. listed_of owner (2 * half) d) (lt-ltb (2 * half) 0x056 (omega (arith, inside)))

picture-half : (half : ℕ) (d : Devices) → half < 43
    → half_listed (2 * half) d
    ≡ bit_or (picture_kept (2 * half) d.picture) (picture_read_at (2 * half) d.place d.picture) % 2 ^ 16
unfolding half_listed
picture-half half d inside = ap (λ (v : ℕ). v % 2 ^ 16) (picture-shown half d inside)

core-half : (half : ℕ) (b : Core) → half < 43 → core_half_listed (2 * half) b ≡ half_listed (2 * half) b.devices
unfolding core_half_listed
core-half half b inside =
    ap (λ t. if t then serial_listed (2 * half) b.serial else half_listed (2 * half) b.devices) (not-serial half inside)

kept-half : (half : ℕ) (r : Picture) → half < 43 → picture_kept (2 * half) r ≡ slice_index r.halves half
kept-half half r inside =
    let even = eq-eqb ((2 * half) % 2) 0 (omega arith) in
    let below = lt-ltb (2 * half) 0x56 (omega (arith, inside)) in
    let listed : is_listed (2 * half) ≡ true = λ i. even i && below i in
    let place : (2 * half) / 2 ≡ half = omega arith in
    cond-true (is_listed (2 * half)) (slice_index r.halves ((2 * half) / 2)) 0 listed
    ∙ ap (λ (k : ℕ). slice_index r.halves k) place

-- what only the place shows are the halfwords 004h and 006h
abbrev pub IsPlain : ℕ → Type 0
IsPlain half = (half < 2) ⊎ (4 ≤ half)

apart : (half other : ℕ) → IsPlain half → 2 ≤ other → other < 4 → (2 * half == 2 * other) ≡ false
apart half other (inl below) least most = ne_eqb (2 * half) (2 * other) (λ same. omega (arith, below, least, same))
apart half other (inr above) least most = ne_eqb (2 * half) (2 * other) (λ same. omega (arith, above, most, same))

read-half : (half : ℕ) (p : Position) (r : Picture) → IsPlain half
    → picture_read_at (2 * half) p r ≡ picture_read (2 * half) r
read-half half p r plain =
    let status = apart half 2 plain (lit≤ tt) (lit< tt) in
    let count = apart half 3 plain (lit≤ tt) (lit< tt) in
    rw (status, count) refl

poured-long : (io : List ℕ) → length (halves_poured io) ≡ 43
unfolding halves_poured
poured-long io = refl

module _ (b : Core) (io : List ℕ) (halves : AreHalvesOf b io) (holds : PictureHolds b.devices.picture) where
  half-small : (half : ℕ) → half < 43 → slice_index b.devices.picture.halves half < 2 ^ 16
  half-small half inside =
      subst (λ (v : ℕ). v < 2 ^ 16) (kept-half half b.devices.picture inside)
      (stored-small picture_rows (λ offset. picture_kept offset b.devices.picture) rows-halves holds.stored (2 * half))

  pub plain-half : (half : ℕ) → half < 43 → IsPlain half
      → half_at (2 * half) io ≡ slice_index b.devices.picture.halves half
  plain-half half inside plain =
      let r = b.devices.picture in
      let mask = (row_at picture_rows (2 * half)).read_mask in
      uncut (half_at (2 * half) io) (slice_index r.halves half)
      (halves half (omega (arith, inside)) ∙ core-half half b inside ∙ picture-half half b.devices inside
      ∙ ap (λ (v : ℕ). bit_or (picture_kept (2 * half) r) v % 2 ^ 16) (read-half half b.devices.place r plain)
      ∙ ap (λ (v : ℕ). v % 2 ^ 16) (or-and-self (picture_kept (2 * half) r) mask ∙ kept-half half r inside))
      (half-small half inside)

  status-half : bit_and (half_at 0x004 io) 0xff38 ≡ slice_index b.devices.picture.halves 2
  unfolding core_half_listed half_listed owner_of picture_rows row_at
  status-half =
      let kept = slice_index b.devices.picture.halves 2 in
      let p = b.devices.place in
      ap (λ (h : ℕ). bit_and h 0xff38) (halves 2 (lit< tt))
      ∙ status-again kept (is_vblank p) (is_hblank p) (is_matched kept p) (holds.stored 0x004)

  count-half : 0 ≡ slice_index b.devices.picture.halves 3
  unfolding picture_rows row_at
  count-half = sym (and_zero_r (slice_index b.devices.picture.halves 3)) ∙ holds.stored 0x006

  poured-half : (half : ℕ) → half < 43 → get_or (halves_poured io) half 0 ≡ slice_index b.devices.picture.halves half
  unfolding halves_poured
  poured-half zero inside = plain-half 0 inside (inl (lit< tt))
  poured-half (suc zero) inside = plain-half 1 inside (inl (lit< tt))
  poured-half (suc (suc zero)) inside = status-half
  poured-half (suc (suc (suc zero))) inside = count-half
  poured-half (suc (suc (suc (suc more)))) inside =
      get_or-map-range_with_len (λ place. half_at (2 * place) io) 0 43 (suc (suc (suc (suc more))))
      (suc (suc (suc (suc more)))) 0
      inside (omega arith)
      ∙ plain-half (suc (suc (suc (suc more)))) inside (inr (omega arith))

  poured-halves : halves_poured io ≡ b.devices.picture.halves
  poured-halves =
      let long = poured-long io in
      ext_get_or 0 (halves_poured io) b.devices.picture.halves (long ∙ sym holds.long)
      (λ half lt. poured-half half (omega (arith, lt, long)))

pub picture-again : PictureThawsAgain
picture-again b n io says holds =
    let made = made-again b n says.numbers says.range in
    λ i. record {
      halves = poured-halves b io says.halves holds i;
      reference2 = made.reference2 i;
      reference3 = made.reference3 i;
    }
