use Rattle.std.proofs.Common.{◌≡◌, ℕ, ◌+◌, ◌<◌, Bool, true, false, nat_lt, slice_set, if◌then◌else◌, refl, sym, ◌∙◌, ap, add-zero, arith}
use Rattle.gba_terms.specs.Bits.{field}
use Rattle.gba_bus.specs.Regions.{region_of}
use Rattle.gba_bus.specs.Widths.{aligned, size}
use Rattle.gba_bus.specs.declared.region.Region.{Region}
use Rattle.gba_bus.specs.declared.region.Region.TheVariants.{Bios, Work, Inner, Io, Palette, Vram, Oam, Rom0, Rom1, Rom2, Sram, Other}
use Rattle.gba_bus.specs.declared.width.Width.{Width}
use Rattle.gba_bus.specs.declared.width.Width.TheVariants.{Byte, Half, Word}
use Rattle.gba_mem.specs.Memories.{Memories}
use Rattle.gba_mem.specs.Places.{inner_place, oam_place, palette_place, sprite_part, vram_place, work_place}
use Rattle.gba_mem.specs.Stores.{store, store_in, with_both, with_byte, with_byte_in, with_number}
use Rattle.gba_mem.specs.Wide.{wide_oam, wide_palette, wide_store, wide_vram}
use Rattle.gba_mem.proofs.Aligned.{inner-next, palette-next, region-same, vram-next, work-next}

-- A store made whole is the store made byte by byte.

abbrev Write : Type 0
Write = Memories → ℕ → ℕ → Memories

-- two ways to write a byte that agree at every place of an access
abbrev Agree : Write → Write → Width → ℕ → ℕ → Type 0
Agree f g width a p = (i : ℕ) (m : Memories) (byte : ℕ) → i < size width → f m (a + i) byte ≡ g m (p + i) byte

first-write : (f g : Write) (a p : ℕ) (m : Memories) (byte : ℕ) → f m (a + 0) byte ≡ g m (p + 0) byte
    → f m a byte ≡ g m p byte
first-write f g a p m byte same =
    ap (λ n. f m n byte) (sym (add-zero a)) ∙ same ∙ ap (λ n. g m n byte) (add-zero p)

half-as : (f g : Write) (m : Memories) (a p low high : ℕ) → Agree f g Half a p
    → f (f m a low) (a + 1) high ≡ g (g m p low) (p + 1) high
half-as f g m a p low high same =
    ap (λ k. f k (a + 1) high) (first-write f g a p m low (same 0 m low (omega arith)))
    ∙ same 1 (g m p low) high (omega arith)

word-as : (f g : Write) (m : Memories) (a p b0 b1 b2 b3 : ℕ) → Agree f g Word a p
    → f (f (f (f m a b0) (a + 1) b1) (a + 2) b2) (a + 3) b3 ≡ g (g (g (g m p b0) (p + 1) b1) (p + 2) b2) (p + 3) b3
word-as f g m a p b0 b1 b2 b3 same =
    ap (λ k. f (f (f k (a + 1) b1) (a + 2) b2) (a + 3) b3) (first-write f g a p m b0 (same 0 m b0 (omega arith)))
    ∙ ap (λ k. f (f k (a + 2) b2) (a + 3) b3) (same 1 (g m p b0) b1 (omega arith))
    ∙ ap (λ k. f k (a + 3) b3) (same 2 (g (g m p b0) (p + 1) b1) b2 (omega arith))
    ∙ same 3 (g (g (g m p b0) (p + 1) b1) (p + 2) b2) b3 (omega arith)

number-as : (f g : Write) (width : Width) (m : Memories) (a p value : ℕ) → Agree f g width a p
    → with_number f width m a value ≡ with_number g width m p value
number-as f g Byte m a p value same =
    first-write f g a p m (field value 0 8) (same 0 m (field value 0 8) (omega arith))
number-as f g Half m a p value same = half-as f g m a p (field value 0 8) (field value 8 8) same
number-as f g Word m a p value same =
    word-as f g m a p (field value 0 8) (field value 8 8) (field value 16 8) (field value 24 8) same

-- one memory written at a place
abbrev set_work : Write
set_work m place byte = record m { work = slice_set m.work place byte }

abbrev set_inner : Write
set_inner m place byte = record m { inner = slice_set m.inner place byte }

abbrev set_palette : Write
set_palette m place byte = record m { palette = slice_set m.palette place byte }

abbrev set_vram : Write
set_vram m place byte = record m { vram = slice_set m.vram place byte }

abbrev set_oam : Write
set_oam m place byte = record m { oam = slice_set m.oam place byte }

work-number : (width : Width) (m : Memories) (place value : ℕ)
    → with_number set_work width m place value ≡ record m { work = with_number slice_set width m.work place value }
work-number Byte m place value = refl
work-number Half m place value = refl
work-number Word m place value = refl

inner-number : (width : Width) (m : Memories) (place value : ℕ)
    → with_number set_inner width m place value ≡ record m { inner = with_number slice_set width m.inner place value }
inner-number Byte m place value = refl
inner-number Half m place value = refl
inner-number Word m place value = refl

-- a byte of an access goes where its region says
written : (region : Region) (width : Width) (address i : ℕ) (m : Memories) (byte : ℕ) → region_of address ≡ region
    → i < size width
    → with_byte m (aligned width address + i) byte ≡ with_byte_in region m (aligned width address + i) byte
written region width address i m byte e h =
    ap (λ r. with_byte_in r m (aligned width address + i) byte) (region-same width address i h ∙ e)

work-agrees : (width : Width) (address : ℕ) → region_of address ≡ Work
    → Agree with_byte set_work width (aligned width address) (work_place (aligned width address))
work-agrees width address e i m byte h =
    written Work width address i m byte e h
    ∙ ap (λ place. set_work m place byte) (work-next width address i h)

inner-agrees : (width : Width) (address : ℕ) → region_of address ≡ Inner
    → Agree with_byte set_inner width (aligned width address) (inner_place (aligned width address))
inner-agrees width address e i m byte h =
    written Inner width address i m byte e h
    ∙ ap (λ place. set_inner m place byte) (inner-next width address i h)

palette-agrees : (width : Width) (address : ℕ) → region_of address ≡ Palette
    → Agree with_byte set_palette width (aligned width address) (palette_place (aligned width address))
palette-agrees width address e i m byte h =
    written Palette width address i m byte e h
    ∙ ap (λ place. set_palette m place byte) (palette-next width address i h)

vram-agrees : (width : Width) (address : ℕ) → region_of address ≡ Vram
    → Agree with_byte set_vram width (aligned width address) (vram_place (aligned width address))
vram-agrees width address e i m byte h =
    written Vram width address i m byte e h
    ∙ ap (λ place. set_vram m place byte) (vram-next width address i h)

oam-agrees : (width : Width) (address : ℕ) → region_of address ≡ Oam
    → Agree with_byte set_oam width (aligned width address) (oam_place (aligned width address))
oam-agrees width address e i m byte h =
    written Oam width address i m byte e h
    ∙ ap (λ place. set_oam m place byte) (palette-next width address i h)

-- what drops a byte drops an access
abbrev dropped : Write
dropped m place byte = m

dropped-number : (width : Width) (m : Memories) (place value : ℕ) → with_number dropped width m place value ≡ m
dropped-number Byte m place value = refl
dropped-number Half m place value = refl
dropped-number Word m place value = refl

drop-as : (region : Region) (width : Width) (m : Memories) (address value : ℕ) → region_of address ≡ region
    → ((k : Memories) (place byte : ℕ) → with_byte_in region k place byte ≡ k)
    → with_number with_byte width m (aligned width address) value ≡ m
drop-as region width m address value e drops =
    number-as with_byte dropped width m (aligned width address) 0 value
    (λ i k byte h. written region width address i k byte e h ∙ drops k (aligned width address + i) byte)
    ∙ dropped-number width m 0 value

work-store : (mode : ℕ) (m : Memories) (address : ℕ) (width : Width) (value : ℕ) → region_of address ≡ Work
    → store_in Work mode m address width value ≡ wide_store Work mode m address width value
unfolding wide_store
work-store mode m address width value e =
    number-as with_byte set_work width m (aligned width address) (work_place (aligned width address)) value
    (work-agrees width address e)
    ∙ work-number width m (work_place (aligned width address)) value

inner-store : (mode : ℕ) (m : Memories) (address : ℕ) (width : Width) (value : ℕ) → region_of address ≡ Inner
    → store_in Inner mode m address width value ≡ wide_store Inner mode m address width value
unfolding wide_store
inner-store mode m address width value e =
    number-as with_byte set_inner width m (aligned width address) (inner_place (aligned width address)) value
    (inner-agrees width address e)
    ∙ inner-number width m (inner_place (aligned width address)) value

palette-store : (mode : ℕ) (m : Memories) (address : ℕ) (width : Width) (value : ℕ) → region_of address ≡ Palette
    → store_in Palette mode m address width value ≡ wide_store Palette mode m address width value
unfolding wide_store wide_palette
palette-store mode m address Byte value e =
    half-as with_byte set_palette m (aligned Half address) (palette_place (aligned Half address)) (field value 0 8)
    (field value 0 8) (palette-agrees Half address e)
palette-store mode m address Half value e =
    number-as with_byte set_palette Half m (aligned Half address) (palette_place (aligned Half address)) value
    (palette-agrees Half address e)
palette-store mode m address Word value e =
    number-as with_byte set_palette Word m (aligned Word address) (palette_place (aligned Word address)) value
    (palette-agrees Word address e)

vram-byte : (test : Bool) (m : Memories) (address value : ℕ) → region_of address ≡ Vram
    → (if test then with_both with_byte m (aligned Half address) (field value 0 8) else m)
    ≡ record m {
      vram = if test then with_both slice_set m.vram (vram_place (aligned Half address)) (field value 0 8) else m.vram;
    }
vram-byte true m address value e =
    half-as with_byte set_vram m (aligned Half address) (vram_place (aligned Half address)) (field value 0 8)
    (field value 0 8) (vram-agrees Half address e)
vram-byte false m address value e = refl

vram-store : (mode : ℕ) (m : Memories) (address : ℕ) (width : Width) (value : ℕ) → region_of address ≡ Vram
    → store_in Vram mode m address width value ≡ wide_store Vram mode m address width value
unfolding wide_store wide_vram
vram-store mode m address Byte value e =
    vram-byte (nat_lt (vram_place address) (sprite_part mode)) m address value e
vram-store mode m address Half value e =
    number-as with_byte set_vram Half m (aligned Half address) (vram_place (aligned Half address)) value
    (vram-agrees Half address e)
vram-store mode m address Word value e =
    number-as with_byte set_vram Word m (aligned Word address) (vram_place (aligned Word address)) value
    (vram-agrees Word address e)

oam-store : (mode : ℕ) (m : Memories) (address : ℕ) (width : Width) (value : ℕ) → region_of address ≡ Oam
    → store_in Oam mode m address width value ≡ wide_store Oam mode m address width value
unfolding wide_store wide_oam
oam-store mode m address Byte value e = refl
oam-store mode m address Half value e =
    number-as with_byte set_oam Half m (aligned Half address) (oam_place (aligned Half address)) value
    (oam-agrees Half address e)
oam-store mode m address Word value e =
    number-as with_byte set_oam Word m (aligned Word address) (oam_place (aligned Word address)) value
    (oam-agrees Word address e)

positive : (width : Width) → 0 < size width
positive Byte = omega arith
positive Half = omega arith
positive Word = omega arith

sram-store : (mode : ℕ) (m : Memories) (address : ℕ) (width : Width) (value : ℕ) → region_of address ≡ Sram
    → store_in Sram mode m address width value ≡ wide_store Sram mode m address width value
unfolding wide_store
sram-store mode m address width value e =
    first-write with_byte (with_byte_in Sram) (aligned width address) (aligned width address) m (field value 0 8)
    (written Sram width address 0 m (field value 0 8) e (positive width))

region-store : (region : Region) (mode : ℕ) (m : Memories) (address : ℕ) (width : Width) (value : ℕ)
    → region_of address ≡ region
    → store_in region mode m address width value ≡ wide_store region mode m address width value
unfolding wide_store
region-store Bios mode m address width value e = drop-as Bios width m address value e (λ k place byte. refl)
region-store Work mode m address width value e = work-store mode m address width value e
region-store Inner mode m address width value e = inner-store mode m address width value e
region-store Io mode m address width value e = drop-as Io width m address value e (λ k place byte. refl)
region-store Palette mode m address width value e = palette-store mode m address width value e
region-store Vram mode m address width value e = vram-store mode m address width value e
region-store Oam mode m address width value e = oam-store mode m address width value e
region-store Rom0 mode m address width value e = drop-as Rom0 width m address value e (λ k place byte. refl)
region-store Rom1 mode m address width value e = drop-as Rom1 width m address value e (λ k place byte. refl)
region-store Rom2 mode m address width value e = drop-as Rom2 width m address value e (λ k place byte. refl)
region-store Sram mode m address width value e = sram-store mode m address width value e
region-store Other mode m address width value e = drop-as Other width m address value e (λ k place byte. refl)

pub store-wide : (mode : ℕ) (m : Memories) (address : ℕ) (width : Width) (value : ℕ)
    → store mode m address width value ≡ wide_store (region_of address) mode m address width value
unfolding store
store-wide mode m address width value = region-store (region_of address) mode m address width value refl
