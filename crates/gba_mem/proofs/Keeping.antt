use Rattle.std.proofs.Common.{◌≡◌, ℕ, ◌+◌, ◌<◌, ◌≤◌, Bool, true, false, nat_lt, List, length, slice_index, slice_set, if◌then◌else◌, refl, sym, ◌∙◌, ap, arith}
use Rattle.std.specs.Prelude.{◌==◌, ◌&&◌}
use Rattle.std.proofs.lemmas.Bool.{and_from, and_parts, eq-eqb, eqb-true}
use Rattle.std.proofs.lemmas.Bool.Decides.{nat_tests}
use Rattle.std.proofs.lemmas.List.{get_or-set_other, get_or-set_same, length-set, set-get_or}
use Rattle.gba_terms.specs.Bits.{field}
use Rattle.gba_bus.specs.Regions.{region_of}
use Rattle.gba_bus.specs.Widths.{aligned, size}
use Rattle.gba_bus.specs.declared.region.Region.{Region}
use Rattle.gba_bus.specs.declared.region.Region.TheVariants.{Palette, Vram, Oam}
use Rattle.gba_bus.specs.declared.width.Width.{Width}
use Rattle.gba_bus.specs.declared.width.Width.TheVariants.{Byte, Half, Word}
use Rattle.gba_mem.specs.Memories.{Memories}
use Rattle.gba_mem.specs.Places.{oam_place, palette_place, sprite_part, vram_place}
use Rattle.gba_mem.specs.Stores.{store}
use Rattle.gba_mem.specs.Video.{IsSameVideo, StoresKeepVideo, has_both, has_number, has_oam, has_palette, has_vram, is_video}
use Rattle.gba_mem.specs.Wide.{put_both, put_number, wide_oam, wide_palette, wide_store, wide_vram}
use Rattle.gba_mem.proofs.Storing.{store-wide}

-- Writes that change nothing, and writes that leave video memory.

-- a byte that is there already changes nothing
same-byte : (bytes : List ℕ) (place byte : ℕ) → slice_index bytes place ≡ byte → slice_set bytes place byte ≡ bytes
same-byte bytes place byte e = ap (slice_set bytes place) (sym e) ∙ set-get_or bytes place 0

-- a list that is another one with a byte written has that byte, and the others as they were
written-here : (before after : List ℕ) (place byte : ℕ) → slice_set before place byte ≡ after → place < length before
    → slice_index after place ≡ byte
written-here before after place byte e within =
    ap (λ xs. slice_index xs place) (sym e) ∙ get_or-set_same before place byte 0 within

written-other : (before after : List ℕ) (place byte other : ℕ) → slice_set before place byte ≡ after → other < place
    → slice_index after other ≡ slice_index before other
written-other before after place byte other e apart =
    ap (λ xs. slice_index xs other) (sym e)
    ∙ get_or-set_other before place other byte 0 (λ same. absurd (omega arith))

both-sound : (bytes : List ℕ) (place low high : ℕ) → slice_index bytes place ≡ low
    → slice_index bytes (place + 1) ≡ high
    → slice_set (slice_set bytes place low) (place + 1) high ≡ bytes
both-sound bytes place low high e f =
    ap (λ xs. slice_set xs (place + 1) high) (same-byte bytes place low e) ∙ same-byte bytes (place + 1) high f

four-sound : (bytes : List ℕ) (place a b c d : ℕ) → slice_index bytes place ≡ a → slice_index bytes (place + 1) ≡ b
    → slice_index bytes (place + 2) ≡ c → slice_index bytes (place + 3) ≡ d
    → slice_set (slice_set (slice_set (slice_set bytes place a) (place + 1) b) (place + 2) c) (place + 3) d ≡ bytes
four-sound bytes place a b c d e f g h =
    ap (λ xs. slice_set (slice_set xs (place + 2) c) (place + 3) d) (both-sound bytes place a b e f)
    ∙ ap (λ xs. slice_set xs (place + 3) d) (same-byte bytes (place + 2) c g)
    ∙ same-byte bytes (place + 3) d h

number-sound : (width : Width) (bytes : List ℕ) (place value : ℕ) → has_number width bytes place value ≡ true
    → put_number width bytes place value ≡ bytes
number-sound Byte bytes place value e =
    same-byte bytes place (field value 0 8) (eqb-true (slice_index bytes place) (field value 0 8) e)
number-sound Half bytes place value e =
    let a = slice_index bytes place == field value 0 8 in
    let b = slice_index bytes (place + 1) == field value 8 8 in
    let ab = and_parts a b e in
    both-sound bytes place (field value 0 8) (field value 8 8)
    (eqb-true (slice_index bytes place) (field value 0 8) ab.0)
    (eqb-true (slice_index bytes (place + 1)) (field value 8 8) ab.1)
number-sound Word bytes place value e =
    let a = slice_index bytes place == field value 0 8 in
    let b = slice_index bytes (place + 1) == field value 8 8 in
    let c = slice_index bytes (place + 2) == field value 16 8 in
    let d = slice_index bytes (place + 3) == field value 24 8 in
    let abcd = and_parts (a && b && c) d e in
    let abc = and_parts (a && b) c abcd.0 in
    let ab = and_parts a b abc.0 in
    four-sound bytes place (field value 0 8) (field value 8 8) (field value 16 8) (field value 24 8)
    (eqb-true (slice_index bytes place) (field value 0 8) ab.0)
    (eqb-true (slice_index bytes (place + 1)) (field value 8 8) ab.1)
    (eqb-true (slice_index bytes (place + 2)) (field value 16 8) abc.1)
    (eqb-true (slice_index bytes (place + 3)) (field value 24 8) abcd.1)

both_sound : (bytes : List ℕ) (place value : ℕ) → has_both bytes place value ≡ true → put_both bytes place value ≡ bytes
both_sound bytes place value e =
    let a = slice_index bytes place == field value 0 8 in
    let b = slice_index bytes (place + 1) == field value 0 8 in
    let ab = and_parts a b e in
    both-sound bytes place (field value 0 8) (field value 0 8)
    (eqb-true (slice_index bytes place) (field value 0 8) ab.0)
    (eqb-true (slice_index bytes (place + 1)) (field value 0 8) ab.1)

-- and a write that changes nothing was of bytes that are there
both-exact : (bytes : List ℕ) (place low high : ℕ) → place + 2 ≤ length bytes
    → slice_set (slice_set bytes place low) (place + 1) high ≡ bytes
    → ((slice_index bytes place == low) && (slice_index bytes (place + 1) == high)) ≡ true
both-exact bytes place low high within e =
    let one = slice_set bytes place low in
    let size = length-set bytes place low in
    and_from (slice_index bytes place == low) (slice_index bytes (place + 1) == high)
    (eq-eqb (slice_index bytes place) low
    (written-other one bytes (place + 1) high place e (omega arith)
    ∙ get_or-set_same bytes place low 0 (omega arith)))
    (eq-eqb (slice_index bytes (place + 1)) high
    (written-here one bytes (place + 1) high e (omega (arith, size, within))))

number-exact : (width : Width) (bytes : List ℕ) (place value : ℕ) → place + size width ≤ length bytes
    → put_number width bytes place value ≡ bytes → has_number width bytes place value ≡ true
number-exact Byte bytes place value within e =
    eq-eqb (slice_index bytes place) (field value 0 8)
    (written-here bytes bytes place (field value 0 8) e (omega arith))
number-exact Half bytes place value within e = both-exact bytes place (field value 0 8) (field value 8 8) within e
number-exact Word bytes place value within e =
    let a = field value 0 8 in
    let b = field value 8 8 in
    let c = field value 16 8 in
    let d = field value 24 8 in
    let one = slice_set bytes place a in
    let two = slice_set one (place + 1) b in
    let three = slice_set two (place + 2) c in
    let size1 = length-set bytes place a in
    let size2 = length-set one (place + 1) b in
    let size3 = length-set two (place + 2) c in
    let last : slice_index bytes (place + 3) ≡ d =
    written-here three bytes (place + 3) d e (omega (arith, size1, size2, size3, within)) in
    let third : slice_index bytes (place + 2) ≡ c =
    written-other three bytes (place + 3) d (place + 2) e (omega arith)
    ∙ get_or-set_same two (place + 2) c 0 (omega (arith, size1, size2, within)) in
    let second : slice_index bytes (place + 1) ≡ b =
    written-other three bytes (place + 3) d (place + 1) e (omega arith)
    ∙ written-other two three (place + 2) c (place + 1) refl (omega arith)
    ∙ get_or-set_same one (place + 1) b 0 (omega (arith, size1, within)) in
    let first : slice_index bytes place ≡ a =
    written-other three bytes (place + 3) d place e (omega arith)
    ∙ written-other two three (place + 2) c place refl (omega arith)
    ∙ written-other one two (place + 1) b place refl (omega arith)
    ∙ get_or-set_same bytes place a 0 (omega arith) in
    and_from _ _
    (and_from _ _
    (and_from _ _ (eq-eqb (slice_index bytes place) a first) (eq-eqb (slice_index bytes (place + 1)) b second))
    (eq-eqb (slice_index bytes (place + 2)) c third))
    (eq-eqb (slice_index bytes (place + 3)) d last)

-- the same by the memory
palette-sound : (palette : List ℕ) (address : ℕ) (width : Width) (value : ℕ)
    → has_palette palette address width value ≡ true
    → wide_palette palette address width value ≡ palette
unfolding has_palette wide_palette
palette-sound palette address Byte value e = both_sound palette (palette_place (aligned Half address)) value e
palette-sound palette address Half value e = number-sound Half palette (palette_place (aligned Half address)) value e
palette-sound palette address Word value e = number-sound Word palette (palette_place (aligned Word address)) value e

byte-sound : (below : Bool) (vram : List ℕ) (place value : ℕ)
    → (if below then has_both vram place value else true) ≡ true
    → (if below then put_both vram place value else vram) ≡ vram
byte-sound true vram place value e = both_sound vram place value e
byte-sound false vram place value e = refl

vram-sound : (mode : ℕ) (vram : List ℕ) (address : ℕ) (width : Width) (value : ℕ)
    → has_vram mode vram address width value ≡ true → wide_vram mode vram address width value ≡ vram
unfolding has_vram wide_vram
vram-sound mode vram address Byte value e =
    byte-sound (nat_lt (vram_place address) (sprite_part mode)) vram (vram_place (aligned Half address)) value e
vram-sound mode vram address Half value e = number-sound Half vram (vram_place (aligned Half address)) value e
vram-sound mode vram address Word value e = number-sound Word vram (vram_place (aligned Word address)) value e

oam-sound : (oam : List ℕ) (address : ℕ) (width : Width) (value : ℕ) → has_oam oam address width value ≡ true
    → wide_oam oam address width value ≡ oam
unfolding has_oam wide_oam
oam-sound oam address Byte value e = refl
oam-sound oam address Half value e = number-sound Half oam (oam_place (aligned Half address)) value e
oam-sound oam address Word value e = number-sound Word oam (oam_place (aligned Word address)) value e

within-palette : (width : Width) (address : ℕ) → palette_place (aligned width address) + size width ≤ 0x400
within-palette Byte address = omega arith
within-palette Half address = omega arith
within-palette Word address = omega arith

within-oam : (width : Width) (address : ℕ) → oam_place (aligned width address) + size width ≤ 0x400
within-oam Byte address = omega arith
within-oam Half address = omega arith
within-oam Word address = omega arith

within-vram : (width : Width) (address : ℕ) → vram_place (aligned width address) + size width ≤ 0x18000
within-vram Byte address = grind (arith, nat_tests)
within-vram Half address = grind (arith, nat_tests)
within-vram Word address = grind (arith, nat_tests)

palette-exact : (palette : List ℕ) (address : ℕ) (width : Width) (value : ℕ) → length palette ≡ 0x400
    → wide_palette palette address width value ≡ palette → has_palette palette address width value ≡ true
unfolding has_palette wide_palette
palette-exact palette address Byte value whole e =
    let within = within-palette Half address in
    both-exact palette (palette_place (aligned Half address)) (field value 0 8) (field value 0 8)
    (omega (arith, whole, within)) e
palette-exact palette address Half value whole e =
    let within = within-palette Half address in
    number-exact Half palette (palette_place (aligned Half address)) value (omega (arith, whole, within)) e
palette-exact palette address Word value whole e =
    let within = within-palette Word address in
    number-exact Word palette (palette_place (aligned Word address)) value (omega (arith, whole, within)) e

byte-exact : (below : Bool) (vram : List ℕ) (place value : ℕ) → place + 2 ≤ length vram
    → (if below then put_both vram place value else vram) ≡ vram
    → (if below then has_both vram place value else true) ≡ true
byte-exact true vram place value within e = both-exact vram place (field value 0 8) (field value 0 8) within e
byte-exact false vram place value within e = refl

vram-exact : (mode : ℕ) (vram : List ℕ) (address : ℕ) (width : Width) (value : ℕ) → length vram ≡ 0x18000
    → wide_vram mode vram address width value ≡ vram → has_vram mode vram address width value ≡ true
unfolding has_vram wide_vram
vram-exact mode vram address Byte value whole e =
    let within = within-vram Half address in
    byte-exact (nat_lt (vram_place address) (sprite_part mode)) vram (vram_place (aligned Half address)) value
    (omega (arith, whole, within)) e
vram-exact mode vram address Half value whole e =
    let within = within-vram Half address in
    number-exact Half vram (vram_place (aligned Half address)) value (omega (arith, whole, within)) e
vram-exact mode vram address Word value whole e =
    let within = within-vram Word address in
    number-exact Word vram (vram_place (aligned Word address)) value (omega (arith, whole, within)) e

oam-exact : (oam : List ℕ) (address : ℕ) (width : Width) (value : ℕ) → length oam ≡ 0x400
    → wide_oam oam address width value ≡ oam → has_oam oam address width value ≡ true
unfolding has_oam wide_oam
oam-exact oam address Byte value whole e = refl
oam-exact oam address Half value whole e =
    let within = within-oam Half address in
    number-exact Half oam (oam_place (aligned Half address)) value (omega (arith, whole, within)) e
oam-exact oam address Word value whole e =
    let within = within-oam Word address in
    number-exact Word oam (oam_place (aligned Word address)) value (omega (arith, whole, within)) e

-- what a write of a region does, told by its memory alone
pub record TellsOf (has : Bool) (mode : ℕ) (m : Memories) (address : ℕ) (width : Width) (value : ℕ) : Type 0 where
  pub sound : has ≡ true → store mode m address width value ≡ m
  pub exact : store mode m address width value ≡ m → has ≡ true

stored-as : (region : Region) (mode : ℕ) (m : Memories) (address : ℕ) (width : Width) (value : ℕ)
    → region_of address ≡ region → store mode m address width value ≡ wide_store region mode m address width value
stored-as region mode m address width value e =
    store-wide mode m address width value ∙ ap (λ r. wide_store r mode m address width value) e

pub palette_tells : (has : Bool) (mode : ℕ) (m : Memories) (address : ℕ) (width : Width) (value : ℕ)
    → region_of address ≡ Palette → length m.palette ≡ 0x400 → has ≡ has_palette m.palette address width value
    → TellsOf has mode m address width value
unfolding wide_store
palette_tells has mode m address width value e whole is =
    let wide = stored-as Palette mode m address width value e in
    record {
      sound = λ h.
          wide ∙ ap (λ palette. record m { palette = palette })
          (palette-sound m.palette address width value (sym is ∙ h));
      exact = λ h.
          is ∙ palette-exact m.palette address width value whole (ap (λ (n : Memories). n.palette) (sym wide ∙ h));
    }

pub vram_tells : (has : Bool) (mode : ℕ) (m : Memories) (address : ℕ) (width : Width) (value : ℕ)
    → region_of address ≡ Vram → length m.vram ≡ 0x18000 → has ≡ has_vram mode m.vram address width value
    → TellsOf has mode m address width value
unfolding wide_store
vram_tells has mode m address width value e whole is =
    let wide = stored-as Vram mode m address width value e in
    record {
      sound = λ h.
          wide ∙ ap (λ vram. record m { vram = vram }) (vram-sound mode m.vram address width value (sym is ∙ h));
      exact = λ h.
          is ∙ vram-exact mode m.vram address width value whole (ap (λ (n : Memories). n.vram) (sym wide ∙ h));
    }

pub oam_tells : (has : Bool) (mode : ℕ) (m : Memories) (address : ℕ) (width : Width) (value : ℕ)
    → region_of address ≡ Oam → length m.oam ≡ 0x400 → has ≡ has_oam m.oam address width value
    → TellsOf has mode m address width value
unfolding wide_store
oam_tells has mode m address width value e whole is =
    let wide = stored-as Oam mode m address width value e in
    record {
      sound = λ h. wide ∙ ap (λ oam. record m { oam = oam }) (oam-sound m.oam address width value (sym is ∙ h));
      exact = λ h. is ∙ oam-exact m.oam address width value whole (ap (λ (n : Memories). n.oam) (sym wide ∙ h));
    }

-- a write that goes elsewhere leaves all three
region-keeps : (region : Region) (mode : ℕ) (m : Memories) (address : ℕ) (width : Width) (value : ℕ)
    → is_video region ≡ false → IsSameVideo m (wide_store region mode m address width value)
unfolding wide_store
region-keeps Palette mode m address width value e = cc
region-keeps Vram mode m address width value e = cc
region-keeps Oam mode m address width value e = cc
region-keeps _ mode m address width value e = record { palette = refl; vram = refl; oam = refl }

pub stores-keep-video : StoresKeepVideo
stores-keep-video mode m address width value e =
    let wide = store-wide mode m address width value in
    let kept = region-keeps (region_of address) mode m address width value e in
    record {
      palette = ap (λ (n : Memories). n.palette) wide ∙ kept.palette;
      vram = ap (λ (n : Memories). n.vram) wide ∙ kept.vram;
      oam = ap (λ (n : Memories). n.oam) wide ∙ kept.oam;
    }

-- the third of the three regions
pub the_third : (region : Region) → is_video region ≡ true → (region ≡ Palette → ⊥) → (region ≡ Vram → ⊥) → region ≡ Oam
the_third Palette e no_palette no_vram = absurd (no_palette refl)
the_third Vram e no_palette no_vram = absurd (no_vram refl)
the_third Oam e no_palette no_vram = refl
the_third _ e no_palette no_vram = cc
