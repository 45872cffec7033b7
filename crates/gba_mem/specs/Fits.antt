use Rattle.std.proofs.Common.{◌≡◌, ℕ, ◌+◌, ◌*◌, ◌^◌, ◌<◌, Bool, true, false, if◌then◌else◌, arith}
use Rattle.gba_bus.specs.Regions.{is_bios, is_sram, region_of}
use Rattle.gba_bus.specs.Widths.{FitsWidth, aligned}
use Rattle.gba_bus.specs.declared.width.Width.{Width}
use Rattle.gba_bus.specs.declared.width.Width.TheVariants.{Byte, Half, Word}
use Rattle.gba_mem.specs.Loads.{byte_at, load, number_of}
use Rattle.gba_mem.specs.Memories.{Memories}

-- That what is read has zeros above its width, for the laws of the buses above. The cut in `number_of` sees to it,
-- whatever numbers the lists have.

number-fits : (byte : ℕ → ℕ) (width : Width) (address : ℕ) → FitsWidth width (number_of byte width address)
number-fits byte Byte address = omega arith
number-fits byte Half address = omega arith
number-fits byte Word address = omega arith

either-fits : (test : Bool) (width : Width) (one other : ℕ) → FitsWidth width one → FitsWidth width other
    → FitsWidth width (if test then one else other)
either-fits true width one other here there = here
either-fits false width one other here there = there

abbrev pub ReadsFit : Type 0
ReadsFit = (m : Memories) (from address : ℕ) (width : Width) → FitsWidth width (load m from address width)

pub load-fits : ReadsFit
unfolding load
load-fits m from address width =
    either-fits (is_sram (region_of address)) width (number_of (λ _. byte_at false m (aligned width address)) width 0)
    (number_of (byte_at (is_bios (region_of from)) m) width (aligned width address))
    (number-fits (λ _. byte_at false m (aligned width address)) width 0)
    (number-fits (byte_at (is_bios (region_of from)) m) width (aligned width address))

-- Of bytes the cut takes nothing: their number is their sum, the lowest first.
abbrev pub sum_of : (ℕ → ℕ) → Width → ℕ → ℕ
sum_of byte Byte address = byte address
sum_of byte Half address = byte address + 2 ^ 8 * byte (address + 1)
sum_of byte Word address =
    byte address + 2 ^ 8 * byte (address + 1) + 2 ^ 16 * byte (address + 2) + 2 ^ 24 * byte (address + 3)

abbrev pub CutsNothing : Type 0
CutsNothing =
    (byte : ℕ → ℕ) (width : Width) (address : ℕ) → ((place : ℕ) → byte place < 2 ^ 8)
    → number_of byte width address ≡ sum_of byte width address

pub bytes-whole : CutsNothing
bytes-whole byte Byte address small = let a = small address in omega (arith, a)
bytes-whole byte Half address small =
    let a = small address in
    let b = small (address + 1) in
    omega (arith, a, b)
bytes-whole byte Word address small =
    let a = small address in
    let b = small (address + 1) in
    let c = small (address + 2) in
    let d = small (address + 3) in
    omega (arith, a, b, c, d)
