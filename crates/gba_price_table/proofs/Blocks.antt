use Rattle.std.proofs.Common.{◌≡◌, ℕ, zero, suc, ◌/◌, ◌^◌, ◌<◌, ◌≤◌, ◌==◌, Bool, true, false, nat_lt, slice_index, if◌then◌else◌, ◌++◌, ◌-◌, length, replicate, refl, ap, sym, ◌∙◌, ⊎_elim, arith}
use Rattle.std.proofs.lemmas.Bool.{cases_lt}
use Rattle.std.proofs.lemmas.Bool.Decides.{nat_tests}
use Rattle.std.proofs.lemmas.List.{get_or_append_left, get_or-append_right, get_or-replicate}
use Rattle.gba_bus.specs.Prices.{price}
use Rattle.gba_bus.specs.Regions.{region_in_block, region_of}
use Rattle.gba_bus.specs.declared.region.Region.{Region}
use Rattle.gba_bus.specs.declared.region.Region.TheVariants.{Bios, Io, Other}
use Rattle.gba_bus.specs.declared.width.Width.{Width}
use Rattle.gba_bus.specs.declared.width.Width.TheVariants.{Byte, Half}
use Rattle.gba_price_table.specs.Blocks.{all_prices, block_prices}

-- The table has the price of each address.

front-price : (test : Bool) (region : Region) (width : Width) (sequential : Bool) (waits : ℕ)
    → ((w : Width) → price region w sequential waits ≡ 1)
    → price region width sequential waits ≡ price (if test then region else Other) width sequential waits
unfolding price
front-price true region width sequential waits is_one = refl
front-price false region width sequential waits is_one = is_one width

block-price : (block address : ℕ) (width : Width) (sequential : Bool) (waits : ℕ) → block < 16
    → slice_index (block_prices width sequential waits) block
    ≡ price (region_in_block block address) width sequential waits
unfolding block_prices price
block-price zero address width sequential waits h =
    front-price (nat_lt address 0x4000) Bios width sequential waits (λ w. refl)
block-price (suc zero) address width sequential waits h = refl
block-price (suc (suc zero)) address width sequential waits h = refl
block-price (suc (suc (suc zero))) address width sequential waits h = refl
block-price (suc (suc (suc (suc zero)))) address width sequential waits h =
    front-price (nat_lt address 0x04000400) Io width sequential waits (λ w. refl)
block-price (suc (suc (suc (suc (suc zero))))) address width sequential waits h = refl
block-price (suc (suc (suc (suc (suc (suc zero)))))) address width sequential waits h = refl
block-price (suc (suc (suc (suc (suc (suc (suc zero))))))) address width sequential waits h = refl
block-price (suc (suc (suc (suc (suc (suc (suc (suc zero)))))))) address width sequential waits h = refl
block-price (suc (suc (suc (suc (suc (suc (suc (suc (suc zero))))))))) address width sequential waits h = refl
block-price (suc (suc (suc (suc (suc (suc (suc (suc (suc (suc zero)))))))))) address width sequential waits h = refl
block-price (suc (suc (suc (suc (suc (suc (suc (suc (suc (suc (suc zero))))))))))) address width sequential waits h =
    refl
block-price (suc (suc (suc (suc (suc (suc (suc (suc (suc (suc (suc (suc zero)))))))))))) address width sequential
    waits h =
    refl
block-price (suc (suc (suc (suc (suc (suc (suc (suc (suc (suc (suc (suc (suc zero))))))))))))) address width
    sequential waits h = refl
block-price (suc (suc (suc (suc (suc (suc (suc (suc (suc (suc (suc (suc (suc (suc zero)))))))))))))) address width
    sequential waits h = refl
block-price (suc (suc (suc (suc (suc (suc (suc (suc (suc (suc (suc (suc (suc (suc (suc zero))))))))))))))) address width
    sequential waits h = refl
block-price (suc (suc (suc (suc (suc (suc (suc (suc (suc (suc (suc (suc (suc (suc (suc (suc n))))))))))))))))
    address width sequential waits h = absurd (omega arith)

kept_price : (address : ℕ) (width : Width) (sequential : Bool) (waits : ℕ) → address / 2 ^ 24 < 16
    → slice_index (block_prices width sequential waits) (address / 2 ^ 24)
    ≡ price (region_of address) width sequential waits
unfolding region_of
kept_price address width sequential waits h = block-price (address / 2 ^ 24) address width sequential waits h

-- a byte costs what a halfword does
byte_prices : (sequential : Bool) (waits : ℕ) → block_prices Byte sequential waits ≡ block_prices Half sequential waits
unfolding block_prices price
byte_prices sequential waits = refl

apart : (block other : ℕ) → other < 16 → 16 ≤ block → (block == other) ≡ false
apart block other low high = grind (arith, nat_tests)

past-blocks : (block address : ℕ) (width : Width) (sequential : Bool) (waits : ℕ) → 16 ≤ block
    → price (region_in_block block address) width sequential waits ≡ 1
unfolding price
past-blocks block address width sequential waits h =
    rw (
      apart block 0x0 (omega arith) h,
      apart block 0x2 (omega arith) h,
      apart block 0x3 (omega arith) h,
      apart block 0x4 (omega arith) h,
      apart block 0x5 (omega arith) h,
      apart block 0x6 (omega arith) h,
      apart block 0x7 (omega arith) h,
      apart block 0x8 (omega arith) h,
      apart block 0x9 (omega arith) h,
      apart block 0xa (omega arith) h,
      apart block 0xb (omega arith) h,
      apart block 0xc (omega arith) h,
      apart block 0xd (omega arith) h,
      apart block 0xe (omega arith) h,
      apart block 0xf (omega arith) h,
    )
    refl

-- what is above all memories
high_price : (address : ℕ) (width : Width) (sequential : Bool) (waits : ℕ) → 16 ≤ address / 2 ^ 24
    → price (region_of address) width sequential waits ≡ 1
unfolding region_of
high_price address width sequential waits h = past-blocks (address / 2 ^ 24) address width sequential waits h

front-length : (width : Width) (sequential : Bool) (waits : ℕ) → length (block_prices width sequential waits) ≡ 16
unfolding block_prices
front-length width sequential waits = refl

-- every block
pub every_price : (address : ℕ) (width : Width) (sequential : Bool) (waits : ℕ) → address < 2 ^ 32
    → slice_index (all_prices width sequential waits) (address / 2 ^ 24)
    ≡ price (region_of address) width sequential waits
unfolding all_prices
every_price address width sequential waits small =
    let block = address / 2 ^ 24 in
    let front = block_prices width sequential waits in
    let long = front-length width sequential waits in
    ⊎_elim
    (λ (low : block < 16).
    get_or_append_left front (replicate 240 1) 0 block (omega arith) ∙ kept_price address width sequential waits low)
    (λ (high : 16 ≤ block).
    get_or-append_right front (replicate 240 1) 16 block 0 long high
    ∙ get_or-replicate 240 (block - 16) 1 0 (omega arith) ∙ sym (high_price address width sequential waits high))
    (cases_lt block 16)

pub all_byte_prices : (sequential : Bool) (waits : ℕ)
    → all_prices Byte sequential waits ≡ all_prices Half sequential waits
unfolding all_prices
all_byte_prices sequential waits = ap (λ front. front ++ replicate 240 1) (byte_prices sequential waits)

pub ruleset block_rules = (all_byte_prices, every_price)
