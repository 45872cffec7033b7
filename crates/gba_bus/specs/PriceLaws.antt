use Rattle.std.proofs.Common.{ℕ, ◌≤◌, ◌+◌, Bool, true, false, ◌==◌, if◌then◌else◌, arith}
use Rattle.gba_terms.specs.Bits.{bit, field}
use Rattle.gba_bus.specs.Meanings.{IsPrice}
use Rattle.gba_bus.specs.Prices.{PricesAreWithin, by_width, chosen_wait, first_wait, price, rom_price, second_wait}
use Rattle.gba_bus.specs.declared.region.Region.TheVariants.{Bios, Work, Inner, Io, Palette, Vram, Oam, Rom0, Rom1, Rom2, Sram, Other}
use Rattle.gba_bus.specs.declared.width.Width.{Width}
use Rattle.gba_bus.specs.declared.width.Width.TheVariants.{Byte, Half, Word}

-- That each price is from 1 to 18 cycles, for the laws of the buses above.

record IsWait (cycles : ℕ) : Type 0 where
  most : cycles ≤ 8

either-wait : (test : Bool) (one other : ℕ) → IsWait one → IsWait other → IsWait (if test then one else other)
either-wait true one other here there = here
either-wait false one other here there = there

chosen-wait : (choice : ℕ) → IsWait (chosen_wait choice)
chosen-wait choice =
    either-wait (choice == 0) 4 (if choice == 1 then 3 else if choice == 2 then 2 else 8)
    (record { most = omega arith })
    (either-wait (choice == 1) 3 (if choice == 2 then 2 else 8) (record { most = omega arith })
    (either-wait (choice == 2) 2 8 (record { most = omega arith }) (record { most = omega arith })))

first-wait : (low waits : ℕ) → IsWait (first_wait low waits)
first-wait low waits = chosen-wait (field waits low 2)

second-wait : (place slow waits : ℕ) → slow ≤ 8 → IsWait (second_wait place slow waits)
second-wait place slow waits small =
    either-wait (bit waits place) 1 slow (record { most = omega arith }) (record { most = small })

rom-price : (first second : ℕ) (width : Width) (sequential : Bool) → IsWait first → IsWait second
    → IsPrice (rom_price first second width sequential)
rom-price first second Byte true one two = record { least = omega arith; most = omega (arith, two.most) }
rom-price first second Byte false one two = record { least = omega arith; most = omega (arith, one.most) }
rom-price first second Half true one two = record { least = omega arith; most = omega (arith, two.most) }
rom-price first second Half false one two = record { least = omega arith; most = omega (arith, one.most) }
rom-price first second Word true one two = record { least = omega arith; most = omega (arith, two.most) }
rom-price first second Word false one two = record { least = omega arith; most = omega (arith, one.most, two.most) }

sram-price : (wait : ℕ) → IsWait wait → IsPrice (1 + wait)
sram-price wait one = record { least = omega arith; most = omega (arith, one.most) }

number-price : (number : ℕ) → 1 ≤ number → number ≤ 18 → IsPrice number
number-price number least most = record { least = least; most = most }

width-price : (narrow wide : ℕ) (width : Width) → IsPrice narrow → IsPrice wide → IsPrice (by_width narrow wide width)
width-price narrow wide Byte one two = one
width-price narrow wide Half one two = one
width-price narrow wide Word one two = two

one-price : IsPrice 1
one-price = number-price 1 (omega arith) (omega arith)

two-price : IsPrice 2
two-price = number-price 2 (omega arith) (omega arith)

three-price : IsPrice 3
three-price = number-price 3 (omega arith) (omega arith)

six-price : IsPrice 6
six-price = number-price 6 (omega arith) (omega arith)

view-price : (low place slow : ℕ) (width : Width) (sequential : Bool) (waits : ℕ) → slow ≤ 8
    → IsPrice (rom_price (first_wait low waits) (second_wait place slow waits) width sequential)
view-price low place slow width sequential waits small =
    rom-price (first_wait low waits) (second_wait place slow waits) width sequential (first-wait low waits)
    (second-wait place slow waits small)

pub price-within : PricesAreWithin
unfolding price
price-within Bios width sequential waits = one-price
price-within Work width sequential waits = width-price 3 6 width three-price six-price
price-within Inner width sequential waits = one-price
price-within Io width sequential waits = one-price
price-within Palette width sequential waits = width-price 1 2 width one-price two-price
price-within Vram width sequential waits = width-price 1 2 width one-price two-price
price-within Oam width sequential waits = one-price
price-within Rom0 width sequential waits = view-price 2 4 2 width sequential waits (omega arith)
price-within Rom1 width sequential waits = view-price 5 7 4 width sequential waits (omega arith)
price-within Rom2 width sequential waits = view-price 8 10 8 width sequential waits (omega arith)
price-within Sram width sequential waits = sram-price (first_wait 0 waits) (first-wait 0 waits)
price-within Other width sequential waits = one-price
