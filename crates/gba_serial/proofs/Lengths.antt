-- How long transfers last.
use Rattle.std.proofs.Common.{ℕ, ◌+◌, ◌*◌, ◌≤◌, Bool, true, false, max, if◌then◌else◌, arith}
use Rattle.std.specs.Prelude.{nat_eq}
use Rattle.gba_serial.specs.Timing.{multi_bit_cycles, multi_end, normal_bit_cycles, normal_end, word_width}
use Rattle.gba_serial.specs.Law.{StartsInTime}
use Rattle.link_node.specs.declared.signal.LinkMode.{LinkMode}

-- a bit takes at least 145 cycles in Multi
either-least : (test : Bool) (one other : ℕ) → 145 ≤ one → 145 ≤ other → 145 ≤ (if test then one else other)
either-least true one other a b = a
either-least false one other a b = b

pub multi_bit_cycles-least : (speed : ℕ) → 145 ≤ multi_bit_cycles speed
multi_bit_cycles-least speed =
    either-least (nat_eq speed 0) 1747 _ (omega arith)
    (either-least (nat_eq speed 1) 436 _ (omega arith)
    (either-least (nat_eq speed 2) 291 145 (omega arith) (omega arith)))

pub product-least : (count cycles : ℕ) → 145 ≤ cycles → 2610 * count ≤ 18 * count * cycles
product-least count cycles h = grind arith

multi-in_time : (count speed clock hop : ℕ) → 2 ≤ count → hop ≤ 1024 → clock + hop + 512 ≤ multi_end count speed clock
multi-in_time count speed clock hop two near =
    let least = product-least count (multi_bit_cycles speed) (multi_bit_cycles-least speed) in omega (arith, least)

pub multi-apart : (count speed clock : ℕ) → 1 ≤ count → clock + 516 ≤ multi_end count speed clock
multi-apart count speed clock one =
    let least = product-least count (multi_bit_cycles speed) (multi_bit_cycles-least speed) in omega (arith, least)

above : (clock bits least wanted : ℕ) → wanted ≤ least → clock + wanted ≤ clock + max bits least
above clock bits least wanted h = omega arith

normal-in_time : (round : ℕ) (mode : LinkMode) (speed clock hop : ℕ) → hop ≤ round
    → clock + hop + 512 ≤ normal_end round mode speed clock
normal-in_time round mode speed clock hop near =
    let reached = above clock (word_width mode * normal_bit_cycles speed) (round + 514) (hop + 512) (omega arith) in
    omega (arith, reached)

pub normal-later : (round : ℕ) (mode : LinkMode) (speed clock : ℕ) → clock + 514 ≤ normal_end round mode speed clock
normal-later round mode speed clock =
    above clock (word_width mode * normal_bit_cycles speed) (round + 514) 514 (omega arith)

normal-apart : (round : ℕ) (mode : LinkMode) (speed clock : ℕ) → 2 ≤ round
    → clock + 516 ≤ normal_end round mode speed clock
normal-apart round mode speed clock two =
    above clock (word_width mode * normal_bit_cycles speed) (round + 514) 516 (omega arith)

pub starts : StartsInTime
starts =
    record { multi = multi-in_time; normal = normal-in_time; multi_apart = multi-apart; normal_apart = normal-apart }
