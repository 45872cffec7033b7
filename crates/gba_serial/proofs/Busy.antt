-- Writes in a transfer.
use Rattle.std.proofs.Common.{ℕ, ◌≡◌, ◌/◌, ◌%◌, ◌^◌, Bool, true, false, if◌then◌else◌, refl, ap, ◌∙◌, arith}
use Rattle.std.specs.Prelude.{bit_and, bit_or, nat_eq}
use Rattle.std.proofs.lemmas.Nat.{and_mask, and_mod, and_shr, or_mod, or_shr}
use Rattle.gba_terms.specs.Bits.{bit, field}
use Rattle.gba_register.specs.Rows.{row_at}
use Rattle.gba_serial.specs.Timing.{chosen_mode, mode_by}
use Rattle.gba_serial.specs.SerialUnit.{SerialUnit, is_running, mode_of}
use Rattle.gba_serial.specs.Registers.{serial_rows}
use Rattle.gba_serial.specs.Write.{busy_control, put_at, with_control, with_select, with_word}
use Rattle.gba_serial.specs.Law.{KeepsTransfer, WritesKeepTransfers}
use Rattle.link_node.specs.declared.signal.LinkMode.TheVariants.{Other}

-- bits of `|` and `&`
field-or : (a b low width : ℕ) → field (bit_or a b) low width ≡ bit_or (field a low width) (field b low width)
field-or a b low width = ap (λ n. n % 2 ^ width) (or_shr a b low) ∙ or_mod (a / 2 ^ low) (b / 2 ^ low) width

field-and : (a b low width : ℕ) → field (bit_and a b) low width ≡ bit_and (field a low width) (field b low width)
field-and a b low width = ap (λ n. n % 2 ^ width) (and_shr a b low) ∙ and_mod (a / 2 ^ low) (b / 2 ^ low) width

-- bits of two masked numbers, by the bits of the masks
field-masked : (a m b n low width : ℕ)
    → field (bit_or (bit_and a m) (bit_and b n)) low width
    ≡ bit_or (bit_and (field a low width) (field m low width)) (bit_and (field b low width) (field n low width))
field-masked a m b n low width =
    field-or (bit_and a m) (bit_and b n) low width
    ∙ ap (λ x. bit_or x (field (bit_and b n) low width)) (field-and a m low width)
    ∙ ap (bit_or (bit_and (field a low width) (field m low width))) (field-and b n low width)

and-none : (n : ℕ) → bit_and n 0 ≡ 0
and-none n = and_mask n 0 ∙ omega arith

and-three : (n : ℕ) → bit_and (n % 4) 3 ≡ n % 4
and-three n = and_mask (n % 4) 2 ∙ omega arith

and-one : (n : ℕ) → bit_and (n % 2) 1 ≡ n % 2
and-one n = and_mask (n % 2) 1 ∙ omega arith

-- the bits that a write in a transfer keeps: 0 and 1, 7, 12 and 13
speed-busy : (bits : ℕ) (u : SerialUnit) → field (busy_control bits u) 0 2 ≡ field u.control 0 2
speed-busy bits u =
    field-masked bits 0x4008 u.control 0x3083 0 2
    ∙ ap (λ x. bit_or x (bit_and (field u.control 0 2) 3)) (and-none (field bits 0 2))
    ∙ and-three (u.control / 1)

start_bit-busy : (bits : ℕ) (u : SerialUnit) → field (busy_control bits u) 7 1 ≡ field u.control 7 1
start_bit-busy bits u =
    field-masked bits 0x4008 u.control 0x3083 7 1
    ∙ ap (λ x. bit_or x (bit_and (field u.control 7 1) 1)) (and-none (field bits 7 1))
    ∙ and-one (u.control / 128)

choice-busy : (bits : ℕ) (u : SerialUnit) → field (busy_control bits u) 12 2 ≡ field u.control 12 2
choice-busy bits u =
    field-masked bits 0x4008 u.control 0x3083 12 2
    ∙ ap (λ x. bit_or x (bit_and (field u.control 12 2) 3)) (and-none (field bits 12 2))
    ∙ and-three (u.control / 4096)

mode-busy : (bits : ℕ) (u : SerialUnit) → mode_by u.select (busy_control bits u) ≡ mode_of u
mode-busy bits u = ap (λ choice. if bit u.select 15 then Other else chosen_mode choice) (choice-busy bits u)

kept-self : (u : SerialUnit) → KeepsTransfer u u
kept-self u = record {
  run = refl;
  mode = refl;
  speed = refl;
  start_bit = refl;
  words = refl;
  error = refl;
  start = refl;
  reply = refl;
  told = refl;
}

kept-send : (bits : ℕ) (u : SerialUnit) → KeepsTransfer u (record u { send = bits })
kept-send bits u = record {
  run = refl;
  mode = refl;
  speed = refl;
  start_bit = refl;
  words = refl;
  error = refl;
  start = refl;
  reply = refl;
  told = refl;
}

kept-word : (place bits : ℕ) (u : SerialUnit) → is_running u ≡ true → KeepsTransfer u (with_word place bits u)
kept-word place bits u running = rw running (kept-self u)

kept-select : (bits : ℕ) (u : SerialUnit) → is_running u ≡ true → KeepsTransfer u (with_select bits u)
kept-select bits u running = rw running (kept-self u)

kept-busy : (bits : ℕ) (u : SerialUnit) → KeepsTransfer u (record u { control = busy_control bits u })
kept-busy bits u = record {
  run = refl;
  mode = mode-busy bits u;
  speed = speed-busy bits u;
  start_bit = start_bit-busy bits u;
  words = refl;
  error = refl;
  start = refl;
  reply = refl;
  told = refl;
}

kept-control : (clock bits : ℕ) (u : SerialUnit) → is_running u ≡ true → KeepsTransfer u (with_control clock bits u)
unfolding with_control
kept-control clock bits u running = rw running (kept-busy bits u)

-- one of two, whichever a test chooses
either : (P : SerialUnit → Type 0) (test : Bool) (one other : SerialUnit) → P one → P other
    → P (if test then one else other)
either P true one other a b = a
either P false one other a b = b

put-keeps : (clock offset bits : ℕ) (u : SerialUnit) → is_running u ≡ true
    → KeepsTransfer u (put_at clock offset bits u)
put-keeps clock offset bits u running =
    let P = KeepsTransfer u in
    either P (nat_eq offset 0x120) _ _ (kept-word 0 bits u running)
    (either P (nat_eq offset 0x122) _ _ (kept-word 1 bits u running)
    (either P (nat_eq offset 0x124) _ _ (kept-word 2 bits u running)
    (either P (nat_eq offset 0x126) _ _ (kept-word 3 bits u running)
    (either P (nat_eq offset 0x128) _ _ (kept-control clock bits u running)
    (either P (nat_eq offset 0x12a) _ _ (kept-send bits u)
    (either P (nat_eq offset 0x134) _ _ (kept-select bits u running) (kept-self u)))))))

pub writes : WritesKeepTransfers
writes clock offset value u running =
    put-keeps clock offset (bit_and value (row_at serial_rows offset).write_mask) u running
