use Rattle.std.specs.Prelude.{ℕ, ◌-◌, ◌^◌, ◌==◌, Bool, not, ◌&&◌, List, [], ◌∷◌, bit_and, if◌then◌else◌}
use Rattle.gba_terms.specs.Bits.{bit, field}
use Rattle.gba_register.specs.Rows.{Row, row, row_at}

-- the keypad: the keys that are pressed, 1 for pressed, and KEYCNT
pub record Keys : Type 0 where
  pub pressed : ℕ
  pub control : ℕ

-- KEYINPUT and KEYCNT (GBATEK, GBA Keypad Input)
unfoldable pub keypad_rows : List Row
keypad_rows = row 0x130 0x03ff 0 ∷ row 0x132 0xc3ff 0xc3ff ∷ []

-- the chosen keys, KEYCNT's bits 0 to 9
abbrev pub chosen_keys : Keys → ℕ
chosen_keys k = field k.control 0 10

-- Whether the keypad's condition is true: it is asked for (bit 14), a key is chosen, and one of the chosen keys is
-- pressed, or all of them (bit 15).
abbrev pub condition : Keys → Bool
condition k =
    bit k.control 14 && not (chosen_keys k == 0)
    && (if bit k.control 15
    then bit_and k.pressed (chosen_keys k) == chosen_keys k
    else not (bit_and k.pressed (chosen_keys k) == 0))

-- the condition went from false to true
abbrev pub becomes_true : Keys → Keys → Bool
becomes_true old new = not (condition old) && condition new

-- other keys are pressed, and another control is written
abbrev pub with_pressed : ℕ → Keys → Keys
with_pressed pressed k = record k { pressed = field pressed 0 10 }

abbrev pub with_control : ℕ → Keys → Keys
with_control value k = record k { control = bit_and value (row_at keypad_rows 0x132).write_mask }

-- what stands at a halfword: a pressed key is 0 in KEYINPUT
abbrev pub keypad_shown : ℕ → Keys → ℕ
keypad_shown offset k =
    if offset == 0x130 then 2 ^ 10 - 1 - field k.pressed 0 10 else if offset == 0x132 then k.control else 0

-- what a halfword reads
abbrev pub keypad_read : ℕ → Keys → ℕ
keypad_read offset k = bit_and (keypad_shown offset k) (row_at keypad_rows offset).read_mask
