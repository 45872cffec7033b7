use Rattle.std.specs.Prelude.{ℕ, ◌-◌, ◌^◌, ◌==◌, Bool, not, List, [], ◌∷◌, bit_and, bit_or, if◌then◌else◌}
use Rattle.gba_terms.specs.Bits.{bit}
use Rattle.gba_word.specs.Sums.{flag_number}
use Rattle.gba_register.specs.Rows.{Row, row, row_at}
use Rattle.gba_irq.specs.declared.interrupts.Interrupts.{Interrupts}

-- IE, IF and IME (GBATEK, GBA Interrupt Control)
unfoldable pub interrupt_rows : List Row
interrupt_rows = row 0x200 0x3fff 0x3fff ∷ row 0x202 0x3fff 0x3fff ∷ row 0x208 0x0001 0x0001 ∷ []

-- these bits of IF are set
abbrev pub with_requests : ℕ → Interrupts → Interrupts
with_requests mask i = record i { raised = bit_or i.raised mask }

-- an interrupt is requested: its bit of IF is set
abbrev pub with_request : ℕ → Interrupts → Interrupts
with_request place i = with_requests (2 ^ place) i

-- the same where it is asked for
abbrev pub with_request_if : Bool → ℕ → Interrupts → Interrupts
with_request_if asked place i = record i { raised = if asked then (with_request place i).raised else i.raised }

-- these bits of IF are cleared
abbrev pub without_requests : ℕ → Interrupts → Interrupts
without_requests mask i = record i { raised = bit_and i.raised (2 ^ 16 - 1 - mask) }

-- IE AND IF isn't 0
abbrev pub is_pending : Interrupts → Bool
is_pending i = not (bit_and i.enabled i.raised == 0)

-- what stands at a halfword, and what a byte write keeps of its other byte: nothing of IF, where a 0 clears nothing
abbrev pub interrupt_shown : ℕ → Interrupts → ℕ
interrupt_shown offset i =
    if offset == 0x200 then i.enabled
    else if offset == 0x202 then i.raised
    else if offset == 0x208 then flag_number i.master
    else 0

abbrev pub interrupt_kept : ℕ → Interrupts → ℕ
interrupt_kept offset i = if offset == 0x202 then 0 else interrupt_shown offset i

-- what a halfword reads
abbrev pub interrupt_read : ℕ → Interrupts → ℕ
interrupt_read offset i = bit_and (interrupt_shown offset i) (row_at interrupt_rows offset).read_mask

-- what a write of these bits leaves: one of IF clears the bits that are 1 in it
abbrev pub interrupt_set : ℕ → ℕ → Interrupts → Interrupts
interrupt_set offset value i =
    if offset == 0x200 then record i { enabled = value }
    else if offset == 0x202 then without_requests value i
    else if offset == 0x208 then record i { master = bit value 0 }
    else i

-- what a halfword write leaves
abbrev pub interrupt_written : ℕ → ℕ → Interrupts → Interrupts
interrupt_written offset value i = interrupt_set offset (bit_and value (row_at interrupt_rows offset).write_mask) i
