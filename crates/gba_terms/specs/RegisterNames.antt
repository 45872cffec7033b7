use Rattle.std.specs.Prelude.{ℕ, List, [], ◌∷◌, codes}

-- The 37 registers of the ARM7TDMI in the order of the state file: the sixteen of the user bank, then the
-- banked ones mode by mode, then CPSR and the five SPSRs (ARM Architecture Reference Manual, A2.4 and A2.5).
unfoldable pub register_names : List (List ℕ)
register_names =
    codes "r0" ∷ codes "r1" ∷ codes "r2" ∷ codes "r3" ∷ codes "r4" ∷ codes "r5" ∷ codes "r6" ∷ codes "r7"
    ∷ codes "r8" ∷ codes "r9" ∷ codes "r10" ∷ codes "r11" ∷ codes "r12" ∷ codes "r13" ∷ codes "r14" ∷ codes "r15"
    ∷ codes "r8_fiq" ∷ codes "r9_fiq" ∷ codes "r10_fiq" ∷ codes "r11_fiq" ∷ codes "r12_fiq" ∷ codes "r13_fiq"
    ∷ codes "r14_fiq"
    ∷ codes "r13_irq" ∷ codes "r14_irq" ∷ codes "r13_svc" ∷ codes "r14_svc" ∷ codes "r13_abt" ∷ codes "r14_abt"
    ∷ codes "r13_und" ∷ codes "r14_und" ∷ codes "cpsr"
    ∷ codes "spsr_fiq" ∷ codes "spsr_irq" ∷ codes "spsr_svc" ∷ codes "spsr_abt" ∷ codes "spsr_und" ∷ []
