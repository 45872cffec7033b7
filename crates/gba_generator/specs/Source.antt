-- The BIOS images that are made of a number. This project's profile.
use Rattle.std.specs.Prelude.{ℕ, ◌+◌, ◌-◌, ◌*◌, ◌%◌, ◌^◌, List, [], ◌++◌, length, replicate, codes, decimal, Result, Ok, Err}
use Rattle.gba_asm.specs.Assembly.{assembly_of}
use Rattle.gba_asm_words.specs.Kinds.{AsmError}

-- the first number of a player's sequence
abbrev pub seed : ℕ → ℕ → ℕ
seed number player = (number * 2654435761 + player * 40503 + 1) % 2 ^ 32

-- A console joins the cable in Multi mode and begins a sequence, each number of which is the one before it times
-- `factor` plus `adder`. It sends the upper half of each: it waits until no transfer runs and all are ready, and then
-- starts one, which a console that isn't the first can't.
abbrev pub program : List ℕ
program =
    codes "        mov r4, #0x04000000\n"
    ++ (codes "        add r5, r4, #0x100\n"
    ++ (codes "        mov r0, #0\n"
    ++ (codes "        strh r0, [r5, #0x34]\n"
    ++ (codes "        ldr r0, mode\n"
    ++ (codes "        strh r0, [r5, #0x28]\n"
    ++ (codes "        ldr r6, seed\n"
    ++ (codes "        ldr r7, factor\n"
    ++ (codes "        ldr r8, adder\n"
    ++ (codes "again:  mla r9, r6, r7, r8\n"
    ++ (codes "        mov r6, r9\n"
    ++ (codes "        mov r0, r6, lsr #16\n"
    ++ (codes "        strh r0, [r5, #0x2a]\n"
    ++ (codes "hold:   ldrh r0, [r5, #0x28]\n"
    ++ (codes "        tst r0, #0x80\n"
    ++ (codes "        bne hold\n"
    ++ (codes "        tst r0, #8\n"
    ++ (codes "        beq hold\n"
    ++ (codes "        ldr r0, go\n"
    ++ (codes "        strh r0, [r5, #0x28]\n"
    ++ (codes "        b again\n"
    ++ (codes "mode:   .word 0x2003\n"
    ++ (codes "go:     .word 0x2083\n"
    ++ (codes "factor: .word 1664525\n"
    ++ codes "adder:  .word 1013904223\n")))))))))))))))))))))))

-- the source of a player's BIOS; its last line has the seed
abbrev pub source : ℕ → ℕ → List ℕ
source number player = program ++ (codes "seed:   .word " ++ (decimal (seed number player) ++ codes "\n"))

-- the bytes of a source that is of the language, as these sources are
abbrev pub code_in : Result (List ℕ) AsmError → List ℕ
code_in (Ok bytes) = bytes
code_in (Err error) = []

unfoldable pub code : ℕ → ℕ → List ℕ
code number player = code_in (assembly_of (source number player))

abbrev pub bios_length : ℕ
bios_length = 16384

-- the image of a player's BIOS: its code, and zeros up to the end
abbrev pub bios : ℕ → ℕ → List ℕ
bios number player = code number player ++ replicate (bios_length - length (code number player)) 0
