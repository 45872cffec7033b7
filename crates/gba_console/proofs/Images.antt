-- Nothing that a step does changes the images, the BIOS and the ROM.
use Rattle.std.proofs.Common.{ℕ, ◌≡◌, ◌+◌, Bool, true, false, List, [], ◌∷◌, ◌++◌, length, take, drop, refl, ap, sym, ◌∙◌, if◌then◌else◌}
use Rattle.std.proofs.Math.Seq.{take-append_seam}
use Rattle.std.specs.Prelude.{All, Option, None, Some, nat_le, nat_lt}
use Rattle.gba_terms.specs.Bits.{field}
use Rattle.gba_bus.specs.Regions.{is_bios, is_io, region_of}
use Rattle.gba_bus.specs.Widths.{aligned}
use Rattle.gba_bus.specs.declared.region.Region.{Region}
use Rattle.gba_bus.specs.declared.region.Region.TheVariants.{Bios, Work, Inner, Io, Palette, Vram, Oam, Rom0, Rom1, Rom2, Sram, Other}
use Rattle.gba_bus.specs.declared.width.Width.{Width}
use Rattle.gba_bus.specs.declared.width.Width.TheVariants.{Byte, Half, Word}
use Rattle.gba_exec_transfers.specs.Done.{Done}
use Rattle.gba_exec_transfers.specs.Keeping.{LoadsKeep, StoresKeep}
use Rattle.gba_exec_transfers.proofs.Keeping.{kept-word}
use Rattle.gba_arm_exec.proofs.Keeping.{kept-execution as kept-word_execution}
use Rattle.gba_thumb_exec.proofs.Keeping.{kept-execution as kept-half_execution}
use Rattle.gba_dma.specs.Channels.{next_unit}
use Rattle.gba_dma.specs.declared.unit.Unit.{Unit as DmaUnit}
use Rattle.gba_io.specs.Board.{BoardPasses, board_after}
use Rattle.gba_io.specs.Bus.{core_load, core_price, core_read, core_store, core_written, io_offset, register_written}
use Rattle.gba_io.specs.Core.{Core, core_keyed, core_woken}
use Rattle.gba_io.specs.SerialRegisters.{is_serial}
use Rattle.gba_io.specs.Units.{core_after_unit, unit_value}
use Rattle.gba_io.specs.declared.board.Board.{Board}
use Rattle.gba_mem.specs.Memories.{Memories}
use Rattle.gba_mem.specs.Places.{sprite_part, vram_place}
use Rattle.gba_mem.specs.Stores.{store, store_in, with_both, with_byte, with_byte_in, with_number}
use Rattle.gba_mem.specs.Wide.{wide_load}
use Rattle.gba_mem.proofs.Loading.{load-wide}
use Rattle.gba_ppu_reg.specs.Registers.{picture_mode}
use Rattle.link_node.specs.declared.signal.Incoming.{Incoming}
use Rattle.gba_console.specs.Fixed.{Stands, is_fixed}
use Rattle.gba_console.specs.Keys.{after_keys}
use Rattle.gba_console.specs.declared.fixed.KeptHalf.{KeptHalf}
use Rattle.gba_console.specs.declared.keys.KeyState.{KeyState}
use Rattle.gba_console.specs.Step.{acted, acted_for, all_taken, awake_done, enters, entry_done, half_done, idle_done, idles, in_thumb, instruction_done, word_done}

-- memories with these images
pub record HasImages (image cart : List ℕ) (m : Memories) : Type 0 where
  pub bios : m.bios ≡ image
  pub rom : m.rom ≡ cart

module _ (bios rom : List ℕ) where
  either-has : (test : Bool) (one other : Memories) → HasImages bios rom one → HasImages bios rom other
      → HasImages bios rom (if test then one else other)
  either-has true one other here there = here
  either-has false one other here there = there

  byte-keeps-in : (region : Region) (m : Memories) (address byte : ℕ) → HasImages bios rom m
      → HasImages bios rom (with_byte_in region m address byte)
  byte-keeps-in Bios m address byte has = has
  byte-keeps-in Work m address byte has = record { bios = has.bios; rom = has.rom }
  byte-keeps-in Inner m address byte has = record { bios = has.bios; rom = has.rom }
  byte-keeps-in Io m address byte has = has
  byte-keeps-in Palette m address byte has = record { bios = has.bios; rom = has.rom }
  byte-keeps-in Vram m address byte has = record { bios = has.bios; rom = has.rom }
  byte-keeps-in Oam m address byte has = record { bios = has.bios; rom = has.rom }
  byte-keeps-in Rom0 m address byte has = has
  byte-keeps-in Rom1 m address byte has = has
  byte-keeps-in Rom2 m address byte has = has
  byte-keeps-in Sram m address byte has = record { bios = has.bios; rom = has.rom }
  byte-keeps-in Other m address byte has = has

  byte-keeps : (m : Memories) (address byte : ℕ) → HasImages bios rom m → HasImages bios rom (with_byte m address byte)
  byte-keeps m address byte has = byte-keeps-in (region_of address) m address byte has

  number-keeps : (width : Width) (m : Memories) (address value : ℕ) → HasImages bios rom m
      → HasImages bios rom (with_number with_byte width m address value)
  number-keeps Byte m address value has = byte-keeps m address (field value 0 8) has
  number-keeps Half m address value has =
      byte-keeps (with_byte m address (field value 0 8)) (address + 1) (field value 8 8)
      (byte-keeps m address (field value 0 8) has)
  number-keeps Word m address value has =
      let first = with_byte m address (field value 0 8) in
      let second = with_byte first (address + 1) (field value 8 8) in
      let third = with_byte second (address + 2) (field value 16 8) in
      byte-keeps third (address + 3) (field value 24 8)
      (byte-keeps second (address + 2) (field value 16 8)
      (byte-keeps first (address + 1) (field value 8 8) (byte-keeps m address (field value 0 8) has)))

  both-keep : (m : Memories) (address byte : ℕ) → HasImages bios rom m
      → HasImages bios rom (with_both with_byte m address byte)
  both-keep m address byte has =
      byte-keeps (with_byte m address byte) (address + 1) byte (byte-keeps m address byte has)

  stored-keeps : (region : Region) (mode : ℕ) (m : Memories) (address : ℕ) (width : Width) (value : ℕ)
      → HasImages bios rom m → HasImages bios rom (store_in region mode m address width value)
  stored-keeps Palette mode m address Byte value has = both-keep m (aligned Half address) (field value 0 8) has
  stored-keeps Vram mode m address Byte value has =
      either-has (nat_lt (vram_place address) (sprite_part mode)) _ _
      (both-keep m (aligned Half address) (field value 0 8) has) has
  stored-keeps Oam mode m address Byte value has = has
  stored-keeps Sram mode m address width value has = byte-keeps m (aligned width address) (field value 0 8) has
  stored-keeps _ mode m address width value has = number-keeps width m (aligned width address) value has

  store-keeps : (mode : ℕ) (m : Memories) (address : ℕ) (width : Width) (value : ℕ) → HasImages bios rom m
      → HasImages bios rom (store mode m address width value)
  unfolding store
  store-keeps mode m address width value has = stored-keeps (region_of address) mode m address width value has

  -- a core with these images
  abbrev pub Keeps : Core → Type 0
  Keeps b = HasImages bios rom b.memory

  either-keeps : (test : Bool) (one other : Core) → Keeps one → Keeps other → Keeps (if test then one else other)
  either-keeps true one other here there = here
  either-keeps false one other here there = there

  register-keeps : (offset : ℕ) (width : Width) (value : ℕ) (b : Core) → Keeps b
      → Keeps (register_written offset width value b)
  unfolding register_written
  register-keeps offset width value b has = either-keeps (is_serial offset) _ _ has has

  written-keeps : (b : Core) (address : ℕ) (width : Width) (value : ℕ) → Keeps b
      → Keeps (core_written b address width value)
  unfolding core_written
  written-keeps b address width value has =
      either-keeps (is_io (region_of address)) _ _ (register-keeps (io_offset address) width value b has)
      (store-keeps (picture_mode b.devices.picture) b.memory address width value has)

  stores : StoresKeep core_store Keeps
  stores b address width value sequential has = written-keeps b address width value has

  loads : LoadsKeep core_load Keeps
  loads b from address width sequential has = has

  after-word : (file : List ℕ) (b : Core) → Keeps b → Keeps (word_done file b).bus
  after-word file b has =
      kept-word_execution core_price core_load core_store Keeps
      (kept-word core_price core_load core_store Keeps loads stores) _ file b has

  after-half : (file : List ℕ) (b : Core) → Keeps b → Keeps (half_done file b).bus
  after-half file b has =
      kept-half_execution core_price core_load core_store Keeps loads
      (kept-word core_price core_load core_store Keeps loads stores) _ file b has

  either-done : (test : Bool) (one other : Done Core) → Keeps one.bus → Keeps other.bus
      → Keeps (if test then one else other).bus
  either-done true one other here there = here
  either-done false one other here there = there

  pub after-instruction : (file : List ℕ) (b : Core) → Keeps b → Keeps (instruction_done file b).bus
  unfolding instruction_done
  after-instruction file b has =
      either-done (in_thumb file) (half_done file b) (word_done file b) (after-half file b has) (after-word file b has)

  after-waking : (file : List ℕ) (b : Core) → Keeps b → Keeps (awake_done file b).bus
  after-waking file b has =
      either-done (enters file b) (entry_done file b) (instruction_done file b) has (after-instruction file b has)

  after-unit : (unit : DmaUnit) (b : Core) → Keeps b → Keeps (core_after_unit unit b)
  unfolding core_after_unit
  after-unit unit b has = written-keeps b unit.target unit.width (unit_value unit b) has

  after-acting : (unit : Option DmaUnit) (file : List ℕ) (b : Core) → Keeps b → Keeps (acted_for unit file b).bus
  after-acting (Some unit) file b has = after-unit unit b has
  after-acting None file b has =
      either-done (idles b) (idle_done file b) (awake_done file (core_woken b)) has
      (after-waking file (core_woken b) has)

  pub after-acted : (file : List ℕ) (b : Core) → Keeps b → Keeps (acted file b).bus
  unfolding acted
  after-acted file b has = after-acting (next_unit b.devices.channels) file b has

-- what signals, ends and keys leave
pub taken-memory : (dues : List Incoming) (b : Board) → (all_taken dues b).core.memory ≡ b.core.memory
taken-memory [] b = refl
taken-memory (due ∷ dues) b = taken-memory dues _

-- what stands somewhere stands there where the images are the same
pub still-stand : (before after : Memories) (table : List KeptHalf) → HasImages before.bios before.rom after
    → All (Stands before.bios before.rom) table → All (Stands after.bios after.rom) table
still-stand before after table has stand = rw (has.bios, has.rom) stand

-- what is read at such an address
fixed-wide : (region : Region) (m n : Memories) (address : ℕ) (width : Width) → is_fixed region ≡ true
    → HasImages m.bios m.rom n
    → wide_load region (is_bios region) n address width ≡ wide_load region (is_bios region) m address width
unfolding wide_load
fixed-wide Bios m n address width e has = rw has.bios refl
fixed-wide Rom0 m n address width e has = rw has.rom refl
fixed-wide Rom1 m n address width e has = rw has.rom refl
fixed-wide Rom2 m n address width e has = rw has.rom refl
fixed-wide _ m n address width e has = cc

fixed-not-io : (region : Region) → is_fixed region ≡ true → is_io region ≡ false
fixed-not-io Io e = cc
fixed-not-io _ e = refl

fixed-load : (b : Core) (address : ℕ) (width : Width) → is_fixed (region_of address) ≡ true
    → core_read b address address width
    ≡ wide_load (region_of address) (is_bios (region_of address)) b.memory address width
unfolding core_read
fixed-load b address width e =
    rw (fixed-not-io (region_of address) e) (load-wide b.memory address address width)

pub fixed-read : (b c : Core) (address : ℕ) (width : Width) → is_fixed (region_of address) ≡ true
    → HasImages b.memory.bios b.memory.rom c.memory
    → core_read c address address width ≡ core_read b address address width
fixed-read b c address width e has =
    fixed-load c address width e ∙ fixed-wide (region_of address) b.memory c.memory address width e has
    ∙ sym (fixed-load b address width e)

-- what keys leave
either-memory : (test : Bool) (m : Memories) (one other : Core) → one.memory ≡ m → other.memory ≡ m
    → (if test then one else other).memory ≡ m
either-memory true m one other here there = here
either-memory false m one other here there = there

pub keyed-memory : (clock : ℕ) (changes : List KeyState) (b : Core) → (after_keys clock changes b).memory ≡ b.memory
unfolding after_keys
keyed-memory clock [] b = refl
keyed-memory clock (change ∷ changes) b =
    either-memory (nat_le change.clock clock) b.memory (after_keys clock changes (core_keyed change.keys b)) b
    (keyed-memory clock changes (core_keyed change.keys b)) refl

-- memories that are the same have the same images
same-images : (bios rom : List ℕ) (m n : Memories) → n ≡ m → HasImages bios rom m → HasImages bios rom n
same-images bios rom m n same has = record {
  bios = ap (λ (m : Memories). m.bios) same ∙ has.bios;
  rom = ap (λ (m : Memories). m.rom) same ∙ has.rom;
}

-- a board that has moved
pub moved-images : (bios rom : List ℕ) (cycles : ℕ) (b after : Board) → HasImages bios rom b.core.memory
    → after ≡ board_after cycles b → BoardPasses cycles b → HasImages bios rom after.core.memory
moved-images bios rom cycles b after has e passes =
    same-images bios rom b.core.memory after.core.memory (ap (λ (b : Board). b.core.memory) e ∙ passes.memory) has

-- what an instruction leaves, and what a step does
pub done-images : (file : List ℕ) (before core : Core) → core ≡ (instruction_done file before).bus
    → HasImages before.memory.bios before.memory.rom core.memory
done-images file before core e =
    same-images before.memory.bios before.memory.rom (instruction_done file before).bus.memory core.memory
    (ap (λ (b : Core). b.memory) e)
    (after-instruction before.memory.bios before.memory.rom file before (record { bios = refl; rom = refl }))

pub acted-images : (m : Memories) (file : List ℕ) (clock : ℕ) (changes : List KeyState) (before keyed core : Core)
    → before.memory ≡ m → keyed ≡ after_keys clock changes before → core ≡ (acted file keyed).bus
    → HasImages m.bios m.rom core.memory
acted-images m file clock changes before keyed core same keys e =
    same-images m.bios m.rom (acted file keyed).bus.memory core.memory (ap (λ (b : Core). b.memory) e)
    (after-acted m.bios m.rom file keyed
    (same-images m.bios m.rom m keyed.memory
    (ap (λ (b : Core). b.memory) keys ∙ keyed-memory clock changes before ∙ same)
    (record { bios = refl; rom = refl })))

-- a table that was lent out as a slice of the same length
pub whole-again : {A : Type 0} (lent old : List A) (count : ℕ) → length lent ≡ count
    → take count (lent ++ drop (length lent) old) ≡ lent
whole-again lent old count same =
    rw (← same) (take-append_seam lent (drop (length lent) old))
