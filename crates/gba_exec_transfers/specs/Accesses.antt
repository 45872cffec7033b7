use Rattle.std.specs.Prelude.{◌≡◌, ◌≢◌, ℕ, zero, suc, Bool, true, false, List, ◌+◌, ◌*◌, ◌%◌, ◌^◌, ◌<◌, length, slice_index}
use Rattle.gba_bus.specs.Meanings.{Load, Loaded, Store, Stored}
use Rattle.gba_bus.specs.declared.width.Width.TheVariants.{Word}
use Rattle.gba_psr.specs.RegisterFile.{register}
use Rattle.gba_exec_registers.specs.declared.site.Site.{Site}
use Rattle.gba_exec_transfers.specs.Blocks.{block_register, with_block_register}
use Rattle.gba_exec_transfers.specs.Done.{Done}
use Rattle.gba_exec_transfers.specs.Singles.{with_write_back}

-- LDM and STM access by access, counted from 0: register k of the list is at the lowest address plus 4k, the first
-- access is non-sequential and each further one sequential (ARM Architecture Reference Manual, A5.4; ARM7TDMI Technical
-- Reference Manual, load multiple and store multiple).

abbrev pub access_address : ℕ → ℕ → ℕ
access_address lowest k = (lowest + 4 * k) % 2 ^ 32

abbrev pub is_sequential : ℕ → Bool
is_sequential zero = false
is_sequential (suc k) = true

-- the numbers of the list rise
abbrev pub Rises : List ℕ → Type 0
Rises numbers = (i j : ℕ) → i < j → j < length numbers → slice_index numbers i < slice_index numbers j

module _ {State : Type 0} (load : Load State) (store : Store State) where
  -- access k of LDM: the word at its address
  abbrev pub block_load : Site → ℕ → ℕ → State → Loaded State
  block_load site lowest k bus = load bus site.address (access_address lowest k) Word (is_sequential k)

  -- what k accesses of LDM leave: each gives its word to its register, and adds its price
  unfoldable pub after_loads : Bool → Site → List ℕ → ℕ → Done State → ℕ → Done State
  after_loads user site numbers lowest done zero = done
  after_loads user site numbers lowest done (suc k) =
      let before = after_loads user site numbers lowest done k in
      let access = block_load site lowest k before.bus in
      record {
        registers = with_block_register user before.registers (slice_index numbers k) access.value;
        bus = access.after;
        cycles = before.cycles + access.price;
      }

  -- the registers at access k of STM: the base takes `base` after the first access, and nothing else changes
  abbrev pub registers_at : Bool → ℕ → ℕ → List ℕ → ℕ → List ℕ
  registers_at write rn base file zero = file
  registers_at write rn base file (suc k) = with_write_back write rn base file

  -- access k of STM: its register at its address
  abbrev pub block_store : Bool → Site → ℕ → ℕ → List ℕ → State → ℕ → Stored State
  block_store user site number lowest file bus k =
      store bus (access_address lowest k) Word (block_register user site file number) (is_sequential k)

  -- what k accesses of STM leave: each stores its register, and adds its price
  unfoldable pub after_stores : Bool → Site → Bool → ℕ → ℕ → List ℕ → ℕ → Done State → ℕ → Done State
  after_stores user site write rn base numbers lowest done zero = done
  after_stores user site write rn base numbers lowest done (suc k) =
      let before = after_stores user site write rn base numbers lowest done k in
      let file = registers_at write rn base done.registers k in
      let access = block_store user site (slice_index numbers k) lowest file before.bus k in
      record {
        registers = registers_at write rn base done.registers (suc k);
        bus = access.after;
        cycles = before.cycles + access.price;
      }

  -- Every listed register holds the word of its own access, and every other one what it held.
  pub record HoldsWords (site : Site) (numbers : List ℕ) (lowest : ℕ) (done : Done State) : Type 0 where
    pub listed_register : (k : ℕ) → k < length numbers
        → register (after_loads false site numbers lowest done (length numbers)).registers (slice_index numbers k)
        ≡ (block_load site lowest k (after_loads false site numbers lowest done k).bus).value
    pub other_register : (number : ℕ) → number < 16 → ((k : ℕ) → k < length numbers → slice_index numbers k ≢ number)
        → register (after_loads false site numbers lowest done (length numbers)).registers number
        ≡ register done.registers number
