-- The accesses of LDM and STM, one after another down a list by its lowest bit.
use Rattle.std.proofs.Common.{◌≡◌, ℕ, Bool, ◌+◌, ◌-◌, ◌%◌, ◌^◌, ◌<◌, true, List, [], ◌∷◌, refl, ap, sym, ◌∙◌, if◌then◌else◌}
use Rattle.std.specs.Int.{w32, trailing_zeros}
use lib.Bits.{bit_and}
use Rattle.gba_bus.specs.Meanings.{Load, Price, Store}
use Rattle.gba_bus.specs.declared.width.Width.TheVariants.{Word}
use Rattle.gba_exec_registers.specs.declared.site.Site.{Site}
use Rattle.gba_exec_transfers.specs.Blocks.{block_register, registers_in, loads, stores, with_block_register}
use Rattle.gba_exec_transfers.specs.Done.{Done}
use Rattle.gba_exec_transfers.specs.Singles.{with_write_back}
use Rattle.gba_exec_transfers.proofs.Scanning.{first_of_list, none_listed}

abbrev pub done_of : {State : Type 0} → List ℕ → State → ℕ → Done State
done_of file bus cycles = record { registers = file; bus = bus; cycles = cycles }

module _ {State : Type 0} (price : Price State) (load : Load State) (store : Store State) where
  loads-cons : (user : Bool) (site : Site) (number : ℕ) (rest : List ℕ) (address : ℕ) (sequential : Bool)
      (file : List ℕ) (bus : State) (cycles : ℕ)
      → loads price load store user site (number ∷ rest) address sequential (done_of file bus cycles)
      ≡ (let read = load bus site.address address Word sequential in
      loads price load store user site rest ((address + 4) % 2 ^ 32) true
      (done_of (with_block_register user file number read.value) read.after (cycles + read.price)))
  unfolding loads
  loads-cons user site number rest address sequential file bus cycles = refl

  loads-nil : (user : Bool) (site : Site) (address : ℕ) (sequential : Bool) (done : Done State)
      → loads price load store user site [] address sequential done ≡ done
  unfolding loads
  loads-nil user site address sequential done = refl

  -- the first register of a list loaded
  pub loads_first : (user : Bool) (site : Site) (list number rest address : ℕ) (sequential : Bool) (file file' : List ℕ)
      (bus bus' : State) (cycles cost : ℕ) → 0 < list → list < 2 ^ 16
      → number ≡ trailing_zeros w32 list → rest ≡ bit_and list (list - 1)
      → file' ≡ with_block_register user file number (load bus site.address address Word sequential).value
      → bus' ≡ (load bus site.address address Word sequential).after
      → cost ≡ (load bus site.address address Word sequential).price
      → loads price load store user site (registers_in rest 0 16) ((address + 4) % 2 ^ 32) true
      (done_of file' bus' (cycles + cost))
      ≡ loads price load store user site (registers_in list 0 16) address sequential (done_of file bus cycles)
  loads_first user site list number rest address sequential file file' bus bus' cycles cost some small n r e₁ e₂ e₃ =
      rw (e₁, e₂, e₃, n, r)
      (sym (ap (λ numbers. loads price load store user site numbers address sequential (done_of file bus cycles))
      (first_of_list list some small)
      ∙ loads-cons user site (trailing_zeros w32 list) (registers_in (bit_and list (list - 1)) 0 16)
      address sequential file bus cycles))

  -- no register left
  pub loads_done : (user : Bool) (site : Site) (list address : ℕ) (sequential : Bool) (done : Done State) → list ≡ 0
      → loads price load store user site (registers_in list 0 16) address sequential done ≡ done
  loads_done user site list address sequential done none =
      ap (λ numbers. loads price load store user site numbers address sequential done) (none_listed list none)
      ∙ loads-nil user site address sequential done

  stores-cons : (user : Bool) (site : Site) (write : Bool) (rn base number : ℕ) (rest : List ℕ) (address : ℕ)
      (sequential : Bool) (file : List ℕ) (bus : State) (cycles : ℕ)
      → stores price load store user site write rn base (number ∷ rest) address sequential (done_of file bus cycles)
      ≡ (let wrote = store bus address Word (block_register user site file number) sequential in
      stores price load store user site write rn base rest ((address + 4) % 2 ^ 32) true
      (done_of (if sequential then file else with_write_back write rn base file) wrote.after (cycles + wrote.price)))
  unfolding stores
  stores-cons user site write rn base number rest address sequential file bus cycles = refl

  stores-nil : (user : Bool) (site : Site) (write : Bool) (rn base address : ℕ) (sequential : Bool) (done : Done State)
      → stores price load store user site write rn base [] address sequential done ≡ done
  unfolding stores
  stores-nil user site write rn base address sequential done = refl

  -- the first register of a list stored
  pub stores_first : (user : Bool) (site : Site) (write : Bool) (rn base list number rest address : ℕ)
      (sequential : Bool) (file file' : List ℕ) (bus bus' : State) (cycles cost : ℕ) → 0 < list → list < 2 ^ 16
      → number ≡ trailing_zeros w32 list → rest ≡ bit_and list (list - 1)
      → file' ≡ (if sequential then file else with_write_back write rn base file)
      → bus' ≡ (store bus address Word (block_register user site file number) sequential).after
      → cost ≡ (store bus address Word (block_register user site file number) sequential).price
      → stores price load store user site write rn base (registers_in rest 0 16) ((address + 4) % 2 ^ 32) true
      (done_of file' bus' (cycles + cost))
      ≡ stores price load store user site write rn base (registers_in list 0 16) address sequential
      (done_of file bus cycles)
  stores_first user site write rn base list number rest address sequential file file' bus bus' cycles cost some small n
      r e₁ e₂ e₃ =
      rw (e₁, e₂, e₃, n, r)
      (sym (ap
      (λ numbers. stores price load store user site write rn base numbers address sequential (done_of file bus cycles))
      (first_of_list list some small)
      ∙ stores-cons user site write rn base (trailing_zeros w32 list) (registers_in (bit_and list (list - 1)) 0 16)
      address sequential file bus cycles))

  -- no register left
  pub stores_done : (user : Bool) (site : Site) (write : Bool) (rn base list address : ℕ) (sequential : Bool)
      (done : Done State) → list ≡ 0
      → stores price load store user site write rn base (registers_in list 0 16) address sequential done ≡ done
  stores_done user site write rn base list address sequential done none =
      ap (λ numbers. stores price load store user site write rn base numbers address sequential done)
      (none_listed list none)
      ∙ stores-nil user site write rn base address sequential done
