-- The loops of LDM and STM are their accesses one after another.
use Rattle.std.proofs.Common.{◌≡◌, ℕ, zero, suc, Bool, true, false, List, [], ◌∷◌, ◌+◌, ◌%◌, ◌^◌, ◌<◌, length, drop, get_or, refl, ap, ◌∙◌, arith, add-zero}
use Rattle.std.proofs.Math.ListN.{drop_of_length-le}
use Rattle.std.proofs.Math.Seq.{drop-cons}
use Rattle.gba_bus.specs.Meanings.{Load, Price, Store}
use Rattle.gba_exec_registers.specs.declared.site.Site.{Site}
use Rattle.gba_exec_transfers.specs.Accesses.{access_address, after_loads, after_stores, is_sequential}
use Rattle.gba_exec_transfers.specs.Blocks.{loads, stores}
use Rattle.gba_exec_transfers.specs.Done.{Done}

next-address : (lowest k : ℕ) → (access_address lowest k + 4) % 2 ^ 32 ≡ access_address lowest (suc k)
next-address lowest k = omega arith

first-address : (lowest : ℕ) → lowest < 2 ^ 32 → lowest ≡ access_address lowest 0
first-address lowest small = omega arith

module _ {State : Type 0} (price : Price State) (load : Load State) (store : Store State) where
  load-next : (user : Bool) (site : Site) (numbers : List ℕ) (lowest : ℕ) (done : Done State) (k : ℕ) (rest : List ℕ)
      → loads price load store user site (get_or numbers k 0 ∷ rest) (access_address lowest k) (is_sequential k)
      (after_loads load store user site numbers lowest done k)
      ≡ loads price load store user site rest ((access_address lowest k + 4) % 2 ^ 32) true
      (after_loads load store user site numbers lowest done (suc k))
  unfolding loads after_loads
  load-next user site numbers lowest done k rest = refl

  loads-from : (user : Bool) (site : Site) (numbers : List ℕ) (lowest : ℕ) (done : Done State) (n k : ℕ)
      → k + n ≡ length numbers
      → loads price load store user site (drop k numbers) (access_address lowest k) (is_sequential k)
      (after_loads load store user site numbers lowest done k)
      ≡ after_loads load store user site numbers lowest done (k + n)
  unfolding loads after_loads
  loads-from user site numbers lowest done zero k all =
      let none : drop k numbers ≡ [] = drop_of_length-le numbers (omega arith) in
      rw (none, add-zero) refl
  loads-from user site numbers lowest done (suc n) k all =
      let more : drop k numbers ≡ get_or numbers k 0 ∷ drop (suc k) numbers = drop-cons numbers k 0 (omega arith) in
      let later : suc k + n ≡ k + suc n = omega arith in
      let rest = loads-from user site numbers lowest done n (suc k) (omega arith) in
      let left = drop (suc k) numbers in
      let state = after_loads load store user site numbers lowest done in
      ap (λ list. loads price load store user site list (access_address lowest k) (is_sequential k) (state k)) more
      ∙ load-next user site numbers lowest done k left
      ∙ ap (λ address. loads price load store user site left address true (state (suc k))) (next-address lowest k)
      ∙ rest ∙ ap state later

  pub loads-accesses : (user : Bool) (site : Site) (numbers : List ℕ) (lowest : ℕ) (done : Done State) → lowest < 2 ^ 32
      → loads price load store user site numbers lowest false done
      ≡ after_loads load store user site numbers lowest done (length numbers)
  unfolding after_loads
  loads-accesses user site numbers lowest done small =
      ap (λ address. loads price load store user site numbers address false done) (first-address lowest small)
      ∙ loads-from user site numbers lowest done (length numbers) 0 (omega arith)
      ∙ ap (λ m. after_loads load store user site numbers lowest done m) (omega arith)

  store-next : (user : Bool) (site : Site) (write : Bool) (rn base : ℕ) (numbers : List ℕ) (lowest : ℕ)
      (done : Done State) (k : ℕ) (rest : List ℕ)
      → stores price load store user site write rn base (get_or numbers k 0 ∷ rest) (access_address lowest k)
      (is_sequential k) (after_stores load store user site write rn base numbers lowest done k)
      ≡ stores price load store user site write rn base rest ((access_address lowest k + 4) % 2 ^ 32) true
      (after_stores load store user site write rn base numbers lowest done (suc k))
  unfolding stores after_stores
  store-next user site write rn base numbers lowest done zero rest = refl
  store-next user site write rn base numbers lowest done (suc k) rest = refl

  stores-from : (user : Bool) (site : Site) (write : Bool) (rn base : ℕ) (numbers : List ℕ) (lowest : ℕ)
      (done : Done State) (n k : ℕ) → k + n ≡ length numbers
      → stores price load store user site write rn base (drop k numbers) (access_address lowest k) (is_sequential k)
      (after_stores load store user site write rn base numbers lowest done k)
      ≡ after_stores load store user site write rn base numbers lowest done (k + n)
  unfolding stores
  stores-from user site write rn base numbers lowest done zero k all =
      let none : drop k numbers ≡ [] = drop_of_length-le numbers (omega arith) in
      rw (none, add-zero) refl
  stores-from user site write rn base numbers lowest done (suc n) k all =
      let more : drop k numbers ≡ get_or numbers k 0 ∷ drop (suc k) numbers = drop-cons numbers k 0 (omega arith) in
      let later : suc k + n ≡ k + suc n = omega arith in
      let rest = stores-from user site write rn base numbers lowest done n (suc k) (omega arith) in
      let left = drop (suc k) numbers in
      let state = after_stores load store user site write rn base numbers lowest done in
      ap (λ list. stores price load store user site write rn base list (access_address lowest k) (is_sequential k)
      (state k)) more
      ∙ store-next user site write rn base numbers lowest done k left
      ∙ ap (λ address. stores price load store user site write rn base left address true (state (suc k)))
      (next-address lowest k)
      ∙ rest ∙ ap state later

  pub stores-accesses : (user : Bool) (site : Site) (write : Bool) (rn base : ℕ) (numbers : List ℕ) (lowest : ℕ)
      (done : Done State) → lowest < 2 ^ 32
      → stores price load store user site write rn base numbers lowest false done
      ≡ after_stores load store user site write rn base numbers lowest done (length numbers)
  unfolding after_stores
  stores-accesses user site write rn base numbers lowest done small =
      ap (λ address. stores price load store user site write rn base numbers address false done)
      (first-address lowest small)
      ∙ stores-from user site write rn base numbers lowest done (length numbers) 0 (omega arith)
      ∙ ap (λ m. after_stores load store user site write rn base numbers lowest done m) (omega arith)
