-- The registers of a list rise, and after LDM each holds the word of its own access.
use Rattle.std.proofs.Common.{◌≡◌, ◌≢◌, ℕ, zero, suc, Bool, true, false, List, ◌∷◌, ◌+◌, ◌<◌, ◌≤◌, length, get_or, refl, sym, ◌∙◌, subst, ⊎_elim, arith, if◌then◌else◌}
use Rattle.std.proofs.lemmas.Bool.{cases_eq}
use Rattle.std.specs.List.{range_with_len}
use Rattle.std.specs.Prelude.{filter}
use Rattle.gba_terms.specs.Bits.{bit}
use Rattle.gba_bus.specs.Meanings.{Load, Store}
use Rattle.gba_psr.specs.RegisterFile.{IsRegisterFile, register, with_register}
use Rattle.gba_exec_registers.specs.declared.site.Site.{Site}
use Rattle.gba_exec_transfers.specs.Accesses.{HoldsWords, Rises, after_loads, block_load}
use Rattle.gba_exec_transfers.specs.Blocks.{registers_in, with_block_register}
use Rattle.gba_exec_transfers.specs.Done.{Done}

step-least : (test : Bool) (first : ℕ) (rest : List ℕ) → ((i : ℕ) → i < length rest → first + 1 ≤ get_or rest i 0)
    → (i : ℕ) → i < length (if test then first ∷ rest else rest)
    → first ≤ get_or (if test then first ∷ rest else rest) i 0
step-least true first rest least zero within = omega arith
step-least true first rest least (suc i) within = let far = least i (omega arith) in omega arith
step-least false first rest least i within = let far = least i within in omega arith

step-most : (test : Bool) (first : ℕ) (rest : List ℕ) (end : ℕ) → first < end
    → ((i : ℕ) → i < length rest → get_or rest i 0 < end) → (i : ℕ) → i < length (if test then first ∷ rest else rest)
    → get_or (if test then first ∷ rest else rest) i 0 < end
step-most true first rest end small most zero within = small
step-most true first rest end small most (suc i) within = most i (omega arith)
step-most false first rest end small most i within = most i within

step-rises : (test : Bool) (first : ℕ) (rest : List ℕ) → ((i : ℕ) → i < length rest → first + 1 ≤ get_or rest i 0)
    → ((i j : ℕ) → i < j → j < length rest → get_or rest i 0 < get_or rest j 0)
    → (i j : ℕ) → i < j → j < length (if test then first ∷ rest else rest)
    → get_or (if test then first ∷ rest else rest) i 0 < get_or (if test then first ∷ rest else rest) j 0
step-rises true first rest least rises i zero before within = absurd (omega arith)
step-rises true first rest least rises zero (suc j) before within = let far = least j (omega arith) in omega arith
step-rises true first rest least rises (suc i) (suc j) before within = rises i j (omega arith) (omega arith)
step-rises false first rest least rises i j before within = rises i j before within

filter-least : (p : ℕ → Bool) (first count i : ℕ) → i < length (filter p (range_with_len first count))
    → first ≤ get_or (filter p (range_with_len first count)) i 0
filter-least p first zero i within = absurd (omega arith)
filter-least p first (suc count) i within =
    step-least (p first) first (filter p (range_with_len (first + 1) count)) (filter-least p (first + 1) count) i within

filter-most : (p : ℕ → Bool) (first count end : ℕ) → first + count ≤ end
    → (i : ℕ) → i < length (filter p (range_with_len first count))
    → get_or (filter p (range_with_len first count)) i 0 < end
filter-most p first zero end bound i within = absurd (omega arith)
filter-most p first (suc count) end bound i within =
    step-most (p first) first (filter p (range_with_len (first + 1) count)) end (omega arith)
    (filter-most p (first + 1) count end (omega arith)) i within

filter-rises : (p : ℕ → Bool) (first count i j : ℕ) → i < j → j < length (filter p (range_with_len first count))
    → get_or (filter p (range_with_len first count)) i 0 < get_or (filter p (range_with_len first count)) j 0
filter-rises p first zero i j before within = absurd (omega arith)
filter-rises p first (suc count) i j before within =
    step-rises (p first) first (filter p (range_with_len (first + 1) count)) (filter-least p (first + 1) count)
    (filter-rises p (first + 1) count) i j before within

pub registers_in-rises : (list : ℕ) → Rises (registers_in list 0 16)
unfolding registers_in
registers_in-rises list = filter-rises (λ number. bit list number) 0 16

pub registers_in-most : (list k : ℕ) → k < length (registers_in list 0 16) → get_or (registers_in list 0 16) k 0 < 16
unfolding registers_in
registers_in-most list = filter-most (λ number. bit list number) 0 16 16 (omega arith)

module _ {State : Type 0} (load : Load State) (store : Store State)
    (same : (file : List ℕ) (number value : ℕ) → IsRegisterFile file → number < 16
    → register (with_register file number value) number ≡ value)
    (others : (file : List ℕ) (number other value : ℕ) → number < 16 → other < 16 → other ≢ number
    → register (with_register file number value) other ≡ register file other)
    (kept : (file : List ℕ) (number value : ℕ) → IsRegisterFile file → number < 16
    → IsRegisterFile (with_register file number value))
    (site : Site) (numbers : List ℕ) (lowest : ℕ) (done : Done State) (is : IsRegisterFile done.registers)
    (small : (k : ℕ) → k < length numbers → get_or numbers k 0 < 16) (rises : Rises numbers) where
  file-after : (m : ℕ) → m ≤ length numbers
      → IsRegisterFile (after_loads load store false site numbers lowest done m).registers
  unfolding after_loads with_block_register
  file-after zero within = is
  file-after (suc m) within =
      kept (after_loads load store false site numbers lowest done m).registers (get_or numbers m 0)
      (block_load load store site lowest m (after_loads load store false site numbers lowest done m).bus).value
      (file-after m (omega arith)) (small m (omega arith))

  word-after : (m k : ℕ) → k < m → m ≤ length numbers
      → register (after_loads load store false site numbers lowest done m).registers (get_or numbers k 0)
      ≡ (block_load load store site lowest k (after_loads load store false site numbers lowest done k).bus).value
  unfolding after_loads with_block_register
  word-after zero k before within = absurd (omega arith)
  word-after (suc m) k before within =
      let file = (after_loads load store false site numbers lowest done m).registers in
      let value : ℕ → ℕ =
      λ n. (block_load load store site lowest n (after_loads load store false site numbers lowest done n).bus).value in
      ⊎_elim
      (λ (here : k ≡ m).
      let P : ℕ → Type 0 =
      λ n. register (with_register file (get_or numbers m 0) (value m)) (get_or numbers n 0) ≡ value n in
      subst P (sym here)
      (same file (get_or numbers m 0) (value m) (file-after m (omega arith)) (small m (omega arith))))
      (λ (apart : k ≡ m → ⊥).
      let earlier : k < m = omega arith in
      let below = rises k m earlier (omega arith) in
      others file (get_or numbers m 0) (get_or numbers k 0) (value m) (small m (omega arith)) (small k (omega arith))
      (omega arith)
      ∙ word-after m k earlier (omega arith))
      (cases_eq k m)

  rest-after : (m number : ℕ) → number < 16 → ((k : ℕ) → k < length numbers → get_or numbers k 0 ≢ number)
      → m ≤ length numbers
      → register (after_loads load store false site numbers lowest done m).registers number
      ≡ register done.registers number
  unfolding after_loads with_block_register
  rest-after zero number within apart all = refl
  rest-after (suc m) number within apart all =
      others (after_loads load store false site numbers lowest done m).registers (get_or numbers m 0) number
      (block_load load store site lowest m (after_loads load store false site numbers lowest done m).bus).value
      (small m (omega arith)) within (λ e. apart m (omega arith) (sym e))
      ∙ rest-after m number within apart (omega arith)

  pub holds-words : HoldsWords load store site numbers lowest done
  holds-words = record {
    listed_register = λ k within. word-after (length numbers) k within (omega arith);
    other_register = λ number within apart. rest-after (length numbers) number within apart (omega arith);
  }
