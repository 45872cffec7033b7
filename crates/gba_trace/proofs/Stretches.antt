-- Stretches of steps, one step after another.
use Rattle.std.proofs.Common.{◌≡◌, ℕ, zero, suc, ◌+◌, ◌-◌, ◌<◌, ◌≤◌, ◌++◌, ◌∙◌, Bool, true, false, List, [], refl, ap, append-nil, arith, if◌then◌else◌}
use Rattle.std.proofs.lemmas.Bool.Decides.{nat_tests}
use Rattle.gba_console.specs.Alone.{console_kind}
use Rattle.gba_console.specs.Machine.{Machine}
use Rattle.link_order.specs.Cut.{Cut, clock_at}
use Rattle.link_order.specs.GlobalOrder.{least}
use Rattle.gba_trace.specs.Trace.{after_steps, count_from, goes_on, lines_from, next_line, stepped_cut}

if-true : {A : Type 0} (test : Bool) (one other : A) → test ≡ true → (if test then one else other) ≡ one
if-true true one other e = refl
if-true false one other e = cc

if-false : {A : Type 0} (test : Bool) (one other : A) → test ≡ false → (if test then one else other) ≡ other
if-false true one other e = cc
if-false false one other e = refl

-- whether it goes on, by its clock
pub goes : (clock until : ℕ) (cut : Cut Machine) → clock ≡ clock_at console_kind cut (least console_kind cut)
    → clock < until → goes_on until cut ≡ true
goes clock until cut is early =
    let less : clock_at console_kind cut (least console_kind cut) < until = omega (arith, is, early) in
    grind (arith, nat_tests)

pub ends : (clock until : ℕ) (cut : Cut Machine) → clock ≡ clock_at console_kind cut (least console_kind cut)
    → until ≤ clock → goes_on until cut ≡ false
ends clock until cut is late =
    let most : until ≤ clock_at console_kind cut (least console_kind cut) = omega (arith, is, late) in
    grind (arith, nat_tests)

module _ (until : ℕ) (cut : Cut Machine) where
  -- a step more
  pub one-step : (n m : ℕ) → m ≡ n + 1 → goes_on until (after_steps n until cut) ≡ true
      → after_steps m until cut ≡ stepped_cut (after_steps n until cut)
  unfolding after_steps
  one-step n m is on =
      ap (λ (k : ℕ). after_steps k until cut) is'
      ∙ if-true (goes_on until at) (stepped_cut at) at on where
        at : Cut Machine
        at = after_steps n until cut

        is' : m ≡ suc n
        is' = omega (arith, is)

  pub one-line : (n m : ℕ) → m ≡ n + 1 → goes_on until (after_steps n until cut) ≡ true
      → lines_from m until cut ≡ lines_from n until cut ++ next_line (after_steps n until cut)
  unfolding lines_from
  one-line n m is on =
      ap (λ (k : ℕ). lines_from k until cut) is'
      ∙ ap (λ (line : List ℕ). lines_from n until cut ++ line) (if-true (goes_on until at) (next_line at) [] on) where
        at : Cut Machine
        at = after_steps n until cut

        is' : m ≡ suc n
        is' = omega (arith, is)

  pub one-count : (n m : ℕ) → m ≡ n + 1 → goes_on until (after_steps n until cut) ≡ true
      → count_from m until cut ≡ count_from n until cut + 1
  unfolding count_from
  one-count n m is on =
      ap (λ (k : ℕ). count_from k until cut) is'
      ∙ ap (λ (some : ℕ). count_from n until cut + some) (if-true (goes_on until at) 1 0 on) where
        at : Cut Machine
        at = after_steps n until cut

        is' : m ≡ suc n
        is' = omega (arith, is)

  -- none is left
  stays-by : (n k : ℕ) → goes_on until (after_steps n until cut) ≡ false
      → after_steps (k + n) until cut ≡ after_steps n until cut
  unfolding after_steps
  stays-by n zero over = let same : zero + n ≡ n = omega arith in ap (λ (m : ℕ). after_steps m until cut) same
  stays-by n (suc k) over =
      let before = stays-by n k over in
      let at : Cut Machine = after_steps (k + n) until cut in
      ap (λ (m : ℕ). after_steps m until cut) next
      ∙ if-false (goes_on until at) (stepped_cut at) at (ap (goes_on until) before ∙ over)
      ∙ before where
        next : suc k + n ≡ suc (k + n)
        next = omega arith

  pub stays : (n count : ℕ) → n ≤ count → goes_on until (after_steps n until cut) ≡ false
      → after_steps count until cut ≡ after_steps n until cut
  stays n count few over =
      let same : count ≡ count - n + n = omega (arith, few) in
      ap (λ (m : ℕ). after_steps m until cut) same ∙ stays-by n (count - n) over

  no-lines-by : (n k : ℕ) → goes_on until (after_steps n until cut) ≡ false
      → lines_from (k + n) until cut ≡ lines_from n until cut
  unfolding lines_from
  no-lines-by n zero over = let same : zero + n ≡ n = omega arith in ap (λ (m : ℕ). lines_from m until cut) same
  no-lines-by n (suc k) over =
      let at : Cut Machine = after_steps (k + n) until cut in
      ap (λ (m : ℕ). lines_from m until cut) next
      ∙ ap (λ (line : List ℕ). lines_from (k + n) until cut ++ line)
      (if-false (goes_on until at) (next_line at) [] (ap (goes_on until) (stays-by n k over) ∙ over))
      ∙ append-nil (lines_from (k + n) until cut)
      ∙ no-lines-by n k over where
        next : suc k + n ≡ suc (k + n)
        next = omega arith

  pub no-lines : (n count : ℕ) → n ≤ count → goes_on until (after_steps n until cut) ≡ false
      → lines_from count until cut ≡ lines_from n until cut
  no-lines n count few over =
      let same : count ≡ count - n + n = omega (arith, few) in
      ap (λ (m : ℕ). lines_from m until cut) same ∙ no-lines-by n (count - n) over

  no-count-by : (n k : ℕ) → goes_on until (after_steps n until cut) ≡ false
      → count_from (k + n) until cut ≡ count_from n until cut
  unfolding count_from
  no-count-by n zero over = let same : zero + n ≡ n = omega arith in ap (λ (m : ℕ). count_from m until cut) same
  no-count-by n (suc k) over =
      let at : Cut Machine = after_steps (k + n) until cut in
      ap (λ (m : ℕ). count_from m until cut) next
      ∙ ap (λ (some : ℕ). count_from (k + n) until cut + some)
      (if-false (goes_on until at) 1 0 (ap (goes_on until) (stays-by n k over) ∙ over))
      ∙ none (count_from (k + n) until cut)
      ∙ no-count-by n k over where
        next : suc k + n ≡ suc (k + n)
        next = omega arith

        none : (m : ℕ) → m + 0 ≡ m
        none m = omega arith

  pub no-count : (n count : ℕ) → n ≤ count → goes_on until (after_steps n until cut) ≡ false
      → count_from count until cut ≡ count_from n until cut
  no-count n count few over =
      let same : count ≡ count - n + n = omega (arith, few) in
      ap (λ (m : ℕ). count_from m until cut) same ∙ no-count-by n (count - n) over
