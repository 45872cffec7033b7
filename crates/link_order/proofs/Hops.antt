-- The laws of a cut's delays.
use Rattle.std.proofs.Common.{ℕ, ◌≡◌, ◌<◌, ◌≤◌, arith, sym, ap, subst}
use Rattle.link_node.specs.Delays.{hop_of, AreDelays}
use Rattle.link_order.specs.Cut.{Cut, hop, count, HasDelays, HasDelaysWithin, IsCable}

-- the delay from one console to another goes by the cut's delays alone
pub hop_same : {C : Type 0} (d e : Cut C) → d.delays ≡ e.delays → hop d ≡ hop e
hop_same d e same = ap hop_of same

pub delays_same : {C : Type 0} (d e : Cut C) → count d ≡ count e → d.delays ≡ e.delays → HasDelays e → HasDelays d
delays_same d e counts delays later i j li lj apart =
    subst (λ (h : ℕ → ℕ → ℕ). 0 < h i j) (sym (hop_same d e delays))
    (later i j (subst (λ (n : ℕ). i < n) counts li) (subst (λ (n : ℕ). j < n) counts lj) apart)

pub within_same : {C : Type 0} (most : ℕ) (d e : Cut C) → count d ≡ count e → d.delays ≡ e.delays
    → HasDelaysWithin most e → HasDelaysWithin most d
within_same most d e counts delays short i j li lj apart =
    subst (λ (h : ℕ → ℕ → ℕ). h i j ≤ most) (sym (hop_same d e delays))
    (short i j (subst (λ (n : ℕ). i < n) counts li) (subst (λ (n : ℕ). j < n) counts lj) apart)

pub cable_same : {C : Type 0} (d e : Cut C) → count d ≡ count e → d.delays ≡ e.delays → IsCable e → IsCable d
cable_same d e counts delays cable = record {
  some_console = subst (λ (n : ℕ). 0 < n) (sym counts) cable.some_console;
  at_most_four = subst (λ (n : ℕ). n ≤ 4) (sym counts) cable.at_most_four;
  some_delay = delays_same d e counts delays cable.some_delay;
  short_delay = within_same 1024 d e counts delays cable.short_delay;
}

-- one to four consoles and their delays are a cable
pub cable_of_delays : {C : Type 0} (cut : Cut C) → 0 < count cut → count cut ≤ 4 → AreDelays cut.delays → IsCable cut
cable_of_delays cut some four are = record {
  some_console = some;
  at_most_four = four;
  some_delay = λ i j li lj apart. (are i j (omega arith) (omega arith)).0;
  short_delay = λ i j li lj apart. (are i j (omega arith) (omega arith)).1;
}
