-- A run leaves a cut from which a run can go on, and no clock far past its end.
use Rattle.std.proofs.Common.{ℕ, ◌≡◌, ◌+◌, ◌<◌, ◌≤◌, inl, inr, arith, sym, ap, ◌∙◌, subst}
use Rattle.std.proofs.lemmas.List.Elements.{All-filter, filter_passes}
use Rattle.link_node.specs.Due.{FitsWidths}
use Rattle.link_order.specs.declared.sent.Sent.{Sent}
use Rattle.link_order.specs.NodeKind.{NodeKind, IsLawful}
use Rattle.link_order.specs.Cut.{Cut, count, clock_at, hop, is_live, live, opening, was_at}
use Rattle.link_order.specs.Cut.{IsCable, IsInTime, IsSound}
use Rattle.link_order.specs.GlobalOrder.{due_at, run, step_of, trace}
use Rattle.link_order.proofs.Hops.{cable_same, hop_same}
use Rattle.link_order.proofs.Lists.{all_nil}
use Rattle.link_order.proofs.Live.{few_live}
use Rattle.link_order.proofs.Numbers.{same_or_apart}
use Rattle.link_order.proofs.Sound.{joined_all, sound_live}
use Rattle.link_order.proofs.Starts.{in_time_start, sound_start}
use Rattle.link_order.proofs.Stepping.{console_at, is_stepped}
use Rattle.link_laws.proofs.History.{Ends, history_ends, trace_leads}
use Rattle.link_core.specs.Kept.{AllFit, AllLive}
use Rattle.link_cut_laws.specs.Law.{CanGoOn, EndsNear, LeavesWhole, ReachesEnd, StartsWhole}
use Rattle.link_cut_laws.proofs.Turning.{IsTurn, turned, runs-hold}

-- ---- a run can go on

-- a sound cut has few signals, if they are live
go-on : {C : Type 0} (kind : NodeKind C) (cut : Cut C) → IsCable cut → IsSound kind cut → AllLive kind cut
    → IsInTime kind cut → AllFit cut.sent → CanGoOn kind cut
go-on kind cut cable sound awaited in_time fit = record {
  cable = cable;
  whole = record { sound = sound; live = awaited; in_time = in_time };
  fit = fit;
  few = few_live kind cut 1024 cable.some_console cable.at_most_four cable.short_delay sound awaited;
}

pub starts-whole : {C : Type 0} (kind : NodeKind C) → StartsWhole kind
starts-whole kind consoles delays cable fresh =
    go-on kind (opening consoles delays) cable (sound_start kind consoles delays fresh) (all_nil _)
    (in_time_start kind consoles delays cable.some_delay fresh) (all_nil _)

module _ {C : Type 0} (kind : NodeKind C) (law : IsLawful kind) where
  -- no clock falls
  later : (until : ℕ) (cut : Cut C) (i : ℕ) → IsTurn kind until cut i → (k : ℕ)
      → clock_at kind cut k ≤ clock_at kind (step_of kind cut i) k
  later until cut i t k =
      let a = turned kind law until cut i t in
      elim (same_or_apart k i) [
        | inl e ↦
            let f = ap (clock_at kind cut) e in
            let g = ap (clock_at kind (step_of kind cut i)) e in
            omega (arith, f, g, a.own_clock)
        | inr e ↦ omega (arith, a.other_clock k e)
      ]

  -- a step begins where no peer can still be heard in it, and each other console's last step is the same as before
  in-time : (until : ℕ) (cut : Cut C) (i : ℕ) → IsTurn kind until cut i → IsInTime kind cut
      → IsInTime kind (step_of kind cut i)
  in-time until cut i t before m j lm lj apart =
      let a = turned kind law until cut i t in
      let down : (k : ℕ) → k < count (step_of kind cut i) → k < count cut =
      λ k h. subst (λ (n : ℕ). k < n) a.count_is h in
      let same : hop (step_of kind cut i) j m ≡ hop cut j m
      = ap (λ (f : ℕ → ℕ → ℕ). f j m) (hop_same (step_of kind cut i) cut a.delays_are) in
      let up = later until cut i t j in
      elim (same_or_apart m i) [
        | inl e ↦
            let own = ap (was_at kind (step_of kind cut i)) e in
            let far = ap (hop cut j) e in
            omega (arith, own, a.own_was, t.ahead j (down j lj) (λ f. apart (e ∙ sym f)), far, same, up)
        | inr e ↦ omega (arith, a.other_was m e, before m j (down m lm) (down j lj) apart, same, up)
      ]

  fit : (until : ℕ) (cut : Cut C) (i : ℕ) → IsTurn kind until cut i → AllFit cut.sent
      → AllFit (step_of kind cut i).sent
  fit until cut i t before =
      let at = console_at kind cut i t.player in
      let dues = due_at kind cut i in
      let s = is_stepped kind law cut i at.0 dues t.player at.1 in
      subst (λ (d : Cut C). AllFit d.sent) (sym s.cut_is)
      (joined_all (λ (one : Sent). FitsWidths one.signal) i (kind.next at.0 dues).1 cut.sent
      (law.fits at.0 dues) before)

  -- what each step keeps, beside a sound cut
  record StaysWhole (cut : Cut C) : Type 0 where
    in_time : IsInTime kind cut
    fits : AllFit cut.sent

  ended : (cut : Cut C) (until : ℕ) → IsCable cut → IsSound kind cut → Ends kind until cut (run kind cut until)
  ended cut until cable sound =
      history_ends kind law until (trace kind cut until) cut
      (trace_leads kind law cut until cable.some_console cable.some_delay sound) sound

  pub leaves-whole : LeavesWhole kind
  leaves-whole cut until cable sound in_time fits =
      let d : Cut C = run kind cut until in
      let end = ended cut until cable sound in
      let stays = runs-hold kind law until StaysWhole
      (λ e i t here. record { in_time = in-time until e i t here.in_time; fits = fit until e i t here.fits })
      cut cable sound (record { in_time = in_time; fits = fits }) in
      go-on kind (live kind d) (cable_same _ cut end.count_is end.delays_are cable)
      (sound_live kind d end.sound) (filter_passes (is_live kind d) d.sent) stays.in_time
      (All-filter (is_live kind d) (λ (one : Sent). FitsWidths one.signal) d.sent stays.fits)

  -- ---- its end

  pub reaches-end : ReachesEnd kind
  reaches-end cut until i cable sound below = (ended cut until cable sound).late i below

  pub ends-near : EndsNear kind
  ends-near cut until i =
      runs-hold kind law until (λ d. clock_at kind d i ≤ until + 511)
      (λ d j t here.
      let a = turned kind law until d j t in
      elim (same_or_apart i j) [
        | inl e ↦ let f = ap (clock_at kind (step_of kind d j)) e in omega (arith, f, a.short, t.early)
        | inr e ↦ omega (arith, a.other_clock i e, here)
      ])
      cut
