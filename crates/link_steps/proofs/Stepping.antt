-- The steps of each console: what each has, and where the next comes from.
use Rattle.std.specs.Prelude.{List, ◌++◌, All, Some, slice_get, option_to_list}
use Rattle.std.proofs.Common.{ℕ, zero, suc, ◌≡◌, ◌+◌, ◌<◌, ◌≤◌, inl, inr, arith, refl, sym, ap, ◌∙◌, subst, get_or}
use Rattle.std.proofs.lemmas.Bool.{cases_lt}
use Rattle.link_node.specs.Due.{InOrder, IsDue}
use Rattle.link_node.specs.declared.signal.Incoming.{Incoming}
use Rattle.link_order.specs.NodeKind.{NodeKind, IsLawful}
use Rattle.link_order.specs.Order.{from}
use Rattle.link_order.specs.Due.{is_due}
use Rattle.link_order.specs.Cut.{Cut, clock_at, count, hop, was_at, IsCable, IsSound}
use Rattle.link_order.specs.GlobalOrder.{after_turns, due_at, step_of, trace}
use Rattle.link_order.specs.Interleaving.{count_of, moment}
use Rattle.link_order.proofs.Numbers.{same_or_apart}
use Rattle.link_order.proofs.Hops.{delays_same, hop_same}
use Rattle.link_order.proofs.DueOrder.{arriving_all, due_all, due_in_order, due_is_due}
use Rattle.link_laws.proofs.Advance.{advance, number_found, number_same}
use Rattle.link_laws.proofs.History.{Ends, Leads, history_ends, moment_all, moment_none, trace_leads}
use Rattle.link_trace.proofs.Prefixes.{clock_rises}
use Rattle.link_trace.proofs.Ways.{stands}
use Rattle.link_steps.specs.Law.{ComesOfStep, HasSteps, IsFromPeer, IsSoundStep, MakesStep, MakesSteps, TakesAt}

module _ {C : Type 0} (kind : NodeKind C) (law : IsLawful kind) (cut : Cut C) (until : ℕ) (cable : IsCable cut)
    (sound : IsSound kind cut) where
  abbrev pub steps-of : List ℕ
  steps-of = trace kind cut until

  abbrev pub moment-of : ℕ → ℕ → Cut C
  moment-of i k = moment kind cut steps-of i k

  pub leads : Leads kind until cut steps-of
  leads = trace_leads kind law cut until cable.some_console cable.some_delay sound

  -- a step at its moment, and what it leaves of its console
  pub record Made (i k : ℕ) : Type 0 where
    pub x : C
    pub step : MakesStep kind cut until i k x (due_at kind (moment-of i k) i)
    pub next_is : slice_get (moment-of i (suc k)).consoles i ≡ Some (kind.next x (due_at kind (moment-of i k) i)).0
    pub sent_is : from i (moment-of i (suc k)).sent
        ≡ from i (moment-of i k).sent ++ option_to_list (kind.next x (due_at kind (moment-of i k) i)).1
    pub now : IsSound kind (moment-of i k)
    pub early : clock_at kind (moment-of i k) i < until
    pub count_is : count (moment-of i k) ≡ count cut
    pub delays_are : (moment-of i k).delays ≡ cut.delays

  pub made : (i k : ℕ) → i < count cut → k < count_of i steps-of → Made i k
  made i k below less =
      let m = moment-of i k in
      let there = stands kind law until steps-of cut i k leads sound less in
      let a = advance kind law m i there.leads.0 there.leads.2 there.sound in
      let stay = moment_none kind law until there.rest (step_of kind m i) i there.leads.3 a.sound in
      record {
        x = a.x;
        step = record { player = below; made = less; stands = a.stands; takes = refl };
        next_is = ap (λ (d : Cut C). slice_get d.consoles i) there.next_is ∙ stay.console ∙ a.own_console;
        sent_is = ap (λ (d : Cut C). from i d.sent) there.next_is ∙ stay.signals ∙ a.own_sent;
        now = there.sound;
        early = there.leads.1;
        count_is = there.count_is;
        delays_are = there.delays_are;
      }

  -- one number, one step
  some-same : {X : Type 0} (a b : X) → Some a ≡ Some b → a ≡ b
  some-same a b e = cc

  pub one-step : (i k : ℕ) (x y : C) (ds es : List Incoming) → MakesStep kind cut until i k x ds
      → MakesStep kind cut until i k y es → (x ≡ y) × (ds ≡ es)
  one-step i k x y ds es one other =
      (some-same x y (sym one.stands ∙ other.stands), sym one.takes ∙ other.takes)

  pub first-step : (i : ℕ) (x : C) (dues : List Incoming) → MakesStep kind cut until i 0 x dues
      → slice_get cut.consoles i ≡ Some x
  first-step i x dues step = sym (moment_none kind law until steps-of cut i leads sound).console ∙ step.stands

  pub further-step : (i k : ℕ) (y : C) (dues : List Incoming) → MakesStep kind cut until i (suc k) y dues
      → ComesOfStep kind cut until i k y
  further-step i k y dues step =
      let more = step.made in
      let one = made i k step.player (omega (arith, more)) in
      record {
        x = one.x;
        dues = due_at kind (moment-of i k) i;
        step = one.step;
        next_is = some-same y (kind.next one.x (due_at kind (moment-of i k) i)).0 (sym step.stands ∙ one.next_is);
      }

  -- what every step has
  peers : (m : Cut C) (i : ℕ) → count m ≡ count cut → m.delays ≡ cut.delays → All (IsFromPeer cut i) (due_at kind m i)
  peers m i count_is delays_are =
      let passes = is_due (was_at kind m i) (clock_at kind m i) in
      due_all (IsFromPeer cut i) (hop m) (λ j. from j m.sent) i passes (count m) (λ j below apart.
      arriving_all (IsFromPeer cut i) passes (hop m j i) j (from j m.sent) (λ k d less e. record {
        player = subst (λ n. j < n) count_is below;
        other = apart;
        arrives = ap (λ (h : ℕ → ℕ → ℕ). (get_or (from j m.sent) k d).clock + h j i) (hop_same m cut delays_are);
      }))

  pub sound-step : (i k : ℕ) (x : C) (dues : List Incoming) → MakesStep kind cut until i k x dues
      → IsSoundStep kind cut until i x dues
  sound-step i k x dues step =
      let m = moment-of i k in
      let one = made i k step.player step.made in
      let clock_is : clock_at kind m i ≡ kind.clock x = number_found kind.clock m.consoles i x step.stands in
      let was_is : was_at kind m i ≡ kind.was x = number_found kind.was m.consoles i x step.stands in
      let below : i < count m = subst (λ n. i < n) (sym one.count_is) step.player in
      let before = clock_rises kind law until steps-of cut i k leads sound in
      let rises = one.now.begun i below in
      let short = one.now.short i below in
      let early = one.early in
      let delays = delays_same m cut one.count_is one.delays_are cable.some_delay in
      let few : count m ≤ 4 = subst (λ n. n ≤ 4) (sym one.count_is) cable.at_most_four in
      let are_due : All (IsDue (was_at kind m i) (clock_at kind m i)) (due_at kind m i) =
      due_is_due (hop m) (λ j. from j m.sent) i (was_at kind m i) (clock_at kind m i) (count m) few
      (λ j less apart. delays j i less below apart) in
      record {
        early = omega (arith, clock_is, early);
        begun = omega (arith, clock_is, before);
        rises = omega (arith, clock_is, was_is, rises);
        short = omega (arith, clock_is, was_is, short);
        ordered = subst InOrder step.takes
            (due_in_order (hop m) m.sent i (is_due (was_at kind m i) (clock_at kind m i)) (count m) one.now.ordered);
        due = subst (λ (z : List Incoming). All (IsDue (kind.was x) (kind.clock x)) z) step.takes
            (subst (λ c. All (IsDue (kind.was x) c) (due_at kind m i)) clock_is
            (subst (λ w. All (IsDue w (clock_at kind m i)) (due_at kind m i)) was_is are_due));
        from_peers = subst (All (IsFromPeer cut i)) step.takes (peers m i one.count_is one.delays_are);
      }

  -- later steps begin later
  pub later-step : (i k m : ℕ) (x y : C) (ds es : List Incoming) → MakesStep kind cut until i k x ds
      → MakesStep kind cut until i m y es → k < m → kind.clock x ≤ kind.was y
  later-step i k zero x y ds es one other less = absurd (omega (arith, less))
  later-step i k (suc m) x y ds es one other less =
      let back = further-step i m y es other in
      let moved : kind.was y ≡ kind.clock back.x = ap kind.was back.next_is ∙ law.moves back.x back.dues in
      elim (same_or_apart k m) [
        | inl same ↦
            let at_m : MakesStep kind cut until i m x ds = subst (λ n. MakesStep kind cut until i n x ds) same one in
            let clocks : kind.clock x ≡ kind.clock back.x =
            ap kind.clock (one-step i m x back.x ds back.dues at_m back.step).0 in
            omega (arith, moved, clocks)
        | inr apart ↦
            let ih = later-step i k m x back.x ds back.dues one back.step (omega (arith, less, apart)) in
            let rises = (sound-step i m back.x back.dues back.step).rises in
            omega (arith, moved, ih, rises)
      ]

  -- the step that takes what arrives at a clock
  pub taken-by : (i m arrival : ℕ) (y : C) (dues : List Incoming) → MakesStep kind cut until i m y dues
      → was_at kind cut i < arrival → arrival ≤ kind.clock y → TakesAt kind cut until i arrival
  taken-by i zero arrival y dues step after by_now =
      let was_is : was_at kind cut i ≡ kind.was y = number_found kind.was cut.consoles i y (first-step i y dues step) in
      record { k = zero; x = y; dues = dues; step = step; after = omega (arith, after, was_is); by_now = by_now }
  taken-by i (suc m) arrival y dues step after by_now =
      elim (cases_lt (kind.was y) arrival) [
        | inl now ↦ record { k = suc m; x = y; dues = dues; step = step; after = now; by_now = by_now }
        | inr over ↦
            let back = further-step i m y dues step in
            let moved : kind.was y ≡ kind.clock back.x = ap kind.was back.next_is ∙ law.moves back.x back.dues in
            taken-by i m arrival back.x back.dues back.step after (omega (arith, moved, over))
      ]

  -- by the end of the trace each console has taken what arrived 512 cycles before it
  last-step : (i arrival n : ℕ) → i < count cut → count_of i steps-of ≡ n → was_at kind cut i < arrival
      → arrival + 512 ≤ until → TakesAt kind cut until i arrival
  last-step i arrival zero below none after soon =
      let e = after_turns kind cut steps-of in
      let ends : Ends kind until cut e = history_ends kind law until steps-of cut leads sound in
      let there : moment-of i 0 ≡ e = moment_all kind steps-of cut i 0 (omega (arith, none)) in
      let same = (moment_none kind law until steps-of cut i leads sound).console in
      let was_is = number_same kind.was (moment-of i 0).consoles cut.consoles i same in
      let at_end = ap (λ (d : Cut C). was_at kind d i) there in
      let late = ends.late i below in
      let short = ends.sound.short i (subst (λ n. i < n) (sym ends.count_is) below) in
      absurd (omega (arith, after, soon, was_is, at_end, late, short))
  last-step i arrival (suc n) below some after soon =
      let e = after_turns kind cut steps-of in
      let ends : Ends kind until cut e = history_ends kind law until steps-of cut leads sound in
      let one = made i n below (omega (arith, some)) in
      let there : moment-of i (suc n) ≡ e = moment_all kind steps-of cut i (suc n) (omega (arith, some)) in
      let next = kind.next one.x (due_at kind (moment-of i n) i) in
      let was_is : was_at kind (moment-of i (suc n)) i ≡ kind.was next.0 =
      number_found kind.was (moment-of i (suc n)).consoles i next.0 one.next_is in
      let moved = law.moves one.x (due_at kind (moment-of i n) i) in
      let at_end = ap (λ (d : Cut C). was_at kind d i) there in
      let late = ends.late i below in
      let short = ends.sound.short i (subst (λ n. i < n) (sym ends.count_is) below) in
      taken-by i n arrival one.x (due_at kind (moment-of i n) i) one.step after
      (omega (arith, soon, was_is, moved, at_end, late, short))

  pub has-steps : HasSteps kind cut until
  has-steps = record {
    sound = sound-step;
    one = one-step;
    first = first-step;
    further = further-step;
    later = later-step;
    taken_by = taken-by;
    taken_in_time = λ i arrival below after soon. last-step i arrival (count_of i steps-of) below refl after soon;
  }

pub steps : {C : Type 0} (kind : NodeKind C) → IsLawful kind → MakesSteps kind
steps kind law cut until cable sound = has-steps kind law cut until cable sound
