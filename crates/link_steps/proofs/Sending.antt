-- What a step tells is taken where it arrives, and what is taken was told.
use Rattle.std.specs.Prelude.{Bool, true, List, [], ◌∷◌, ◌++◌, All, Option, None, Some, option_to_list}
use Rattle.std.proofs.Common.{ℕ, zero, suc, ◌≡◌, ◌≢◌, ◌+◌, ◌<◌, ◌≤◌, ◌⊎◌, inl, inr, arith, refl, sym, ap, ◌∙◌, subst}
use Rattle.std.proofs.Common.{append_assoc}
use Rattle.std.proofs.lemmas.Bool.{cases_Bool}
use Rattle.std.proofs.lemmas.List.Elements.{All-append}
use Rattle.link_node.specs.declared.signal.Incoming.{Incoming}
use Rattle.link_node.specs.declared.signal.Signal.{Signal}
use Rattle.link_order.specs.declared.sent.Sent.{Sent}
use Rattle.link_order.specs.NodeKind.{NodeKind, IsLawful}
use Rattle.link_order.specs.Order.{from, is_before}
use Rattle.link_order.specs.Due.{arrival_of, arrivals, arriving, due, incoming, is_due, place_all, place_due, player_of}
use Rattle.link_order.specs.Cut.{Cut, clock_at, count, hop, was_at, IsCable, IsSound, IsSoundSignal}
use Rattle.link_order.specs.GlobalOrder.{after_turns, due_at, trace}
use Rattle.link_order.specs.Interleaving.{count_of, moment}
use Rattle.link_order.proofs.Numbers.{same_or_apart}
use Rattle.link_order.proofs.Hops.{hop_same}
use Rattle.link_order.proofs.Lists.{all_cons, all_nil, all_map}
use Rattle.link_order.proofs.Places.{place_before, place_past}
use Rattle.link_order.proofs.DueSignals.{arriving_due, arriving-append, due_other, due_own}
use Rattle.link_order.proofs.DueOrder.{arriving_all, due_all, due_from_facts, from_all}
use Rattle.link_laws.proofs.Advance.{number_found}
use Rattle.link_laws.proofs.History.{due_of_history, later_moment, later_sent, moment_all, moment_none}
use Rattle.link_trace.proofs.Ways.{stands}
use Rattle.link_steps.specs.Law.{CarriesSignals, IsTold, MakesStep, PassesSignals, StandsIn, WasSent}
use Rattle.link_steps.proofs.Stepping.{leads, made, one-step}

-- one of a list
abbrev IsIn : Incoming → List Incoming → Type 0
IsIn one [] = ⊥
IsIn one (x ∷ xs) = (x ≡ one) ⊎ IsIn one xs

stands-in : (one : Incoming) (xs : List Incoming) → IsIn one xs → StandsIn one xs
stands-in one [] is = absurd is
stands-in one (x ∷ xs) (inl same) = record { earlier = []; later = xs; split = ap (λ z. z ∷ xs) same }
stands-in one (x ∷ xs) (inr more) =
    let there = stands-in one xs more in
    record { earlier = x ∷ there.earlier; later = there.later; split = ap (λ (l : List Incoming). x ∷ l) there.split }

is_in-append : (one : Incoming) (xs ys : List Incoming) → IsIn one (xs ++ one ∷ ys)
is_in-append one [] ys = inl refl
is_in-append one (x ∷ xs) ys = inr (is_in-append one xs ys)

-- what is placed in a list is there, with all that was there
is_in-placed : (one : Incoming) (xs : List Incoming) → IsIn one (place_due one xs)
is_in-placed one [] = inl refl
is_in-placed one (x ∷ xs) =
    elim (cases_Bool (is_before arrival_of player_of one x)) [
      | inl e ↦ subst (IsIn one) (sym (place_before arrival_of player_of one x xs e)) (inl refl)
      | inr e ↦ subst (IsIn one) (sym (place_past arrival_of player_of one x xs e)) (inr (is_in-placed one xs))
    ]

is_in-kept : (one other : Incoming) (xs : List Incoming) → IsIn one xs → IsIn one (place_due other xs)
is_in-kept one other [] is = absurd is
is_in-kept one other (x ∷ xs) is =
    elim (cases_Bool (is_before arrival_of player_of other x)) [
      | inl e ↦ subst (IsIn one) (sym (place_before arrival_of player_of other x xs e)) (inr is)
      | inr e ↦ subst (IsIn one) (sym (place_past arrival_of player_of other x xs e)) (elim is [
        | inl same ↦ inl same
        | inr more ↦ inr (is_in-kept one other xs more)
      ])
    ]

is_in-all_kept : (one : Incoming) (xs ys : List Incoming) → IsIn one ys → IsIn one (place_all xs ys)
is_in-all_kept one [] ys is = is
is_in-all_kept one (x ∷ xs) ys is = is_in-all_kept one xs (place_due x ys) (is_in-kept one x ys is)

is_in-all_placed : (one : Incoming) (xs ys : List Incoming) → IsIn one xs → IsIn one (place_all xs ys)
is_in-all_placed one [] ys is = absurd is
is_in-all_placed one (x ∷ xs) ys (inl same) =
    is_in-all_kept one xs (place_due x ys)
    (subst (λ z. IsIn z (place_due x ys)) same (is_in-placed x ys))
is_in-all_placed one (x ∷ xs) ys (inr more) = is_in-all_placed one xs (place_due x ys) more

-- a known signal that passes is due
arriving-has : (passes : ℕ → Bool) (delay j : ℕ) (signal : Signal) (xs ys : List Signal)
    → passes (signal.clock + delay) ≡ true
    → IsIn (incoming delay j signal) (arriving passes delay j (xs ++ signal ∷ ys))
arriving-has passes delay j signal xs ys is =
    let one = incoming delay j signal in
    subst (IsIn one)
    (sym (arriving-append passes delay j xs (signal ∷ ys)
    ∙ ap (λ (l : List Incoming). arriving passes delay j xs ++ l) (arriving_due passes delay j signal ys is)))
    (is_in-append one (arriving passes delay j xs) (arriving passes delay j ys))

arrivals-have : (between : ℕ → ℕ → ℕ) (known : ℕ → List Signal) (i : ℕ) (passes : ℕ → Bool) (j : ℕ) (one : Incoming)
    → j ≢ i → IsIn one (arriving passes (between j i) j (known j)) → (n : ℕ) → j < n
    → IsIn one (arrivals between known i passes n)
arrivals-have between known i passes j one apart is zero below = absurd (omega (arith, below))
arrivals-have between known i passes j one apart is (suc n) below =
    elim (same_or_apart j n) [
      | inl same ↦
          let here : IsIn one (arriving passes (between n i) n (known n)) =
          subst (λ k. IsIn one (arriving passes (between k i) k (known k))) same is in
          subst (IsIn one) (sym (due_other between known i passes n (λ e. apart (same ∙ e))))
          (is_in-all_placed one (arriving passes (between n i) n (known n)) (arrivals between known i passes n) here)
      | inr other ↦
          let ih = arrivals-have between known i passes j one apart is n (omega (arith, below, other)) in
          elim (same_or_apart n i) [
            | inl own ↦
                let step : arrivals between known i passes (suc n) ≡ arrivals between known i passes n =
                rw own (due_own between known i passes) in
                subst (IsIn one) (sym step) ih
            | inr far ↦
                subst (IsIn one) (sym (due_other between known i passes n far))
                (is_in-all_kept one (arriving passes (between n i) n (known n)) (arrivals between known i passes n) ih)
          ]
    ]

module _ {C : Type 0} (kind : NodeKind C) (law : IsLawful kind) (cut : Cut C) (until : ℕ) (cable : IsCable cut)
    (sound : IsSound kind cut) where
  abbrev ps : List ℕ
  ps = trace kind cut until

  abbrev end : Cut C
  end = after_turns kind cut ps

  -- a step takes what is due of all that is ever sent
  whole : (i m : ℕ) (y : C) (es : List Incoming) → MakesStep kind cut until i m y es
      → es ≡ due (hop cut) (λ j. from j end.sent) i (kind.was y) (kind.clock y) (count cut)
  whole i m y es step =
      let now = moment kind cut ps i m in
      let there = stands kind law until ps cut i m (leads kind law cut until cable sound) sound step.made in
      let clock_is : clock_at kind now i ≡ kind.clock y = number_found kind.clock now.consoles i y step.stands in
      let was_is : was_at kind now i ≡ kind.was y = number_found kind.was now.consoles i y step.stands in
      sym step.takes
      ∙ sym (due_of_history kind now (after_turns kind now (i ∷ there.rest)) i y clock_is was_is
      (λ j below apart. later_sent kind law until (i ∷ there.rest) now j there.leads there.sound) there.leads.2)
      ∙ ap (λ (d : Cut C). due (hop now) (λ j. from j d.sent) i (kind.was y) (kind.clock y) (count now)) there.end_is
      ∙ ap (λ (h : ℕ → ℕ → ℕ). due h (λ j. from j end.sent) i (kind.was y) (kind.clock y) (count now))
      (hop_same now cut there.delays_are)
      ∙ ap (due (hop cut) (λ j. from j end.sent) i (kind.was y) (kind.clock y)) there.count_is

  -- what a step tells is sent
  record Sends (j : ℕ) (signal : Signal) : Type 0 where
    before : List Signal
    after : List Signal
    sent : from j end.sent ≡ before ++ signal ∷ after

  sends : (j k : ℕ) (x : C) (ds : List Incoming) (signal : Signal) → MakesStep kind cut until j k x ds
      → (kind.next x ds).1 ≡ Some signal → Sends j signal
  sends j k x ds signal step tells =
      let one = made kind law cut until cable sound j k step.player step.made in
      let now = moment kind cut ps j k in
      let same = one-step kind law cut until cable sound j k one.x x (due_at kind now j) ds one.step step in
      let tells_now : (kind.next one.x (due_at kind now j)).1 ≡ Some signal =
      ap (λ (z : C). (kind.next z (due_at kind now j)).1) same.0
      ∙ ap (λ (d : List Incoming). (kind.next x d).1) same.1 ∙ tells in
      let more = later_moment kind law until ps cut j (suc k) (leads kind law cut until cable sound) sound in
      record {
        before = from j now.sent;
        after = more.rest;
        sent = more.all_is
            ∙ ap (λ (l : List Signal). l ++ more.rest)
            (one.sent_is ∙ ap (λ (o : Option Signal). from j now.sent ++ option_to_list o) tells_now)
            ∙ append_assoc (from j now.sent) (signal ∷ []) more.rest;
      }

  arrives : (j k i m : ℕ) (x y : C) (ds es : List Incoming) (signal : Signal) → MakesStep kind cut until j k x ds
      → (kind.next x ds).1 ≡ Some signal → MakesStep kind cut until i m y es → j ≢ i
      → kind.was y < signal.clock + hop cut j i → signal.clock + hop cut j i ≤ kind.clock y
      → StandsIn (incoming (hop cut j i) j signal) es
  arrives j k i m x y ds es signal step tells other apart after by_now =
      let sent = sends j k x ds signal step tells in
      let passes = is_due (kind.was y) (kind.clock y) in
      let one = incoming (hop cut j i) j signal in
      let here : IsIn one (arriving passes (hop cut j i) j (from j end.sent)) =
      subst (λ (l : List Signal). IsIn one (arriving passes (hop cut j i) j l)) (sym sent.sent)
      (arriving-has passes (hop cut j i) j signal sent.before sent.after
      (due_from_facts (kind.was y) (kind.clock y) (signal.clock + hop cut j i) after by_now)) in
      stands-in one es
      (subst (IsIn one) (sym (whole i m y es other))
      (arrivals-have (hop cut) (λ q. from q end.sent) i passes j one apart here (count cut) step.player))

  -- all that a player has sent after some of its steps
  abbrev WasToldBy : ℕ → Signal → Type 0
  WasToldBy j signal = (signal.clock < clock_at kind cut j) ⊎ IsTold kind cut until j signal

  told-some : (j : ℕ) (o : Option Signal) → ((signal : Signal) → o ≡ Some signal → WasToldBy j signal)
      → All (WasToldBy j) (option_to_list o)
  told-some j None each = all_nil (WasToldBy j)
  told-some j (Some signal) each = all_cons (WasToldBy j) signal [] (each signal refl) (all_nil (WasToldBy j))

  told-by : (j k : ℕ) → j < count cut → k ≤ count_of j ps → All (WasToldBy j) (from j (moment kind cut ps j k).sent)
  told-by j zero below within =
      subst (All (WasToldBy j))
      (sym (moment_none kind law until ps cut j (leads kind law cut until cable sound) sound).signals)
      (from_all (WasToldBy j) j cut.sent
      (all_map (IsSoundSignal kind cut) (λ (one : Sent). one.sender ≡ j → WasToldBy j one.signal) cut.sent
      (λ one is own. inl (let before = is.sent_before in let same = ap (clock_at kind cut) own in
      omega (arith, before, same)))
      sound.signals))
  told-by j (suc k) below within =
      let one = made kind law cut until cable sound j k below (omega (arith, within)) in
      let now = moment kind cut ps j k in
      subst (All (WasToldBy j)) (sym one.sent_is)
      (All-append (WasToldBy j) (from j now.sent) (option_to_list (kind.next one.x (due_at kind now j)).1)
      (told-by j k below (omega (arith, within)))
      (told-some j (kind.next one.x (due_at kind now j)).1
      (λ signal is. inr (record { k = k; x = one.x; dues = due_at kind now j; step = one.step; tells = is }))))

  was-sent : (i m : ℕ) (y : C) (es : List Incoming) → MakesStep kind cut until i m y es
      → All (WasSent kind cut until) es
  was-sent i m y es step =
      let passes = is_due (kind.was y) (kind.clock y) in
      subst (All (WasSent kind cut until)) (sym (whole i m y es step))
      (due_all (WasSent kind cut until) (hop cut) (λ j. from j end.sent) i passes (count cut) (λ j below apart.
      let all : All (WasToldBy j) (from j end.sent) =
      subst (λ (d : Cut C). All (WasToldBy j) (from j d.sent)) (moment_all kind ps cut j (count_of j ps) (omega arith))
      (told-by j (count_of j ps) below (omega arith)) in
      arriving_all (WasSent kind cut until) passes (hop cut j i) j (from j end.sent)
      (λ k d less e. all k d less)))

  pub passes-signals : PassesSignals kind cut until
  passes-signals = record { arrives = arrives; was_sent = was-sent }

pub signals : {C : Type 0} (kind : NodeKind C) → IsLawful kind → CarriesSignals kind
signals kind law cut until cable sound = passes-signals kind law cut until cable sound
