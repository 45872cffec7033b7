-- The words of a transfer come to each console on its course before the end, and the transfer is recorded there.
use Rattle.std.specs.Prelude.{All, IfSome}
use Rattle.std.proofs.Common.{ℕ, zero, suc, ◌≡◌, ◌+◌, ◌<◌, ◌≤◌, ◌⊎◌, Bool, List, [], ◌∷◌, Option, None, Some, if◌then◌else◌, ap, sym, subst, ◌∙◌, inl, inr, arith}
use Rattle.std.proofs.lemmas.Bool.{cases_lt}
use Rattle.gba_serial.specs.End.{transfer_of}
use Rattle.gba_serial.specs.Steps.{ends}
use Rattle.gba_serial.specs.declared.transfer.Running.{Running}
use Rattle.link_node.specs.Due.{IsDue}
use Rattle.link_node.specs.declared.signal.Incoming.{Incoming}
use Rattle.link_node.specs.declared.signal.Signal.{Signal}
use Rattle.link_order.specs.NodeKind.{NodeKind}
use Rattle.link_order.specs.Cut.{Cut, clock_at, hop}
use Rattle.link_steps.specs.Law.{IsFromPeer, IsTold, MakesStep, WasSent}
use Rattle.gba_agreement.specs.UnitView.{UnitView, ends_in}
use Rattle.gba_agreement.specs.Agreement.{ReachesEnd}
use Rattle.gba_agreement.proofs.Course.{Course, HasPlace, IsOn, IsWiredTo, place-alike}
use Rattle.gba_agreement.proofs.Ends.{IsSilent, ends-once, until_end, until_end-on, until_end-place}
use Rattle.gba_agreement.proofs.Following.{Enters, Fills, Given, IsPast, both-all, clock-later, comes-of, follows, goes-on, moved, place-fill, silent-on}

module _ {C : Type 0} {kind : NodeKind C} {view : UnitView C} {cut : Cut C} {until : ℕ}
    (given : Given kind view cut until) where
  -- what a step tells bears its clock
  pub told-when : (signal : Signal) (x : C) (dues : List Incoming) → (kind.next x dues).1 ≡ Some signal
      → signal.clock ≡ kind.clock x
  told-when signal x dues tells =
      let P : Option Signal → Type 0 = λ o. IfSome o (λ s. s.clock ≡ kind.clock x) in
      subst P tells (given.law.bears x dues)

  none-some : {P : Type 0} (o : Option Signal) (signal : Signal) → o ≡ None → o ≡ Some signal → P
  none-some o signal none some = let both : None ≡ Some signal = sym none ∙ some in cc

  -- a signal of a console on its course: it is that of its entry or an earlier one, or it comes from the end on
  sent-past : (c : Course) (j : ℕ) (e : Enters given c j) (delay : ℕ) (signal : Signal)
      → (signal.clock < clock_at kind cut j) ⊎ IsTold kind cut until j signal
      → (signal.clock + delay ≤ kind.clock e.x + delay) ⊎ (c.end ≤ signal.clock + delay)
  sent-past c j e delay signal (inl before) =
      let begun = (given.steps.sound j e.m e.x e.dues e.step).begun in inl (omega (arith, before, begun))
  sent-past c j e delay signal (inr told) =
      let when = told-when signal told.x told.dues told.tells in
      elim (cases_lt (kind.clock e.x) (kind.clock told.x)) [
        | inl later ↦ elim (cases_lt (kind.clock told.x) c.end) [
          | inl soon ↦ none-some (kind.next told.x told.dues).1 signal
              (silent-on given c j e told.k told.x told.dues told.step later soon) told.tells
          | inr late ↦ inr (omega (arith, when, late))
        ]
        | inr early ↦ inl (omega (arith, when, early))
      ]

  pub told-past : (c : Course) (j : ℕ) (e : Enters given c j) (k l : ℕ) (y : C) (es : List Incoming)
      → MakesStep kind cut until k l y es → All (IsPast c.end j (kind.clock e.x + hop cut j k)) es
  told-past c j e k l y es step =
      both-all (WasSent kind cut until) (IsFromPeer cut k) (IsPast c.end j (kind.clock e.x + hop cut j k)) es
      (λ one sent peer own.
      let delay : hop cut one.sender k ≡ hop cut j k = ap (λ n. hop cut n k) own in
      let arrives = peer.arrives in
      let from_j : (one.signal.clock < clock_at kind cut j) ⊎ IsTold kind cut until j one.signal =
      subst (λ n. (one.signal.clock < clock_at kind cut n) ⊎ IsTold kind cut until n one.signal) own sent in
      elim (sent-past c j e (hop cut j k) one.signal from_j) [
        | inl early ↦ inl (omega (arith, early, arrives, delay))
        | inr late ↦ inr (omega (arith, late, arrives, delay))
      ])
      (given.signals.was_sent k l y es step) (given.steps.sound k l y es step).from_peers

  -- The word of player j comes to player k, which has entered at a clock: by its last signal before the end,
  -- or by nothing.
  pub record Comes (c : Course) (k entry j arrival : ℕ) (got : Bool) (word : ℕ) : Type 0 where
    pub wired : IsWiredTo c j
    pub early : arrival < c.end
    pub past : (l : ℕ) (y : C) (es : List Incoming) → MakesStep kind cut until k l y es
        → All (IsPast c.end j arrival) es
    pub here : (l : ℕ) (y : C) (es : List Incoming) → MakesStep kind cut until k l y es → entry ≤ kind.was y
        → kind.was y < arrival → arrival ≤ kind.clock y → Fills c j arrival got word es

  past-silent : (end j arrival was clock : ℕ) (es : List Incoming) → arrival ≤ was → All (IsDue was clock) es
      → All (IsPast end j arrival) es → All (IsSilent end j) es
  past-silent end j arrival was clock es over due past =
      both-all (IsDue was clock) (IsPast end j arrival) (IsSilent end j) es
      (λ one is far own. elim (far own) [
        | inl early ↦ absurd (omega (arith, over, is.after_last, early))
        | inr late ↦ late
      ]) due past

  -- a step of k on its course
  place-step : (c : Course) (k entry j arrival : ℕ) (got : Bool) (word : ℕ) → Comes c k entry j arrival got word
      → (l : ℕ) (y : C) (es : List Incoming) → MakesStep kind cut until k l y es → entry ≤ kind.was y
      → IsOn c (view.unit y) → (arrival ≤ kind.was y → HasPlace c.mode j got word (view.unit y))
      → arrival ≤ kind.clock y → HasPlace c.mode j got word (until_end c.end es (view.unit y))
  place-step c k entry j arrival got word comes l y es step after on before by_now =
      let sound = given.steps.sound k l y es step in
      let past = comes.past l y es step in
      elim (cases_lt (kind.was y) arrival) [
        | inl now ↦ place-fill c j arrival word got es (view.unit y) on comes.wired comes.early sound.ordered past
            (comes.here l y es step after now by_now)
        | inr over ↦ until_end-place c j word got es (view.unit y) on comes.wired
            (past-silent c.end j arrival (kind.was y) (kind.clock y) es over sound.due past) (before over)
      ]

  -- the place of j in the unit before each later step, once the word has come
  places : (c : Course) (k : ℕ) (e : Enters given c k) (j arrival : ℕ) (got : Bool) (word : ℕ)
      → Comes c k (kind.clock e.x) j arrival got word
      → (arrival ≤ kind.clock e.x → HasPlace c.mode j got word (view.unit (kind.next e.x e.dues).0))
      → (l : ℕ) (y : C) (es : List Incoming) → MakesStep kind cut until k l y es → e.m < l → kind.was y < c.end
      → arrival ≤ kind.was y → HasPlace c.mode j got word (view.unit y)
  places c k e j arrival got word comes base zero y es step later before over = absurd (omega (arith, later))
  places c k e j arrival got word comes base (suc l) y es step later before over =
      let P : C → Type 0 = λ z. HasPlace c.mode j got word (view.unit z) in
      let back = given.steps.further k l y es step in
      let was_is = moved given k l y back in
      elim (comes-of given c k e l y back later) [
        | inl is ↦
            let same : kind.was y ≡ kind.clock e.x = ap kind.was is ∙ given.law.moves e.x e.dues in
            subst P (sym is) (base (omega (arith, over, same)))
        | inr after ↦
            let x = back.x in
            let ds = back.dues in
            let rises = (given.steps.sound k l x ds back.step).rises in
            let soon : kind.was x < c.end = omega (arith, before, was_is, rises) in
            let there = follows given c k e l x ds back.step after soon in
            let going = goes-on given c k l x ds back.step there.is_on there.on (omega (arith, before, was_is)) in
            let entry = given.steps.later k e.m l e.x x e.dues ds e.step back.step after in
            let ih = places c k e j arrival got word comes base l x ds back.step after soon in
            let filled = place-step c k (kind.clock e.x) j arrival got word comes l x ds back.step entry there.on ih
            (omega (arith, over, was_is)) in
            subst P (sym back.next_is)
            (place-alike c.mode j got word (until_end c.end ds (view.unit x)) (view.unit (kind.next x ds).0)
            going.alike filled)
      ]

  -- the step that reaches the end: the unit is on the course, the words have come, and the transfer is recorded
  reaches-later : (c : Course) (k : ℕ) (e : Enters given c k) (l : ℕ) (y : C) (es : List Incoming)
      → ReachesEnd kind cut until k l c.end y es → e.m < l
  reaches-later c k e l y es reaches =
      clock-later given k e.m l e.x y e.dues es e.step reaches.step (omega (arith, e.before, reaches.by_now))

  pub at-end : (c : Course) (k : ℕ) (e : Enters given c k) (j arrival : ℕ) (got : Bool) (word : ℕ)
      → Comes c k (kind.clock e.x) j arrival got word
      → (arrival ≤ kind.clock e.x → HasPlace c.mode j got word (view.unit (kind.next e.x e.dues).0))
      → (l : ℕ) (y : C) (es : List Incoming) → ReachesEnd kind cut until k l c.end y es
      → HasPlace c.mode j got word (until_end c.end es (view.unit y))
  at-end c k e j arrival got word comes base l y es reaches =
      let later = reaches-later c k e l y es reaches in
      let there = follows given c k e l y es reaches.step later reaches.before in
      place-step c k (kind.clock e.x) j arrival got word comes l y es reaches.step
      (given.steps.later k e.m l e.x y e.dues es e.step reaches.step later) there.on
      (places c k e j arrival got word comes base l y es reaches.step later reaches.before)
      (omega (arith, comes.early, reaches.by_now))

  pub record RecordsAt (c : Course) (y : C) (es : List Incoming) : Type 0 where
    pub on : IsOn c (until_end c.end es (view.unit y))
    pub run : Running
    pub runs : (until_end c.end es (view.unit y)).run ≡ Some run
    pub only : ends_in kind view y es ≡ transfer_of run (until_end c.end es (view.unit y)) ∷ []

  pub records-at : (c : Course) (k : ℕ) (e : Enters given c k) (l : ℕ) (y : C) (es : List Incoming)
      → ReachesEnd kind cut until k l c.end y es → RecordsAt c y es
  records-at c k e l y es reaches =
      let later = reaches-later c k e l y es reaches in
      let there = follows given c k e l y es reaches.step later reaches.before in
      let sound = given.steps.sound k l y es reaches.step in
      let ends_so =
      ends-once c (kind.was y) (kind.clock y) es (view.unit y) there.on reaches.by_now sound.short sound.due in
      record {
        on = until_end-on c es (view.unit y) there.on;
        run = ends_so.run;
        runs = ends_so.runs;
        only = ap (λ test. if test then ends (kind.clock y) es (view.unit y) else []) there.is_on ∙ ends_so.only;
      }
