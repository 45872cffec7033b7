-- A console on the course of a transfer: it stays there until the end, tells nothing, and the words of the others come.
use Rattle.std.specs.Prelude.{All}
use Rattle.std.proofs.Common.{ℕ, zero, suc, ◌≡◌, ◌<◌, ◌≤◌, ◌⊎◌, Bool, true, List, ◌∷◌, ◌++◌, None, Some, refl, ap, sym, subst, ◌∙◌, inl, inr, arith}
use Rattle.std.proofs.lemmas.Bool.{cases_lt}
use Rattle.std.proofs.lemmas.List.Elements.{All-weaker}
use Rattle.gba_serial.specs.SerialUnit.{SerialUnit}
use Rattle.gba_serial.specs.Take.{taken}
use Rattle.gba_serial.specs.Tell.{outgoing, reply_told, silent}
use Rattle.gba_serial.specs.Steps.{all_written, fed, hear}
use Rattle.gba_serial.specs.End.{ended}
use Rattle.gba_serial.proofs.Going.{goes}
use Rattle.link_node.specs.Due.{InOrder, IsDue, Precedes}
use Rattle.link_node.specs.declared.signal.Incoming.{Incoming}
use Rattle.link_node.specs.declared.signal.Signal.{Signal}
use Rattle.link_order.specs.NodeKind.{IsLawful, NodeKind}
use Rattle.link_order.specs.Cut.{Cut}
use Rattle.link_order.proofs.Numbers.{same_or_apart}
use Rattle.link_steps.specs.Law.{ComesOfStep, HasSteps, MakesStep, PassesSignals}
use Rattle.gba_agreement.specs.Agreement.{AreLinked}
use Rattle.gba_agreement.specs.UnitView.{HasUnit, UnitView}
use Rattle.gba_agreement.proofs.Course.{Course, HasPlace, IsAlike, IsOn, IsWiredTo, alike-all_written, alike-silent, alike-then, is_on-running, on-alike, taken-on}
use Rattle.gba_agreement.proofs.Ends.{IsSilent, hear-is, until_end, until_end-append, until_end-early, until_end-on, until_end-place}
use Rattle.gba_agreement.proofs.Starting.{outgoing-replies}
use Rattle.gba_agreement.proofs.Lists.{all-after, pairs-after, pairs-before}

-- of player j's signals each arrives by a clock, or not before the end
abbrev pub IsPast : ℕ → ℕ → ℕ → Incoming → Type 0
IsPast end j arrival one = one.sender ≡ j → (one.arrival ≤ arrival) ⊎ (end ≤ one.arrival)

-- one of a list is the signal of player j that arrives at a clock, and it fills j's place
pub record Fills (c : Course) (j arrival : ℕ) (got : Bool) (word : ℕ) (dues : List Incoming) : Type 0 where
  pub one : Incoming
  pub earlier : List Incoming
  pub later : List Incoming
  pub split : dues ≡ earlier ++ one ∷ later
  pub from : one.sender ≡ j
  pub at : one.arrival ≡ arrival
  pub fills : (v : SerialUnit) → IsOn c v → HasPlace c.mode j got word (taken one v)

-- after it no other signal of j comes before the end
pub silent-after : (end j arrival : ℕ) (one other : Incoming) → one.sender ≡ j → one.arrival ≡ arrival
    → Precedes one other → IsPast end j arrival other → IsSilent end j other
silent-after end j arrival one other from at (inl less) past own =
    elim (past own) [ inl early ↦ absurd (omega (arith, at, less, early)) | inr late ↦ late ]
silent-after end j arrival one other from at (inr tie) past own = absurd (omega (arith, from, own, tie.1))

early-before : (end : ℕ) (one other : Incoming) → one.arrival < end → Precedes other one → other.arrival < end
early-before end one other early (inl less) = omega (arith, early, less)
early-before end one other early (inr tie) = omega (arith, early, tie.0)

pub both-all : {X : Type 0} (P Q R : X → Type 0) (xs : List X) → ((x : X) → P x → Q x → R x) → All P xs → All Q xs
    → All R xs
both-all P Q R xs f ps qs k d below = f _ (ps k d below) (qs k d below)

-- so a list with that signal fills j's place
filled-by : (c : Course) (j w : ℕ) (got : Bool) (one : Incoming) (earlier later : List Incoming) (u : SerialUnit)
    → IsOn c u → IsWiredTo c j → one.arrival < c.end → All (λ due. due.arrival < c.end) earlier
    → All (IsSilent c.end j) later → ((v : SerialUnit) → IsOn c v → HasPlace c.mode j got w (taken one v))
    → HasPlace c.mode j got w (until_end c.end (earlier ++ one ∷ later) u)
filled-by c j w got one earlier later u on wire early before silent fills =
    let v = until_end c.end earlier u in
    let there = until_end-on c earlier u on in
    subst (HasPlace c.mode j got w)
    (sym (until_end-append c.end earlier (one ∷ later) u before ∙ until_end-early c.end one later v early))
    (until_end-place c j w got later (taken one v) (taken-on c one v there) wire silent (fills v there))

pub place-fill : (c : Course) (j arrival w : ℕ) (got : Bool) (dues : List Incoming) (u : SerialUnit) → IsOn c u
    → IsWiredTo c j → arrival < c.end → InOrder dues → All (IsPast c.end j arrival) dues → Fills c j arrival got w dues
    → HasPlace c.mode j got w (until_end c.end dues u)
place-fill c j arrival w got dues u on wire soon order past has =
    let one = has.one in
    let early : one.arrival < c.end = omega (arith, soon, has.at) in
    let ordered : InOrder (has.earlier ++ one ∷ has.later) = subst InOrder has.split order in
    let pasts : All (IsPast c.end j arrival) (has.earlier ++ one ∷ has.later) =
    subst (All (IsPast c.end j arrival)) has.split past in
    subst (λ list. HasPlace c.mode j got w (until_end c.end list u)) (sym has.split)
    (filled-by c j w got one has.earlier has.later u on wire early
    (All-weaker (λ x. Precedes x one) (λ due. due.arrival < c.end) (λ x before. early-before c.end one x early before)
    has.earlier (pairs-before Precedes has.earlier one has.later ordered))
    (both-all (Precedes one) (IsPast c.end j arrival) (IsSilent c.end j) has.later
    (λ x before far. silent-after c.end j arrival one x has.from has.at before far)
    (pairs-after Precedes has.earlier one has.later ordered)
    (all-after (IsPast c.end j arrival) has.earlier one has.later pasts))
    has.fills)

-- what all of this rests on: the laws of the consoles, of their units, and of the trace
pub record Given {C : Type 0} (kind : NodeKind C) (view : UnitView C) (cut : Cut C) (until : ℕ) : Type 0 where
  pub law : IsLawful kind
  pub has : HasUnit kind view
  pub linked : AreLinked kind view cut
  pub steps : HasSteps kind cut until
  pub signals : PassesSignals kind cut until

-- a step tells a reply
pub record SendsReply {C : Type 0} (kind : NodeKind C) (x : C) (dues : List Incoming) (word : ℕ) : Type 0 where
  pub signal : Signal
  pub tells : (kind.next x dues).1 ≡ Some signal
  pub reply : signal.reply ≡ Some (reply_told word)

module _ {C : Type 0} {kind : NodeKind C} {view : UnitView C} {cut : Cut C} {until : ℕ}
    (given : Given kind view cut until) where
  -- what a step does that leaves its unit on a course, once the unit is v and these signals are left to take
  pub record GoesFrom (x : C) (dues : List Incoming) (v w : SerialUnit) : Type 0 where
    pub is_on : view.is_on (kind.next x dues).0 ≡ true
    pub alike : IsAlike w (view.unit (kind.next x dues).0)
    pub replies : (word : ℕ) → v.reply ≡ Some word → SendsReply kind x dues word

  have-arrived : (was clock : ℕ) (dues : List Incoming) → All (IsDue was clock) dues
      → All (λ due. due.arrival ≤ clock) dues
  have-arrived was clock dues due =
      All-weaker (IsDue was clock) (λ due. due.arrival ≤ clock) (λ one is. is.by_now) dues due

  come-before : (end was clock : ℕ) (dues : List Incoming) → clock < end → All (IsDue was clock) dues
      → All (λ due. due.arrival < end) dues
  come-before end was clock dues before due =
      All-weaker (IsDue was clock) (λ due. due.arrival < end) (λ one is. omega (arith, before, is.by_now)) dues due

  pub goes-from : (c : Course) (x : C) (dues later : List Incoming) (v : SerialUnit) → view.is_on x ≡ true
      → fed dues (view.unit x) ≡ fed later v → IsOn c v → kind.clock x < c.end
      → All (IsDue (kind.was x) (kind.clock x)) later → GoesFrom x dues v (until_end c.end later v)
  goes-from c x dues later v is_on same on before due =
      let clock = kind.clock x in
      let touches = given.has.touches x dues is_on in
      let writes = touches.writes in
      let w = until_end c.end later v in
      let heard : hear clock dues (view.unit x) ≡ hear clock later v = ap (ended clock) same in
      let heard_is : hear clock later v ≡ w =
      hear-is c clock later v on before (come-before c.end (kind.was x) clock later before due) in
      let written : IsAlike w (all_written clock writes w) =
      alike-all_written clock writes w (is_on-running c w (until_end-on c later v on)) in
      let end_is = on.end_is in
      let going = goes.goes_on clock later writes v on.run on.runs (omega (arith, before, end_is))
      (have-arrived (kind.was x) clock later due) in
      let after : touches.after ≡ all_written clock writes (hear clock later v) =
      touches.after_is ∙ ap (all_written clock writes) heard in
      record {
        is_on = touches.stays;
        alike = subst (IsAlike w) (sym (touches.unit_is ∙ ap silent (after ∙ ap (all_written clock writes) heard_is)))
            (alike-then w (all_written clock writes w) (silent (all_written clock writes w)) written
            (alike-silent (all_written clock writes w)));
        replies = λ word posted.
            let told =
            outgoing-replies clock word (all_written clock writes (hear clock later v)) (going.reply ∙ posted) in
            record {
              signal = told.signal;
              tells = touches.told_is ∙ ap (outgoing clock) after ∙ told.told_is;
              reply = told.reply_is;
            };
      }

  -- a step of a console on its course, before the end
  pub record GoesOn (c : Course) (x : C) (dues : List Incoming) : Type 0 where
    pub on : view.is_on (kind.next x dues).0 ≡ true
    pub alike : IsAlike (until_end c.end dues (view.unit x)) (view.unit (kind.next x dues).0)
    pub tells : (kind.next x dues).1 ≡ None

  pub goes-on : (c : Course) (i m : ℕ) (x : C) (dues : List Incoming) → MakesStep kind cut until i m x dues
      → view.is_on x ≡ true → IsOn c (view.unit x) → kind.clock x < c.end → GoesOn c x dues
  goes-on c i m x dues step is_on on before =
      let clock = kind.clock x in
      let touches = given.has.touches x dues is_on in
      let due = (given.steps.sound i m x dues step).due in
      let there = goes-from c x dues dues (view.unit x) is_on refl on before due in
      let end_is = on.end_is in
      let quiet =
      goes.tells_nothing clock dues touches.writes (view.unit x) on.run on.runs (omega (arith, before, end_is))
      (have-arrived (kind.was x) clock dues due) in
      record {
        on = there.is_on;
        alike = there.alike;
        tells = touches.told_is ∙ ap (outgoing clock) touches.after_is
            ∙ ap (λ u. outgoing clock (all_written clock touches.writes (hear clock dues u))) (sym (given.has.quiet x))
            ∙ quiet;
      }

  -- a step that leaves its console on a course that ends later
  pub record Enters (c : Course) (i : ℕ) : Type 0 where
    pub m : ℕ
    pub x : C
    pub dues : List Incoming
    pub step : MakesStep kind cut until i m x dues
    pub before : kind.clock x < c.end
    pub is_on : view.is_on (kind.next x dues).0 ≡ true
    pub on : IsOn c (view.unit (kind.next x dues).0)

  -- the numbers of steps go by their clocks
  pub clock-later : (i k m : ℕ) (x y : C) (ds es : List Incoming) → MakesStep kind cut until i k x ds
      → MakesStep kind cut until i m y es → kind.clock x < kind.clock y → k < m
  clock-later i k m x y ds es one other less =
      elim (cases_lt k m) [
        | inl below ↦ below
        | inr above ↦ elim (same_or_apart k m) [
          | inl same ↦
              let at_k : MakesStep kind cut until i k y es =
              subst (λ n. MakesStep kind cut until i n y es) (sym same) other in
              let clocks : kind.clock x ≡ kind.clock y = ap kind.clock (given.steps.one i k x y ds es one at_k).0 in
              absurd (omega (arith, less, clocks))
          | inr apart ↦
              let late = given.steps.later i m k y x es ds other one (omega (arith, above, apart)) in
              let rises = (given.steps.sound i k x ds one).rises in
              absurd (omega (arith, less, late, rises))
        ]
      ]

  -- the console stays on the course
  pub record Follows (c : Course) (y : C) : Type 0 where
    pub is_on : view.is_on y ≡ true
    pub on : IsOn c (view.unit y)

  enters-next : (c : Course) (i : ℕ) (e : Enters c i) (y : C) → y ≡ (kind.next e.x e.dues).0 → Follows c y
  enters-next c i e y is = subst (Follows c) (sym is) (record { is_on = e.is_on; on = e.on })

  goes-next : (c : Course) (x y : C) (dues : List Incoming) → IsOn c (view.unit x) → GoesOn c x dues
      → y ≡ (kind.next x dues).0 → Follows c y
  goes-next c x y dues on going is =
      subst (Follows c) (sym is) (record {
        is_on = going.on;
        on = on-alike c (until_end c.end dues (view.unit x)) (view.unit (kind.next x dues).0) going.alike
            (until_end-on c dues (view.unit x) on);
      })

  -- a console after the entry comes of it, or of a later step
  pub comes-of : (c : Course) (i : ℕ) (e : Enters c i) (l : ℕ) (y : C) (back : ComesOfStep kind cut until i l y)
      → e.m < suc l → (y ≡ (kind.next e.x e.dues).0) ⊎ (e.m < l)
  comes-of c i e l y back later =
      elim (same_or_apart l e.m) [
        | inl same ↦
            let at_m : MakesStep kind cut until i e.m back.x back.dues =
            subst (λ n. MakesStep kind cut until i n back.x back.dues) same back.step in
            let one = given.steps.one i e.m back.x e.x back.dues e.dues at_m e.step in
            inl (back.next_is ∙ ap (λ (z : C). (kind.next z back.dues).0) one.0
            ∙ ap (λ (d : List Incoming). (kind.next e.x d).0) one.1)
        | inr apart ↦ inr (omega (arith, later, apart))
      ]

  pub moved : (i l : ℕ) (y : C) (back : ComesOfStep kind cut until i l y) → kind.was y ≡ kind.clock back.x
  moved i l y back = ap kind.was back.next_is ∙ given.law.moves back.x back.dues

  pub follows : (c : Course) (i : ℕ) (e : Enters c i) (l : ℕ) (y : C) (es : List Incoming)
      → MakesStep kind cut until i l y es → e.m < l → kind.was y < c.end → Follows c y
  follows c i e zero y es step later before = absurd (omega (arith, later))
  follows c i e (suc l) y es step later before =
      let back = given.steps.further i l y es step in
      let was_is = moved i l y back in
      elim (comes-of c i e l y back later) [
        | inl is ↦ enters-next c i e y is
        | inr after ↦
            let rises = (given.steps.sound i l back.x back.dues back.step).rises in
            let there = follows c i e l back.x back.dues back.step after (omega (arith, before, was_is, rises)) in
            goes-next c back.x y back.dues there.on
            (goes-on c i l back.x back.dues back.step there.is_on there.on (omega (arith, before, was_is))) back.next_is
      ]

  -- and tells nothing
  pub silent-on : (c : Course) (i : ℕ) (e : Enters c i) (l : ℕ) (y : C) (es : List Incoming)
      → MakesStep kind cut until i l y es → kind.clock e.x < kind.clock y → kind.clock y < c.end
      → (kind.next y es).1 ≡ None
  silent-on c i e l y es step later before =
      let rises = (given.steps.sound i l y es step).rises in
      let there =
      follows c i e l y es step (clock-later i e.m l e.x y e.dues es e.step step later)
      (omega (arith, before, rises)) in
      (goes-on c i l y es step there.is_on there.on before).tells
