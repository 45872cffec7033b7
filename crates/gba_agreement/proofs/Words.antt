-- The words of a transfer at its end: the starter's, that of each console that answers, the own one, and no other.
use Rattle.std.specs.Prelude.{All}
use Rattle.std.proofs.Common.{ℕ, ◌≡◌, ◌≢◌, ◌+◌, ◌<◌, ◌≤◌, ◌^◌, ◌⊎◌, Bool, true, false, List, ◌∷◌, ◌++◌, Some, refl, ap, sym, subst, ◌∙◌, inl, inr, arith}
use Rattle.std.proofs.lemmas.List.Elements.{All-weaker}
use Rattle.gba_serial.specs.Timing.{cut_word, is_multi, word_width}
use Rattle.gba_serial.specs.SerialUnit.{SerialUnit}
use Rattle.gba_serial.specs.Take.{taken}
use Rattle.gba_serial.specs.Tell.{reply_told}
use Rattle.gba_serial.specs.End.{ended}
use Rattle.gba_serial.specs.Steps.{fed}
use Rattle.link_node.specs.Due.{InOrder, Precedes}
use Rattle.link_node.specs.declared.signal.Incoming.{Incoming}
use Rattle.link_node.specs.declared.signal.LinkMode.{LinkMode}
use Rattle.link_node.specs.declared.signal.Signal.{Signal}
use Rattle.link_node.specs.declared.signal.Start.{Start}
use Rattle.link_order.specs.NodeKind.{NodeKind}
use Rattle.link_order.proofs.Numbers.{same_or_apart}
use Rattle.link_order.specs.Due.{incoming}
use Rattle.link_order.specs.Cut.{Cut, count, hop}
use Rattle.link_steps.specs.Law.{IsFromPeer, MakesStep, StandsIn}
use Rattle.gba_agreement.specs.UnitView.{UnitView}
use Rattle.gba_agreement.specs.Agreement.{Meets, ReachesEnd}
use Rattle.gba_agreement.proofs.Course.{Course, HasPlace, IsHeardBy, IsWiredTo, place-alike, taken-fills}
use Rattle.gba_agreement.proofs.Ends.{IsSilent, until_end, until_end-place}
use Rattle.gba_agreement.proofs.Lists.{all-after, pairs-after, pairs-rest, stands-after}
use Rattle.gba_agreement.proofs.Following.{Enters, Fills, Given, IsPast, both-all, place-fill, silent-after}
use Rattle.gba_agreement.proofs.Coming.{at-end, told-past, told-when}
use Rattle.gba_agreement.proofs.Entering.{Answers, Opens, course_of, told-small}

module _ {C : Type 0} {kind : NodeKind C} {view : UnitView C} {cut : Cut C} {until : ℕ}
    (given : Given kind view cut until) where
  -- no step of player k takes a signal of player j
  abbrev pub NeverTakes : ℕ → ℕ → Type 0
  NeverTakes k j =
      (l : ℕ) (y : C) (es : List Incoming) → MakesStep kind cut until k l y es → All (λ one. one.sender ≢ j) es

  -- what every step of player k that reaches the end finds in the place of player j
  abbrev pub Finds : LinkMode → ℕ → ℕ → ℕ → Bool → ℕ → Type 0
  Finds mode end k j got word =
      (l : ℕ) (y : C) (es : List Incoming) → ReachesEnd kind cut until k l end y es
      → HasPlace mode j got word (until_end end es (view.unit y))

  -- a place that no signal comes to stays: the own one, and those past the last console
  pub kept-at-end : (c : Course) (k : ℕ) (e : Enters given c k) (j : ℕ) (got : Bool) (word : ℕ) → IsWiredTo c j
      → NeverTakes k j → HasPlace c.mode j got word (view.unit (kind.next e.x e.dues).0)
      → Finds c.mode c.end k j got word
  kept-at-end c k e j got word wired never place =
      at-end given c k e j 0 got word (record {
        wired = wired;
        early = let before = e.before in omega (arith, before);
        past = λ l y es step.
            All-weaker (λ one. one.sender ≢ j) (IsPast c.end j 0) (λ one other own. absurd (other own)) es
            (never l y es step);
        here = λ l y es step entry after by_now. absurd (omega (arith, after));
      }) (λ over. place)

  pub own-never : (k : ℕ) → NeverTakes k k
  own-never k l y es step =
      All-weaker (IsFromPeer cut k) (λ one. one.sender ≢ k) (λ one peer. peer.other) es
      (given.steps.sound k l y es step).from_peers

  pub past-never : (j k : ℕ) → count cut ≤ j → NeverTakes k j
  past-never j k past l y es step =
      All-weaker (IsFromPeer cut k) (λ one. one.sender ≢ j)
      (λ one peer own. let below = peer.player in absurd (omega (arith, past, own, below))) es
      (given.steps.sound k l y es step).from_peers

  module _ (p end : ℕ) (s : Signal) (start : Start) (o : Opens given p end s start) where
    starter-past : (i l : ℕ) (y : C) (es : List Incoming) → MakesStep kind cut until i l y es
        → All (IsPast end p (s.clock + hop cut p i)) es
    starter-past i l y es step =
        subst (λ clock. All (IsPast end p (clock + hop cut p i)) es) (sym o.clock_is)
        (told-past given (course_of cut s.mode end true start.word p) p o.entry i l y es step)

    -- places that stand when a step takes the start stay in that step
    pub kept-in-step : (i word : ℕ) (a : Answers given p i end s start word) (j : ℕ) (got : Bool) (w : ℕ)
        → IsWiredTo (course_of cut s.mode end false word i) j → All (IsSilent end j) a.later
        → HasPlace s.mode j got w a.v → HasPlace s.mode j got w (view.unit (kind.next a.entry.x a.entry.dues).0)
    kept-in-step i word a j got w wired silent place =
        place-alike s.mode j got w (until_end end a.later a.v) (view.unit (kind.next a.entry.x a.entry.dues).0) a.alike
        (until_end-place (course_of cut s.mode end false word i) j w got a.later a.v a.v_on wired silent place)

    answers-order : (i word : ℕ) (a : Answers given p i end s start word)
        → InOrder (a.earlier ++ incoming (hop cut p i) p s ∷ a.later)
    answers-order i word a =
        subst InOrder a.split (given.steps.sound i a.entry.m a.entry.x a.entry.dues a.entry.step).ordered

    pub answers-later : (P : Incoming → Type 0) (i word : ℕ) (a : Answers given p i end s start word)
        → All P a.entry.dues → All P a.later
    answers-later P i word a all =
        all-after P a.earlier (incoming (hop cut p i) p s) a.later (subst (All P) a.split all)

    -- the starter's place on a console that answers
    pub from-starter : (i word : ℕ) → Answers given p i end s start word → (is_multi s.mode ≡ false → p + i ≡ 1)
        → Finds s.mode end i p true start.word
    from-starter i word a wired =
        let one = incoming (hop cut p i) p s in
        let arrival = s.clock + hop cut p i in
        let before = a.entry.before in
        let begins = a.begins_after in
        let silent : All (IsSilent end p) a.later =
        both-all (Precedes one) (IsPast end p arrival) (IsSilent end p) a.later
        (λ other first far. silent-after end p arrival one other refl refl first far)
        (pairs-after Precedes a.earlier one a.later (answers-order i word a))
        (answers-later (IsPast end p arrival) i word a
        (starter-past i a.entry.m a.entry.x a.entry.dues a.entry.step)) in
        at-end given (course_of cut s.mode end false word i) i a.entry p arrival true start.word (record {
          wired = wired;
          early = omega (arith, before, begins);
          past = starter-past i;
          here = λ l y es step entry after by_now. absurd (omega (arith, entry, after, begins));
        })
        (λ over. kept-in-step i word a p true start.word wired silent a.from_starter)

    -- the place of a console that answers, on any other one
    module _ (j w : ℕ) (a : Answers given p j end s start w) (small : w < 2 ^ word_width s.mode) where
      -- where its answer arrives
      abbrev pub arrives-at : ℕ → ℕ
      arrives-at k = kind.clock a.entry.x + hop cut j k

      replied : a.sends.signal.clock ≡ kind.clock a.entry.x
      replied = told-when given a.sends.signal a.entry.x a.entry.dues a.sends.tells

      answer-past : (k l : ℕ) (y : C) (es : List Incoming) → MakesStep kind cut until k l y es
          → All (IsPast end j (arrives-at k)) es
      answer-past k l y es step = told-past given (course_of cut s.mode end false w j) j a.entry k l y es step

      reply-fills : (k : ℕ) (c : Course) → c.mode ≡ s.mode → IsHeardBy c j → (es : List Incoming)
          → StandsIn (incoming (hop cut j k) j a.sends.signal) es → Fills c j (arrives-at k) true w es
      reply-fills k c mode_is heard es stands = record {
        one = incoming (hop cut j k) j a.sends.signal;
        earlier = stands.earlier;
        later = stands.later;
        split = stands.split;
        from = refl;
        at = ap (λ clock. clock + hop cut j k) replied;
        fills = λ v on. subst (λ word. HasPlace c.mode j true word (taken (incoming (hop cut j k) j a.sends.signal) v))
            (ap (λ m. cut_word m (reply_told w)) mode_is ∙ told-small s.mode w small)
            (taken-fills c (incoming (hop cut j k) j a.sends.signal) (reply_told w) v on heard a.sends.reply);
      }

      reply-stands : (k l : ℕ) (y : C) (es : List Incoming) → MakesStep kind cut until k l y es → j ≢ k
          → kind.was y < arrives-at k → arrives-at k ≤ kind.clock y
          → StandsIn (incoming (hop cut j k) j a.sends.signal) es
      reply-stands k l y es step apart after by_now =
          given.signals.arrives j a.entry.m k l a.entry.x y a.entry.dues es a.sends.signal a.entry.step a.sends.tells
          step apart (omega (arith, after, replied)) (omega (arith, by_now, replied))

      pub from-answer : (k : ℕ) (first : Bool) (sent : ℕ) (e : Enters given (course_of cut s.mode end first sent k) k)
          → j ≢ k → IsHeardBy (course_of cut s.mode end first sent k) j → arrives-at k < end
          → (arrives-at k ≤ kind.clock e.x → HasPlace s.mode j true w (view.unit (kind.next e.x e.dues).0))
          → Finds s.mode end k j true w
      from-answer k first sent e apart heard early base =
          let c = course_of cut s.mode end first sent k in
          at-end given c k e j (arrives-at k) true w (record {
            wired = heard.wired;
            early = early;
            past = answer-past k;
            here = λ l y es step entry after by_now.
                reply-fills k c refl heard es (reply-stands k l y es step apart after by_now);
          }) base

      -- an answer that comes in the step in which k takes the start comes after the start
      pub answer-in-step : (k word : ℕ) (b : Answers given p k end s start word) → j ≢ k → p < j
          → IsHeardBy (course_of cut s.mode end false word k) j → s.clock + hop cut p k ≤ arrives-at k
          → arrives-at k < end → arrives-at k ≤ kind.clock b.entry.x
          → HasPlace s.mode j true w (view.unit (kind.next b.entry.x b.entry.dues).0)
      answer-in-step k word b apart larger heard after_start early by_now =
          let c = course_of cut s.mode end false word k in
          let step = b.entry.step in
          let one = incoming (hop cut p k) p s in
          let other = incoming (hop cut j k) j a.sends.signal in
          let before = b.began_before in
          let there =
          reply-stands k b.entry.m b.entry.x b.entry.dues step apart (omega (arith, before, after_start)) by_now in
          let order = answers-order k word b in
          let first : Precedes one other = precedes (s.clock + hop cut p k) (a.sends.signal.clock + hop cut j k)
          (omega (arith, after_start, replied)) in
          let behind : StandsIn other b.later =
          stands-after b.earlier one b.later there.earlier other there.later (sym b.split ∙ there.split) order first in
          place-alike s.mode j true w (until_end end b.later b.v) (view.unit (kind.next b.entry.x b.entry.dues).0)
          b.alike (place-fill c j (arrives-at k) w true b.later b.v b.v_on heard.wired early
          (pairs-rest Precedes b.earlier one b.later order)
          (answers-later (IsPast end j (arrives-at k)) k word b (answer-past k b.entry.m b.entry.x b.entry.dues step))
          (reply-fills k c refl heard b.later behind))
        where
          precedes : (first second : ℕ) → first ≤ second → (first < second) ⊎ ((first ≡ second) × (p < j))
          precedes first second le = elim (same_or_apart first second) [
            | inl same ↦ inr (same, larger)
            | inr differ ↦ inl (omega (arith, le, differ))
          ]

  -- a console that takes a signal
  pub record IsMet (p : ℕ) (s : Signal) (i : ℕ) : Type 0 where
    pub m : ℕ
    pub x : C
    pub u : SerialUnit
    pub met : Meets kind view cut until p s i m x u

  -- every console takes a signal that is told early enough
  pub meets : (p n : ℕ) (xp : C) (dp : List Incoming) (s : Signal) → MakesStep kind cut until p n xp dp
      → (kind.next xp dp).1 ≡ Some s → (i : ℕ) → i < count cut → p ≢ i → s.clock + hop cut p i + 512 ≤ until
      → IsMet p s i
  meets p n xp dp s step tells i below apart soon =
      let clock_is = told-when given s xp dp tells in
      let begun = (given.steps.sound p n xp dp step).begun in
      let before = given.linked.in_time i p below step.player (λ e. apart (sym e)) in
      let takes =
      given.steps.taken_in_time i (s.clock + hop cut p i) below (omega (arith, clock_is, begun, before)) soon in
      let stands =
      given.signals.arrives p n i takes.k xp takes.x dp takes.dues s step tells takes.step apart takes.after
      takes.by_now in
      record {
        m = takes.k;
        x = takes.x;
        u = ended (s.clock + hop cut p i) (fed stands.earlier (view.unit takes.x));
        met = record {
          dues = takes.dues;
          earlier = stands.earlier;
          later = stands.later;
          step = takes.step;
          split = stands.split;
          unit_is = refl;
        };
      }
