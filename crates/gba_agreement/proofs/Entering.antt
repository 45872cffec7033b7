-- The two ways onto the course of a transfer: a step that starts it, and one that answers its start.
use Rattle.std.specs.Prelude.{All, option_map}
use Rattle.std.proofs.Common.{ℕ, ◌≡◌, ◌≢◌, ◌+◌, ◌<◌, ◌≤◌, ◌^◌, ◌/◌, ◌%◌, Bool, true, false, List, [], ◌∷◌, ◌++◌, Option, None, Some, refl, ap, sym, subst, ◌∙◌, inl, inr, arith}
use Rattle.std.proofs.lemmas.Bool.{cases_Bool}
use Rattle.gba_serial.specs.Timing.{cut_word, is_multi, transfer_end, word_width}
use Rattle.gba_serial.specs.SerialUnit.{SerialUnit, mode_of, own_word}
use Rattle.gba_serial.specs.Take.{end_of, taken}
use Rattle.gba_serial.specs.End.{ended}
use Rattle.gba_serial.specs.Tell.{reply_told, silent, start_told}
use Rattle.gba_serial.specs.Steps.{fed, hear}
use Rattle.link_node.specs.Due.{IsDue}
use Rattle.link_node.specs.declared.signal.Incoming.{Incoming}
use Rattle.link_node.specs.declared.signal.LinkMode.{LinkMode}
use Rattle.link_node.specs.declared.signal.LinkMode.TheVariants.{Normal8, Normal32, Multi, Other}
use Rattle.link_node.specs.declared.signal.Signal.{Signal}
use Rattle.link_node.specs.declared.signal.Start.{Start}
use Rattle.link_order.specs.NodeKind.{NodeKind}
use Rattle.link_order.specs.Due.{incoming}
use Rattle.link_order.specs.Cut.{Cut, count, hop}
use Rattle.link_steps.specs.Law.{MakesStep}
use Rattle.gba_agreement.specs.UnitView.{IsSeat, UnitView}
use Rattle.gba_agreement.specs.Agreement.{Meets, StartsTransfer}
use Rattle.gba_agreement.proofs.Course.{Course, HasPlace, IsAlike, IsOn, alike-silent, on-alike}
use Rattle.gba_agreement.proofs.Ends.{until_end, until_end-on}
use Rattle.gba_agreement.proofs.Starting.{HasBegun, StartsAs, all_written-as, course_begun, hear-start, outgoing-tells}
use Rattle.gba_agreement.proofs.Answering.{CanAnswer, course_answered, taken-answers}
use Rattle.gba_agreement.proofs.Seats.{all_written-seat, ended-seat, fed-seat, hear-seat, seated}
use Rattle.gba_agreement.proofs.Lists.{all-after, all-here}
use Rattle.gba_agreement.proofs.Following.{Enters, Given, SendsReply, goes-from}

same-course : (a b : Course) → a.mode ≡ b.mode → a.end ≡ b.end → a.starter ≡ b.starter → a.sent ≡ b.sent
    → a.player ≡ b.player → a.count ≡ b.count → a ≡ b
same-course a b mode end starter sent player count = λ t. record {
  mode = mode t;
  end = end t;
  starter = starter t;
  sent = sent t;
  player = player t;
  count = count t;
}

-- words of a transfer's width are told and taken as they are
pub cut-small : (mode : LinkMode) (word : ℕ) → word < 2 ^ word_width mode → cut_word mode word ≡ word
cut-small Normal8 word small = omega (arith, small)
cut-small Normal32 word small = omega (arith, small)
cut-small Multi word small = omega (arith, small)
cut-small Other word small = omega (arith, small)

pub told-small : (mode : LinkMode) (word : ℕ) → word < 2 ^ word_width mode → cut_word mode (reply_told word) ≡ word
told-small Normal8 word small = omega (arith, small)
told-small Normal32 word small = omega (arith, small)
told-small Multi word small = omega (arith, small)
told-small Other word small = omega (arith, small)

word-small : (mode : LinkMode) (word : ℕ) → word < 2 ^ word_width mode → word < 2 ^ 32
word-small Normal8 word small = omega (arith, small)
word-small Normal32 word small = omega (arith, small)
word-small Multi word small = omega (arith, small)
word-small Other word small = omega (arith, small)

start-small : (start : Start) → start.speed < 4 → start.word < 2 ^ 32 → start_told start ≡ start
start-small start speed word =
    let same_speed : start.speed / 2 ^ 0 % 2 ^ 2 ≡ start.speed = omega (arith, speed) in
    let same_word : start.word / 2 ^ 0 % 2 ^ 32 ≡ start.word = omega (arith, word) in
    λ t. record { speed = same_speed t; word = same_word t }

-- what is told of a start is a start that was posted
record IsPosted (o : Option Start) (start : Start) : Type 0 where
  posted : Start
  is : o ≡ Some posted
  told : start_told posted ≡ start

posted : (o : Option Start) (start : Start) → option_map start_told o ≡ Some start → IsPosted o start
posted None start e = cc
posted (Some one) start e =
    record { posted = one; is = refl; told = let both : Some (start_told one) ≡ Some start = e in cc }

-- the side of a player in a transfer of this end, and the end that a start has
abbrev pub course_of : {C : Type 0} → Cut C → LinkMode → ℕ → Bool → ℕ → ℕ → Course
course_of cut mode end starter sent player = record {
  mode = mode;
  end = end;
  starter = starter;
  sent = sent;
  player = player;
  count = count cut;
}

abbrev pub end_from : {C : Type 0} → Cut C → LinkMode → Start → ℕ → ℕ
end_from cut mode start clock = transfer_end (count cut) (hop cut 0 1 + hop cut 1 0) mode start.speed clock

pub end-seated : {C : Type 0} (cut : Cut C) (i : ℕ) (u : SerialUnit) (mode : LinkMode) (start : Start) (clock : ℕ)
    → IsSeat cut i u → transfer_end u.count u.round mode start.speed clock ≡ end_from cut mode start clock
end-seated cut i u mode start clock seat =
    ap (λ n. transfer_end n u.round mode start.speed clock) seat.count_is
    ∙ ap (λ r. transfer_end (count cut) r mode start.speed clock) seat.round

fed-append : (xs ys : List Incoming) (u : SerialUnit) → fed (xs ++ ys) u ≡ fed ys (fed xs u)
fed-append [] ys u = refl
fed-append (x ∷ xs) ys u = fed-append xs ys (taken x (ended x.arrival u))

module _ {C : Type 0} {kind : NodeKind C} {view : UnitView C} {cut : Cut C} {until : ℕ}
    (given : Given kind view cut until) where
  four : count cut ≤ 4
  four = given.linked.cable.at_most_four

  seat-at : (i m : ℕ) (x : C) (dues : List Incoming) → MakesStep kind cut until i m x dues → IsSeat cut i (view.unit x)
  seat-at = seated kind view given.has cut until given.steps given.linked.seated

  few : (i : ℕ) (u : SerialUnit) → i < count cut → IsSeat cut i u → u.player < 4
  few i u below seat = let player = seat.player in let most = four in omega (arith, player, below, most)

  -- the step that starts a transfer: v is the unit after its writes
  pub record Opens (p end : ℕ) (s : Signal) (start : Start) : Type 0 where
    pub entry : Enters given (course_of cut s.mode end true start.word p) p
    pub tells : (kind.next entry.x entry.dues).1 ≡ Some s
    pub clock_is : s.clock ≡ kind.clock entry.x
    pub v : SerialUnit
    pub begun : HasBegun (kind.clock entry.x) start v
    pub mode_is : s.mode ≡ mode_of v
    pub seat : IsSeat cut p v
    pub next_is : view.unit (kind.next entry.x entry.dues).0 ≡ silent v

  tells-on : (x : C) (dues : List Incoming) (s : Signal) → (kind.next x dues).1 ≡ Some s → view.is_on x ≡ true
  tells-on x dues s tells =
      elim (cases_Bool (view.is_on x)) [
        | inl e ↦ e
        | inr e ↦ let none : None ≡ Some s = sym (given.has.rests x dues e).told_is ∙ tells in cc
      ]

  starter-on : (p end clock : ℕ) (s : Signal) (start : Start) (v : SerialUnit) → HasBegun clock start v
      → s.mode ≡ mode_of v → s.clock ≡ clock → IsSeat cut p v → end ≡ end_from cut s.mode start s.clock
      → IsOn (course_of cut s.mode end true start.word p) v
  starter-on p end clock s start v begun mode_is clock_is seat end_is =
      subst (λ c. IsOn c v)
      (same-course (course_begun clock start v) (course_of cut s.mode end true start.word p) (sym mode_is)
      (end-seated cut p v (mode_of v) start clock seat ∙ ap (λ m. end_from cut m start clock) (sym mode_is)
      ∙ ap (end_from cut s.mode start) (sym clock_is) ∙ sym end_is) refl refl seat.player seat.count_is)
      begun.on

  pub opens : (p k end : ℕ) (s : Signal) (start : Start) → StartsTransfer kind cut until p k s start
      → end ≡ end_from cut s.mode start s.clock → s.clock < end → Opens p end s start
  opens p k end s start starts end_is soon =
      let x = starts.x in
      let dues = starts.dues in
      let clock = kind.clock x in
      let touches = given.has.touches x dues (tells-on x dues s starts.tells) in
      let heard = hear clock dues (view.unit x) in
      let v = touches.after in
      let heard-seat : IsSeat cut p heard =
      hear-seat cut p clock dues (view.unit x) (seat-at p k x dues starts.step) in
      let seat : IsSeat cut p v =
      subst (IsSeat cut p) (sym touches.after_is) (all_written-seat cut p clock touches.writes heard heard-seat) in
      let told = outgoing-tells clock v s (sym touches.told_is ∙ starts.tells) in
      let one = posted v.start start (sym told.start_is ∙ starts.starts) in
      let none : heard.start ≡ None =
      hear-start clock dues (view.unit x) ∙ sym (ap (λ (u : SerialUnit). u.start) (given.has.quiet x)) in
      let has : HasBegun clock one.posted v =
      (subst (StartsAs clock one.posted) (sym touches.after_is)
      (all_written-as clock touches.writes one.posted heard (few p heard starts.step.player heard-seat) none)).has
      one.is in
      let same : one.posted ≡ start =
      sym (start-small one.posted has.speed_small (word-small (mode_of v) one.posted.word has.word_small)) ∙ one.told in
      let begun : HasBegun clock start v = subst (λ z. HasBegun clock z v) same has in
      let c = course_of cut s.mode end true start.word p in
      let clock_is = told.clock_is in
      record {
        entry = record {
          m = k;
          x = x;
          dues = dues;
          step = starts.step;
          before = omega (arith, clock_is, soon);
          is_on = touches.stays;
          on = subst (IsOn c) (sym touches.unit_is)
              (on-alike c v (silent v) (alike-silent v)
              (starter-on p end clock s start v begun told.mode_is clock_is seat end_is));
        };
        tells = starts.tells;
        clock_is = clock_is;
        v = v;
        begun = begun;
        mode_is = told.mode_is;
        seat = seat;
        next_is = touches.unit_is;
      }

  -- the step that answers it: v is the unit when it has taken the start, and then come the later signals
  pub record Answers (p i end : ℕ) (s : Signal) (start : Start) (word : ℕ) : Type 0 where
    pub entry : Enters given (course_of cut s.mode end false word i) i
    pub earlier : List Incoming
    pub later : List Incoming
    pub split : entry.dues ≡ earlier ++ incoming (hop cut p i) p s ∷ later
    pub began_before : kind.was entry.x < s.clock + hop cut p i
    pub begins_after : s.clock + hop cut p i ≤ kind.clock entry.x
    pub v : SerialUnit
    pub v_on : IsOn (course_of cut s.mode end false word i) v
    pub alike : IsAlike (until_end end later v) (view.unit (kind.next entry.x entry.dues).0)
    pub from_starter : HasPlace s.mode p true start.word v
    pub own : is_multi s.mode ≡ true → HasPlace Multi i true word v
    pub others : is_multi s.mode ≡ true → (j : ℕ) → j ≢ 0 → j ≢ i → j < 4 → HasPlace Multi j false 0xffff v
    pub sends : SendsReply kind entry.x entry.dues word

  pub met-seat : (p i m : ℕ) (x : C) (u : SerialUnit) (s : Signal) → Meets kind view cut until p s i m x u
      → IsSeat cut i u
  met-seat p i m x u s met =
      subst (IsSeat cut i) (sym met.unit_is)
      (ended-seat cut i (s.clock + hop cut p i) (fed met.earlier (view.unit x))
      (fed-seat cut i met.earlier (view.unit x) (seat-at i m x met.dues met.step)))

  pub answers : (p i m end : ℕ) (x : C) (u : SerialUnit) (s : Signal) (start : Start)
      → Meets kind view cut until p s i m x u → view.is_on x ≡ true → CanAnswer (incoming (hop cut p i) p s) start u
      → end ≡ end_from cut s.mode start s.clock → start.word < 2 ^ word_width s.mode
      → Answers p i end s start (own_word u)
  answers p i m end x u s start met is_on can end_is small =
      let one = incoming (hop cut p i) p s in
      let unit = view.unit x in
      let Due : Incoming → Type 0 = IsDue (kind.was x) (kind.clock x) in
      let sound = given.steps.sound i m x met.dues met.step in
      let due : All Due (met.earlier ++ one ∷ met.later) = subst (All Due) met.split sound.due in
      let now = all-here Due met.earlier one met.later due in
      let seat = met-seat p i m x u s met in
      let has = taken-answers one start u can (few i u met.step.player seat) now.from_player in
      let v = taken one u in
      let ends_at : end_of one start u ≡ end = end-seated cut i u s.mode start s.clock seat ∙ sym end_is in
      let soon : kind.clock x < end =
      let late = can.later in let arrived = now.after_last in let short = sound.short in
      omega (arith, ends_at, late, arrived, short) in
      let c = course_of cut s.mode end false (own_word u) i in
      let v_on : IsOn c v =
      subst (λ z. IsOn z v)
      (same-course (course_answered one start u) c can.mode_is ends_at refl refl seat.player seat.count_is) has.on in
      let fed_is : fed met.dues unit ≡ fed met.later v =
      ap (λ list. fed list unit) met.split ∙ fed-append met.earlier (one ∷ met.later) unit
      ∙ ap (λ z. fed met.later (taken one z)) (sym met.unit_is) in
      let going =
      goes-from given c x met.dues met.later v is_on fed_is v_on soon (all-after Due met.earlier one met.later due) in
      let cut_is : cut_word (mode_of u) start.word ≡ start.word =
      ap (λ z. cut_word z start.word) can.mode_is ∙ cut-small s.mode start.word small in
      record {
        entry = record {
          m = m;
          x = x;
          dues = met.dues;
          step = met.step;
          before = soon;
          is_on = going.is_on;
          on = on-alike c (until_end end met.later v) (view.unit (kind.next x met.dues).0) going.alike
              (until_end-on c met.later v v_on);
        };
        earlier = met.earlier;
        later = met.later;
        split = met.split;
        began_before = now.after_last;
        begins_after = now.by_now;
        v = v;
        v_on = v_on;
        alike = going.alike;
        from_starter = subst (λ z. HasPlace z p true start.word v) can.mode_is
            (subst (λ z. HasPlace (mode_of u) p true z v) cut_is has.from_starter);
        own =
            λ multi. subst (λ n. HasPlace Multi n true (own_word u) v) seat.player
            (has.own (ap is_multi can.mode_is ∙ multi));
        others = λ multi j first self below. has.others (ap is_multi can.mode_is ∙ multi) j first
            (λ e. self (e ∙ seat.player)) below;
        sends = going.replies (own_word u) has.reply;
      }
