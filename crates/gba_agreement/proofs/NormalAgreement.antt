-- Two linked consoles agree on a Normal transfer.
use Rattle.std.specs.Prelude.{nat_lt, ◌==◌, if◌then◌else◌}
use Rattle.std.proofs.Common.{ℕ, ◌≡◌, ◌≢◌, ◌+◌, ◌<◌, ◌≤◌, ◌^◌, ◌⊎◌, Bool, true, false, not, ◌&&◌, ◌||◌, refl, ap, sym, subst, ◌∙◌, inl, inr, arith}
use Rattle.std.proofs.lemmas.Bool.Decides.{nat_tests}
use Rattle.gba_serial.specs.Timing.{is_multi, is_normal, multi_end, normal_end, word_width}
use Rattle.gba_serial.specs.SerialUnit.{SerialUnit, is_wired, mode_of, own_word}
use Rattle.gba_serial.specs.Take.{waits}
use Rattle.gba_serial.specs.End.{transfer_of}
use Rattle.gba_serial.proofs.Lengths.{starts as starts_in_time}
use Rattle.link_node.specs.declared.signal.LinkMode.{LinkMode}
use Rattle.link_node.specs.declared.signal.LinkMode.TheVariants.{Normal8, Normal32, Multi, Other}
use Rattle.link_node.specs.declared.signal.Signal.{Signal}
use Rattle.link_node.specs.declared.signal.Start.{Start}
use Rattle.link_order.specs.NodeKind.{NodeKind}
use Rattle.link_order.specs.Due.{incoming}
use Rattle.link_order.specs.Cut.{Cut, count, hop}
use Rattle.gba_agreement.specs.UnitView.{UnitView}
use Rattle.gba_agreement.specs.Agreement.{IsWaiting, Meets, RecordBoth, RecordsAtEnd, StartsTransfer}
use Rattle.gba_agreement.proofs.Course.{IsHeardBy}
use Rattle.gba_agreement.proofs.Ends.{until_end}
use Rattle.gba_agreement.proofs.Starting.{data_word-small}
use Rattle.gba_agreement.proofs.Answering.{CanAnswer}
use Rattle.gba_agreement.proofs.Recording.{normal-record}
use Rattle.gba_agreement.proofs.Following.{Enters, Given}
use Rattle.gba_agreement.proofs.Coming.{records-at}
use Rattle.gba_agreement.proofs.Entering.{Answers, Opens, answers, course_of, end-seated, end_from, met-seat, opens}
use Rattle.gba_agreement.proofs.Words.{Finds, from-answer, from-starter}

normal-is : (mode : LinkMode) → is_normal mode ≡ true → is_multi mode ≡ false
normal-is Normal8 normal = refl
normal-is Normal32 normal = refl
normal-is Multi normal = sym normal
normal-is Other normal = refl

wired-peer : (p player n : ℕ) → p ≢ player → p < n → (nat_lt p n && not (p == player)) ≡ true
wired-peer p player n apart below = grind (arith, nat_tests)

wired-is : (p player : ℕ) → p + player ≡ 1 → (p + player == 1) ≡ true
wired-is p player one = grind (arith, nat_tests)

speed-test : (speed : ℕ) → speed < 2 → nat_lt speed 2 ≡ true
speed-test speed small = grind (arith, nat_tests)

all-three : (a b c : Bool) → a ≡ true → b ≡ true → c ≡ true → (a && b && c) ≡ true
all-three true true c one two three = three
all-three true false c one two three = two
all-three false b c one two three = one

proper-normal : (mode : LinkMode) (p : ℕ) (start : Start) (wired : Bool) → is_normal mode ≡ true → wired ≡ true
    → start.speed < 2
    → (if is_multi mode then (p == 0) && nat_lt start.speed 4 else is_normal mode && wired && nat_lt start.speed 2)
    ≡ true
proper-normal mode p start wired normal is small =
    ap (λ test. if test then (p == 0) && nat_lt start.speed 4 else is_normal mode && wired && nat_lt start.speed 2)
    (normal-is mode normal)
    ∙ all-three (is_normal mode) wired (nat_lt start.speed 2) normal is (speed-test start.speed small)

or-second : (a b : Bool) → b ≡ true → (a || b) ≡ true
or-second true b is = refl
or-second false b is = is

-- the way there and back
round-is : (between : ℕ → ℕ → ℕ) (p q : ℕ) → p + q ≡ 1 → between 0 1 + between 1 0 ≡ between p q + between q p
round-is between p q one =
    elim (zero-or-one p q one) [
      | inl h ↦
          let there : between 0 1 ≡ between p q = ap (λ i. between i 1) (sym h.0) ∙ ap (between p) (sym h.1) in
          let back : between 1 0 ≡ between q p = ap (λ i. between i 0) (sym h.1) ∙ ap (between q) (sym h.0) in
          omega (arith, there, back)
      | inr h ↦
          let there : between 1 0 ≡ between p q = ap (λ i. between i 0) (sym h.0) ∙ ap (between p) (sym h.1) in
          let back : between 0 1 ≡ between q p = ap (λ i. between i 1) (sym h.1) ∙ ap (between q) (sym h.0) in
          omega (arith, there, back)
    ]
  where
    zero-or-one : (p q : ℕ) → p + q ≡ 1 → ((p ≡ 0) × (q ≡ 1)) ⊎ ((p ≡ 1) × (q ≡ 0))
    zero-or-one p q one = grind arith

module _ {C : Type 0} {kind : NodeKind C} {view : UnitView C} {cut : Cut C} {until : ℕ}
    (given : Given kind view cut until) (p q n end m : ℕ) (s : Signal) (start : Start) (x : C) (u : SerialUnit)
    (one : p + q ≡ 1) (starts : StartsTransfer kind cut until p n s start) (normal : is_normal s.mode ≡ true)
    (end_is : end ≡ normal_end (hop cut 0 1 + hop cut 1 0) s.mode start.speed s.clock)
    (met : Meets kind view cut until p s q m x u) (waiting : IsWaiting view s.mode x u)
  where
    not-multi : is_multi s.mode ≡ false
    not-multi = normal-is s.mode normal

    apart : p ≢ q
    apart same = absurd (omega (arith, one, same))

    other-apart : q ≢ p
    other-apart same = apart (sym same)

    few : (j : ℕ) → j < count cut → j < 4
    few j below = let most = given.linked.cable.at_most_four in omega (arith, below, most)

    ends-from : end ≡ end_from cut s.mode start s.clock
    ends-from =
        end_is ∙ sym (ap (λ test. if test then multi_end (count cut) start.speed s.clock
        else normal_end (hop cut 0 1 + hop cut 1 0) s.mode start.speed s.clock) not-multi)

    lasts : s.clock + (hop cut p q + hop cut q p) + 512 ≤ end
    lasts =
        let round = round-is (hop cut) p q one in
        let long =
        starts_in_time.normal (hop cut 0 1 + hop cut 1 0) s.mode start.speed s.clock (hop cut 0 1 + hop cut 1 0)
        (omega arith) in
        omega (arith, round, long, end_is)

    open-it : Opens given p end s start
    open-it = opens given p n end s start starts ends-from (omega (arith, lasts))

    can-answer : CanAnswer (incoming (hop cut p q) p s) start u
    can-answer =
        let seat = met-seat given p q m x u s met in
        let player = seat.player in
        let counts = seat.count_is in
        let below = starts.step.player in
        let at_end = end-seated cut q u s.mode start s.clock seat ∙ sym ends-from in
        record {
          starts = starts.starts;
          peer = wired-peer p u.player u.count (λ same. apart (same ∙ player)) (omega (arith, below, counts));
          proper = proper-normal s.mode p start (is_wired p u) normal (wired-is p u.player (omega (arith, one, player)))
              (open-it.begun.normal_speed (ap is_multi (sym open-it.mode_is) ∙ not-multi));
          later = omega (arith, at_end, lasts);
          mode_is = waiting.mode_is;
          idle = waiting.idle;
          ready = or-second (is_multi (mode_of u)) (waits u) waiting.waiting;
        }

    answer : Answers given p q end s start (own_word u)
    answer =
        answers given p q m end x u s start met waiting.on can-answer ends-from
        (subst (λ z. start.word < 2 ^ word_width z) (sym open-it.mode_is) open-it.begun.word_small)

    small : own_word u < 2 ^ word_width s.mode
    small = subst (λ z. own_word u < 2 ^ word_width z) waiting.mode_is (data_word-small (mode_of u) u)

    -- each finds the other's word
    starter-finds : Finds given s.mode end p q true (own_word u)
    starter-finds =
        let below = met.step.player in
        let e = answer.entry in
        let before = answer.began_before in
        let begins = answer.begins_after in
        let short = (given.steps.sound q e.m e.x e.dues e.step).short in
        let is = open-it.clock_is in
        let way = given.linked.cable.some_delay p q starts.step.player below apart in
        let heard : IsHeardBy (course_of cut s.mode end true start.word p) q = record {
          four = few q below;
          peer = below;
          other = other-apart;
          starter = λ normal. refl;
          wired = λ normal. omega (arith, one);
        } in
        from-answer given p end s start open-it q (own_word u) answer small p true start.word open-it.entry
        other-apart heard
        (omega (arith, lasts, before, short)) (λ by_now. absurd (omega (arith, by_now, begins, is, way)))

    other-finds : Finds given s.mode end q p true start.word
    other-finds = from-starter given p end s start open-it q (own_word u) answer (λ normal. one)

    recorded : (i j : ℕ) (first : Bool) (sent got : ℕ) → Enters given (course_of cut s.mode end first sent i) i → j < 4
        → Finds given s.mode end i j true got → RecordsAtEnd kind view cut until s.mode end i sent got
    recorded i j first sent got e below finds l y es reaches =
        let c = course_of cut s.mode end first sent i in
        let v = until_end end es (view.unit y) in
        let records = records-at given c i e l y es reaches in
        let is = normal-record c j got records.run v records.on records.runs not-multi below (finds l y es reaches) in
        record {
          transfer = transfer_of records.run v;
          only = records.only;
          mode_is = is.mode_is;
          end_is = is.end_is;
          sent_is = is.sent_is;
          got_is = is.got_is;
        }

    pub agreed : RecordBoth kind view cut until s.mode end p q start.word (own_word u)
    agreed = record {
      starter = recorded p q true start.word (own_word u) open-it.entry (few q met.step.player) starter-finds;
      other = recorded q p false (own_word u) start.word answer.entry (few p starts.step.player) other-finds;
    }
