-- Linked consoles agree on a Multi transfer.
use Rattle.std.specs.Prelude.{All, nat_lt, ◌==◌, if◌then◌else◌}
use Rattle.std.proofs.Common.{ℕ, ◌≡◌, ◌≢◌, ◌+◌, ◌*◌, ◌<◌, ◌≤◌, ◌^◌, Bool, true, false, not, ◌&&◌, ◌||◌, List, ap, sym, subst, ◌∙◌, inl, inr, arith}
use Rattle.std.proofs.lemmas.Bool.Decides.{nat_tests}
use Rattle.std.proofs.lemmas.List.Elements.{All-weaker}
use Rattle.gba_terms.specs.Bits.{field}
use Rattle.gba_serial.specs.Timing.{is_multi, is_normal, multi_bit_cycles, multi_end, word_width}
use Rattle.gba_serial.specs.SerialUnit.{SerialUnit, data_word, is_wired, mode_of, own_word}
use Rattle.gba_serial.specs.Take.{waits}
use Rattle.gba_serial.specs.End.{transfer_of}
use Rattle.gba_serial.specs.Tell.{silent}
use Rattle.gba_serial.proofs.Lengths.{multi_bit_cycles-least, product-least}
use Rattle.link_node.specs.declared.signal.Incoming.{Incoming}
use Rattle.link_node.specs.declared.signal.LinkMode.{LinkMode}
use Rattle.link_node.specs.declared.signal.LinkMode.TheVariants.{Multi}
use Rattle.link_node.specs.declared.signal.Signal.{Signal}
use Rattle.link_node.specs.declared.signal.Start.{Start}
use Rattle.link_order.specs.NodeKind.{NodeKind}
use Rattle.link_order.specs.Due.{incoming}
use Rattle.link_order.specs.Cut.{Cut, count, hop}
use Rattle.link_order.proofs.Numbers.{same_or_apart}
use Rattle.gba_agreement.specs.UnitView.{UnitView}
use Rattle.gba_agreement.specs.Agreement.{HasDirectWays, IsReady, Meets, ReachesEnd, RecordsMulti, StartsTransfer, words_of}
use Rattle.gba_agreement.proofs.Course.{HasPlace, IsHeardBy, IsWiredTo, alike-silent, place-alike, true-not_false}
use Rattle.gba_agreement.proofs.Ends.{IsSilent, until_end}
use Rattle.gba_agreement.proofs.Starting.{data_word-small}
use Rattle.gba_agreement.proofs.Answering.{CanAnswer}
use Rattle.gba_agreement.proofs.Recording.{HasWords, multi-record}
use Rattle.gba_agreement.proofs.Following.{Enters, Given}
use Rattle.gba_agreement.proofs.Coming.{records-at}
use Rattle.gba_agreement.proofs.Entering.{Answers, Opens, answers, course_of, end-seated, end_from, met-seat, opens}
use Rattle.gba_agreement.proofs.Words.{Finds, NeverTakes, answer-in-step, answers-later, from-answer, from-starter, kept-at-end, kept-in-step, meets, own-never, past-never}

zero-peer : (player count : ℕ) → 0 < player → player < count → (nat_lt 0 count && not (0 == player)) ≡ true
zero-peer player count some below = grind (arith, nat_tests)

speed-test : (speed : ℕ) → speed < 4 → nat_lt speed 4 ≡ true
speed-test speed small = grind (arith, nat_tests)

proper-multi : (mode : LinkMode) (start : Start) (wired : Bool) → mode ≡ Multi → start.speed < 4
    → (if is_multi mode then (0 == 0) && nat_lt start.speed 4 else is_normal mode && wired && nat_lt start.speed 2)
    ≡ true
proper-multi mode start wired multi small =
    ap (λ m. if is_multi m then (0 == 0) && nat_lt start.speed 4 else is_normal m && wired && nat_lt start.speed 2)
    multi
    ∙ speed-test start.speed small

-- how long a transfer lasts
multi-long : (count speed clock : ℕ) → clock + 2610 * count ≤ multi_end count speed clock
multi-long count speed clock =
    let least = product-least count (multi_bit_cycles speed) (multi_bit_cycles-least speed) in omega (arith, least)

own-sends : (u : SerialUnit) (word : ℕ) → mode_of u ≡ Multi → field u.send 0 16 ≡ word → own_word u ≡ word
own-sends u word mode sends = ap (λ m. data_word m u) mode ∙ sends

module _ {C : Type 0} {kind : NodeKind C} {view : UnitView C} {cut : Cut C} {until : ℕ}
    (given : Given kind view cut until) (direct : HasDirectWays cut) (n end : ℕ) (s : Signal) (start : Start)
    (word : ℕ → ℕ) (starts : StartsTransfer kind cut until 0 n s start) (multi : s.mode ≡ Multi)
    (first_is : word 0 ≡ start.word) (end_is : end ≡ multi_end (count cut) start.speed s.clock)
    (ready : (i m : ℕ) (x : C) (u : SerialUnit) → 0 < i → Meets kind view cut until 0 s i m x u
    → IsReady view (word i) x u)
  where
    is-multi : is_multi s.mode ≡ true
    is-multi = ap is_multi multi

    ends-from : end ≡ end_from cut s.mode start s.clock
    ends-from = end_is ∙ ap (λ m. end_from cut m start s.clock) (sym multi)

    lasts : s.clock + 2610 * count cut ≤ end
    lasts = let long = multi-long (count cut) start.speed s.clock in omega (arith, end_is, long)

    soon : s.clock < end
    soon = let some = starts.step.player in omega (arith, lasts, some)

    near : (i j : ℕ) → i < count cut → j < count cut → i ≢ j → hop cut i j ≤ 1024
    near = given.linked.cable.short_delay

    few : (j : ℕ) → j < count cut → j < 4
    few j below = let most = given.linked.cable.at_most_four in omega (arith, below, most)

    zero-apart : (j : ℕ) → 0 < j → j ≢ 0
    zero-apart j some same = absurd (omega (arith, some, same))

    open-it : Opens given 0 end s start
    open-it = opens given 0 n end s start starts ends-from soon

    -- a console that answers
    record Party (i : ℕ) : Type 0 where
      answer : Answers given 0 i end s start (word i)
      small : word i < 2 ^ word_width s.mode

    can-answer : (i m : ℕ) (x : C) (u : SerialUnit) → 0 < i → i < count cut → Meets kind view cut until 0 s i m x u
        → IsReady view (word i) x u → CanAnswer (incoming (hop cut 0 i) 0 s) start u
    can-answer i m x u some below met is =
        let seat = met-seat given 0 i m x u s met in
        let player = seat.player in
        let counts = seat.count_is in
        let at_end = end-seated cut i u s.mode start s.clock seat ∙ sym ends-from in
        let way = near 0 i (omega (arith, some, below)) below (λ same. zero-apart i some (sym same)) in
        record {
          starts = starts.starts;
          peer = zero-peer u.player u.count (omega (arith, some, player)) (omega (arith, below, player, counts));
          proper = proper-multi s.mode start (is_wired 0 u) multi open-it.begun.speed_small;
          later = omega (arith, at_end, lasts, way, some, below);
          mode_is = is.mode ∙ sym multi;
          idle = is.idle;
          ready = ap (λ m. is_multi m || waits u) is.mode;
        }

    party : (i : ℕ) → 0 < i → i < count cut → s.clock + 5220 ≤ until → Party i
    party i some below late =
        let apart : 0 ≢ i = λ same. zero-apart i some (sym same) in
        let way = near 0 i (omega (arith, some, below)) below apart in
        let took =
        meets given 0 n starts.x starts.dues s starts.step starts.tells i below apart (omega (arith, way, late)) in
        let u = took.u in
        let is = ready i took.m took.x u some took.met in
        let small_start : start.word < 2 ^ word_width s.mode =
        subst (λ m. start.word < 2 ^ word_width m) (sym open-it.mode_is) open-it.begun.word_small in
        let own : own_word u ≡ word i = own-sends u (word i) is.mode is.sends in
        record {
          answer = subst (Answers given 0 i end s start) own
              (answers given 0 i took.m end took.x u s start took.met is.on
              (can-answer i took.m took.x u some below took.met is) ends-from small_start);
          small = subst (λ w. w < 2 ^ word_width s.mode) own
              (subst (λ m. own_word u < 2 ^ word_width m) (is.mode ∙ sym multi) (data_word-small (mode_of u) u));
        }

    abbrev Parties : Type 0
    Parties = (j : ℕ) → 0 < j → j < count cut → Party j

    -- no place is wired in Multi, and each other console is heard
    no-wire : (i j : ℕ) (first : Bool) (sent : ℕ) → IsWiredTo (course_of cut s.mode end first sent i) j
    no-wire i j first sent normal = true-not_false (is_multi s.mode) is-multi normal

    heard-by : (i j : ℕ) (first : Bool) (sent : ℕ) → j < count cut → j ≢ i
        → IsHeardBy (course_of cut s.mode end first sent i) j
    heard-by i j first sent below apart = record {
      four = few j below;
      peer = below;
      other = apart;
      starter = λ normal. true-not_false (is_multi s.mode) is-multi normal;
      wired = λ normal. true-not_false (is_multi s.mode) is-multi normal;
    }

    of-multi : (j : ℕ) (got : Bool) (w : ℕ) (u : SerialUnit) → HasPlace Multi j got w u → HasPlace s.mode j got w u
    of-multi j got w u place = subst (λ m. HasPlace m j got w u) (sym multi) place

    -- an answer comes in time, and not before the start
    abbrev comes-at : (j k : ℕ) → Party j → ℕ
    comes-at j k one = kind.clock one.answer.entry.x + hop cut j k

    in-time : (j k : ℕ) (one : Party j) → 0 < j → j < count cut → k < count cut → j ≢ k → comes-at j k one < end
    in-time j k one some below there apart =
        let e = one.answer.entry in
        let to = near 0 j (omega (arith, some, below)) below (λ same. zero-apart j some (sym same)) in
        let fro = near j k below there apart in
        let after = one.answer.began_before in
        let short = (given.steps.sound j e.m e.x e.dues e.step).short in
        omega (arith, lasts, to, fro, after, short, some, below)

    not-before : (j k : ℕ) (one : Party j) → 0 < j → j < count cut → 0 < k → k < count cut → j ≢ k
        → s.clock + hop cut 0 k ≤ comes-at j k one
    not-before j k one some below other there apart =
        let way = direct j k below there some other apart in
        let begins = one.answer.begins_after in
        omega (arith, way, begins)

    -- on the starter
    began-at : (j : ℕ) (got : Bool) (w : ℕ) → HasPlace Multi j got w open-it.v
        → HasPlace s.mode j got w (view.unit (kind.next open-it.entry.x open-it.entry.dues).0)
    began-at j got w place =
        let v = open-it.v in
        subst (HasPlace s.mode j got w) (sym open-it.next_is)
        (place-alike s.mode j got w v (silent v) (alike-silent v) (of-multi j got w v place))

    begun-multi : is_multi (mode_of open-it.v) ≡ true
    begun-multi = ap is_multi (sym open-it.mode_is) ∙ is-multi

    starter-keeps : (j : ℕ) (got : Bool) (w : ℕ) → NeverTakes given 0 j → HasPlace Multi j got w open-it.v
        → Finds given s.mode end 0 j got w
    starter-keeps j got w never place =
        kept-at-end given (course_of cut s.mode end true start.word 0) 0 open-it.entry j got w
        (no-wire 0 j true start.word) never (began-at j got w place)

    starter-own : Finds given s.mode end 0 0 true start.word
    starter-own =
        starter-keeps 0 true start.word (own-never given 0)
        (subst (λ j. HasPlace Multi j true start.word open-it.v) open-it.seat.player (open-it.begun.own begun-multi))

    starter-blank : (j : ℕ) → j < 4 → count cut ≤ j → Finds given s.mode end 0 j false 0xffff
    starter-blank j below past =
        let player = open-it.seat.player in
        let some = starts.step.player in
        starter-keeps j false 0xffff (past-never given j 0 past)
        (open-it.begun.others begun-multi j (λ same. absurd (omega (arith, same, player, past, some))) below)

    starter-hears : (j : ℕ) → 0 < j → j < count cut → Party j → Finds given s.mode end 0 j true (word j)
    starter-hears j some below one =
        let apart = zero-apart j some in
        let zero : 0 < count cut = omega (arith, some, below) in
        let is = open-it.clock_is in
        let begins = one.answer.begins_after in
        let way = given.linked.cable.some_delay j 0 below zero apart in
        from-answer given 0 end s start open-it j (word j) one.answer one.small 0 true start.word open-it.entry apart
        (heard-by 0 j true start.word below apart) (in-time j 0 one some below zero apart)
        (λ by_now. absurd (omega (arith, by_now, is, begins, way)))

    -- on a console that answers
    module _ (i : ℕ) (some_i : 0 < i) (below_i : i < count cut) (self : Party i) where
      answerer-keeps : (j : ℕ) (got : Bool) (w : ℕ) → NeverTakes given i j → HasPlace Multi j got w self.answer.v
          → Finds given s.mode end i j got w
      answerer-keeps j got w never place =
          let e = self.answer.entry in
          let quiet : All (IsSilent end j) e.dues =
          All-weaker (λ one. one.sender ≢ j) (IsSilent end j) (λ one other own. absurd (other own)) e.dues
          (never e.m e.x e.dues e.step) in
          let wire = no-wire i j false (word i) in
          kept-at-end given (course_of cut s.mode end false (word i) i) i e j got w wire never
          (kept-in-step given 0 end s start open-it i (word i) self.answer j got w wire
          (answers-later given 0 end s start open-it (IsSilent end j) i (word i) self.answer quiet)
          (of-multi j got w self.answer.v place))

      answerer-hears : (j : ℕ) → 0 < j → j < count cut → j ≢ i → Party j → Finds given s.mode end i j true (word j)
      answerer-hears j some below apart one =
          let heard = heard-by i j false (word i) below apart in
          let early = in-time j i one some below below_i apart in
          from-answer given 0 end s start open-it j (word j) one.answer one.small i false (word i) self.answer.entry
          apart heard early
          (answer-in-step given 0 end s start open-it j (word j) one.answer one.small i (word i) self.answer apart
          some heard (not-before j i one some below some_i below_i apart) early)

      answerer-finds : Parties → (j : ℕ) → j < count cut → Finds given s.mode end i j true (word j)
      answerer-finds parties j below =
          elim (same_or_apart j i) [
            | inl own ↦ subst (λ q. Finds given s.mode end i q true (word q)) (sym own)
                (answerer-keeps i true (word i) (own-never given i) (self.answer.own is-multi))
            | inr apart ↦ elim (same_or_apart j 0) [
              | inl same ↦ subst (λ q. Finds given s.mode end i q true (word q)) (sym same)
                  (subst (λ w. Finds given s.mode end i 0 true w) (sym first_is)
                  (from-starter given 0 end s start open-it i (word i) self.answer (no-wire i 0 false (word i))))
              | inr other ↦
                  let some : 0 < j = omega (arith, other) in
                  answerer-hears j some below apart (parties j some below)
            ]
          ]

      answerer-blank : (j : ℕ) → j < 4 → count cut ≤ j → Finds given s.mode end i j false 0xffff
      answerer-blank j less past =
          answerer-keeps j false 0xffff (past-never given j i past)
          (self.answer.others is-multi j (λ same. absurd (omega (arith, same, past, below_i)))
          (λ same. absurd (omega (arith, same, past, below_i))) less)

    starter-finds : Parties → (j : ℕ) → j < count cut → Finds given s.mode end 0 j true (word j)
    starter-finds parties j below =
        elim (same_or_apart j 0) [
          | inl same ↦ subst (λ q. Finds given s.mode end 0 q true (word q)) (sym same)
              (subst (λ w. Finds given s.mode end 0 0 true w) (sym first_is) starter-own)
          | inr other ↦
              let some : 0 < j = omega (arith, other) in
              starter-hears j some below (parties j some below)
        ]

    -- so each records the same
    recorded : (i : ℕ) (first : Bool) (sent : ℕ) → Enters given (course_of cut s.mode end first sent i) i
        → ((j : ℕ) → j < count cut → Finds given s.mode end i j true (word j))
        → ((j : ℕ) → j < 4 → count cut ≤ j → Finds given s.mode end i j false 0xffff)
        → (m : ℕ) (x : C) (dues : List Incoming) → ReachesEnd kind cut until i m end x dues
        → RecordsMulti kind view end (words_of word (count cut)) x dues
    recorded i first sent e finds blanks m x dues reaches =
        let c = course_of cut s.mode end first sent i in
        let v = until_end end dues (view.unit x) in
        let as_multi : (j w : ℕ) (got : Bool) → HasPlace s.mode j got w v → HasPlace Multi j got w v =
        λ j w got place. subst (λ mode. HasPlace mode j got w v) multi place in
        let has : HasWords word (count cut) v = record {
          there = λ j less below. as_multi j (word j) true (finds j below m x dues reaches);
          blank = λ j less past. as_multi j 0xffff false (blanks j less past m x dues reaches);
        } in
        let records = records-at given c i e m x dues reaches in
        let is = multi-record c word records.run v records.on records.runs is-multi has in
        record {
          transfer = transfer_of records.run v;
          only = records.only;
          mode = is.mode;
          end_is = is.end_is;
          words_are = is.words_are;
          right = is.right;
        }

    pub agreed : (i m : ℕ) (x : C) (dues : List Incoming) → ReachesEnd kind cut until i m end x dues
        → RecordsMulti kind view end (words_of word (count cut)) x dues
    agreed i m x dues reaches =
        let early = (given.steps.sound i m x dues reaches.step).early in
        let by_now = reaches.by_now in
        let parties : Parties = λ j some below. party j some below (omega (arith, early, by_now, lasts, some, below)) in
        elim (same_or_apart i 0) [
          | inl same ↦ recorded 0 true start.word open-it.entry (starter-finds parties) starter-blank m x dues
              (subst (λ q. ReachesEnd kind cut until q m end x dues) same reaches)
          | inr other ↦
              let some : 0 < i = omega (arith, other) in
              let below = reaches.step.player in
              let self = parties i some below in
              recorded i false (word i) self.answer.entry (answerer-finds i some below self parties)
              (answerer-blank i some below self) m x dues reaches
        ]
