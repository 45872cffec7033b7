-- How a transfer begins: by a write, or by an answer to a start.
use Rattle.std.proofs.Common.{ℕ, zero, suc, ◌≡◌, ◌≢◌, ◌<◌, ◌^◌, Bool, true, false, not, ◌&&◌, ◌||◌, ◌⊎◌, List, [], ◌∷◌, Option, None, Some, is_some, if◌then◌else◌, refl, ap, sym, subst, ◌∙◌, inl, inr, arith}
use Rattle.std.specs.Prelude.{bit_and, nat_eq, nat_le, nat_lt, option_map, slice_index}
use Rattle.std.proofs.lemmas.List.{length-set, get_or-set_same, get_or-set_other}
use Rattle.gba_terms.specs.Bits.{field}
use Rattle.gba_register.specs.Rows.{row_at}
use Rattle.gba_serial.specs.Timing.{is_multi, is_same, multi_end, normal_end, transfer_end, word_width}
use Rattle.gba_serial.specs.SerialUnit.{SerialUnit, data_word, is_peer, is_running, is_wired, mode_of, own_word, speed_of, was_received}
use Rattle.gba_serial.specs.Registers.{serial_rows}
use Rattle.gba_serial.specs.Write.{begins, begun, first_words, idle_control, multi_begun, none_received, normal_begun, put_at, received_from, with_control, written}
use Rattle.gba_serial.specs.Take.{is_answered, taken, with_known, with_reply, with_reply_of, with_start}
use Rattle.gba_serial.specs.End.{ended, ended_of, finished}
use Rattle.gba_serial.specs.Tell.{has_news, outgoing, reply_told, start_told}
use Rattle.gba_serial.specs.Steps.{HalfwordWrite, all_written, fed, hear}
use Rattle.gba_serial.specs.Law.{KeepsTransfer}
use Rattle.gba_serial.specs.declared.transfer.Running.{Running}
use Rattle.gba_serial.proofs.Busy.{writes}
use Rattle.gba_serial.proofs.Seats.{stays}
use Rattle.link_node.specs.declared.signal.Incoming.{Incoming}
use Rattle.link_node.specs.declared.signal.LinkMode.{LinkMode}
use Rattle.link_node.specs.declared.signal.LinkMode.TheVariants.{Normal8, Normal32, Multi, Other}
use Rattle.link_node.specs.declared.signal.Signal.{Signal}
use Rattle.link_node.specs.declared.signal.Start.{Start}
use Rattle.gba_agreement.proofs.Course.{Course, HasPlace, IsAlike, IsOn, alike-written, either, is_on-running, multi-is, on-alike, place-alike, true-not_false}

-- what is heard posts no start
finished-start : (run : Running) (u : SerialUnit) → (finished run u).start ≡ u.start
unfolding finished
finished-start run u = refl

ended_of-start : (clock : ℕ) (run : Option Running) (u : SerialUnit) → (ended_of clock run u).start ≡ u.start
ended_of-start clock None u = refl
ended_of-start clock (Some run) u =
    either (λ v. v.start ≡ u.start) (nat_le run.end clock) _ _ (λ now. finished-start run u) (λ later. refl)

ended-start : (clock : ℕ) (u : SerialUnit) → (ended clock u).start ≡ u.start
ended-start clock u = ended_of-start clock u.run u

reply_of-start : (sender word : ℕ) (run : Option Running) (u : SerialUnit)
    → (with_reply_of sender word run u).start ≡ u.start
reply_of-start sender word None u = refl
reply_of-start sender word (Some run) u =
    either (λ v. v.start ≡ u.start) (is_multi (mode_of u)) _ _ (λ multi. refl)
    (λ normal. either (λ v. v.start ≡ u.start) (run.starter && is_wired sender u) _ _ (λ took. refl) (λ left. refl))

reply-start : (sender : ℕ) (reply : Option ℕ) (u : SerialUnit) → (with_reply sender reply u).start ≡ u.start
unfolding with_reply
reply-start sender None u = refl
reply-start sender (Some word) u = reply_of-start sender word u.run u

start-start : (due : Incoming) (start : Option Start) (u : SerialUnit) → (with_start due start u).start ≡ u.start
unfolding with_start
start-start due None u = refl
start-start due (Some start) u =
    either (λ v. v.start ≡ u.start) (is_answered due start u) _ _
    (λ answers. either (λ v. v.start ≡ u.start) (is_multi (mode_of u)) _ _ (λ multi. refl) (λ normal. refl))
    (λ ignored. refl)

taken-start : (due : Incoming) (u : SerialUnit) → (taken due u).start ≡ u.start
unfolding taken
taken-start due u =
    let known = with_known due u in
    either (λ v. v.start ≡ u.start) (is_peer due.sender u) _ _
    (λ peer. start-start due due.signal.start (with_reply due.sender due.signal.reply known)
    ∙ reply-start due.sender due.signal.reply known) (λ other. refl)

fed-start : (dues : List Incoming) (u : SerialUnit) → (fed dues u).start ≡ u.start
fed-start [] u = refl
fed-start (due ∷ dues) u =
    fed-start dues (taken due (ended due.arrival u)) ∙ taken-start due (ended due.arrival u) ∙ ended-start due.arrival u

pub hear-start : (clock : ℕ) (dues : List Incoming) (u : SerialUnit) → (hear clock dues u).start ≡ u.start
hear-start clock dues u = ended-start clock (fed dues u) ∙ fed-start dues u

-- a transfer that writes at a clock began, with what is told of it
abbrev pub course_begun : ℕ → Start → SerialUnit → Course
course_begun clock start v = record {
  mode = mode_of v;
  end = transfer_end v.count v.round (mode_of v) start.speed clock;
  starter = true;
  sent = start.word;
  player = v.player;
  count = v.count;
}

pub record HasBegun (clock : ℕ) (start : Start) (v : SerialUnit) : Type 0 where
  pub on : IsOn (course_begun clock start v) v
  pub speed_small : start.speed < 4
  pub normal_speed : is_multi (mode_of v) ≡ false → start.speed < 2
  pub word_small : start.word < 2 ^ word_width (mode_of v)
  pub own : is_multi (mode_of v) ≡ true → HasPlace Multi v.player true start.word v
  pub others : is_multi (mode_of v) ≡ true → (j : ℕ) → j ≢ v.player → j < 4 → HasPlace Multi j false 0xffff v

pub data_word-small : (mode : LinkMode) (u : SerialUnit) → data_word mode u < 2 ^ word_width mode
data_word-small Normal8 u = omega arith
data_word-small Normal32 u = omega arith
data_word-small Multi u = omega arith
data_word-small Other u = omega arith

-- places of a list in which one is filled
ones : List ℕ
ones = 0xffff ∷ 0xffff ∷ 0xffff ∷ 0xffff ∷ []

pub ones_at : (i : ℕ) → i < 4 → slice_index (0xffff ∷ 0xffff ∷ 0xffff ∷ 0xffff ∷ []) i ≡ 0xffff
ones_at zero four = refl
ones_at (suc zero) four = refl
ones_at (suc (suc zero)) four = refl
ones_at (suc (suc (suc zero))) four = refl
ones_at (suc (suc (suc (suc i)))) four = absurd (omega arith)

pub none_at : (i : ℕ) → was_received none_received i ≡ false
none_at zero = refl
none_at (suc zero) = refl
none_at (suc (suc zero)) = refl
none_at (suc (suc (suc zero))) = refl
none_at (suc (suc (suc (suc i)))) = refl

pub first_words-own : (player word : ℕ) → player < 4 → slice_index (first_words player word) player ≡ word
first_words-own player word four =
    get_or-set_same (0xffff ∷ 0xffff ∷ 0xffff ∷ 0xffff ∷ []) player word 0 (omega arith)

pub first_words-other : (player word j : ℕ) → j ≢ player → j < 4 → slice_index (first_words player word) j ≡ 0xffff
first_words-other player word j apart four =
    get_or-set_other (0xffff ∷ 0xffff ∷ 0xffff ∷ 0xffff ∷ []) player j word 0 apart ∙ ones_at j four

pub received-own : (player : ℕ) → player < 4 → was_received (received_from player) player ≡ true
received-own player four = get_or-set_same (false ∷ false ∷ false ∷ false ∷ []) player true false (omega arith)

pub received-other : (player j : ℕ) → j ≢ player → was_received (received_from player) j ≡ false
received-other player j apart =
    get_or-set_other (false ∷ false ∷ false ∷ false ∷ []) player j true false apart ∙ none_at j

-- a write that begins
speed-small : (u : SerialUnit) → speed_of u < 4
speed-small u = by (is_multi (mode_of u)) u
  where
    by : (multi : Bool) (u : SerialUnit) → (if multi then field u.control 0 2 else field u.control 1 1) < 4
    by true u = omega arith
    by false u = omega arith

speed-normal : (u : SerialUnit) → is_multi (mode_of u) ≡ false → speed_of u < 2
speed-normal u normal = by (is_multi (mode_of u)) u normal
  where
    by : (multi : Bool) (u : SerialUnit) → multi ≡ false
        → (if multi then field u.control 0 2 else field u.control 1 1) < 2
    by true u e = cc
    by false u e = omega arith

some-start : {X : Type 0} (one other : X) → Some one ≡ Some other → one ≡ other
some-start one other e = cc

multi_begun-has : (clock : ℕ) (u : SerialUnit) → is_multi (mode_of u) ≡ true → u.player < 4
    → HasBegun clock (record { speed = speed_of u; word = data_word Multi u }) (multi_begun clock u)
unfolding multi_begun
multi_begun-has clock u multi four = record {
  on = record {
    run = _;
    runs = refl;
    mode_is = refl;
    end_is = sym (ap (λ test. if test then multi_end u.count (speed_of u) clock
        else normal_end u.round (mode_of u) (speed_of u) clock) multi);
    starter_is = refl;
    sent_is = refl;
    player_is = refl;
    count_is = refl;
    four_words = λ is. length-set (0xffff ∷ 0xffff ∷ 0xffff ∷ 0xffff ∷ []) u.player (data_word Multi u);
    four_marks = length-set (false ∷ false ∷ false ∷ false ∷ []) u.player true;
  };
  speed_small = speed-small u;
  normal_speed = λ normal. speed-normal u normal;
  word_small =
      subst (λ mode. data_word Multi u < 2 ^ word_width mode) (sym (multi-is (mode_of u) multi))
      (data_word-small Multi u);
  own = λ is. record {
    got_is = received-own u.player four;
    word_is = first_words-own u.player (data_word Multi u) four;
  };
  others = λ is j apart below. record {
    got_is = received-other u.player j apart;
    word_is = first_words-other u.player (data_word Multi u) j apart below;
  };
}

normal_begun-has : (clock : ℕ) (u : SerialUnit) → is_multi (mode_of u) ≡ false
    → HasBegun clock (record { speed = speed_of u; word = own_word u }) (normal_begun clock u)
unfolding normal_begun
normal_begun-has clock u normal = record {
  on = record {
    run = _;
    runs = refl;
    mode_is = refl;
    end_is = sym (ap (λ test. if test then multi_end u.count (speed_of u) clock
        else normal_end u.round (mode_of u) (speed_of u) clock) normal);
    starter_is = refl;
    sent_is = refl;
    player_is = refl;
    count_is = refl;
    four_words = λ multi. true-not_false (is_multi (mode_of u)) multi normal;
    four_marks = refl;
  };
  speed_small = speed-small u;
  normal_speed = λ is. speed-normal u is;
  word_small = data_word-small (mode_of u) u;
  own = λ multi. true-not_false (is_multi (mode_of u)) multi normal;
  others = λ multi. true-not_false (is_multi (mode_of u)) multi normal;
}

-- a unit whose start is told has begun
pub record StartsAs (clock : ℕ) (start : Start) (v : SerialUnit) : Type 0 where
  pub has : v.start ≡ Some start → HasBegun clock start v

none-some : {X P : Type 0} (one : X) → None ≡ Some one → P
none-some one e = cc

no_start : (clock : ℕ) (start : Start) (v : SerialUnit) → v.start ≡ None → StartsAs clock start v
no_start clock start v none = record { has = λ is. none-some start (sym none ∙ is) }

multi_begun-as : (clock : ℕ) (start : Start) (u : SerialUnit) → is_multi (mode_of u) ≡ true → u.player < 4
    → StartsAs clock start (multi_begun clock u)
unfolding multi_begun
multi_begun-as clock start u multi four = record {
  has = λ is. subst (λ one. HasBegun clock one (multi_begun clock u))
      (some-start (record { speed = speed_of u; word = data_word Multi u }) start is)
      (multi_begun-has clock u multi four);
}

normal_begun-as : (clock : ℕ) (start : Start) (u : SerialUnit) → is_multi (mode_of u) ≡ false → u.start ≡ None
    → StartsAs clock start (normal_begun clock u)
unfolding normal_begun
normal_begun-as clock start u normal none = record { has = by (nat_lt u.player 2) }
  where
    by : (test : Bool)
        → (if test then Some (record { speed = speed_of u; word = own_word u }) else u.start) ≡ Some start
        → HasBegun clock start (normal_begun clock u)
    by true e =
        subst (λ one. HasBegun clock one (normal_begun clock u)) (some-start _ start e)
        (normal_begun-has clock u normal)
    by false e = none-some start (sym none ∙ e)

begun-as : (clock : ℕ) (start : Start) (u : SerialUnit) → u.player < 4 → u.start ≡ None
    → StartsAs clock start (begun clock u)
begun-as clock start u four none =
    either (StartsAs clock start) (is_multi (mode_of u)) _ _ (λ multi. multi_begun-as clock start u multi four)
    (λ normal. normal_begun-as clock start u normal none)

control-as : (clock bits : ℕ) (start : Start) (u : SerialUnit) → u.player < 4 → u.start ≡ None
    → StartsAs clock start (with_control clock bits u)
unfolding with_control
control-as clock bits start u four none =
    either (StartsAs clock start) (is_running u) _ _ (λ busy. no_start clock start _ none)
    (λ idle. either (StartsAs clock start) (begins bits u) _ _
    (λ goes. begun-as clock start (record u { control = idle_control bits u }) four none)
    (λ stays. no_start clock start _ none))

put-as : (clock offset bits : ℕ) (start : Start) (u : SerialUnit) → u.player < 4 → u.start ≡ None
    → StartsAs clock start (put_at clock offset bits u)
put-as clock offset bits start u four none =
    let P = StartsAs clock start in
    either P (nat_eq offset 0x120) _ _ (λ at. no_start clock start _ none)
    (λ no. either P (nat_eq offset 0x122) _ _ (λ at. no_start clock start _ none)
    (λ no. either P (nat_eq offset 0x124) _ _ (λ at. no_start clock start _ none)
    (λ no. either P (nat_eq offset 0x126) _ _ (λ at. no_start clock start _ none)
    (λ no. either P (nat_eq offset 0x128) _ _ (λ at. control-as clock bits start u four none)
    (λ no. either P (nat_eq offset 0x12a) _ _ (λ at. no_start clock start _ none)
    (λ no. either P (nat_eq offset 0x134) _ _ (λ at. no_start clock start _ none)
    (λ no. no_start clock start u none)))))))

-- further writes keep what has begun
has-alike : (clock : ℕ) (start : Start) (a b : SerialUnit) → IsAlike a b → b.round ≡ a.round → HasBegun clock start a
    → HasBegun clock start b
has-alike clock start a b alike round has =
    let course : course_begun clock start b ≡ course_begun clock start a =
    ap (λ n. record (course_begun clock start b) { end = transfer_end b.count n (mode_of b) start.speed clock }) round
    ∙ ap (λ mode. record (course_begun clock start b) {
      mode = mode;
      end = transfer_end b.count a.round mode start.speed clock;
    })
    alike.mode
    ∙ ap (λ n. record (course_begun clock start b) {
      mode = mode_of a;
      end = transfer_end n a.round (mode_of a) start.speed clock;
      count = n;
    }) alike.count
    ∙ ap (λ n. record (course_begun clock start a) { player = n }) alike.player in
    record {
      on = subst (λ c. IsOn c b) (sym course) (on-alike (course_begun clock start a) a b alike has.on);
      speed_small = has.speed_small;
      normal_speed = λ normal. has.normal_speed (ap is_multi (sym alike.mode) ∙ normal);
      word_small = subst (λ mode. start.word < 2 ^ word_width mode) (sym alike.mode) has.word_small;
      own = λ multi. subst (λ n. HasPlace Multi n true start.word b) (sym alike.player)
          (place-alike Multi a.player true start.word a b alike (has.own (ap is_multi (sym alike.mode) ∙ multi)));
      others = λ multi j apart below. place-alike Multi j false 0xffff a b alike
          (has.others (ap is_multi (sym alike.mode) ∙ multi) j (λ e. apart (e ∙ sym alike.player)) below);
    }

-- the unit's seat and start along writes
record HasSeat (player count round : ℕ) (u : SerialUnit) : Type 0 where
  player_is : u.player ≡ player
  count_is : u.count ≡ count
  round_is : u.round ≡ round

written-as : (clock offset value : ℕ) (start : Start) (u : SerialUnit) → u.player < 4
    → (u.start ≡ None) ⊎ ((one : Start) × (u.start ≡ Some one) × HasBegun clock one u)
    → StartsAs clock start (written clock offset value u)
written-as clock offset value start u four before =
    elim before [
      | inl none ↦ put-as clock offset (bit_and value (row_at serial_rows offset).write_mask) start u four none
      | inr some ↦
          let running = is_on-running (course_begun clock some.0 u) u some.2.on in
          let kept : KeepsTransfer u (written clock offset value u) = writes clock offset value u running in
          let there =
          has-alike clock some.0 u (written clock offset value u) (alike-written clock offset value u running)
          (stays.written clock offset value u).round some.2 in
          record {
            has = λ is. subst (λ one. HasBegun clock one (written clock offset value u))
                (some-start some.0 start (sym some.1 ∙ sym kept.start ∙ is)) there;
          }
    ]

start-cases : (clock : ℕ) (v : SerialUnit) → ((one : Start) → StartsAs clock one v)
    → (v.start ≡ None) ⊎ ((one : Start) × (v.start ≡ Some one) × HasBegun clock one v)
start-cases clock v starts = by v.start refl
  where
    by : (o : Option Start) → v.start ≡ o
        → (v.start ≡ None) ⊎ ((one : Start) × (v.start ≡ Some one) × HasBegun clock one v)
    by None e = inl e
    by (Some one) e = inr (one, e, (starts one).has e)

-- writes that post a start have begun its transfer
all_written-player : (clock : ℕ) (ws : List HalfwordWrite) (u : SerialUnit) → (all_written clock ws u).player ≡ u.player
all_written-player clock [] u = refl
all_written-player clock (one ∷ earlier) u =
    (stays.written clock one.offset one.value (all_written clock earlier u)).player ∙ all_written-player clock earlier u

pub all_written-as : (clock : ℕ) (ws : List HalfwordWrite) (start : Start) (u : SerialUnit) → u.player < 4
    → u.start ≡ None → StartsAs clock start (all_written clock ws u)
all_written-as clock [] start u four none = no_start clock start u none
all_written-as clock (one ∷ earlier) start u four none =
    let v = all_written clock earlier u in
    written-as clock one.offset one.value start v
    (let same = all_written-player clock earlier u in omega (arith, same, four))
    (start-cases clock v (λ start. all_written-as clock earlier start u four none))

-- what is told: the clock, the mode, the start and the reply
pub record Tells (clock : ℕ) (v : SerialUnit) (s : Signal) : Type 0 where
  pub clock_is : s.clock ≡ clock
  pub mode_is : s.mode ≡ mode_of v
  pub start_is : s.start ≡ option_map start_told v.start
  pub reply_is : s.reply ≡ option_map reply_told v.reply

pub outgoing-tells : (clock : ℕ) (v : SerialUnit) (s : Signal) → outgoing clock v ≡ Some s → Tells clock v s
unfolding outgoing
outgoing-tells clock v s is = by (has_news v) is
  where
    told : Signal
    told = record {
      clock = clock;
      mode = mode_of v;
      start = option_map start_told v.start;
      reply = option_map reply_told v.reply;
    }

    by : (news : Bool) → (if news then Some told else None) ≡ Some s → Tells clock v s
    by true e =
        let same : s ≡ told = let one : Some told ≡ Some s = e in cc in
        record {
          clock_is = ap (λ (t : Signal). t.clock) same;
          mode_is = ap (λ (t : Signal). t.mode) same;
          start_is = ap (λ (t : Signal). t.start) same;
          reply_is = ap (λ (t : Signal). t.reply) same;
        }
    by false e = none-some s e

-- a unit with a reply tells it
pub record Replies (clock word : ℕ) (v : SerialUnit) : Type 0 where
  pub signal : Signal
  pub told_is : outgoing clock v ≡ Some signal
  pub clock_is : signal.clock ≡ clock
  pub reply_is : signal.reply ≡ Some (reply_told word)

pub outgoing-replies : (clock word : ℕ) (v : SerialUnit) → v.reply ≡ Some word → Replies clock word v
unfolding outgoing
outgoing-replies clock word v posted = record {
  signal = record {
    clock = clock;
    mode = mode_of v;
    start = option_map start_told v.start;
    reply = option_map reply_told v.reply;
  };
  told_is = rw news refl;
  clock_is = refl;
  reply_is = ap (option_map reply_told) posted;
}
  where
    or-middle : (a b c : Bool) → b ≡ true → (a || b || c) ≡ true
    or-middle true b c e = refl
    or-middle false true c e = refl
    or-middle false false c e = cc

    news : has_news v ≡ true
    news = or-middle (is_some v.start) (is_some v.reply) (not (is_same (mode_of v) v.told)) (ap is_some posted)
