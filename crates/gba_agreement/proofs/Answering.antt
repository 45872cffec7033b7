-- How a transfer begins by an answer to a start.
use Rattle.std.proofs.Common.{ℕ, ◌≡◌, ◌≢◌, ◌+◌, ◌<◌, ◌≤◌, ◌^◌, ◌/◌, ◌%◌, Bool, true, false, not, ◌&&◌, ◌||◌, List, [], ◌∷◌, length, Option, None, Some, is_some, if◌then◌else◌, refl, ap, sym, subst, ◌∙◌, arith}
use Rattle.std.specs.Prelude.{bit_or, nat_eq, nat_le, nat_lt, slice_index, slice_index_or, slice_set, ◌==◌}
use Rattle.std.proofs.lemmas.Bool.Decides.{nat_tests}
use Rattle.std.proofs.lemmas.List.{length-set, get_or-set_same, get_or-set_other}
use Rattle.std.proofs.lemmas.Nat.{or_mod, or_shr}
use Rattle.std.specs.Int.Bits.{or_zero_r}
use Rattle.gba_terms.specs.Bits.{bit, field}
use Rattle.gba_serial.specs.Timing.{chosen_mode, cut_word, is_multi, is_normal, is_same, mode_by}
use Rattle.gba_serial.specs.SerialUnit.{SerialUnit, data_word, is_peer, is_running, is_wired, mode_of, own_word}
use Rattle.gba_serial.specs.Write.{first_words, received_from}
use Rattle.gba_serial.specs.Take.{answered, can_answer, end_of, ends_later, is_answered, is_proper_start, multi_answered, normal_answered, taken, waits, with_known, with_reply, with_reply_of, with_start}
use Rattle.gba_serial.proofs.Telling.{is_same-self}
use Rattle.link_node.specs.declared.signal.Incoming.{Incoming}
use Rattle.link_node.specs.declared.signal.LinkMode.{LinkMode}
use Rattle.link_node.specs.declared.signal.LinkMode.TheVariants.{Normal8, Normal32, Multi, Other}
use Rattle.link_node.specs.declared.signal.Start.{Start}
use Rattle.gba_agreement.proofs.Course.{Course, HasPlace, IsOn, either, multi-is, true-not_false}
use Rattle.gba_agreement.proofs.Starting.{first_words-other, received-own, received-other}

-- a unit that can answer a start
pub record CanAnswer (due : Incoming) (start : Start) (u : SerialUnit) : Type 0 where
  pub starts : due.signal.start ≡ Some start
  pub peer : is_peer due.sender u ≡ true
  pub proper : is_proper_start due start u ≡ true
  pub later : due.arrival + 512 ≤ end_of due start u
  pub mode_is : mode_of u ≡ due.signal.mode
  pub idle : u.run ≡ None
  pub ready : (is_multi (mode_of u) || waits u) ≡ true

abbrev pub course_answered : Incoming → Start → SerialUnit → Course
course_answered due start u = record {
  mode = mode_of u;
  end = end_of due start u;
  starter = false;
  sent = own_word u;
  player = u.player;
  count = u.count;
}

-- a unit that has answered
pub record HasAnswered (due : Incoming) (start : Start) (u v : SerialUnit) : Type 0 where
  pub on : IsOn (course_answered due start u) v
  pub reply : v.reply ≡ Some (own_word u)
  pub from_starter : HasPlace (mode_of u) due.sender true (cut_word (mode_of u) start.word) v
  pub own : is_multi (mode_of u) ≡ true → HasPlace Multi u.player true (own_word u) v
  pub others : is_multi (mode_of u) ≡ true → (j : ℕ) → j ≢ 0 → j ≢ u.player → j < 4 → HasPlace Multi j false 0xffff v

-- the bits that say the mode
or-zero : (n : ℕ) → bit_or n 0 ≡ n
or-zero n = or_zero_r n

choice-answered : (control : ℕ) → field (bit_or control 0x0080) 12 2 ≡ field control 12 2
choice-answered control =
    ap (λ n. n % 2 ^ 2) (or_shr control 0x0080 12) ∙ or_mod (control / 2 ^ 12) 0 2 ∙ or-zero (control / 2 ^ 12 % 2 ^ 2)

mode-answered : (u : SerialUnit) → mode_by u.select (bit_or u.control 0x0080) ≡ mode_of u
mode-answered u = ap (λ choice. if bit u.select 15 then Other else chosen_mode choice) (choice-answered u.control)

-- in Multi
both-first : (a b : Bool) → (a && b) ≡ true → a ≡ true
both-first true b e = refl
both-first false b e = cc

zero-is : (sender : ℕ) → nat_eq sender 0 ≡ true → sender ≡ 0
zero-is sender e = grind (arith, nat_tests)

multi_answered-has : (due : Incoming) (start : Start) (u : SerialUnit) → is_multi (mode_of u) ≡ true → due.sender ≡ 0
    → u.player ≢ 0 → u.player < 4 → HasAnswered due start u (multi_answered due start u)
multi_answered-has due start u multi first apart four =
    let mode : mode_of u ≡ Multi = multi-is (mode_of u) multi in
    let own : data_word Multi u ≡ own_word u = ap (λ m. data_word m u) (sym mode) in
    let words : List ℕ = first_words 0 (cut_word Multi start.word) in
    let long : length words ≡ 4 = length-set (0xffff ∷ 0xffff ∷ 0xffff ∷ 0xffff ∷ []) 0 (cut_word Multi start.word) in
    let word : ℕ = data_word Multi u in
    record {
      on = record {
        run = _;
        runs = refl;
        mode_is = mode-answered u;
        end_is = refl;
        starter_is = refl;
        sent_is = own;
        player_is = refl;
        count_is = refl;
        four_words = λ is. length-set words u.player word ∙ long;
        four_marks = length-set (received_from 0) u.player true;
      };
      reply = ap Some own;
      from_starter = record {
        got_is = ap (λ j. slice_index_or (slice_set (received_from 0) u.player true) j false) first
            ∙ get_or-set_other (received_from 0) u.player 0 true false (λ e. apart (sym e));
        word_is = ap (λ test. if test then slice_index (slice_set words u.player word) due.sender else 0) multi
            ∙ ap (λ j. slice_index (slice_set words u.player word) j) first
            ∙ get_or-set_other words u.player 0 word 0 (λ e. apart (sym e))
            ∙ ap (λ m. cut_word m start.word) (sym mode);
      };
      own = λ is. record {
        got_is = get_or-set_same (received_from 0) u.player true false (omega (arith, four));
        word_is = get_or-set_same words u.player word 0 (omega (arith, four, long)) ∙ own;
      };
      others = λ is j other self below. record {
        got_is = get_or-set_other (received_from 0) u.player j true false self ∙ received-other 0 j other;
        word_is = get_or-set_other words u.player j word 0 self
            ∙ first_words-other 0 (cut_word Multi start.word) j other below;
      };
    }

-- in a Normal mode
normal_answered-has : (due : Incoming) (start : Start) (u : SerialUnit) → is_multi (mode_of u) ≡ false → due.sender < 4
    → HasAnswered due start u (normal_answered due start u)
normal_answered-has due start u normal four = record {
  on = record {
    run = _;
    runs = refl;
    mode_is = refl;
    end_is = refl;
    starter_is = refl;
    sent_is = refl;
    player_is = refl;
    count_is = refl;
    four_words = λ multi. true-not_false (is_multi (mode_of u)) multi normal;
    four_marks = length-set (false ∷ false ∷ false ∷ false ∷ []) due.sender true;
  };
  reply = refl;
  from_starter = record {
    got_is = received-own due.sender four;
    word_is = ap (λ test. if test then slice_index u.words due.sender else cut_word (mode_of u) start.word) normal;
  };
  own = λ multi. true-not_false (is_multi (mode_of u)) multi normal;
  others = λ multi. true-not_false (is_multi (mode_of u)) multi normal;
}

-- the signal at its turn
idle-reply : (sender : ℕ) (reply : Option ℕ) (u : SerialUnit) → u.run ≡ None → with_reply sender reply u ≡ u
unfolding with_reply
idle-reply sender None u idle = refl
idle-reply sender (Some word) u idle = ap (λ some. with_reply_of sender word some u) idle

at-least : (a b : ℕ) → a ≤ b → nat_le a b ≡ true
at-least a b h = grind (arith, nat_tests)

all-three : (a b c : Bool) → a ≡ true → b ≡ true → c ≡ true → (a && b && c) ≡ true
all-three true true c one two three = three
all-three true false c one two three = two
all-three false b c one two three = one

is-answered : (due : Incoming) (start : Start) (u : SerialUnit) → CanAnswer due start u → is_answered due start u ≡ true
is-answered due start u can =
    let idle : not (is_running u) ≡ true = ap (λ o. not (is_some o)) can.idle in
    let same : is_same (mode_of u) due.signal.mode ≡ true =
    ap (λ m. is_same m due.signal.mode) can.mode_is ∙ is_same-self due.signal.mode in
    all-three (is_proper_start due start u) (ends_later due start u) (can_answer due u) can.proper
    (at-least (due.arrival + 512) (end_of due start u) can.later)
    (all-three (not (is_running u)) (is_same (mode_of u) due.signal.mode) (is_multi (mode_of u) || waits u) idle same
    can.ready)

start-taken : (due : Incoming) (start : Start) (u : SerialUnit) → is_answered due start u ≡ true
    → with_start due (Some start) u ≡ answered due start u
unfolding with_start
start-taken due start u is = rw is refl

taken-is : (due : Incoming) (start : Start) (u : SerialUnit) → CanAnswer due start u
    → taken due u ≡ answered due start (with_known due u)
unfolding taken
taken-is due start u can =
    let known = with_known due u in
    ap (λ test. if test then with_start due due.signal.start (with_reply due.sender due.signal.reply known) else u)
    can.peer
    ∙ ap (with_start due due.signal.start) (idle-reply due.sender due.signal.reply known can.idle)
    ∙ ap (λ o. with_start due o known) can.starts
    ∙ start-taken due start known (is-answered due start u can)

own_word-known : (mode : LinkMode) (due : Incoming) (u : SerialUnit)
    → data_word mode (with_known due u) ≡ data_word mode u
own_word-known Normal8 due u = refl
own_word-known Normal32 due u = refl
own_word-known Multi due u = refl
own_word-known Other due u = refl

peer-other : (sender player count : ℕ) → (nat_lt sender count && not (sender == player)) ≡ true → sender ≢ player
peer-other sender player count test = grind (arith, nat_tests)

starter-is : (due : Incoming) (start : Start) (u : SerialUnit) → CanAnswer due start u → is_multi (mode_of u) ≡ true
    → due.sender ≡ 0
starter-is due start u can multi =
    let is : is_multi due.signal.mode ≡ true = ap is_multi (sym can.mode_is) ∙ multi in
    let proper : (nat_eq due.sender 0 && nat_lt start.speed 4) ≡ true =
    sym (ap (λ test. if test then (due.sender == 0) && nat_lt start.speed 4
    else is_normal due.signal.mode && is_wired due.sender u && nat_lt start.speed 2) is) ∙ can.proper in
    zero-is due.sender (both-first (nat_eq due.sender 0) (nat_lt start.speed 4) proper)

pub taken-answers : (due : Incoming) (start : Start) (u : SerialUnit) → CanAnswer due start u → u.player < 4
    → due.sender < 4 → HasAnswered due start u (taken due u)
taken-answers due start u can player sender =
    let known = with_known due u in
    let P : SerialUnit → Type 0 = HasAnswered due start known in
    let has : HasAnswered due start known (answered due start known) =
    either P (is_multi (mode_of known)) _ _
    (λ multi.
    let first = starter-is due start u can multi in
    let apart = peer-other due.sender u.player u.count can.peer in
    multi_answered-has due start known multi first (λ e. apart (first ∙ sym e)) player)
    (λ normal. normal_answered-has due start known normal sender) in
    let there : HasAnswered due start known (taken due u) = subst P (sym (taken-is due start u can)) has in
    let own : own_word known ≡ own_word u = own_word-known (mode_of u) due u in
    record {
      on = record {
        run = there.on.run;
        runs = there.on.runs;
        mode_is = there.on.mode_is;
        end_is = there.on.end_is;
        starter_is = there.on.starter_is;
        sent_is = there.on.sent_is ∙ own;
        player_is = there.on.player_is;
        count_is = there.on.count_is;
        four_words = there.on.four_words;
        four_marks = there.on.four_marks;
      };
      reply = there.reply ∙ ap Some own;
      from_starter = there.from_starter;
      own = λ multi. subst (λ word. HasPlace Multi u.player true word (taken due u)) own (there.own multi);
      others = there.others;
    }
