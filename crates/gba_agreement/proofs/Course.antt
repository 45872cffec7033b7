-- A unit in a transfer: what signals, writes and silence keep of it, and the words that have come.
use Rattle.std.proofs.Common.{ℕ, ◌≡◌, ◌≢◌, ◌+◌, ◌<◌, Bool, true, false, not, ◌&&◌, List, [], ◌∷◌, length, Option, None, Some, is_some, if◌then◌else◌, refl, ap, sym, subst, ◌∙◌, arith}
use Rattle.std.specs.Prelude.{slice_index, slice_set, ◌==◌, nat_lt}
use Rattle.std.proofs.lemmas.Bool.Decides.{nat_tests}
use Rattle.std.proofs.lemmas.List.{length-set, get_or-set_same, get_or-set_other}
use Rattle.gba_serial.specs.Timing.{cut_word, is_multi}
use Rattle.gba_serial.specs.SerialUnit.{SerialUnit, is_peer, is_running, is_wired, mode_of, was_received}
use Rattle.gba_serial.specs.Write.{written}
use Rattle.gba_serial.specs.Take.{taken, with_known, with_multi_reply, with_normal_reply, with_reply, with_reply_in, with_reply_of}
use Rattle.gba_serial.specs.Tell.{silent}
use Rattle.gba_serial.specs.Steps.{HalfwordWrite, all_written}
use Rattle.gba_serial.specs.Law.{KeepsSeat, KeepsTransfer}
use Rattle.gba_serial.specs.declared.transfer.Running.{Running}
use Rattle.gba_serial.proofs.Busy.{writes}
use Rattle.gba_serial.proofs.Going.{start-is}
use Rattle.gba_serial.proofs.Seats.{stays}
use Rattle.link_node.specs.declared.signal.Incoming.{Incoming}
use Rattle.link_node.specs.declared.signal.LinkMode.{LinkMode}
use Rattle.link_node.specs.declared.signal.LinkMode.TheVariants.{Normal8, Normal32, Multi, Other}

-- one of two, whichever a test chooses, and what the test says
pub either : (P : SerialUnit → Type 0) (test : Bool) (one other : SerialUnit) → (test ≡ true → P one)
    → (test ≡ false → P other) → P (if test then one else other)
either P true one other here there = here refl
either P false one other here there = there refl

-- one side of a transfer: its mode, its end, whether this console started it, its own word, and its seat
pub record Course : Type 0 where
  pub mode : LinkMode
  pub end : ℕ
  pub starter : Bool
  pub sent : ℕ
  pub player : ℕ
  pub count : ℕ

-- a unit on that course
pub record IsOn (c : Course) (u : SerialUnit) : Type 0 where
  pub run : Running
  pub runs : u.run ≡ Some run
  pub mode_is : mode_of u ≡ c.mode
  pub end_is : run.end ≡ c.end
  pub starter_is : run.starter ≡ c.starter
  pub sent_is : run.sent ≡ c.sent
  pub player_is : u.player ≡ c.player
  pub count_is : u.count ≡ c.count
  pub four_words : is_multi c.mode ≡ true → length u.words ≡ 4
  pub four_marks : length run.got ≡ 4

pub is_on-running : (c : Course) (u : SerialUnit) → IsOn c u → is_running u ≡ true
is_on-running c u on = ap is_some on.runs

-- what has come of player j: whether its word was received, and its word, which stands in its place in Multi
abbrev pub marks_of : Option Running → List Bool
marks_of None = []
marks_of (Some run) = run.got

abbrev pub peer_of : Option Running → ℕ
peer_of None = 0
peer_of (Some run) = run.word

abbrev pub word_from : LinkMode → ℕ → SerialUnit → ℕ
word_from mode j u = if is_multi mode then slice_index u.words j else peer_of u.run

pub record HasPlace (mode : LinkMode) (j : ℕ) (got : Bool) (word : ℕ) (u : SerialUnit) : Type 0 where
  pub got_is : was_received (marks_of u.run) j ≡ got
  pub word_is : word_from mode j u ≡ word

-- a unit with the same transfer, mode, words and seat
pub record IsAlike (a b : SerialUnit) : Type 0 where
  pub run : b.run ≡ a.run
  pub mode : mode_of b ≡ mode_of a
  pub words : b.words ≡ a.words
  pub player : b.player ≡ a.player
  pub count : b.count ≡ a.count

pub on-alike : (c : Course) (a b : SerialUnit) → IsAlike a b → IsOn c a → IsOn c b
on-alike c a b alike on = record {
  run = on.run;
  runs = alike.run ∙ on.runs;
  mode_is = alike.mode ∙ on.mode_is;
  end_is = on.end_is;
  starter_is = on.starter_is;
  sent_is = on.sent_is;
  player_is = alike.player ∙ on.player_is;
  count_is = alike.count ∙ on.count_is;
  four_words = λ multi. ap length alike.words ∙ on.four_words multi;
  four_marks = on.four_marks;
}

pub place-alike : (mode : LinkMode) (j : ℕ) (got : Bool) (word : ℕ) (a b : SerialUnit) → IsAlike a b
    → HasPlace mode j got word a → HasPlace mode j got word b
place-alike mode j got word a b alike place = record {
  got_is = ap (λ run. was_received (marks_of run) j) alike.run ∙ place.got_is;
  word_is = ap (λ run. if is_multi mode then slice_index b.words j else peer_of run) alike.run
      ∙ ap (λ words. if is_multi mode then slice_index words j else peer_of a.run) alike.words ∙ place.word_is;
}

pub alike-silent : (u : SerialUnit) → IsAlike u (silent u)
alike-silent u = record { run = refl; mode = refl; words = refl; player = refl; count = refl }

alike-known : (due : Incoming) (u : SerialUnit) → IsAlike u (with_known due u)
alike-known due u = record { run = refl; mode = refl; words = refl; player = refl; count = refl }

pub alike-written : (clock offset value : ℕ) (u : SerialUnit) → is_running u ≡ true
    → IsAlike u (written clock offset value u)
alike-written clock offset value u running =
    let kept : KeepsTransfer u (written clock offset value u) = writes clock offset value u running in
    let seat : KeepsSeat u (written clock offset value u) = stays.written clock offset value u in
    record { run = kept.run; mode = kept.mode; words = kept.words; player = seat.player; count = seat.count }

pub alike-then : (a b c : SerialUnit) → IsAlike a b → IsAlike b c → IsAlike a c
alike-then a b c one other = record {
  run = other.run ∙ one.run;
  mode = other.mode ∙ one.mode;
  words = other.words ∙ one.words;
  player = other.player ∙ one.player;
  count = other.count ∙ one.count;
}

-- writes in a transfer
pub alike-all_written : (clock : ℕ) (ws : List HalfwordWrite) (u : SerialUnit) → is_running u ≡ true
    → IsAlike u (all_written clock ws u)
alike-all_written clock [] u running = record { run = refl; mode = refl; words = refl; player = refl; count = refl }
alike-all_written clock (one ∷ earlier) u running =
    let v = all_written clock earlier u in
    let before = alike-all_written clock earlier u running in
    alike-then u v _ before (alike-written clock one.offset one.value v (ap is_some before.run ∙ running))

-- a reply
multi_reply-on : (c : Course) (sender word : ℕ) (run : Running) (u : SerialUnit) → u.run ≡ Some run → IsOn c u
    → IsOn c (with_multi_reply sender word run u)
multi_reply-on c sender word run u runs on =
    let both : Some run ≡ Some on.run = sym runs ∙ on.runs in
    let same : run ≡ on.run = cc in
    record {
      run = _;
      runs = refl;
      mode_is = on.mode_is;
      end_is = ap (λ (r : Running). r.end) same ∙ on.end_is;
      starter_is = ap (λ (r : Running). r.starter) same ∙ on.starter_is;
      sent_is = ap (λ (r : Running). r.sent) same ∙ on.sent_is;
      player_is = on.player_is;
      count_is = on.count_is;
      four_words = λ multi. length-set u.words sender _ ∙ on.four_words multi;
      four_marks = length-set run.got sender true ∙ ap (λ (r : Running). length r.got) same ∙ on.four_marks;
    }

normal_reply-on : (c : Course) (sender word : ℕ) (run : Running) (u : SerialUnit) → u.run ≡ Some run → IsOn c u
    → IsOn c (with_normal_reply sender word run u)
normal_reply-on c sender word run u runs on =
    let both : Some run ≡ Some on.run = sym runs ∙ on.runs in
    let same : run ≡ on.run = cc in
    record {
      run = _;
      runs = refl;
      mode_is = on.mode_is;
      end_is = ap (λ (r : Running). r.end) same ∙ on.end_is;
      starter_is = ap (λ (r : Running). r.starter) same ∙ on.starter_is;
      sent_is = ap (λ (r : Running). r.sent) same ∙ on.sent_is;
      player_is = on.player_is;
      count_is = on.count_is;
      four_words = on.four_words;
      four_marks = length-set run.got sender true ∙ ap (λ (r : Running). length r.got) same ∙ on.four_marks;
    }

reply_in-on : (c : Course) (sender word : ℕ) (run : Running) (u : SerialUnit) → u.run ≡ Some run → IsOn c u
    → IsOn c (with_reply_in sender word run u)
reply_in-on c sender word run u runs on =
    either (IsOn c) (is_multi (mode_of u)) _ _ (λ multi. multi_reply-on c sender word run u runs on)
    (λ normal. either (IsOn c) (run.starter && is_wired sender u) _ _
    (λ taken. normal_reply-on c sender word run u runs on) (λ left. on))

reply_of-is : (sender word : ℕ) (run : Running) (u : SerialUnit) → u.run ≡ Some run
    → with_reply_of sender word u.run u ≡ with_reply_in sender word run u
reply_of-is sender word run u runs = ap (λ some. with_reply_of sender word some u) runs

reply-on : (c : Course) (sender : ℕ) (reply : Option ℕ) (u : SerialUnit) → IsOn c u → IsOn c (with_reply sender reply u)
unfolding with_reply
reply-on c sender None u on = on
reply-on c sender (Some word) u on =
    subst (IsOn c) (sym (reply_of-is sender word on.run u on.runs)) (reply_in-on c sender word on.run u on.runs on)

-- a signal: in a transfer its start is ignored
heard : Incoming → SerialUnit → SerialUnit
heard due u = with_reply due.sender due.signal.reply (with_known due u)

heard-on : (c : Course) (due : Incoming) (u : SerialUnit) → IsOn c u → IsOn c (heard due u)
unfolding heard
heard-on c due u on =
    reply-on c due.sender due.signal.reply (with_known due u) (on-alike c u (with_known due u) (alike-known due u) on)

taken-by : (P : SerialUnit → Type 0) (due : Incoming) (u : SerialUnit) → is_running (heard due u) ≡ true
    → (is_peer due.sender u ≡ true → P (heard due u)) → (is_peer due.sender u ≡ false → P u) → P (taken due u)
unfolding taken heard
taken-by P due u running here there =
    either P (is_peer due.sender u) _ _
    (λ peer. subst P (sym (start-is due due.signal.start (heard due u) running)) (here peer)) there

pub taken-on : (c : Course) (due : Incoming) (u : SerialUnit) → IsOn c u → IsOn c (taken due u)
taken-on c due u on =
    let there = heard-on c due u on in
    taken-by (IsOn c) due u (is_on-running c (heard due u) there) (λ peer. there) (λ other. on)

-- a reply leaves the places of other players
wired-is : (sender j player : ℕ) → j + player ≡ 1 → (sender + player == 1) ≡ true → sender ≡ j
wired-is sender j player one test = let same : sender + player ≡ 1 = grind (arith, nat_tests) in
    omega (arith, same, one)

-- in a Normal mode player j is the wired one
abbrev pub IsWiredTo : Course → ℕ → Type 0
IsWiredTo c j = is_multi c.mode ≡ false → j + c.player ≡ 1

and-second : (a b : Bool) → (a && b) ≡ true → b ≡ true
and-second true b both = both
and-second false b both = cc

multi_reply-place : (mode : LinkMode) (j sender word w : ℕ) (got : Bool) (run : Running) (u : SerialUnit)
    → is_multi mode ≡ true → u.run ≡ Some run → sender ≢ j → HasPlace mode j got w u
    → HasPlace mode j got w (with_multi_reply sender word run u)
multi_reply-place mode j sender word w got run u multi runs apart place = record {
  got_is = get_or-set_other run.got sender j true false (λ e. apart (sym e))
      ∙ ap (λ some. was_received (marks_of some) j) (sym runs) ∙ place.got_is;
  word_is = ap (λ test. if test then slice_index (slice_set u.words sender (cut_word Multi word)) j else run.word) multi
      ∙ get_or-set_other u.words sender j (cut_word Multi word) 0 (λ e. apart (sym e))
      ∙ ap (λ test. if test then slice_index u.words j else peer_of u.run) (sym multi) ∙ place.word_is;
}

reply_in-place : (c : Course) (j sender word w : ℕ) (got : Bool) (run : Running) (u : SerialUnit) → u.run ≡ Some run
    → IsOn c u → IsWiredTo c j → sender ≢ j → HasPlace c.mode j got w u
    → HasPlace c.mode j got w (with_reply_in sender word run u)
reply_in-place c j sender word w got run u runs on wire apart place =
    let P : SerialUnit → Type 0 = HasPlace c.mode j got w in
    either P (is_multi (mode_of u)) _ _
    (λ multi. multi_reply-place c.mode j sender word w got run u (ap is_multi (sym on.mode_is) ∙ multi) runs
    apart place)
    (λ normal. either P (run.starter && is_wired sender u) _ _
    (λ taken.
    let one : j + c.player ≡ 1 = wire (ap is_multi (sym on.mode_is) ∙ normal) in
    let seat : j + u.player ≡ 1 = ap (λ n. j + n) on.player_is ∙ one in
    absurd (apart (wired-is sender j u.player seat (and-second run.starter (is_wired sender u) taken))))
    (λ left. place))

reply-place : (c : Course) (j sender w : ℕ) (reply : Option ℕ) (got : Bool) (u : SerialUnit) → IsOn c u → IsWiredTo c j
    → sender ≢ j → HasPlace c.mode j got w u → HasPlace c.mode j got w (with_reply sender reply u)
unfolding with_reply
reply-place c j sender w None got u on wire apart place = place
reply-place c j sender w (Some word) got u on wire apart place =
    subst (HasPlace c.mode j got w) (sym (reply_of-is sender word on.run u on.runs))
    (reply_in-place c j sender word w got on.run u on.runs on wire apart place)

pub taken-place : (c : Course) (j w : ℕ) (got : Bool) (due : Incoming) (u : SerialUnit) → IsOn c u → IsWiredTo c j
    → due.sender ≢ j → HasPlace c.mode j got w u → HasPlace c.mode j got w (taken due u)
unfolding heard
taken-place c j w got due u on wire apart place =
    let known = with_known due u in
    taken-by (HasPlace c.mode j got w) due u (is_on-running c (heard due u) (heard-on c due u on))
    (λ peer. reply-place c j due.sender w due.signal.reply got known (on-alike c u known (alike-known due u) on)
    wire apart (place-alike c.mode j got w u known (alike-known due u) place))
    (λ other. place)

-- a reply fills its sender's place: in a Normal mode the starter's
pub multi-is : (mode : LinkMode) → is_multi mode ≡ true → mode ≡ Multi
multi-is Normal8 test = cc
multi-is Normal32 test = cc
multi-is Multi test = refl
multi-is Other test = cc

multi_reply-fills : (c : Course) (sender word : ℕ) (run : Running) (u : SerialUnit) → u.run ≡ Some run → IsOn c u
    → is_multi c.mode ≡ true → sender < 4
    → HasPlace c.mode sender true (cut_word c.mode word) (with_multi_reply sender word run u)
multi_reply-fills c sender word run u runs on multi four =
    let both : Some run ≡ Some on.run = sym runs ∙ on.runs in
    let same : run ≡ on.run = cc in
    let long : length run.got ≡ 4 = ap (λ (r : Running). length r.got) same ∙ on.four_marks in
    let words = on.four_words multi in
    record {
      got_is = get_or-set_same run.got sender true false (omega (arith, long, four));
      word_is =
          ap (λ test. if test then slice_index (slice_set u.words sender (cut_word Multi word)) sender else run.word)
          multi
          ∙ get_or-set_same u.words sender _ 0 (omega (arith, words, four))
          ∙ ap (λ mode. cut_word mode word) (sym (multi-is c.mode multi));
    }

normal_reply-fills : (c : Course) (sender word : ℕ) (run : Running) (u : SerialUnit) → u.run ≡ Some run → IsOn c u
    → is_multi c.mode ≡ false → sender < 4
    → HasPlace c.mode sender true (cut_word c.mode word) (with_normal_reply sender word run u)
normal_reply-fills c sender word run u runs on normal four =
    let both : Some run ≡ Some on.run = sym runs ∙ on.runs in
    let same : run ≡ on.run = cc in
    let long : length run.got ≡ 4 = ap (λ (r : Running). length r.got) same ∙ on.four_marks in
    record {
      got_is = get_or-set_same run.got sender true false (omega (arith, long, four));
      word_is = ap (λ test. if test then slice_index u.words sender else cut_word (mode_of u) word) normal
          ∙ ap (λ mode. cut_word mode word) on.mode_is;
    }

-- in a Normal mode this console is the starter, and the other one is wired to it
pub record IsHeardBy (c : Course) (sender : ℕ) : Type 0 where
  pub four : sender < 4
  pub peer : sender < c.count
  pub other : sender ≢ c.player
  pub starter : is_multi c.mode ≡ false → c.starter ≡ true
  pub wired : is_multi c.mode ≡ false → sender + c.player ≡ 1

wired-test : (sender player : ℕ) → sender + player ≡ 1 → (sender + player == 1) ≡ true
wired-test sender player one = grind (arith, nat_tests)

both-true : (a b : Bool) → a ≡ true → b ≡ true → (a && b) ≡ true
both-true true b one other = other
both-true false b one other = one

pub true-not_false : {P : Type 0} (b : Bool) → b ≡ true → b ≡ false → P
true-not_false b one other = let t : true ≡ false = sym one ∙ other in cc

reply_in-fills : (c : Course) (sender word : ℕ) (run : Running) (u : SerialUnit) → u.run ≡ Some run → IsOn c u
    → IsHeardBy c sender → HasPlace c.mode sender true (cut_word c.mode word) (with_reply_in sender word run u)
reply_in-fills c sender word run u runs on by =
    let P : SerialUnit → Type 0 = HasPlace c.mode sender true (cut_word c.mode word) in
    let mode = ap is_multi (sym on.mode_is) in
    let both : Some run ≡ Some on.run = sym runs ∙ on.runs in
    let same : run ≡ on.run = cc in
    either P (is_multi (mode_of u)) _ _ (λ multi. multi_reply-fills c sender word run u runs on (mode ∙ multi) by.four)
    (λ normal.
    let starter : run.starter ≡ true =
    ap (λ (r : Running). r.starter) same ∙ on.starter_is ∙ by.starter (mode ∙ normal) in
    let wired : is_wired sender u ≡ true =
    wired-test sender u.player (ap (λ n. sender + n) on.player_is ∙ by.wired (mode ∙ normal)) in
    let goes : (run.starter && is_wired sender u) ≡ true = both-true run.starter (is_wired sender u) starter wired in
    either P (run.starter && is_wired sender u) _ _
    (λ taken. normal_reply-fills c sender word run u runs on (mode ∙ normal) by.four)
    (λ left. true-not_false (run.starter && is_wired sender u) goes left))

peer-test : (sender player count : ℕ) → sender < count → sender ≢ player
    → (nat_lt sender count && not (sender == player)) ≡ true
peer-test sender player count below other = grind (arith, nat_tests)

pub taken-fills : (c : Course) (due : Incoming) (word : ℕ) (u : SerialUnit) → IsOn c u → IsHeardBy c due.sender
    → due.signal.reply ≡ Some word → HasPlace c.mode due.sender true (cut_word c.mode word) (taken due u)
unfolding heard with_reply
taken-fills c due word u on by reply =
    let P : SerialUnit → Type 0 = HasPlace c.mode due.sender true (cut_word c.mode word) in
    let known = with_known due u in
    let known-on = on-alike c u known (alike-known due u) on in
    let filled : P (with_reply_in due.sender word known-on.run known) =
    reply_in-fills c due.sender word known-on.run known known-on.runs known-on by in
    let is : heard due u ≡ with_reply_in due.sender word known-on.run known =
    ap (λ some. with_reply due.sender some known) reply
    ∙ reply_of-is due.sender word known-on.run known known-on.runs in
    let other : due.sender ≢ u.player = λ e. by.other (e ∙ on.player_is) in
    let below : due.sender < u.count = omega (arith, by.peer, on.count_is) in
    taken-by P due u (is_on-running c (heard due u) (heard-on c due u on)) (λ peer. subst P (sym is) filled)
    (λ no. true-not_false (is_peer due.sender u) (peer-test due.sender u.player u.count below other) no)
