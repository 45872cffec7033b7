-- A transfer goes on.
use Rattle.std.proofs.Common.{ℕ, ◌≡◌, ◌+◌, ◌<◌, ◌≤◌, Bool, true, false, not, ◌&&◌, ◌||◌, List, [], ◌∷◌, ◌++◌, Option, None, Some, is_some, if◌then◌else◌, refl, ap, sym, subst, ◌∙◌, arith}
use Rattle.std.specs.Prelude.{nat_le, option_to_list}
use Rattle.std.proofs.lemmas.List.Elements.{All-head, All-tail}
use Rattle.gba_serial.specs.Timing.{is_multi, is_same}
use Rattle.gba_serial.specs.SerialUnit.{SerialUnit, is_peer, is_running, is_wired, mode_of}
use Rattle.gba_serial.specs.Write.{written}
use Rattle.gba_serial.specs.Take.{can_answer, end_of, ends_later, is_answered, is_proper_start, taken, with_known, with_multi_reply, with_normal_reply, with_reply, with_reply_in, with_reply_of, with_start}
use Rattle.gba_serial.specs.End.{ended, ended_of, ending, ending_of}
use Rattle.gba_serial.specs.Tell.{has_news, outgoing, silent}
use Rattle.gba_serial.specs.Steps.{HalfwordWrite, all_written, ends, fed, fed_ends, hear}
use Rattle.gba_serial.specs.Law.{GoesOn, HaveArrived, KeepsTransfer, TransfersGoOn}
use Rattle.gba_serial.proofs.Busy.{writes}
use Rattle.gba_serial.proofs.Telling.{is_same-self}
use Rattle.gba_serial.specs.declared.transfer.Running.{Running}
use Rattle.link_node.specs.declared.signal.Incoming.{Incoming}
use Rattle.link_node.specs.declared.signal.LinkMode.{LinkMode}
use Rattle.link_node.specs.declared.signal.Start.{Start}

same : (u : SerialUnit) (run : Running) → u.run ≡ Some run → GoesOn run u u
same u run running = record {
  now = run;
  runs = running;
  starter = refl;
  end = refl;
  sent = refl;
  mode = refl;
  start = refl;
  reply = refl;
  told = refl;
}

next : (run : Running) (a b c : SerialUnit) (one : GoesOn run a b) → GoesOn one.now b c → GoesOn run a c
next run a b c one other = record {
  now = other.now;
  runs = other.runs;
  starter = other.starter ∙ one.starter;
  end = other.end ∙ one.end;
  sent = other.sent ∙ one.sent;
  mode = other.mode ∙ one.mode;
  start = other.start ∙ one.start;
  reply = other.reply ∙ one.reply;
  told = other.told ∙ one.told;
}

written-goes_on : (clock offset value : ℕ) (u : SerialUnit) (run : Running) → u.run ≡ Some run
    → GoesOn run u (written clock offset value u)
written-goes_on clock offset value u run running =
    let kept : KeepsTransfer u (written clock offset value u) = writes clock offset value u (ap is_some running) in
    record {
      now = run;
      runs = kept.run ∙ running;
      starter = refl;
      end = refl;
      sent = refl;
      mode = kept.mode;
      start = kept.start;
      reply = kept.reply;
      told = kept.told;
    }

known-goes_on : (due : Incoming) (u : SerialUnit) (run : Running) → u.run ≡ Some run → GoesOn run u (with_known due u)
known-goes_on due u run running = record {
  now = run;
  runs = running;
  starter = refl;
  end = refl;
  sent = refl;
  mode = refl;
  start = refl;
  reply = refl;
  told = refl;
}

multi_reply-goes_on : (sender word : ℕ) (run : Running) (u : SerialUnit)
    → GoesOn run u (with_multi_reply sender word run u)
multi_reply-goes_on sender word run u = record {
  now = _;
  runs = refl;
  starter = refl;
  end = refl;
  sent = refl;
  mode = refl;
  start = refl;
  reply = refl;
  told = refl;
}

normal_reply-goes_on : (sender word : ℕ) (run : Running) (u : SerialUnit)
    → GoesOn run u (with_normal_reply sender word run u)
normal_reply-goes_on sender word run u = record {
  now = _;
  runs = refl;
  starter = refl;
  end = refl;
  sent = refl;
  mode = refl;
  start = refl;
  reply = refl;
  told = refl;
}

-- one of two, whichever a test chooses
either : (run : Running) (u : SerialUnit) (test : Bool) (one other : SerialUnit) → GoesOn run u one → GoesOn run u other
    → GoesOn run u (if test then one else other)
either run u true one other a b = a
either run u false one other a b = b

reply_in-goes_on : (sender word : ℕ) (run : Running) (u : SerialUnit) → u.run ≡ Some run
    → GoesOn run u (with_reply_in sender word run u)
reply_in-goes_on sender word run u running =
    either run u (is_multi (mode_of u)) _ _ (multi_reply-goes_on sender word run u)
    (either run u (run.starter && is_wired sender u) _ _ (normal_reply-goes_on sender word run u) (same u run running))

reply_of-is : (sender word : ℕ) (run : Running) (u : SerialUnit) → u.run ≡ Some run
    → with_reply_of sender word u.run u ≡ with_reply_in sender word run u
reply_of-is sender word run u running = ap (λ some. with_reply_of sender word some u) running

reply-goes_on : (sender : ℕ) (reply : Option ℕ) (u : SerialUnit) (run : Running) → u.run ≡ Some run
    → GoesOn run u (with_reply sender reply u)
unfolding with_reply
reply-goes_on sender None u run running = same u run running
reply-goes_on sender (Some word) u run running =
    let P : SerialUnit → Type 0 = λ v. GoesOn run u v in
    subst P (sym (reply_of-is sender word run u running)) (reply_in-goes_on sender word run u running)

-- in a transfer no start is answered
and-false : (b : Bool) → (b && false) ≡ false
and-false true = refl
and-false false = refl

cannot_answer : (due : Incoming) (u : SerialUnit) → is_running u ≡ true → can_answer due u ≡ false
cannot_answer due u running = rw running refl

not_answered : (due : Incoming) (start : Start) (u : SerialUnit) → is_running u ≡ true → is_answered due start u ≡ false
not_answered due start u running =
    let before = is_proper_start due start u && ends_later due start u in
    ap (λ can. before && can) (cannot_answer due u running) ∙ and-false before

pub start-is : (due : Incoming) (start : Option Start) (u : SerialUnit) → is_running u ≡ true
    → with_start due start u ≡ u
unfolding with_start
start-is due None u running = refl
start-is due (Some start) u running = rw (not_answered due start u running) refl

start-goes_on : (due : Incoming) (start : Option Start) (u : SerialUnit) (run : Running) → u.run ≡ Some run
    → GoesOn run u (with_start due start u)
start-goes_on due start u run running =
    let P : SerialUnit → Type 0 = λ v. GoesOn run u v in
    subst P (sym (start-is due start u (ap is_some running))) (same u run running)

heard-goes_on : (due : Incoming) (u : SerialUnit) (run : Running) → u.run ≡ Some run
    → GoesOn run u (with_start due due.signal.start (with_reply due.sender due.signal.reply (with_known due u)))
heard-goes_on due u run running =
    let known = known-goes_on due u run running in
    let replied =
    next run u _ _ known (reply-goes_on due.sender due.signal.reply (with_known due u) known.now known.runs) in
    next run u _ _ replied
    (start-goes_on due due.signal.start (with_reply due.sender due.signal.reply (with_known due u)) replied.now
    replied.runs)

taken-goes_on : (due : Incoming) (u : SerialUnit) (run : Running) → u.run ≡ Some run → GoesOn run u (taken due u)
unfolding taken
taken-goes_on due u run running =
    either run u (is_peer due.sender u) _ _ (heard-goes_on due u run running) (same u run running)

-- before its end a transfer doesn't end
not_yet : (clock end : ℕ) → clock < end → nat_le end clock ≡ false
not_yet clock end before = grind arith

ended_of-before : (clock : ℕ) (run : Running) (u : SerialUnit) → clock < run.end → ended_of clock (Some run) u ≡ u
ended_of-before clock run u before = rw (not_yet clock run.end before) refl

pub ended-before : (clock : ℕ) (u : SerialUnit) (run : Running) → u.run ≡ Some run → clock < run.end → ended clock u ≡ u
ended-before clock u run running before =
    ap (λ some. ended_of clock some u) running ∙ ended_of-before clock run u before

ending_of-before : (clock : ℕ) (run : Running) (u : SerialUnit) → clock < run.end → ending_of clock (Some run) u ≡ None
ending_of-before clock run u before = rw (not_yet clock run.end before) refl

pub ending-before : (clock : ℕ) (u : SerialUnit) (run : Running) → u.run ≡ Some run → clock < run.end
    → ending clock u ≡ None
ending-before clock u run running before =
    ap (λ some. ending_of clock some u) running ∙ ending_of-before clock run u before

below : (a clock end : ℕ) → a ≤ clock → clock < end → a < end
below a clock end one other = omega arith

still : (clock : ℕ) (run now : Running) → now.end ≡ run.end → clock < run.end → clock < now.end
still clock run now e before = let P : ℕ → Type 0 = λ n. clock < n in subst P (sym e) before

fed-goes_on : (clock : ℕ) (dues : List Incoming) (u : SerialUnit) (run : Running) → u.run ≡ Some run → clock < run.end
    → HaveArrived clock dues → GoesOn run u (fed dues u)
fed-goes_on clock [] u run running before arrived = same u run running
fed-goes_on clock (due ∷ dues) u run running before arrived =
    let here =
    ended-before due.arrival u run running
    (below due.arrival clock run.end (All-head (λ due. due.arrival ≤ clock) due dues arrived) before) in
    let one = taken-goes_on due u run running in
    let more = fed-goes_on clock dues (taken due u) one.now one.runs (still clock run one.now one.end before)
    (All-tail (λ due. due.arrival ≤ clock) due dues arrived) in
    let P : SerialUnit → Type 0 = λ v. GoesOn run u (fed dues (taken due v)) in
    subst P (sym here) (next run u (taken due u) (fed dues (taken due u)) one more)

hear-goes_on : (clock : ℕ) (dues : List Incoming) (u : SerialUnit) (run : Running) → u.run ≡ Some run → clock < run.end
    → HaveArrived clock dues → GoesOn run u (hear clock dues u)
hear-goes_on clock dues u run running before arrived =
    let fed_on = fed-goes_on clock dues u run running before arrived in
    let P : SerialUnit → Type 0 = λ v. GoesOn run u v in
    subst P (sym
    (ended-before clock (fed dues u) fed_on.now fed_on.runs (still clock run fed_on.now fed_on.end before))) fed_on

all_written-goes_on : (clock : ℕ) (writes : List HalfwordWrite) (u : SerialUnit) (run : Running) → u.run ≡ Some run
    → GoesOn run u (all_written clock writes u)
all_written-goes_on clock [] u run running = same u run running
all_written-goes_on clock (one ∷ earlier) u run running =
    let first = all_written-goes_on clock earlier u run running in
    next run u (all_written clock earlier u) _ first
    (written-goes_on clock one.offset one.value (all_written clock earlier u) first.now first.runs)

step-goes_on : (clock : ℕ) (dues : List Incoming) (writes : List HalfwordWrite) (u : SerialUnit) (run : Running)
    → u.run ≡ Some run → clock < run.end → HaveArrived clock dues
    → GoesOn run u (all_written clock writes (hear clock dues u))
step-goes_on clock dues writes u run running before arrived =
    let heard = hear-goes_on clock dues u run running before arrived in
    next run u (hear clock dues u) _ heard (all_written-goes_on clock writes (hear clock dues u) heard.now heard.runs)

fed_ends-none : (clock : ℕ) (dues : List Incoming) (u : SerialUnit) (run : Running) → u.run ≡ Some run → clock < run.end
    → HaveArrived clock dues → fed_ends dues u ≡ []
fed_ends-none clock [] u run running before arrived = refl
fed_ends-none clock (due ∷ dues) u run running before arrived =
    let earlier = below due.arrival clock run.end (All-head (λ due. due.arrival ≤ clock) due dues arrived) before in
    let one = taken-goes_on due u run running in
    let more = fed_ends-none clock dues (taken due u) one.now one.runs (still clock run one.now one.end before)
    (All-tail (λ due. due.arrival ≤ clock) due dues arrived) in
    ap (λ none. option_to_list none ++ fed_ends dues (taken due (ended due.arrival u)))
    (ending-before due.arrival u run running earlier)
    ∙ ap (λ v. fed_ends dues (taken due v)) (ended-before due.arrival u run running earlier)
    ∙ more

ends-none : (clock : ℕ) (dues : List Incoming) (u : SerialUnit) (run : Running) → u.run ≡ Some run → clock < run.end
    → HaveArrived clock dues → ends clock dues u ≡ []
ends-none clock dues u run running before arrived =
    let fed_on = fed-goes_on clock dues u run running before arrived in
    ap (λ list. list ++ option_to_list (ending clock (fed dues u)))
    (fed_ends-none clock dues u run running before arrived)
    ∙ ap option_to_list
    (ending-before clock (fed dues u) fed_on.now fed_on.runs (still clock run fed_on.now fed_on.end before))

-- a unit with nothing posted and its mode told has nothing to tell
no-news : (v : SerialUnit) (mode : LinkMode) → v.start ≡ None → v.reply ≡ None → mode_of v ≡ mode → v.told ≡ mode
    → has_news v ≡ false
no-news v mode none quiet same_mode told =
    ap (λ start. is_some start || is_some v.reply || not (is_same (mode_of v) v.told)) none
    ∙ ap (λ reply. is_some reply || not (is_same (mode_of v) v.told)) quiet
    ∙ ap (λ one. not (is_same one v.told)) same_mode
    ∙ ap (λ one. not (is_same mode one)) told
    ∙ ap not (is_same-self mode)

pub no-signal : (clock : ℕ) (v : SerialUnit) → has_news v ≡ false → outgoing clock v ≡ None
unfolding outgoing
no-signal clock v none = rw none refl

step-tells_nothing : (clock : ℕ) (dues : List Incoming) (writes : List HalfwordWrite) (u : SerialUnit) (run : Running)
    → u.run ≡ Some run → clock < run.end → HaveArrived clock dues
    → outgoing clock (all_written clock writes (hear clock dues (silent u))) ≡ None
step-tells_nothing clock dues writes u run running before arrived =
    let on = step-goes_on clock dues writes (silent u) run running before arrived in
    let after = all_written clock writes (hear clock dues (silent u)) in
    no-signal clock after (no-news after (mode_of u) on.start on.reply on.mode on.told)

-- an answered start ends after every step that could take it
pub and-both : (a b c : Bool) → (a && b && c) ≡ true → b ≡ true
and-both true true c holds = refl
and-both true false c holds = holds
and-both false b c holds = cc

pub at_most : (a b : ℕ) → nat_le a b ≡ true → a ≤ b
at_most a b holds = grind arith

ends_after : (was clock arrival end : ℕ) → was < arrival → clock ≤ was + 512 → arrival + 512 ≤ end → clock < end
ends_after was clock arrival end a b c = omega arith

answered-once : (was clock : ℕ) (due : Incoming) (start : Start) (u : SerialUnit)
    → is_answered due start u ≡ true → was < due.arrival → clock ≤ was + 512 → clock < end_of due start u
answered-once was clock due start u answered arrived short =
    let later = and-both (is_proper_start due start u) (ends_later due start u) (can_answer due u) answered in
    ends_after was clock due.arrival (end_of due start u) arrived short
    (at_most (due.arrival + 512) (end_of due start u) later)

pub goes : TransfersGoOn
goes = record {
  goes_on = step-goes_on;
  ends_nothing = ends-none;
  tells_nothing = step-tells_nothing;
  answers_once = answered-once;
}
