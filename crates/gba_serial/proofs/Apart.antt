-- Ends are apart, and nothing happens before them.
use Rattle.std.proofs.Common.{ℕ, ◌≡◌, ◌+◌, ◌<◌, ◌≤◌, Bool, true, false, not, ◌&&◌, ◌||◌, Option, None, Some, is_some, if◌then◌else◌, refl, ap, ◌∙◌, arith}
use Rattle.std.specs.Prelude.{bit_and, nat_eq}
use Rattle.gba_register.specs.Rows.{row_at}
use Rattle.gba_serial.specs.Apart.{EndsApart, StaysQuiet, next_end, next_end_of}
use Rattle.gba_serial.specs.Timing.{is_multi, is_same}
use Rattle.gba_serial.specs.SerialUnit.{SerialUnit, is_peer, is_running, is_wired, mode_of, speed_of}
use Rattle.gba_serial.specs.Registers.{serial_rows}
use Rattle.gba_serial.specs.Write.{begins, begun, idle_control, multi_begun, normal_begun, put_at, with_control, with_word, written}
use Rattle.gba_serial.specs.Take.{answered, can_answer, end_of, ends_later, is_answered, is_proper_start, taken, with_known, with_reply, with_reply_in, with_reply_of, with_start}
use Rattle.gba_serial.specs.End.{ended, ended_of, ending, ending_of}
use Rattle.gba_serial.specs.Tell.{has_news, silent}
use Rattle.gba_serial.proofs.Going.{and-both, at_most, ended-before, ending-before, no-signal}
use Rattle.gba_serial.proofs.Lengths.{multi-apart, normal-later}
use Rattle.gba_serial.specs.declared.transfer.Running.{Running}
use Rattle.link_node.specs.declared.signal.Incoming.{Incoming}
use Rattle.link_node.specs.declared.signal.LinkMode.{LinkMode}
use Rattle.link_node.specs.declared.signal.LinkMode.TheVariants.{Normal8, Normal32, Multi, Other}
use Rattle.link_node.specs.declared.signal.Start.{Start}

-- one of two, whichever a test chooses
either : (bound : ℕ) (test : Bool) (one other : SerialUnit) → bound ≤ next_end one → bound ≤ next_end other
    → bound ≤ next_end (if test then one else other)
either bound true one other a b = a
either bound false one other a b = b

-- writes
multi_begun-apart : (clock bound : ℕ) (u : SerialUnit) → 1 ≤ u.count → bound ≤ clock + 512
    → bound ≤ next_end (multi_begun clock u)
unfolding multi_begun
multi_begun-apart clock bound u one soon =
    let apart = multi-apart u.count (speed_of u) clock one in omega (arith, apart)

normal_begun-apart : (clock bound : ℕ) (u : SerialUnit) → bound ≤ clock + 512 → bound ≤ next_end (normal_begun clock u)
unfolding normal_begun
normal_begun-apart clock bound u soon =
    let apart = normal-later u.round (mode_of u) (speed_of u) clock in omega (arith, apart)

begun-apart : (clock bound : ℕ) (u : SerialUnit) → 1 ≤ u.count → bound ≤ clock + 512 → bound ≤ next_end (begun clock u)
begun-apart clock bound u one soon =
    either bound (is_multi (mode_of u)) _ _ (multi_begun-apart clock bound u one soon)
    (normal_begun-apart clock bound u soon)

control-apart : (clock bits bound : ℕ) (u : SerialUnit) → 1 ≤ u.count → bound ≤ clock + 512 → bound ≤ next_end u
    → bound ≤ next_end (with_control clock bits u)
unfolding with_control
control-apart clock bits bound u one soon before =
    either bound (is_running u) _ _ before
    (either bound (begins bits u) _ _ (begun-apart clock bound (record u { control = idle_control bits u }) one soon)
    before)

word-apart : (place bits bound : ℕ) (u : SerialUnit) → bound ≤ next_end u → bound ≤ next_end (with_word place bits u)
word-apart place bits bound u before = before

put-apart : (clock offset bits bound : ℕ) (u : SerialUnit) → 1 ≤ u.count → bound ≤ clock + 512 → bound ≤ next_end u
    → bound ≤ next_end (put_at clock offset bits u)
put-apart clock offset bits bound u one soon before =
    either bound (nat_eq offset 0x120) _ _ (word-apart 0 bits bound u before)
    (either bound (nat_eq offset 0x122) _ _ (word-apart 1 bits bound u before)
    (either bound (nat_eq offset 0x124) _ _ (word-apart 2 bits bound u before)
    (either bound (nat_eq offset 0x126) _ _ (word-apart 3 bits bound u before)
    (either bound (nat_eq offset 0x128) _ _ (control-apart clock bits bound u one soon before)
    (either bound (nat_eq offset 0x12a) _ _ before (either bound (nat_eq offset 0x134) _ _ before before))))))

written-apart : (clock offset value bound : ℕ) (u : SerialUnit) → 1 ≤ u.count → bound ≤ clock + 512
    → bound ≤ next_end u → bound ≤ next_end (written clock offset value u)
written-apart clock offset value bound u one soon before =
    put-apart clock offset (bit_and value (row_at serial_rows offset).write_mask) bound u one soon before

-- signals
reply_in-apart : (sender word bound : ℕ) (run : Running) (u : SerialUnit) → bound ≤ run.end → bound ≤ next_end u
    → bound ≤ next_end (with_reply_in sender word run u)
reply_in-apart sender word bound run u later before =
    either bound (is_multi (mode_of u)) _ _ later (either bound (run.starter && is_wired sender u) _ _ later before)

reply_of-apart : (sender word bound : ℕ) (run : Option Running) (u : SerialUnit) → bound ≤ next_end_of run
    → bound ≤ next_end u → bound ≤ next_end (with_reply_of sender word run u)
reply_of-apart sender word bound None u later before = before
reply_of-apart sender word bound (Some run) u later before = reply_in-apart sender word bound run u later before

reply-apart : (sender : ℕ) (reply : Option ℕ) (bound : ℕ) (u : SerialUnit) → bound ≤ next_end u
    → bound ≤ next_end (with_reply sender reply u)
unfolding with_reply
reply-apart sender None bound u before = before
reply-apart sender (Some word) bound u before = reply_of-apart sender word bound u.run u before before

answered-apart : (due : Incoming) (start : Start) (bound : ℕ) (u : SerialUnit) → bound ≤ end_of due start u
    → bound ≤ next_end (answered due start u)
answered-apart due start bound u later = either bound (is_multi (mode_of u)) _ _ later later

start_by-apart : (test : Bool) (due : Incoming) (start : Start) (bound : ℕ) (u : SerialUnit)
    → is_answered due start u ≡ test → bound ≤ due.arrival + 512 → bound ≤ next_end u
    → bound ≤ next_end (if test then answered due start u else u)
start_by-apart true due start bound u answers soon before =
    let test = and-both (is_proper_start due start u) (ends_later due start u) (can_answer due u) answers in
    let later = at_most (due.arrival + 512) (end_of due start u) test in
    answered-apart due start bound u (omega (arith, later))
start_by-apart false due start bound u answers soon before = before

start-apart : (due : Incoming) (start : Option Start) (bound : ℕ) (u : SerialUnit) → bound ≤ due.arrival + 512
    → bound ≤ next_end u → bound ≤ next_end (with_start due start u)
unfolding with_start
start-apart due None bound u soon before = before
start-apart due (Some start) bound u soon before =
    start_by-apart (is_answered due start u) due start bound u refl soon before

taken-apart : (due : Incoming) (bound : ℕ) (u : SerialUnit) → bound ≤ due.arrival + 512 → bound ≤ next_end u
    → bound ≤ next_end (taken due u)
unfolding taken
taken-apart due bound u soon before =
    either bound (is_peer due.sender u) _ _
    (start-apart due due.signal.start bound (with_reply due.sender due.signal.reply (with_known due u)) soon
    (reply-apart due.sender due.signal.reply bound (with_known due u) before)) before

pub apart : EndsApart
apart = record { written = written-apart; taken = taken-apart }

-- before the next end nothing ends
ended_of-quiet : (clock : ℕ) (run : Option Running) (u : SerialUnit) → u.run ≡ run → clock < next_end_of run
    → ended clock u ≡ u
ended_of-quiet clock None u idle before = ap (λ some. ended_of clock some u) idle
ended_of-quiet clock (Some run) u running before = ended-before clock u run running before

ending_of-quiet : (clock : ℕ) (run : Option Running) (u : SerialUnit) → u.run ≡ run → clock < next_end_of run
    → ending clock u ≡ None
ending_of-quiet clock None u idle before = ap (λ some. ending_of clock some u) idle
ending_of-quiet clock (Some run) u running before = ending-before clock u run running before

-- with nothing to tell, falling silent changes nothing
none-some : {A : Type 0} (one : Option A) → is_some one ≡ false → None ≡ one
none-some None none = refl
none-some (Some a) none = cc

or-first : (a b c : Bool) → (a || b || c) ≡ false → a ≡ false
or-first false b c none = refl
or-first true b c none = cc

or-second : (a b c : Bool) → (a || b || c) ≡ false → b ≡ false
or-second false false c none = refl
or-second false true c none = cc
or-second true b c none = cc

or-third : (a b c : Bool) → (a || b || not c) ≡ false → c ≡ true
or-third false false true none = refl
or-third false false false none = cc
or-third false true c none = cc
or-third true b c none = cc

same-mode : (one other : LinkMode) → is_same one other ≡ true → one ≡ other
same-mode Normal8 Normal8 same = refl
same-mode Normal32 Normal32 same = refl
same-mode Multi Multi same = refl
same-mode Other Other same = refl
same-mode _ _ same = cc

silent-quiet : (u : SerialUnit) → has_news u ≡ false → silent u ≡ u
silent-quiet u none =
    let start =
    none-some u.start (or-first (is_some u.start) (is_some u.reply) (not (is_same (mode_of u) u.told)) none) in
    let reply =
    none-some u.reply (or-second (is_some u.start) (is_some u.reply) (not (is_same (mode_of u) u.told)) none) in
    let told =
    same-mode (mode_of u) u.told (or-third (is_some u.start) (is_some u.reply) (is_same (mode_of u) u.told) none) in
    ap (λ (mode : LinkMode). record u { start = None; reply = None; told = mode }) told
    ∙ ap (λ (one : Option Start). record u { start = one; reply = None }) start
    ∙ ap (λ (one : Option ℕ). record u { reply = one }) reply

pub quiet : StaysQuiet
quiet = record {
  ended = λ clock u before. ended_of-quiet clock u.run u refl before;
  ending = λ clock u before. ending_of-quiet clock u.run u refl before;
  silent = silent-quiet;
  outgoing = no-signal;
}
