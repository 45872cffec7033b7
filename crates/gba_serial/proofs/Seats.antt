-- Nothing changes a unit's seat.
use Rattle.std.proofs.Common.{ℕ, Bool, true, false, Option, None, Some, if◌then◌else◌, refl, ◌∙◌}
use Rattle.std.specs.Prelude.{nat_eq, nat_le, bit_and}
use Rattle.gba_register.specs.Rows.{row_at}
use Rattle.gba_serial.specs.Timing.{is_multi}
use Rattle.gba_serial.specs.SerialUnit.{SerialUnit, is_peer, is_running, mode_of}
use Rattle.gba_serial.specs.Registers.{serial_rows}
use Rattle.gba_serial.specs.Write.{begins, begun, idle_control, multi_begun, normal_begun, put_at, with_control}
use Rattle.gba_serial.specs.Take.{answered, is_answered, taken, with_known, with_reply, with_reply_in, with_reply_of, with_start}
use Rattle.gba_serial.specs.End.{ended_of, finished}
use Rattle.gba_serial.specs.Law.{KeepsSeat, StaysSeated}
use Rattle.gba_serial.specs.declared.transfer.Running.{Running}
use Rattle.link_node.specs.declared.signal.Incoming.{Incoming}
use Rattle.link_node.specs.declared.signal.Start.{Start}

seated : (u : SerialUnit) → KeepsSeat u u
seated u = record { player = refl; count = refl; round = refl }

then-seated : (a b c : SerialUnit) → KeepsSeat a b → KeepsSeat b c → KeepsSeat a c
then-seated a b c one other = record {
  player = other.player ∙ one.player;
  count = other.count ∙ one.count;
  round = other.round ∙ one.round;
}

-- one of two, whichever a test chooses
either : (u : SerialUnit) (test : Bool) (one other : SerialUnit) → KeepsSeat u one → KeepsSeat u other
    → KeepsSeat u (if test then one else other)
either u true one other a b = a
either u false one other a b = b

multi_begun-seated : (clock : ℕ) (u : SerialUnit) → KeepsSeat u (multi_begun clock u)
unfolding multi_begun
multi_begun-seated clock u = record { player = refl; count = refl; round = refl }

normal_begun-seated : (clock : ℕ) (u : SerialUnit) → KeepsSeat u (normal_begun clock u)
unfolding normal_begun
normal_begun-seated clock u = record { player = refl; count = refl; round = refl }

begun-seated : (clock : ℕ) (u : SerialUnit) → KeepsSeat u (begun clock u)
begun-seated clock u =
    either u (is_multi (mode_of u)) _ _ (multi_begun-seated clock u) (normal_begun-seated clock u)

idle-seated : (bits : ℕ) (u : SerialUnit) → KeepsSeat u (record u { control = idle_control bits u })
idle-seated bits u = record { player = refl; count = refl; round = refl }

control-seated : (clock bits : ℕ) (u : SerialUnit) → KeepsSeat u (with_control clock bits u)
unfolding with_control
control-seated clock bits u =
    let idle = record u { control = idle_control bits u } in
    either u (is_running u) _ _ (record { player = refl; count = refl; round = refl })
    (either u (begins bits u) _ _ (then-seated u idle (begun clock idle) (idle-seated bits u) (begun-seated clock idle))
    (idle-seated bits u))

plain : (u : SerialUnit) (offset clock bits : ℕ) → KeepsSeat u (put_at clock offset bits u)
plain u offset clock bits =
    let same : KeepsSeat u u = seated u in
    either u (nat_eq offset 0x120) _ _ (record { player = refl; count = refl; round = refl })
    (either u (nat_eq offset 0x122) _ _ (record { player = refl; count = refl; round = refl })
    (either u (nat_eq offset 0x124) _ _ (record { player = refl; count = refl; round = refl })
    (either u (nat_eq offset 0x126) _ _ (record { player = refl; count = refl; round = refl })
    (either u (nat_eq offset 0x128) _ _ (control-seated clock bits u)
    (either u (nat_eq offset 0x12a) _ _ (record { player = refl; count = refl; round = refl })
    (either u (nat_eq offset 0x134) _ _ (record { player = refl; count = refl; round = refl }) same))))))

reply_in-seated : (sender word : ℕ) (run : Running) (u : SerialUnit) → KeepsSeat u (with_reply_in sender word run u)
reply_in-seated sender word run u =
    either u (is_multi (mode_of u)) _ _ (record { player = refl; count = refl; round = refl })
    (either u _ _ _ (record { player = refl; count = refl; round = refl }) (seated u))

reply_of-seated : (sender word : ℕ) (run : Option Running) (u : SerialUnit)
    → KeepsSeat u (with_reply_of sender word run u)
reply_of-seated sender word None u = seated u
reply_of-seated sender word (Some run) u = reply_in-seated sender word run u

reply-seated : (sender : ℕ) (reply : Option ℕ) (u : SerialUnit) → KeepsSeat u (with_reply sender reply u)
unfolding with_reply
reply-seated sender None u = seated u
reply-seated sender (Some word) u = reply_of-seated sender word u.run u

answered-seated : (due : Incoming) (start : Start) (u : SerialUnit) → KeepsSeat u (answered due start u)
answered-seated due start u =
    either u (is_multi (mode_of u)) _ _ (record { player = refl; count = refl; round = refl })
    (record { player = refl; count = refl; round = refl })

start-seated : (due : Incoming) (start : Option Start) (u : SerialUnit) → KeepsSeat u (with_start due start u)
unfolding with_start
start-seated due None u = seated u
start-seated due (Some start) u = either u (is_answered due start u) _ _ (answered-seated due start u) (seated u)

heard-seated : (due : Incoming) (u : SerialUnit)
    → KeepsSeat u (with_start due due.signal.start (with_reply due.sender due.signal.reply (with_known due u)))
heard-seated due u =
    let known = with_known due u in
    let replied = with_reply due.sender due.signal.reply known in
    then-seated u known _ (record { player = refl; count = refl; round = refl })
    (then-seated known replied _ (reply-seated due.sender due.signal.reply known)
    (start-seated due due.signal.start replied))

taken-seated : (due : Incoming) (u : SerialUnit) → KeepsSeat u (taken due u)
unfolding taken
taken-seated due u = either u (is_peer due.sender u) _ _ (heard-seated due u) (seated u)

finished-seated : (run : Running) (u : SerialUnit) → KeepsSeat u (finished run u)
unfolding finished
finished-seated run u = record { player = refl; count = refl; round = refl }

ended_of-seated : (clock : ℕ) (run : Option Running) (u : SerialUnit) → KeepsSeat u (ended_of clock run u)
ended_of-seated clock None u = seated u
ended_of-seated clock (Some run) u = either u (nat_le run.end clock) _ _ (finished-seated run u) (seated u)

pub stays : StaysSeated
stays = record {
  written = λ clock offset value u. plain u offset clock (bit_and value (row_at serial_rows offset).write_mask);
  taken = taken-seated;
  ended = λ clock u. ended_of-seated clock u.run u;
}
