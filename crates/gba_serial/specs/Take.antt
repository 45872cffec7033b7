use Rattle.std.specs.Prelude.{ℕ, ◌+◌, ◌==◌, Bool, true, false, not, ◌&&◌, ◌||◌, nat_le, nat_lt, Option, None, Some}
use Rattle.std.specs.Prelude.{bit_or, if◌then◌else◌, slice_set}
use Rattle.gba_terms.specs.Bits.{bit}
use Rattle.gba_serial.specs.Timing.{cut_word, is_multi, is_normal, is_same, transfer_end}
use Rattle.gba_serial.specs.SerialUnit.{SerialUnit, data_word, has_inside_clock, is_peer, is_running, is_wired, mode_of, own_word}
use Rattle.gba_serial.specs.Write.{first_words, received_from}
use Rattle.gba_serial.specs.declared.transfer.Running.{Running}
use Rattle.link_node.specs.declared.signal.Incoming.{Incoming}
use Rattle.link_node.specs.declared.signal.LinkMode.TheVariants.{Multi}
use Rattle.link_node.specs.declared.signal.Start.{Start}

-- What a signal of a peer does: its mode is known, its reply is taken, its start is answered (this project's profile)

abbrev pub with_known : Incoming → SerialUnit → SerialUnit
with_known due u = record u { known = slice_set u.known due.sender due.signal.mode }

-- A reply. In Multi it comes to its sender's place. In a Normal mode only the starter takes one, and only its wired
-- peer's; the last one counts.
abbrev pub with_multi_reply : ℕ → ℕ → Running → SerialUnit → SerialUnit
with_multi_reply sender word run u = record u {
  words = slice_set u.words sender (cut_word Multi word);
  run = Some (record run { got = slice_set run.got sender true });
}

abbrev pub with_normal_reply : ℕ → ℕ → Running → SerialUnit → SerialUnit
with_normal_reply sender word run u = record u {
  run = Some (record run { word = cut_word (mode_of u) word; got = slice_set run.got sender true });
}

abbrev pub with_reply_in : ℕ → ℕ → Running → SerialUnit → SerialUnit
with_reply_in sender word run u =
    if is_multi (mode_of u) then with_multi_reply sender word run u
    else if run.starter && is_wired sender u then with_normal_reply sender word run u
    else u

abbrev pub with_reply_of : ℕ → ℕ → Option Running → SerialUnit → SerialUnit
with_reply_of sender word None u = u
with_reply_of sender word (Some run) u = with_reply_in sender word run u

unfoldable pub with_reply : ℕ → Option ℕ → SerialUnit → SerialUnit
with_reply sender None u = u
with_reply sender (Some word) u = with_reply_of sender word u.run u

-- the end of the transfer that a signal starts
abbrev pub end_of : Incoming → Start → SerialUnit → ℕ
end_of due start u = transfer_end u.count u.round due.signal.mode start.speed due.signal.clock

-- Whether a start is one that a console of the cable may make: in Multi player 0's, in a Normal mode the wired peer's,
-- with a speed of that mode.
abbrev pub is_proper_start : Incoming → Start → SerialUnit → Bool
is_proper_start due start u =
    if is_multi due.signal.mode then (due.sender == 0) && nat_lt start.speed 4
    else is_normal due.signal.mode && is_wired due.sender u && nat_lt start.speed 2

-- whether the transfer ends at least 512 cycles after the start arrived
abbrev pub ends_later : Incoming → Start → SerialUnit → Bool
ends_later due start u = nat_le (due.arrival + 512) (end_of due start u)

-- whether this console can answer: it is idle and in the start's mode, in a Normal one with the outside clock and bit 7
abbrev pub waits : SerialUnit → Bool
waits u = not (has_inside_clock u.control) && bit u.control 7

abbrev pub can_answer : Incoming → SerialUnit → Bool
can_answer due u =
    not (is_running u) && is_same (mode_of u) due.signal.mode && (is_multi (mode_of u) || waits u)

abbrev pub is_answered : Incoming → Start → SerialUnit → Bool
is_answered due start u = is_proper_start due start u && ends_later due start u && can_answer due u

-- An answer: the same transfer on this side, and a reply with this console's word.
abbrev pub multi_answered : Incoming → Start → SerialUnit → SerialUnit
multi_answered due start u = record u {
  control = bit_or u.control 0x0080;
  error = false;
  words = slice_set (first_words 0 (cut_word Multi start.word)) u.player (data_word Multi u);
  run = Some (record {
    starter = false;
    end = end_of due start u;
    sent = data_word Multi u;
    word = 0;
    got = slice_set (received_from 0) u.player true;
  });
  reply = Some (data_word Multi u);
}

abbrev pub normal_answered : Incoming → Start → SerialUnit → SerialUnit
normal_answered due start u = record u {
  run = Some (record {
    starter = false;
    end = end_of due start u;
    sent = own_word u;
    word = cut_word (mode_of u) start.word;
    got = received_from due.sender;
  });
  reply = Some (own_word u);
}

abbrev pub answered : Incoming → Start → SerialUnit → SerialUnit
answered due start u = if is_multi (mode_of u) then multi_answered due start u else normal_answered due start u

unfoldable pub with_start : Incoming → Option Start → SerialUnit → SerialUnit
with_start due None u = u
with_start due (Some start) u = if is_answered due start u then answered due start u else u

-- what a signal leaves; one of no peer leaves everything
unfoldable pub taken : Incoming → SerialUnit → SerialUnit
taken due u =
    if is_peer due.sender u
    then with_start due due.signal.start (with_reply due.sender due.signal.reply (with_known due u))
    else u

-- What a signal does to the unit of a console that is off: the mode of its sender is known, and its start and its reply
-- are lost. One of no peer leaves everything.
abbrev pub learned : Incoming → SerialUnit → SerialUnit
learned due u = if is_peer due.sender u then with_known due u else u
