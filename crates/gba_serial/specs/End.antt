use Rattle.std.specs.Prelude.{ℕ, ◌-◌, ◌^◌, Bool, not, ◌&&◌, ◌||◌, nat_le, List, [], ◌∷◌}
use Rattle.std.specs.Prelude.{Option, None, Some, bit_and, if◌then◌else◌, slice_set}
use Rattle.gba_terms.specs.Bits.{bit, field}
use Rattle.gba_serial.specs.Timing.{is_multi, word_width}
use Rattle.gba_serial.specs.SerialUnit.{SerialUnit, mode_of, was_received}
use Rattle.gba_serial.specs.declared.transfer.Running.{Running}
use Rattle.gba_serial.specs.declared.transfer.Transfer.{Transfer}
use Rattle.link_node.specs.declared.signal.LinkMode.{LinkMode}
use Rattle.link_node.specs.declared.signal.LinkMode.TheVariants.{Normal8, Normal32, Multi, Other}

-- The end of a transfer (GBATEK, SIO Multi-Player Mode and SIO Normal Mode; words that weren't received are this
-- project's profile)

-- whether the word of some player below a number wasn't received
abbrev pub is_missing : List Bool → ℕ → ℕ → Bool
is_missing got count player = not (nat_le count player) && not (was_received got player)

abbrev pub any_missing : List Bool → ℕ → Bool
any_missing got count =
    is_missing got count 0 || is_missing got count 1 || is_missing got count 2 || is_missing got count 3

abbrev pub any_received : List Bool → Bool
any_received got = was_received got 0 || was_received got 1 || was_received got 2 || was_received got 3

-- the peer's word in a Normal mode: all ones where the starter received none
abbrev pub peer_word : LinkMode → Running → ℕ
peer_word mode run = if run.starter && not (any_received run.got) then 2 ^ word_width mode - 1 else run.word

-- In the mode of the transfer: SIODATA8 becomes the peer's word with a high byte of 0, or SIODATA32 does; in Multi the
-- words stand in their places, and the error is set where one is missing.
abbrev pub send_after : LinkMode → Running → SerialUnit → ℕ
send_after Normal8 run u = field (peer_word Normal8 run) 0 8
send_after Normal32 run u = u.send
send_after Multi run u = u.send
send_after Other run u = u.send

abbrev pub words_after : LinkMode → Running → SerialUnit → List ℕ
words_after Normal8 run u = u.words
words_after Normal32 run u =
    slice_set (slice_set u.words 0 (field (peer_word Normal32 run) 0 16)) 1 (field (peer_word Normal32 run) 16 16)
words_after Multi run u = u.words
words_after Other run u = u.words

abbrev pub error_after : LinkMode → Running → SerialUnit → Bool
error_after mode run u = if is_multi mode then any_missing run.got u.count else u.error

-- the unit after the transfer that runs: bit 7 of SIOCNT is 0
unfoldable pub finished : Running → SerialUnit → SerialUnit
finished run u = record u {
  control = bit_and u.control 0xff7f;
  error = error_after (mode_of u) run u;
  send = send_after (mode_of u) run u;
  words = words_after (mode_of u) run u;
  run = None;
}

-- its record: in Multi the four words, in a Normal mode the peer's; SIOCNT's bit 14 asks for the interrupt
unfoldable pub transfer_of : Running → SerialUnit → Transfer
transfer_of run u = record {
  end = run.end;
  mode = mode_of u;
  words = if is_multi (mode_of u) then u.words else 0 ∷ 0 ∷ 0 ∷ 0 ∷ [];
  sent = run.sent;
  got = if is_multi (mode_of u) then 0 else peer_word (mode_of u) run;
  error = is_multi (mode_of u) && any_missing run.got u.count;
  interrupt = bit u.control 14;
}

abbrev pub ended_of : ℕ → Option Running → SerialUnit → SerialUnit
ended_of clock None u = u
ended_of clock (Some run) u = if nat_le run.end clock then finished run u else u

abbrev pub ending_of : ℕ → Option Running → SerialUnit → Option Transfer
ending_of clock None u = None
ending_of clock (Some run) u = if nat_le run.end clock then Some (transfer_of run u) else None

-- the unit after a transfer whose end is at most a clock, and that transfer
abbrev pub ended : ℕ → SerialUnit → SerialUnit
ended clock u = ended_of clock u.run u

abbrev pub ending : ℕ → SerialUnit → Option Transfer
ending clock u = ending_of clock u.run u
