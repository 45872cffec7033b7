use Rattle.std.specs.Prelude.{ℕ, Bool, not, ◌||◌, is_some, Option, None, Some, option_map, if◌then◌else◌}
use Rattle.gba_terms.specs.Bits.{field}
use Rattle.gba_serial.specs.Timing.{is_same}
use Rattle.gba_serial.specs.SerialUnit.{SerialUnit, mode_of}
use Rattle.link_node.specs.declared.signal.Signal.{Signal}
use Rattle.link_node.specs.declared.signal.Start.{Start}

-- What a step tells the peers (this project's profile)

-- the parts as a signal has bits for them: two for a speed, 32 for a word
abbrev pub start_told : Start → Start
start_told start = record { speed = field start.speed 0 2; word = field start.word 0 32 }

abbrev pub reply_told : ℕ → ℕ
reply_told word = field word 0 32

-- whether there is anything to tell: a start, a reply, or another mode than the one told last
abbrev pub has_news : SerialUnit → Bool
has_news u = is_some u.start || is_some u.reply || not (is_same (mode_of u) u.told)

-- the one signal of a step that began at a clock
unfoldable pub outgoing : ℕ → SerialUnit → Option Signal
outgoing clock u =
    if has_news u
    then Some (record {
      clock = clock;
      mode = mode_of u;
      start = option_map start_told u.start;
      reply = option_map reply_told u.reply;
    })
    else None

-- nothing is left to tell
abbrev pub silent : SerialUnit → SerialUnit
silent u = record u { start = None; reply = None; told = mode_of u }
