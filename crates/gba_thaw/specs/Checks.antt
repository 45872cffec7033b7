-- What a frozen file has to say of a console beside each number's range, so that a run can go on from it. Each is a
-- test of numbers, of the bytes of the I/O registers, and of the devices and the serial unit that they make.
use Rattle.std.specs.Prelude.{ℕ, ◌+◌, ◌-◌, ◌%◌, ◌^◌, ◌==◌, Bool, not, ◌&&◌, ◌||◌, nat_le, nat_lt, List, length, slice_index, slice_index_or, if◌then◌else◌}
use Rattle.gba_dma.specs.Channels.{FourChannels}
use Rattle.gba_dma.specs.declared.channel.Channel.{Channel}
use Rattle.gba_console.specs.Keys.{due_count}
use Rattle.gba_console.specs.declared.keys.KeyState.{KeyState}
use Rattle.gba_filling.specs.Drawn.{DrawnLines}
use Rattle.gba_flash.specs.Flash.{has_banks, is_choosing}
use Rattle.gba_flash.specs.declared.machine.FlashMachine.{FlashMachine}
use Rattle.gba_image.specs.declared.backup.Backup.{Backup}
use Rattle.gba_io.specs.Drawing.{lines_drawn}
use Rattle.gba_numbers.specs.Numbers.{ConsoleNumbers, value_of}
use Rattle.gba_numbers.specs.declared.fields.BoardField.TheVariants as board
use Rattle.gba_numbers.specs.declared.fields.Field.TheVariants.{Applied, Board, Clock, Frames, Samples, Was, Words}
use Rattle.gba_ppu_reg.specs.declared.position.Position.{Position}
use Rattle.gba_psr.specs.Status.{unit_bytes}
use Rattle.gba_serial.specs.SerialUnit.{SerialUnit, is_running, known_mode, mode_of}
use Rattle.gba_serial.specs.Numbers.{sent_number, word_number}
use Rattle.gba_serial.specs.Timing.{is_word_of}
use Rattle.link_node.specs.Packing.{mode_number}

-- r15 is the address of an instruction: of a halfword where T, bit 5 of CPSR, is set, and else of a word
unfoldable pub is_aligned : List ℕ → Bool
is_aligned registers = slice_index registers 15 % unit_bytes (slice_index registers 31) == 0

-- The last step took at most 512 cycles and began below the end of the job, and the counts are below 2^40.
unfoldable pub is_timed : ℕ → ConsoleNumbers → Bool
is_timed until n =
    nat_le (value_of Was n) (value_of Clock n) && nat_le (value_of Clock n) (value_of Was n + 512)
    && nat_le (value_of Clock n) (until + 511) && nat_lt (value_of Frames n) (2 ^ 40)
    && nat_lt (value_of Samples n) (2 ^ 40) && nat_lt (value_of Words n) (2 ^ 40)

-- the keys that are pressed once so many changes are applied
unfoldable pub pressed_after : ℕ → List KeyState → ℕ
pressed_after applied keys =
    if applied == 0 then 0 else (slice_index_or keys (applied - 1) (record { clock = 0; keys = 0 })).keys % 2 ^ 10

-- The changes of the keys that are applied are some of the console's, and these keys are pressed. Where the last step
-- took any cycles they are those which a step that begins with it applies.
unfoldable pub are_applied : List KeyState → ℕ → ConsoleNumbers → Bool
are_applied keys pressed n =
    nat_le (value_of Applied n) (length keys)
    && ((value_of Was n == value_of Clock n) || (value_of Applied n == due_count (value_of Was n) keys))
    && (pressed == pressed_after (value_of Applied n) keys)

-- the lines are those that are drawn at a place
unfoldable pub are_drawn : Position → DrawnLines → Bool
are_drawn place drawn = not drawn.has_gap && (length drawn.lines == lines_drawn place)

-- an active channel has units left
abbrev pub has_left : Channel → Bool
has_left c = not c.active || not (c.left == 0)

unfoldable pub have_left : FourChannels → Bool
have_left cs = has_left cs.channel0 && has_left cs.channel1 && has_left cs.channel2 && has_left cs.channel3

-- where no transfer runs there are no numbers of one
unfoldable pub is_idle : ConsoleNumbers → Bool
is_idle n =
    (value_of (Board board.SerialStarted) n == 0) && (value_of (Board board.SerialEnd) n == 0)
    && (value_of (Board board.SerialGot) n == 0) && (value_of (Board board.SerialSent) n == 0)
    && (value_of (Board board.SerialWord) n == 0)

-- A transfer runs in a mode that has transfers, its words are of that mode's width, and one runs only while the
-- console is on.
unfoldable pub runs_rightly : ℕ → ConsoleNumbers → SerialUnit → Bool
runs_rightly off n u =
    if is_running u
    then nat_le off (value_of Clock n) && is_word_of (mode_of u) (sent_number u)
    && is_word_of (mode_of u) (word_number u)
    else is_idle n

-- the mode is the one that the registers give
abbrev pub has_mode : ConsoleNumbers → SerialUnit → Bool
has_mode n u = value_of (Board board.SerialMode) n == mode_number (mode_of u)

-- what is known of a player: of the console itself, and of one that isn't there, Other
abbrev pub is_known : SerialUnit → ℕ → Bool
is_known u player =
    (not (player == u.player) && nat_lt player u.count) || (mode_number (known_mode u.known player) == 3)

unfoldable pub are_known : SerialUnit → Bool
are_known u = is_known u 0 && is_known u 1 && is_known u 2 && is_known u 3

-- there is a second bank only in the larger flash
unfoldable pub is_sound_flash : Backup → FlashMachine → Bool
is_sound_flash backup machine =
    nat_lt machine.bank 2 && (has_banks backup || ((machine.bank == 0) && not (is_choosing machine.state)))
