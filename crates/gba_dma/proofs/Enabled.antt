-- A run that goes on is one of an enabled channel, whatever the channel's other numbers are.
use Rattle.std.proofs.Common.{ℕ, Bool, true, false, arith}
use Rattle.std.specs.Prelude.{if◌then◌else◌, nat_eq}
use Rattle.gba_dma.specs.declared.channel.Channel.{Channel}
use Rattle.gba_dma.specs.declared.event.DmaEvent.{DmaEvent}
use Rattle.gba_dma.specs.Channel.{after_event, after_run, after_step, after_unit_end, channel_set, is_last, with_control, with_high, with_low}
use Rattle.gba_dma.specs.Consistency.{IsEnabledRun}

control_enables : (number value : ℕ) (c : Channel) → IsEnabledRun c → IsEnabledRun (with_control number value c)
control_enables number value c h = λ e. grind arith

either : (first : Bool) (c d : Channel) → IsEnabledRun c → IsEnabledRun d → IsEnabledRun (if first then c else d)
either true c d h k = h
either false c d h k = k

pub write_enables : (number place value : ℕ) (c : Channel) → IsEnabledRun c
    → IsEnabledRun (channel_set number place value c)
write_enables number place value c h =
    either (nat_eq place 0) (record c { source = with_low value c.source }) _ h
    (either (nat_eq place 2) (record c { source = with_high value c.source }) _ h
    (either (nat_eq place 4) (record c { target = with_low value c.target }) _ h
    (either (nat_eq place 6) (record c { target = with_high value c.target }) _ h
    (either (nat_eq place 8) (record c { count = value }) _ h
    (either (nat_eq place 10) (with_control number value c) c (control_enables number value c h) h)))))

pub event_enables : (event : DmaEvent) (number : ℕ) (c : Channel) → IsEnabledRun c
    → IsEnabledRun (after_event event number c)
event_enables event number c h = λ e. grind (arith, h)

unit_enables_by : (number : ℕ) (c : Channel) (last : Bool) → IsEnabledRun c
    → IsEnabledRun (if last then after_run number (after_step number c) else after_step number c)
unit_enables_by number c true h = λ e. grind arith
unit_enables_by number c false h = h

pub unit_enables : (number : ℕ) (c : Channel) → IsEnabledRun c → IsEnabledRun (after_unit_end number c)
unit_enables number c h = either c.active _ c (unit_enables_by number c (is_last c) h) h
