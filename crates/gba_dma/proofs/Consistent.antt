-- A channel's numbers go on agreeing.
use Rattle.std.proofs.Common.{◌≡◌, ℕ, ◌≤◌, Bool, true, false, refl, arith}
use Rattle.std.specs.Prelude.{if◌then◌else◌, nat_eq, Option, None, Some}
use Rattle.std.specs.Option.{option_map_or}
use Rattle.gba_terms.specs.Bits.{bit, field}
use Rattle.gba_dma.specs.declared.channel.Channel.{Channel}
use Rattle.gba_dma.specs.declared.event.DmaEvent.{DmaEvent}
use Rattle.gba_dma.specs.Channel.{after_event, after_run, after_step, after_unit_end, channel_at_reset, count_loaded, channel_set, is_last, waits_again, with_control, with_high, with_low}
use Rattle.gba_dma.specs.Channels.{FourChannels, after_lowest_unit, after_trigger, after_unit_at, channels_at_reset, dma_written, channel_set_at, has_offset, lowest_active, place_in}
use Rattle.gba_dma.specs.Consistency.{AreConsistent, IsConsistent}

disabled : (control : ℕ) → bit (field control 0 15) 15 ≡ false
disabled control = grind arith

loaded : (number : ℕ) (c : Channel) → 1 ≤ count_loaded number c
loaded number c = grind arith

one_at_reset : IsConsistent channel_at_reset
one_at_reset = record { enabled = λ e. grind arith; left = λ e. grind arith }

control_written : (number value : ℕ) (c : Channel) → IsConsistent c → IsConsistent (with_control number value c)
control_written number value c h = record {
  enabled = λ e. grind arith;
  left = λ e. grind (arith, loaded number c, h.left);
}

-- what isn't the control leaves the run as it is
same_run : (c : Channel) (source target count : ℕ) → IsConsistent c
    → IsConsistent (record c { source = source; target = target; count = count })
same_run c source target count h = record { enabled = h.enabled; left = h.left }

either : (first : Bool) (c d : Channel) → IsConsistent c → IsConsistent d → IsConsistent (if first then c else d)
either true c d h k = h
either false c d h k = k

pub write_keeps : (number place value : ℕ) (c : Channel) → IsConsistent c
    → IsConsistent (channel_set number place value c)
write_keeps number place value c h =
    either (nat_eq place 0) _ _ (same_run c (with_low value c.source) c.target c.count h)
    (either (nat_eq place 2) _ _ (same_run c (with_high value c.source) c.target c.count h)
    (either (nat_eq place 4) _ _ (same_run c c.source (with_low value c.target) c.count h)
    (either (nat_eq place 6) _ _ (same_run c c.source (with_high value c.target) c.count h)
    (either (nat_eq place 8) _ _ (same_run c c.source c.target value h)
    (either (nat_eq place 10) _ _ (control_written number value c h) h)))))

pub event_keeps : (event : DmaEvent) (number : ℕ) (c : Channel) → IsConsistent c
    → IsConsistent (after_event event number c)
event_keeps event number c h = record {
  enabled = λ e. grind (arith, h.enabled);
  left = λ e. grind (arith, h.left);
}

step_keeps : (number : ℕ) (c : Channel) → is_last c ≡ false → IsConsistent c → IsConsistent (after_step number c)
step_keeps number c more h = record { enabled = h.enabled; left = λ e. grind arith }

run_keeps_by : (number : ℕ) (c : Channel) (waits : Bool) → waits_again c ≡ waits → IsConsistent (after_run number c)
run_keeps_by number c true w = record { enabled = λ e. grind arith; left = λ e. grind (arith, loaded number c) }
run_keeps_by number c false w = record { enabled = λ e. grind arith; left = λ e. grind (arith, disabled c.control) }

unit_keeps_by : (number : ℕ) (c : Channel) (last : Bool) → is_last c ≡ last → IsConsistent c
    → IsConsistent (if last then after_run number (after_step number c) else after_step number c)
unit_keeps_by number c true l h = run_keeps_by number (after_step number c) (waits_again (after_step number c)) refl
unit_keeps_by number c false l h = step_keeps number c l h

pub unit_keeps : (number : ℕ) (c : Channel) → IsConsistent c → IsConsistent (after_unit_end number c)
unit_keeps number c h = either c.active _ c (unit_keeps_by number c (is_last c) refl h) h

-- all four of them
pub four : (cs : FourChannels) → IsConsistent cs.channel0 → IsConsistent cs.channel1 → IsConsistent cs.channel2
    → IsConsistent cs.channel3 → AreConsistent cs
four cs a b c d = record { channel0 = a; channel1 = b; channel2 = c; channel3 = d }

pub at_reset : AreConsistent channels_at_reset
at_reset = four channels_at_reset one_at_reset one_at_reset one_at_reset one_at_reset

set_keeps : (number offset value : ℕ) (c : Channel) → IsConsistent c
    → IsConsistent (channel_set_at number offset value c)
set_keeps number offset value c h =
    either (has_offset number offset) _ c (write_keeps number (place_in number offset) value c h) h

pub all_written : (offset value : ℕ) (cs : FourChannels) → AreConsistent cs
    → AreConsistent (dma_written offset value cs)
all_written offset value cs h =
    four (dma_written offset value cs)
    (set_keeps 0 offset _ cs.channel0 h.channel0)
    (set_keeps 1 offset _ cs.channel1 h.channel1)
    (set_keeps 2 offset _ cs.channel2 h.channel2)
    (set_keeps 3 offset _ cs.channel3 h.channel3)

pub all_triggered : (event : DmaEvent) (cs : FourChannels) → AreConsistent cs → AreConsistent (after_trigger event cs)
all_triggered event cs h =
    four (after_trigger event cs)
    (event_keeps event 0 cs.channel0 h.channel0)
    (event_keeps event 1 cs.channel1 h.channel1)
    (event_keeps event 2 cs.channel2 h.channel2)
    (event_keeps event 3 cs.channel3 h.channel3)

unit_of_one : (number turn : ℕ) (c : Channel) → IsConsistent c
    → IsConsistent (if nat_eq number turn then after_unit_end turn c else c)
unit_of_one number turn c h = either (nat_eq number turn) _ c (unit_keeps turn c h) h

pub unit_ended : (number : ℕ) (cs : FourChannels) → AreConsistent cs → AreConsistent (after_unit_at number cs)
unit_ended number cs h =
    four (after_unit_at number cs)
    (unit_of_one number 0 cs.channel0 h.channel0)
    (unit_of_one number 1 cs.channel1 h.channel1)
    (unit_of_one number 2 cs.channel2 h.channel2)
    (unit_of_one number 3 cs.channel3 h.channel3)

lowest_by : (lowest : Option ℕ) (cs : FourChannels) → AreConsistent cs
    → AreConsistent (option_map_or (λ number. after_unit_at number cs) lowest cs)
lowest_by None cs h = h
lowest_by (Some number) cs h = unit_ended number cs h

pub lowest_ended : (cs : FourChannels) → AreConsistent cs → AreConsistent (after_lowest_unit cs)
lowest_ended cs h = lowest_by (lowest_active cs) cs h
