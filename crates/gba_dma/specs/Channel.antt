use Rattle.std.specs.Prelude.{ℕ, ◌+◌, ◌-◌, ◌*◌, ◌%◌, ◌^◌, ◌==◌, Bool, false, not, ◌&&◌, ◌||◌, nat_le, if◌then◌else◌}
use Rattle.gba_terms.specs.Bits.{bit, field}
use Rattle.gba_bus.specs.declared.width.Width.{Width}
use Rattle.gba_bus.specs.declared.width.Width.TheVariants.{Half, Word}
use Rattle.gba_bus.specs.Widths.{aligned, size}
use Rattle.gba_dma.specs.declared.channel.Channel.{Channel}
use Rattle.gba_dma.specs.declared.event.DmaEvent.{DmaEvent}
use Rattle.gba_dma.specs.declared.event.DmaEvent.TheVariants.{VBlank, HBlank, QueueA, QueueB}
use Rattle.gba_dma.specs.declared.unit.Unit.{Unit as DmaUnit}

-- One of the four DMA channels, by its number from 0 to 3 (GBATEK, GBA DMA Transfers). It has what was written to its
-- registers, and the inner numbers that a run uses: source, destination and the units that are left. In the control,
-- bits 5 and 6 choose the step of the destination, 7 and 8 that of the source, 9 repeats, 10 makes units of 32 bits, 12
-- and 13 choose the timing, 14 asks for the interrupt, 15 enables.
abbrev pub target_step : Channel → ℕ
target_step c = field c.control 5 2

abbrev pub source_step : Channel → ℕ
source_step c = field c.control 7 2

abbrev pub repeats : Channel → Bool
repeats c = bit c.control 9

abbrev pub timing_of : ℕ → ℕ
timing_of control = field control 12 2

abbrev pub asks_interrupt : Channel → Bool
asks_interrupt c = bit c.control 14

abbrev pub is_enabled : Channel → Bool
is_enabled c = bit c.control 15

-- whether a channel serves a sound queue: the special timing of channels 1 and 2 alone
abbrev pub serves_sound : ℕ → Channel → Bool
serves_sound number c = (timing_of c.control == 3) && ((number == 1) || (number == 2))

-- how many units a written count stands for: 0 is the greatest count and 1
abbrev pub full_count : ℕ → ℕ
full_count number = if number == 3 then 0x10000 else 0x4000

abbrev pub count_loaded : ℕ → Channel → ℕ
count_loaded number c = if c.count == 0 then full_count number else c.count

-- A write of the control. A start, enable from 0 to 1, loads the inner numbers, and at timing 0 it makes the channel
-- active. Clearing enable ends the run. A change of the timing alone triggers nothing.
abbrev pub starts : ℕ → Channel → Bool
starts value c = bit value 15 && not (is_enabled c)

abbrev pub starts_at_once : ℕ → Channel → Bool
starts_at_once value c = starts value c && (timing_of value == 0)

abbrev pub with_control : ℕ → ℕ → Channel → Channel
with_control number value c = record c {
  control = value;
  active = bit value 15 && (starts_at_once value c || (is_enabled c && c.active));
  first = starts_at_once value c || c.first;
  inner_source = if starts value c then c.source else c.inner_source;
  inner_target = if starts value c then c.target else c.inner_target;
  left = if starts value c then count_loaded number c else c.left;
}

-- What triggers a channel that is enabled and waits: the event of its timing, of timing 3 a request of the queue to
-- which its inner destination points. A trigger of an active channel is ignored.
abbrev pub queue_address : DmaEvent → ℕ
queue_address VBlank = 0
queue_address HBlank = 0
queue_address QueueA = 0x040000a0
queue_address QueueB = 0x040000a4

abbrev pub is_event_of : DmaEvent → ℕ → Channel → Bool
is_event_of VBlank number c = timing_of c.control == 1
is_event_of HBlank number c = timing_of c.control == 2
is_event_of QueueA number c = serves_sound number c && (c.inner_target == queue_address QueueA)
is_event_of QueueB number c = serves_sound number c && (c.inner_target == queue_address QueueB)

abbrev pub is_triggered : DmaEvent → ℕ → Channel → Bool
is_triggered event number c = is_enabled c && not c.active && is_event_of event number c

-- a run begins; for a queue it has four units whatever the count says
abbrev pub after_event : DmaEvent → ℕ → Channel → Channel
after_event event number c = record c {
  active = is_triggered event number c || c.active;
  first = is_triggered event number c || c.first;
  left = if is_triggered event number c && serves_sound number c then 4 else c.left;
}

-- how wide a unit is: for a queue a word whatever the control says
abbrev pub unit_width : ℕ → Channel → Width
unit_width number c = if serves_sound number c || bit c.control 10 then Word else Half

-- the unit that an active channel does next, at the aligned inner addresses
abbrev pub unit_of : ℕ → Channel → DmaUnit
unit_of number c = record {
  channel = number;
  source = aligned (unit_width number c) c.inner_source;
  target = aligned (unit_width number c) c.inner_target;
  width = unit_width number c;
  first = c.first;
}

-- An inner address after a unit: step 1 goes down, 2 stays, 0 and 3 go up. Addresses wrap at 32 bits. For a queue the
-- destination stays.
abbrev pub moved : ℕ → ℕ → ℕ → ℕ
moved step bytes address =
    if step == 1
    then (address + (2 ^ 32 - bytes)) % 2 ^ 32
    else if step == 2
    then address
    else (address + bytes) % 2 ^ 32

abbrev pub next_source : ℕ → Channel → ℕ
next_source number c = moved (source_step c) (size (unit_width number c)) c.inner_source

abbrev pub next_target : ℕ → Channel → ℕ
next_target number c =
    if serves_sound number c
    then c.inner_target
    else moved (target_step c) (size (unit_width number c)) c.inner_target

-- whether a unit ends the run, and whether the channel then waits for its next trigger
abbrev pub is_last : Channel → Bool
is_last c = nat_le c.left 1

abbrev pub waits_again : Channel → Bool
waits_again c = repeats c && not (timing_of c.control == 0)

-- a unit moves the inner addresses and lowers the count
abbrev pub after_step : ℕ → Channel → Channel
after_step number c = record c {
  first = false;
  inner_source = next_source number c;
  inner_target = next_target number c;
  left = c.left - 1;
}

-- After its last unit a channel that waits again has its count loaded, and at destination step 3 its destination. Any
-- other is disabled.
abbrev pub after_run : ℕ → Channel → Channel
after_run number c = record c {
  control = if waits_again c then c.control else field c.control 0 15;
  active = false;
  inner_target = if waits_again c && (target_step c == 3) then c.target else c.inner_target;
  left = if waits_again c then count_loaded number c else c.left;
}

abbrev pub after_unit : ℕ → Channel → Channel
after_unit number c = if is_last c then after_run number (after_step number c) else after_step number c

-- what a unit's end does to a channel that may not be active, and whether it requests the interrupt
abbrev pub after_unit_end : ℕ → Channel → Channel
after_unit_end number c = if c.active then after_unit number c else c

abbrev pub requests_interrupt : Channel → Bool
requests_interrupt c = c.active && is_last c && asks_interrupt c

-- A channel's six halfwords by their place in its twelve bytes: source low and high, destination low and high, count,
-- control.
abbrev pub with_low : ℕ → ℕ → ℕ
with_low value whole = field whole 16 16 * 2 ^ 16 + value

abbrev pub with_high : ℕ → ℕ → ℕ
with_high value whole = value * 2 ^ 16 + field whole 0 16

abbrev pub half_shown : ℕ → Channel → ℕ
half_shown place c =
    if place == 0 then field c.source 0 16
    else if place == 2 then field c.source 16 16
    else if place == 4 then field c.target 0 16
    else if place == 6 then field c.target 16 16
    else if place == 8 then c.count
    else if place == 10 then c.control
    else 0

abbrev pub channel_set : ℕ → ℕ → ℕ → Channel → Channel
channel_set number place value c =
    if place == 0 then record c { source = with_low value c.source }
    else if place == 2 then record c { source = with_high value c.source }
    else if place == 4 then record c { target = with_low value c.target }
    else if place == 6 then record c { target = with_high value c.target }
    else if place == 8 then record c { count = value }
    else if place == 10 then with_control number value c
    else c

-- a channel at reset: all numbers are 0
abbrev pub channel_at_reset : Channel
channel_at_reset = record {
  source = 0;
  target = 0;
  count = 0;
  control = 0;
  active = false;
  first = false;
  inner_source = 0;
  inner_target = 0;
  left = 0;
}
