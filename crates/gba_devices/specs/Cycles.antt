use Rattle.std.specs.Prelude.{◌≡◌, ℕ, zero, suc, Bool, false, ◌+◌, ◌-◌, ◌*◌, ◌%◌, ◌≤◌, ◌==◌, ◌||◌, ◌&&◌, nat_lt, min, if◌then◌else◌}
use Rattle.gba_terms.specs.Bits.{bit}
use Rattle.gba_dma.specs.Channels.{FourChannels, after_trigger}
use Rattle.gba_dma.specs.declared.event.DmaEvent.{DmaEvent}
use Rattle.gba_dma.specs.declared.event.DmaEvent.TheVariants.{VBlank, HBlank, QueueA, QueueB}
use Rattle.gba_irq.specs.Interrupts.{with_request_if, with_requests}
use Rattle.gba_ppu_reg.specs.Position.{after_cycles as place_after, begins_hblank, begins_line, cycle as place_cycle, is_matched}
use Rattle.gba_ppu_reg.specs.Quiet.{quiet_within as quiet_place}
use Rattle.gba_ppu_reg.specs.Registers.{Picture, after_line, after_reload, picture_kept}
use Rattle.gba_ppu_reg.specs.declared.position.Position.{Position}
use Rattle.gba_psg.specs.Tones.{after_cycles as tones_after, cycle as tones_cycle}
use Rattle.gba_sound.specs.Queues.{after_overflow, asked}
use Rattle.gba_sound.specs.declared.asked.Asked.{Asked}
use Rattle.gba_timer.specs.Quiet.{quiet_within as quiet_timers}
use Rattle.gba_timer.specs.Timers.{after_cycles as timers_after, cycle as timer_cycle, overflow_mark, requests}
use Rattle.gba_devices.specs.State.{Devices}

-- A device cycle: the clock rises by 1; the timers move, from 0 to 3, and request their interrupts in that cycle; then
-- the sound queues of timers 0 and 1 take bytes where these overflowed, and ask for DMA; then the tone channels move;
-- then the picture's place moves by a dot, with what begins there.

-- the requests of timers that overflow, from bit 3 of IF up
abbrev pub with_timer_requests : ℕ → Devices → Devices
with_timer_requests mark d = record d { interrupts = with_requests (8 * requests mark d.timers) d.interrupts }

abbrev pub moved : Devices → Devices
moved d = record d { clock = d.clock + 1; timers = timer_cycle d.timers }

-- queues that ask trigger the channels which serve them
abbrev pub asked_one : Bool → DmaEvent → FourChannels → FourChannels
asked_one asks event cs = if asks then after_trigger event cs else cs

unfoldable pub asked_by : Asked → FourChannels → FourChannels
asked_by queues cs = asked_one queues.b QueueB (asked_one queues.a QueueA cs)

-- timer 0 or 1 overflowed, or didn't
unfoldable pub rung : ℕ → Bool → Devices → Devices
rung timer rings d = record d {
  sound = if rings then after_overflow timer d.sound else d.sound;
  channels = if rings then asked_by (asked timer d.sound) d.channels else d.channels;
}

-- DISPSTAT's bits 3 to 5 ask for the interrupts of VBlank, HBlank and the matched line (GBATEK, LCD I/O Interrupts and
-- Status)
abbrev pub status_of : Picture → ℕ
status_of r = picture_kept 0x004 r

-- HBlank begins: it requests bit 1 of IF, and in the lines 0 to 159, which are seen, it triggers the DMA that waits for
-- it, and the inner reference points grow.
abbrev pub is_seen : Position → Bool
is_seen p = nat_lt p.line 160

unfoldable pub at_hblank : Devices → Devices
at_hblank d = record d {
  channels = if is_seen d.place then after_trigger HBlank d.channels else d.channels;
  picture = if is_seen d.place then after_line d.picture else d.picture;
  interrupts = with_request_if (bit (status_of d.picture) 4) 1 d.interrupts;
}

-- A line begins: the matched one requests bit 2 of IF, and line 160 bit 0. VBlank begins in it, triggers the DMA that
-- waits for it, and makes the inner reference points those that are written.
abbrev pub begins_vblank : Position → Bool
begins_vblank p = p.line == 160

unfoldable pub at_line : Devices → Devices
at_line d = record d {
  channels = if begins_vblank d.place then after_trigger VBlank d.channels else d.channels;
  picture = if begins_vblank d.place then after_reload d.picture else d.picture;
  interrupts =
      with_request_if (begins_vblank d.place && bit (status_of d.picture) 3) 0
      (with_request_if (is_matched (status_of d.picture) d.place && bit (status_of d.picture) 5) 2 d.interrupts);
}

-- what begins at the dot to which the place came
unfoldable pub at_place : Devices → Devices
at_place d =
    if begins_hblank d.place then at_hblank d
    else if begins_line d.place then at_line d
    else d

-- the place moves by a dot
abbrev pub placed : Devices → Devices
placed d = record d { place = place_cycle d.place }

-- the tone channels move by a cycle
abbrev pub toned : Devices → Devices
toned d = record d { tones = tones_cycle d.tones }

-- the timers, the queues and the tone channels
unfoldable pub sounded : Devices → Devices
sounded d =
    toned
    (rung 1 (bit (overflow_mark d.timers) 1)
    (rung 0 (bit (overflow_mark d.timers) 0)
    (with_timer_requests (overflow_mark d.timers) (moved d))))

unfoldable pub device_cycle : Devices → Devices
device_cycle d = at_place (placed (sounded d))

-- so many cycles
unfoldable pub after_cycles : ℕ → Devices → Devices
after_cycles zero d = d
after_cycles (suc count) d = device_cycle (after_cycles count d)

-- whether the next cycle makes a pair of samples: where the new clock is a multiple of 512
abbrev pub makes_pair : Devices → Bool
makes_pair d = (d.clock + 1) % 512 == 0

-- whether the next cycle draws a line of the picture: where HBlank begins in a line that is seen
abbrev pub draws_at : Position → Bool
draws_at p = begins_hblank p && is_seen p

abbrev pub draws_line : Devices → Bool
draws_line d = draws_at (place_cycle d.place)

-- whether one of so many cycles makes something
unfoldable pub makes_within : ℕ → Devices → Bool
makes_within zero d = false
makes_within (suc count) d = makes_within count d ||
    (makes_pair (after_cycles count d) || draws_line (after_cycles count d))

-- whether one of so many cycles draws a line
unfoldable pub draws_within : ℕ → Devices → Bool
draws_within zero d = false
draws_within (suc count) d = draws_within count d || draws_line (after_cycles count d)

-- Cycles in which no timer overflows and nothing begins at a place can be skipped at once: for so many that is so, of
-- those that are looked at, which are more than a line has before its HBlank. A pair of samples may be made in them,
-- and the tone channels move on in them.
abbrev pub farthest : ℕ
farthest = 1024

unfoldable pub quiet : Devices → ℕ
quiet d = min (quiet_timers farthest d.timers) (quiet_place farthest d.place)

abbrev pub skipped : ℕ → Devices → Devices
skipped count d = record d {
  clock = d.clock + count;
  timers = timers_after count d.timers;
  tones = tones_after count d.tones;
  place = place_after count d.place;
}

-- Devices that are behind others, by so many cycles in which nothing happens: all is the same but the clock, the
-- timers, the tone channels and the picture's place.
pub record IsBehind (late d : Devices) : Type 0 where
  pub owed : ℕ
  pub quietly : owed ≤ quiet late
  pub passed : skipped owed late ≡ d

-- how many cycles are left before one that makes a pair
abbrev pub pairless : Devices → ℕ
pairless d = 511 - d.clock % 512

-- Within the quiet cycles skipping is stepping, and no line is drawn. Within those before a pair nothing is made.
pub record SkipsCycles : Type 0 where
  pub none : (d : Devices) → skipped 0 d ≡ d
  pub pass : (count more : ℕ) (d : Devices) → more + count ≤ quiet d
      → after_cycles count (skipped more d) ≡ skipped (more + count) d
  pub next : (more : ℕ) (d : Devices) → more + 1 ≤ quiet d → device_cycle (skipped more d) ≡ skipped (more + 1) d
  pub no_line : (more : ℕ) (d : Devices) → more + 1 ≤ quiet d → draws_line (skipped more d) ≡ false
  pub silent : (count more : ℕ) (d : Devices) → more + count ≤ quiet d → count ≤ pairless (skipped more d)
      → makes_within count (skipped more d) ≡ false
  pub lineless : (count more : ℕ) (d : Devices) → more + count ≤ quiet d → draws_within count (skipped more d) ≡ false
  pub timers : (count : ℕ) (d : Devices) → count ≤ quiet d → quiet_timers count d.timers ≡ count
  pub places : (count : ℕ) (d : Devices) → count ≤ quiet d → quiet_place count d.place ≡ count

-- what all cycles do: the clock rises by their number, and WAITCNT and the prices stay
pub record CyclesPass (count : ℕ) (d : Devices) : Type 0 where
  pub clock : (after_cycles count d).clock ≡ d.clock + count
  pub waits : (after_cycles count d).waits ≡ d.waits
  pub priced : (after_cycles count d).priced ≡ d.priced

-- the same of one cycle, in which the picture's place moves by a dot
pub record CyclePasses (d : Devices) : Type 0 where
  pub clock : (device_cycle d).clock ≡ d.clock + 1
  pub place : (device_cycle d).place ≡ place_cycle d.place
  pub waits : (device_cycle d).waits ≡ d.waits
  pub priced : (device_cycle d).priced ≡ d.priced
