-- A console that is off, and the step after which it may be on.
use Rattle.std.proofs.Common.{◌≡◌, ℕ, ◌+◌, ◌-◌, ◌<◌, ◌≤◌, ◌^◌, List, [], ◌∷◌, refl, sym, ap, ◌∙◌, subst, arith, length}
use Rattle.std.specs.Prelude.{Option}
use Rattle.gba_devices.specs.State.{place_at_reset}
use Rattle.gba_image.specs.declared.backup.Backup.{Backup}
use Rattle.gba_io.specs.Base.{begun_at, early_at}
use Rattle.gba_io.specs.Board.{base_of, board_at_start, board_begun_at}
use Rattle.gba_io.specs.Core.{Core, core_begun, core_learned, core_rested}
use Rattle.gba_io.proofs.Drawing.{early-is}
use Rattle.gba_io.specs.Drawing.{cycles_in, lines_drawn}
use Rattle.gba_io.specs.declared.base.Base.{Base}
use Rattle.gba_io.specs.declared.board.Board.{Board}
use Rattle.gba_io.specs.declared.made.Room.{Room}
use Rattle.gba_mem.specs.Memories.{Memories}
use Rattle.gba_ppu_reg.specs.Position.{IsPosition}
use Rattle.gba_ppu_reg.specs.declared.position.Position.{Position}
use Rattle.gba_serial.specs.SerialUnit.{SerialUnit}
use Rattle.link_node.specs.declared.signal.Incoming.{Incoming}
use Rattle.gba_console.specs.Keys.{after_keys}
use Rattle.gba_console.specs.Machine.{Machine, clock_of, first_on, left_of}
use Rattle.gba_console.specs.Step.{all_learned, prepared_off, stepped_off, applied_in}
use Rattle.gba_console.specs.declared.keys.KeyState.{KeyState}
use Rattle.gba_console.specs.StepLaws.{off-serial, off-time}
use Rattle.gba_console.specs.Waiting.{IsKept, IsResting, IsSound}
use Rattle.gba_console.proofs.Images.{HasImages, keyed-memory}
use Rattle.gba_console.specs.declared.doing.What.TheVariants.{Off}

-- 16 cycles pass
base-at : Board → ℕ → Position → Base
base-at b clock place = record {
  clock = clock;
  pairs = b.made.pairs;
  frames = b.made.frame_count;
  words = b.ended.count;
  cycles = cycles_in place;
}

first-same : (off clock : ℕ) → clock < off → first_on off clock ≡ first_on off (clock + 16)
first-same off clock below = omega (arith, below)

pub rests-on : (off : ℕ) (b : Board) (core : Core) → IsResting off b → b.core.devices.clock < off
    → core.devices.clock ≡ b.core.devices.clock + 16
    → core.devices.place ≡ b.core.devices.place → core.lines ≡ b.core.lines → core.serial.count ≡ b.core.serial.count
    → IsResting off (record b { core = core })
unfolding base-at
rests-on off b core rest below clock place lines count =
    let first : first_on off b.core.devices.clock ≡ first_on off core.devices.clock =
    first-same off b.core.devices.clock below ∙ ap (first_on off) (sym clock) in
    let same : begun_at (first_on off b.core.devices.clock) (base_of b)
    ≡ begun_at (first_on off core.devices.clock) (base_of (record b { core = core })) =
    ap (λ (n : ℕ). base-at b n b.core.devices.place) first
    ∙ ap (base-at b (first_on off core.devices.clock)) (sym place) in
    record {
      begins = rest.begins ∙ same;
      ends = rest.ends ∙ same;
      place = subst IsPosition (sym place) rest.place;
      drawn = ap length lines ∙ rest.drawn ∙ ap lines_drawn (sym place);
      frames = rest.frames;
      samples = rest.samples;
      words = rest.words;
      few = rest.few;
      seat = omega (arith, count, rest.seat);
    }

first-place : IsPosition place_at_reset
first-place = record { line = omega arith; dot = omega arith }

-- The turn with which it is on: what it makes begins there.
first-here : (off clock : ℕ) → off ≤ clock → first_on off clock ≡ clock
first-here off clock on = omega (arith, on)

pub wakes-sound : (off was : ℕ) (b : Board) → IsResting off b → b.core.devices.clock ≤ was + 512
    → off ≤ b.core.devices.clock → b.core.devices.clock ≤ b.made.until + 511 → b.made.until ≤ 2 ^ 39
    → b.ended.until ≡ b.made.until → IsSound was b
wakes-sound off was b rest after on clock few same =
    let here = ap (λ (n : ℕ). begun_at n (base_of b)) (first-here off b.core.devices.clock on) in
    let made = rest.begins ∙ here in
    let over = rest.ends ∙ here in
    let begun = ap (λ (base : Base). base.clock) made in
    let ended = ap (λ (base : Base). base.clock) over in
    let words = ap (λ (base : Base). base.words) over in
    let pairs = ap (λ (base : Base). base.pairs) made in
    let frames = ap (λ (base : Base). base.frames) made in
    let cycles = ap (λ (base : Base). base.cycles) made in
    let early = early-is b.core.devices.place rest.place ∙ sym (ap early_at cycles) in
    record {
      step = record {
        place = rest.place;
        pairs = omega (arith, begun, pairs);
        frames = omega (arith, begun, frames, cycles, early);
        drawn = rest.drawn;
      };
      ends = record {
        apart = record {
          past = omega (arith, rest.few);
          next = omega (arith, rest.few);
          since = omega (arith, ended, words, after);
          soon = λ some. absurd (omega (arith, some, words));
          recent = omega (arith, ended, after);
        };
        seat = rest.seat;
        few = omega (arith, same, few);
      };
      short = after;
      clock = clock;
      few = few;
      same = same;
    }

-- what holds after the step
learned-memory : (dues : List Incoming) (b : Core) → (all_learned dues b).memory ≡ b.memory
learned-memory [] b = refl
learned-memory (due ∷ dues) b = learned-memory dues (core_learned due b)

pub off-images : (dues : List Incoming) (m : Machine) (core : Core) → core ≡ core_rested 16 (prepared_off dues m)
    → HasImages m.board.core.memory.bios m.board.core.memory.rom core.memory
off-images dues m core e =
    let same : core.memory ≡ m.board.core.memory
    = ap (λ (b : Core). b.memory) e ∙ keyed-memory (clock_of m) (left_of m) (all_learned dues (core_begun m.board.core))
    ∙ learned-memory dues (core_begun m.board.core) in
    record { bios = ap (λ (n : Memories). n.bios) same; rom = ap (λ (n : Memories). n.rom) same }

pub off-clock : (dues : List Incoming) (m : Machine) (core : Core) → core ≡ core_rested 16 (prepared_off dues m)
    → core.devices.clock ≡ clock_of m + 16
off-clock dues m core e =
    let time = (off-time dues m).clock in
    ap (λ (b : Core). b.devices.clock) e ∙ ap (λ (n : ℕ). n + 16) time

pub off-kept : (dues : List Incoming) (m : Machine) (core : Core) → IsKept m.off m.was m.board → clock_of m < m.off
    → clock_of m < m.board.made.until → core ≡ core_rested 16 (prepared_off dues m)
    → IsKept m.off (core.devices.clock - 16) (record m.board { core = core })
off-kept dues m core kept below early e =
    let rest = kept.rests below in
    let clock = off-clock dues m core e in
    let place = ap (λ (b : Core). b.devices.place) e ∙ (off-time dues m).place in
    let lines = ap (λ (b : Core). b.lines) e ∙ (off-time dues m).lines in
    let count = ap (λ (b : Core). b.serial.count) e ∙ ap (λ (u : SerialUnit). u.count) (off-serial dues m) in
    let after : Board = record m.board { core = core } in
    let then : IsResting m.off after = rests-on m.off m.board core rest below clock place lines count in
    let began : core.devices.clock ≤ core.devices.clock - 16 + 512 = omega (arith, clock) in
    record {
      most = kept.most;
      on = λ on.
          wakes-sound m.off (core.devices.clock - 16) after
          then began on (omega (arith, clock, early)) kept.few kept.same;
      rests = λ _. then;
      short = omega (arith, clock);
      clock = omega (arith, clock, early);
      few = kept.few;
      same = kept.same;
    }

-- at reset
pub reset-kept : (off was until : ℕ) (b : Board) (player count round : ℕ) (bios : List ℕ) (cart save : Option (List ℕ))
    (backup : Backup) (room : Room) → off ≤ 2 ^ 39 → was ≡ 0 → until ≤ 2 ^ 39 → player < count
    → b ≡ board_begun_at (first_on off 0) until (board_at_start player count round bios cart save backup room)
    → IsKept off was b
reset-kept off was until b player count round bios cart save backup room most first few seated e =
    let start = board_begun_at (first_on off 0) until (board_at_start player count round bios cart save backup room) in
    let rest : IsResting off start = record {
      begins = refl;
      ends = refl;
      place = first-place;
      drawn = refl;
      frames = refl;
      samples = refl;
      words = refl;
      few = omega arith;
      seat = omega (arith, seated);
    } in
    subst (IsKept off was) (sym e) (record {
      most = most;
      on = λ on. wakes-sound off was start rest (omega arith) on (omega arith) few refl;
      rests = λ _. rest;
      short = omega arith;
      clock = omega arith;
      few = few;
      same = refl;
    })

-- what the code has is what the step says
pub prepares-off : (m : Machine) (dues : List Incoming) (begun learned keyed : Core) (clock : ℕ)
    (changes : List KeyState) → begun ≡ core_begun m.board.core → learned ≡ all_learned dues begun → clock ≡ clock_of m
    → changes ≡ left_of m → keyed ≡ after_keys clock changes learned → keyed ≡ prepared_off dues m
prepares-off m dues begun learned keyed clock changes start heard same list e =
    e ∙ ap (λ (n : ℕ). after_keys n changes learned) same
    ∙ ap (λ (list : List KeyState). after_keys (clock_of m) list learned) list
    ∙ ap (after_keys (clock_of m) (left_of m)) (heard ∙ ap (all_learned dues) start)

pub left-off : (m : Machine) (dues : List Incoming) (core : Core) → core ≡ prepared_off dues m
    → core.devices.clock ≡ clock_of m
left-off m dues core e = ap (λ (b : Core). b.devices.clock) e ∙ (off-time dues m).clock

pub off-made : (m : Machine) (dues : List Incoming) (core : Core) (applied : ℕ)
    → core ≡ core_rested 16 (prepared_off dues m) → applied ≡ applied_in m
    → (record m {
      board = record m.board { core = core };
      applied = applied;
      was = core.devices.clock - 16;
      last = Off;
    })
    ≡ stepped_off dues m
unfolding stepped_off
off-made m dues core applied e left =
    let was : core.devices.clock - 16 ≡ clock_of m = omega (arith, off-clock dues m core e) in
    ap (λ (n : ℕ). record m { board = record m.board { core = core }; applied = applied; was = n; last = Off }) was
    ∙ ap (λ (b : Core). record m {
      board = record m.board { core = b };
      applied = applied;
      was = clock_of m;
      last = Off;
    }) e
    ∙ ap (λ (n : ℕ). record m {
      board = record m.board { core = core_rested 16 (prepared_off dues m) };
      applied = n;
      was = clock_of m;
      last = Off;
    }) left
