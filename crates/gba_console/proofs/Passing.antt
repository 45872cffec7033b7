-- What a step leaves is sound again.
use Rattle.std.proofs.Common.{◌≡◌, ℕ, refl, ◌+◌, ◌-◌, ◌*◌, ◌/◌, ◌<◌, ◌≤◌, ◌^◌, ◌∙◌, length, sym, ap, subst, arith}
use Rattle.gba_exec_transfers.specs.Done.{Done}
use Rattle.gba_io.specs.Board.{BoardPasses, HasRoom, IsInStep, base_of, board_after, board_emptied, board_from}
use Rattle.gba_io.specs.Base.{early_at}
use Rattle.gba_io.specs.Cable.{AreApart, EndsFit}
use Rattle.gba_io.specs.Core.{Core}
use Rattle.gba_io.specs.Drawing.{cycles_early, cycles_in, lines_drawn}
use Rattle.gba_io.specs.Ended.{Ended}
use Rattle.gba_ppu_reg.specs.Position.{IsPosition}
use Rattle.gba_ppu_reg.specs.declared.position.Position.{Position}
use Rattle.gba_io.specs.declared.board.Board.{Board}
use Rattle.gba_serial.specs.Apart.{next_end}
use Rattle.gba_serial.specs.SerialUnit.{SerialUnit}
use Rattle.gba_io.proofs.Drawing.{early-is}
use Rattle.gba_io.proofs.Ending.{apart-kept, apart-later}
use Rattle.gba_console.specs.Passing.{KeepsCourse, Passes}
use Rattle.gba_console.specs.Waiting.{IsSound}

-- a board is in step with another core of the same time, and with what was made in the same time
pub core-in-step : (b : Board) (core : Core) (ended : Ended) → core.devices.clock ≡ b.core.devices.clock
    → core.devices.place ≡ b.core.devices.place → core.lines ≡ b.core.lines → IsInStep b
    → IsInStep (record b { core = core; ended = ended })
core-in-step b core ended clock place lines step =
    let is_position = λ (q : Position). IsPosition q in
    let base = b.made.base in
    let frames = λ (n : ℕ) (q : Position). n + cycles_early q + (280896 * base.frames + base.cycles)
    ≡ 280896 * b.made.frame_count + cycles_in q + (base.clock + early_at base.cycles) in
    record {
      place = subst is_position (sym place) step.place;
      pairs = step.pairs ∙ ap (λ n. base.pairs + n / 512) (sym clock);
      frames =
          subst (λ (n : ℕ). frames n core.devices.place) (sym clock)
          (subst (frames b.core.devices.clock) (sym place) step.frames);
      drawn = ap length lines ∙ step.drawn ∙ ap lines_drawn (sym place);
    }

-- a board whose lists were emptied is sound
pub forgotten-sound : (was until : ℕ) (b : Board) → IsSound was b → until ≤ 2 ^ 39 → b.made.until ≤ until
    → IsSound was (board_from (base_of b) until (board_emptied b))
forgotten-sound was until b sound most later = record {
  step = record {
    place = sound.step.place;
    pairs = refl;
    frames = omega (arith, early-is b.core.devices.place sound.step.place);
    drawn = sound.step.drawn;
  };
  ends = record {
    apart = record {
      past = sound.ends.apart.past;
      next = sound.ends.apart.next;
      since = omega (arith, sound.short);
      soon = λ some. absurd (omega (arith, some));
      recent = sound.short;
    };
    seat = sound.ends.seat;
    few = most;
  };
  short = sound.short;
  clock = omega (arith, sound.clock, later);
  few = most;
  same = refl;
}

-- how many transfers ended by then
pub count-few : (was : ℕ) (b : Board) → IsSound was b → was ≤ b.core.devices.clock → b.ended.count ≤ 2 ^ 41
count-few was b sound after =
    let past = sound.ends.apart.past in omega (arith, past, after, sound.clock, sound.few)

-- there is room for a step that begins below the end
pub has-room : (b : Board) (cycles clock : ℕ) → b.core.devices.clock ≡ clock → cycles ≤ 512 → IsInStep b
    → clock < b.made.until → b.made.until ≤ 2 ^ 39 → HasRoom cycles b
has-room b cycles clock same short step early few = record {
  step = step;
  end = omega (arith, same, short, early);
  few = few;
}

-- what a step does leaves room for the transfers that end
pub acted-fit : (clock : ℕ) (b : Board) (core : Core) → EndsFit clock b → b.core.devices.clock ≡ clock
    → KeepsCourse b.core core → EndsFit clock (record b { core = core })
acted-fit clock b core fits same keeps = record {
  apart =
      apart-kept clock (next_end b.core.serial) (next_end core.serial) b.ended.count b.ended.base fits.apart
      (λ bound soon before. keeps.next bound fits.seat (omega (arith, soon, same)) before);
  seat = keeps.seat fits.seat;
  few = fits.few;
}

-- what then holds again, where the step began at a clock
pub sound-after : (clock cycles : ℕ) (b after : Board) → after ≡ board_after cycles b → BoardPasses cycles b
    → HasRoom cycles b → EndsFit clock b → b.ended.until ≡ b.made.until → b.core.devices.clock ≡ clock → cycles ≤ 512
    → IsSound clock after
sound-after clock cycles b after e passes room fits same begun short =
    subst (IsSound clock) (sym e) (record {
      step = passes.step room.step;
      ends = record {
        apart =
            subst
            (λ (ended : Ended). AreApart clock (next_end (board_after cycles b).core.serial) ended.count ended.base)
            (sym passes.ended)
            (subst (λ (u : SerialUnit). AreApart clock (next_end u) b.ended.count b.ended.base) (sym passes.serial)
            fits.apart);
        seat = let count = ap (λ (u : SerialUnit). u.count) passes.serial in omega (arith, count, fits.seat);
        few = let until = ap (λ (ended : Ended). ended.until) passes.ended in omega (arith, until, fits.few);
      };
      short = omega (arith, passes.clock, begun, short);
      clock = omega (arith, passes.clock, passes.until, room.end);
      few = omega (arith, passes.until, room.few);
      same =
          (let until = ap (λ (ended : Ended). ended.until) passes.ended in omega (arith, until, passes.until, same));
    })

-- a step that began at a clock keeps that clock
pub step-was : (clock cycles : ℕ) (b after : Board) → after ≡ board_after cycles b → BoardPasses cycles b
    → b.core.devices.clock ≡ clock → after.core.devices.clock - cycles ≡ clock
step-was clock cycles b after e passes same =
    let ends = ap (λ (b : Board). b.core.devices.clock) e in omega (arith, ends, passes.clock, same)

-- what is kept from one core is kept from another of the same time and with the same serial unit
pub keeps-from : (one other core : Core) → other.serial ≡ one.serial → other.devices.clock ≡ one.devices.clock
    → other.devices.place ≡ one.devices.place → other.lines ≡ one.lines → KeepsCourse other core → KeepsCourse one core
keeps-from one other core unit clock place lines keeps =
    let count = ap (λ (u : SerialUnit). u.count) unit in
    let next = ap next_end unit in
    record {
      place = keeps.place ∙ place;
      lines = keeps.lines ∙ lines;
      next = λ bound seat soon before.
          keeps.next bound (omega (arith, seat, count)) (omega (arith, soon, clock)) (omega (arith, before, next));
      seat = λ seat. keeps.seat (omega (arith, seat, count));
    }

-- What a step leaves is sound: `core` is what it did to a board that is ready for it.
pub record IsReady (clock : ℕ) (b : Board) : Type 0 where
  pub same : b.core.devices.clock ≡ clock
  pub fits : EndsFit clock b
  pub step : IsInStep b
  pub early : clock < b.made.until
  pub few : b.made.until ≤ 2 ^ 39
  pub until : b.ended.until ≡ b.made.until

pub ready-room : (clock cycles : ℕ) (b : Board) (core : Core) → IsReady clock b → core.devices.clock ≡ clock
    → KeepsCourse b.core core → cycles ≤ 512 → HasRoom cycles (record b { core = core })
ready-room clock cycles b core ready same keeps short =
    has-room (record b { core = core }) cycles clock same short
    (core-in-step b core b.ended (same ∙ sym ready.same) keeps.place keeps.lines ready.step) ready.early ready.few

pub step-sound : (clock cycles : ℕ) (b after : Board) (core : Core) → IsReady clock b → core.devices.clock ≡ clock
    → KeepsCourse b.core core → cycles ≤ 512 → after ≡ board_after cycles (record b { core = core })
    → BoardPasses cycles (record b { core = core }) → IsSound (after.core.devices.clock - cycles) after
step-sound clock cycles b after core ready same keeps short e passes =
    subst (λ n. IsSound n after) (sym (step-was clock cycles (record b { core = core }) after e passes same))
    (sound-after clock cycles (record b { core = core }) after e passes
    (ready-room clock cycles b core ready same keeps short)
    (acted-fit clock b core ready.fits ready.same keeps) ready.until same short)

-- a sound board is ready for a plain step
pub sound-ready : (was : ℕ) (b : Board) → IsSound was b → was ≤ b.core.devices.clock
    → b.core.devices.clock < b.made.until → IsReady b.core.devices.clock b
sound-ready was b sound after early = record {
  same = refl;
  fits = record {
    apart =
        apart-later was b.core.devices.clock (next_end b.core.serial) b.ended.count b.ended.base sound.ends.apart after;
    seat = sound.ends.seat;
    few = sound.ends.few;
  };
  step = sound.step;
  early = early;
  few = sound.few;
  until = sound.same;
}

-- what an instruction leaves, where it is known by what it leaves
pub left-ends : (before core : Core) (done : Done Core) → core ≡ done.bus → Passes before done → KeepsCourse before core
left-ends before core done e passes =
    let P : Core → Type 0 = λ c. KeepsCourse before c in subst P (sym e) passes.course

pub left-clock : (before core : Core) (done : Done Core) → core ≡ done.bus → Passes before done
    → core.devices.clock ≡ before.devices.clock
left-clock before core done e passes = ap (λ (c : Core). c.devices.clock) e ∙ passes.clock

-- what a step leaves has no nearer end
pub ends-after : (cycles bound : ℕ) (b after : Board) (core : Core)
    → after ≡ board_after cycles (record b { core = core }) → BoardPasses cycles (record b { core = core })
    → KeepsCourse b.core core → 1 ≤ b.core.serial.count → bound ≤ b.core.devices.clock + 512
    → bound ≤ next_end b.core.serial → bound ≤ next_end after.core.serial
ends-after cycles bound b after core e passes keeps seat soon before =
    let kept = keeps.next bound seat soon before in
    let same = ap (λ (b : Board). next_end b.core.serial) e in
    let serial = ap next_end passes.serial in
    omega (arith, kept, same, serial)
