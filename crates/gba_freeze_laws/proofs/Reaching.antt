-- What a run reaches can be frozen.
use Rattle.std.proofs.Common.{◌≡◌, ℕ, zero, suc, ◌+◌, ◌≤◌, ◌∙◌, List, [], ◌∷◌, length, map, Some, refl, sym, ap, subst, arith}
use Rattle.std.specs.Prelude.{All, slice_get, slice_index}
use Rattle.gba_console.specs.Alone.{console_kind}
use Rattle.gba_console.specs.Machine.{Machine, clock_of, without_limit}
use Rattle.gba_console.specs.Step.{stepped}
use Rattle.gba_freeze_laws.specs.Reached.{HasSavedBytes, RunsCanBeFrozen, reached}
use Rattle.gba_image.specs.declared.images.ConsoleImages.{ConsoleImages}
use Rattle.gba_joblog.specs.Job.{ConsoleJob, WholeJob}
use Rattle.gba_joblog.specs.Soundness.{IsJob}
use Rattle.gba_run_laws.specs.Holding.{Holds, IsSameConsole, StepsHold, StepsLeaveTheRest}
use Rattle.gba_session.proofs.Consoles.{consoles-length, fit-long}
use Rattle.gba_session.proofs.Preparing.{start-can}
use Rattle.gba_session.specs.Start.{FitJob, console_at, consoles_from, start_of}
use Rattle.gba_thaw_laws.specs.Cut.{AreReady, CanBeFrozen, IsReady}
use Rattle.link_cut_laws.proofs.Keeping.{runs-keep}
use Rattle.link_cut_laws.specs.Law.{ComesBySteps, EndsNear, KeepsCable, LeavesWhole, StartsWhole}
use Rattle.link_cut_laws.specs.Steps.{MayTurn}
use Rattle.link_node.specs.declared.signal.Incoming.{Incoming}
use Rattle.link_order.proofs.Hops.{cable_of_delays}
use Rattle.link_order.proofs.Lists.{all_cons, all_nil}
use Rattle.link_order.specs.Cut.{IsCable, IsFresh, IsSound}
use Rattle.link_order.specs.GlobalOrder.{run}
use Rattle.gba_freeze_laws.proofs.Ready.{ready}
use Rattle.gba_freeze_laws.proofs.Starting.{Begins, all-begin}

-- ---- a console of a run beside the one at the start

record Follows (start m : Machine) : Type 0 where
  holds : Holds m
  same : IsSameConsole start m

same-itself : (m : Machine) → IsSameConsole m m
same-itself m = record {
  bios = refl;
  rom = refl;
  backup = refl;
  seat = refl;
  keys = refl;
  off = refl;
  kinds = record { frames = refl; samples = refl; words = refl };
}

same-later : (start m next : Machine) → IsSameConsole start m → IsSameConsole m next → IsSameConsole start next
same-later start m next one two = record {
  bios = two.bios ∙ one.bios;
  rom = two.rom ∙ one.rom;
  backup = two.backup ∙ one.backup;
  seat = two.seat ∙ one.seat;
  keys = two.keys ∙ one.keys;
  off = two.off ∙ one.off;
  kinds = record {
    frames = two.kinds.frames ∙ one.kinds.frames;
    samples = two.kinds.samples ∙ one.kinds.samples;
    words = two.kinds.words ∙ one.kinds.words;
  };
}

some-same : (x y : Machine) → Some x ≡ Some y → x ≡ y
some-same x y same = cc

-- the clock of a player's console
clock-there : (ms : List Machine) (i : ℕ) (m : Machine) → slice_get ms i ≡ Some m
    → slice_index (map clock_of ms) i ≡ clock_of m
clock-there [] i m there = absurd cc
clock-there (x ∷ ms) zero m there = ap clock_of (some-same x m there)
clock-there (x ∷ ms) (suc i) m there = clock-there ms i m there

-- at reset
all-fresh : (job : WholeJob) (player : ℕ) (consoles : List ConsoleJob) (images : List ConsoleImages)
    → All (IsFresh console_kind) (consoles_from job player consoles images)
unfolding consoles_from
all-fresh job player [] images = all_nil (IsFresh console_kind)
all-fresh job player (c ∷ consoles) [] = all_nil (IsFresh console_kind)
all-fresh job player (c ∷ consoles) (one ∷ images) =
    all_cons (IsFresh console_kind) (without_limit (console_at job player c one))
    (consoles_from job (player + 1) consoles images)
    (record { clock_is = refl; was_is = refl }) (all-fresh job (player + 1) consoles images)

clocks-first : (job : WholeJob) (player : ℕ) (consoles : List ConsoleJob) (images : List ConsoleImages) (i : ℕ)
    → slice_index (map clock_of (consoles_from job player consoles images)) i ≡ 0
unfolding consoles_from
clocks-first job player [] images i = refl
clocks-first job player (c ∷ consoles) [] i = refl
clocks-first job player (c ∷ consoles) (one ∷ images) zero = refl
clocks-first job player (c ∷ consoles) (one ∷ images) (suc i) = clocks-first job (player + 1) consoles images i

-- place by place
all-ready : (until : ℕ) (starts ms : List Machine) → length ms ≡ length starts
    → ((i : ℕ) (start m : Machine) → slice_get starts i ≡ Some start → slice_get ms i ≡ Some m → IsReady until start m)
    → AreReady until starts ms
unfolding AreReady
all-ready until [] [] many each = _
all-ready until [] (m ∷ ms) many each = absurd (omega (arith, many))
all-ready until (start ∷ starts) [] many each = absurd (omega (arith, many))
all-ready until (start ∷ starts) (m ∷ ms) many each =
    (each 0 start m refl refl, all-ready until starts ms (omega (arith, many)) (λ i. each (suc i)))

module _ (holding : StepsHold) (leaves : StepsLeaveTheRest) (begins : StartsWhole console_kind)
    (left : LeavesWhole console_kind) (cables : KeepsCable console_kind) (comes : ComesBySteps console_kind)
    (near : EndsNear console_kind) where
  module _ (job : WholeJob) (images : List ConsoleImages) (clock : ℕ) (is : IsJob job) (fits : FitJob job images)
      (saved : All HasSavedBytes images) (early : clock ≤ job.cycles) where
    abbrev starts : List Machine
    starts = consoles_from job 0 job.consoles images

    many : length starts ≡ length job.consoles
    many = consoles-length job 0 job.consoles images (fit-long job.consoles images fits)

    cable : IsCable (start_of job images)
    cable =
        cable_of_delays (start_of job images) (omega (arith, many, is.some_consoles))
        (omega (arith, many, is.few_consoles)) is.delays.within

    sound : IsSound console_kind (start_of job images)
    sound = (start-can job images is (fit-long job.consoles images fits)).sound

    begin : (i : ℕ) (m : Machine) → slice_get starts i ≡ Some m → Begins m
    begin i m there = all-begin holding job is 0 job.consoles images i m (omega arith) is.each fits saved there

    step-follows : (start m : Machine) (dues : List Incoming) → MayTurn console_kind clock m dues → Follows start m
        → Follows start (stepped dues m)
    step-follows start m dues may follows =
        let before = may.early in
        let few = is.few_cycles in
        record {
          holds =
              holding.steps dues m (omega (arith, before, early, few))
              (record { due = may.taken; ordered = may.ordered }) follows.holds;
          same = same-later start m (stepped dues m) follows.same (leaves dues m follows.holds.backup);
        }

    follow : (i : ℕ) (start m : Machine) → slice_get starts i ≡ Some start
        → slice_get (run console_kind (start_of job images) clock).consoles i ≡ Some m → Follows start m
    follow i start m from there =
        runs-keep console_kind comes (start_of job images) clock
        (λ k x. (s : Machine) → slice_get starts k ≡ Some s → Follows s x)
        (record {
          cable = cable;
          sound = sound;
          begins = λ k x stands s one.
              let same = some-same x s (sym stands ∙ one) in
              subst (Follows s) (sym same) (record { holds = (begin k s one).holds; same = same-itself s });
          steps = λ k x dues may here s one. step-follows s x dues may (here s one);
        })
        i m there start from

    -- at clock 0
    start-early : (i : ℕ) → slice_index (map clock_of starts) i ≤ clock + 511
    start-early i = let first = clocks-first job 0 job.consoles images i in omega (arith, first)

    each-ready : (i : ℕ) (start m : Machine) → slice_get starts i ≡ Some start
        → slice_get (run console_kind (start_of job images) clock).consoles i ≡ Some m → IsReady job.cycles start m
    each-ready i start m from there =
        let follows = follow i start m from there in
        let begun = begin i start from in
        let soon = near (start_of job images) clock i cable sound (start-early i) in
        let at = clock-there (run console_kind (start_of job images) clock).consoles i m there in
        ready job.cycles start m is.few_cycles (omega (arith, soon, at, early)) begun.few begun.holds follows.holds
        follows.same

    frozen : CanBeFrozen job.cycles (start_of job images) (reached job images clock)
    frozen =
        let opened = begins starts job.delays cable (all-fresh job 0 job.consoles images) in
        let whole = left (start_of job images) clock cable sound opened.whole.in_time opened.fit in
        let same = cables (start_of job images) clock in
        let count = same.count_is in
        record {
          consoles =
              all-ready job.cycles starts (run console_kind (start_of job images) clock).consoles count each-ready;
          delays = sym same.delays_are;
          some = omega (arith, count, many, is.some_consoles);
          few = omega (arith, count, many, is.few_consoles);
          whole = whole.whole;
          fit = whole.fit;
          signals = (let few = whole.few in omega (arith, few));
        }

  pub can-be-frozen : RunsCanBeFrozen
  can-be-frozen job images clock is fits saved early = frozen job images clock is fits saved early
