use Rattle.std.specs.Prelude.{◌≡◌, ℕ, ◌+◌, ◌-◌, ◌*◌, ◌/◌, All, Bool, not, nat_lt, min, List, map, if◌then◌else◌}
use Rattle.gba_console.specs.Alone.{console_kind}
use Rattle.gba_console.specs.Machine.{Machine, forgotten, without_limit}
use Rattle.gba_console.specs.Segments.{forgotten_cut}
use Rattle.gba_image.specs.declared.images.ConsoleImages.{ConsoleImages}
use Rattle.gba_joblog.specs.Job.{WholeJob}
use Rattle.gba_joblog.specs.declared.outputs.PerKind.{PerKind}
use Rattle.gba_session.specs.Files.{asks_of}
use Rattle.gba_session.specs.Start.{run_until, start_of}
use Rattle.link_order.specs.Cut.{Cut, clock_at}
use Rattle.link_order.specs.GlobalOrder.{least}

-- The consoles of a job, which run in segments. A segment ends at each multiple of 2^24 cycles before the job's end,
-- and at that end; between two of them the lists of the consoles are emptied.
pub record Consoles : Type 0 where
  -- the consoles at reset
  pub start : Cut Machine
  -- the clocks at which the last segment began and ended: no step of it begins at its end or later; 0 before the first
  pub from : ℕ
  pub to : ℕ
  -- the job's cycles
  pub until : ℕ
  pub asks : List (PerKind Bool)

-- a job's consoles at reset
abbrev pub prepared : WholeJob → List ConsoleImages → Consoles
prepared job images =
    record { start = start_of job images; from = 0; to = 0; until = job.cycles; asks = map asks_of job.consoles }

-- the most cycles of a segment
abbrev pub segment_cycles : ℕ
segment_cycles = 16777216

-- the end of the segment that begins at a clock
abbrev pub later_end : ℕ → ℕ → ℕ
later_end until clock = min until ((clock / segment_cycles + 1) * segment_cycles)

-- The clock at which the segment begins in which a clock is, or the last one where the clock has come to the end.
abbrev pub segment_begin : ℕ → ℕ → ℕ
segment_begin until clock = min clock (until - 1) / segment_cycles * segment_cycles

-- A job's consoles that go on from where they stand on their cable: the first segment is the one in which the least of
-- their clocks is.
abbrev pub least_clock : Cut Machine → ℕ
least_clock cut = clock_at console_kind cut (least console_kind cut)

abbrev pub resumed : WholeJob → Cut Machine → Consoles
resumed job start = record {
  start = start;
  from = segment_begin job.cycles (least_clock start);
  to = segment_begin job.cycles (least_clock start);
  until = job.cycles;
  asks = map asks_of job.consoles;
}

-- Their lists are empty.
abbrev pub AreEmpty : Cut Machine → Type 0
AreEmpty cut = All (λ (m : Machine). without_limit m ≡ forgotten (without_limit m)) cut.consoles

-- the same once the next segment is run; after the last one nothing more is
abbrev pub advanced : Consoles → Consoles
advanced s = if nat_lt s.to s.until then record s { from = s.to; to = later_end s.until s.to } else s

-- whether the last segment is run
abbrev pub is_over : Consoles → Bool
is_over s = not (nat_lt s.to s.until)

-- the consoles at the end of the last segment, with the lists of that segment alone
abbrev pub segment_cut : Consoles → Cut Machine
segment_cut s = run_until s.to (forgotten_cut (run_until s.from s.start))

-- the consoles at the end, with the lists of the whole run
abbrev pub whole_cut : Consoles → Cut Machine
whole_cut s = run_until s.until s.start
