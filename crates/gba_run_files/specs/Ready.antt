use Rattle.std.specs.Prelude.{◌≡◌, ◌<◌, false, true, length, map}
use Rattle.gba_joblog.specs.Job.{WholeJob}
use Rattle.gba_session.specs.Files.{asks_of}
use Rattle.gba_session.specs.Session.{Consoles, advanced, is_over}

-- the consoles of a job of which no segment is run yet, and one is to be
pub record IsReady (job : WholeJob) (s : Consoles) : Type 0 where
  pub asks : s.asks ≡ map asks_of job.consoles
  pub until : s.until ≡ job.cycles
  pub left : s.to < s.until
  pub many : length s.start.consoles ≡ length job.consoles

-- the same consoles, once the last segment is run
pub record IsLast (first last : Consoles) : Type 0 where
  pub over : is_over last ≡ true
  pub start : last.start ≡ first.start
  pub until : last.until ≡ first.until
  pub asks : last.asks ≡ first.asks

-- the consoles that one is of a segment later
pub record IsSegmentBefore (s before : Consoles) : Type 0 where
  pub left : is_over before ≡ false
  pub next : s ≡ advanced before
