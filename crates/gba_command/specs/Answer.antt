use Rattle.std.specs.Prelude.{◌≡◌, ◌⊎◌, ℕ, List, [], ◌++◌, codes, Result, Ok, Err}
use Rattle.gba_command.specs.Cause.{Cause, Stop, Refused, LacksMemory, report_of, status_of, stop_status, stop_report}
use Rattle.gba_command.specs.Writing.{Run, SinkState, WriteEnd, Wrote, SinkFails, SinkLacks, calls_of, line_call, Performs, PerformsAll}

-- a line was reported: one append to standard output, whether or not it was done
abbrev pub Reported : Type 0 → List ℕ → SinkState → SinkState → Type 0
Reported Tells line old new = (end : WriteEnd) × Performs Tells (line_call line) old new end

-- the status of how the calls of a run ended, and the report of why they stopped
abbrev pub end_status : WriteEnd → ℕ
end_status Wrote = 0
end_status (SinkFails name) = 9
end_status SinkLacks = 10

abbrev pub end_report : WriteEnd → List ℕ
end_report Wrote = []
end_report (SinkFails name) = codes "sink " ++ name ++ codes "\n"
end_report SinkLacks = codes "memory\n"

-- What a command answers, and what it does to the sink, for how its reads ended. `Tells` says whether the sink tells
-- its files.
module _ (Tells : Type 0) (status : ℕ) where
  -- this status, and nothing written but its report
  abbrev pub Refuses : ℕ → List ℕ → SinkState → SinkState → Type 0
  Refuses number line old new = (status ≡ number) × Reported Tells line old new

  -- after all calls of a run, which left the sink so: 0, or the refusal that the run ends with
  abbrev pub Concludes : Result (List ℕ) Cause → SinkState → SinkState → Type 0
  Concludes (Ok summary) old new = (status ≡ 0) × (new ≡ old)
  Concludes (Err cause) old new = Refuses (status_of cause) (report_of cause) old new

  -- the same, or the report of why the calls stopped
  abbrev pub Closes : Result (List ℕ) Cause → WriteEnd → SinkState → SinkState → Type 0
  Closes conclusion Wrote old new = Concludes conclusion old new
  Closes conclusion (SinkFails name) old new = Refuses 9 (end_report (SinkFails name)) old new
  Closes conclusion SinkLacks old new = Refuses 10 (end_report SinkLacks) old new

  -- the calls of a run, and how they ended
  abbrev pub Finishes : Run → SinkState → SinkState → Type 0
  Finishes run old new =
      (mid : SinkState) × (end : WriteEnd) × PerformsAll Tells (calls_of run) old mid end × Closes run.end end mid new

  -- refused before anything was written, or the run is written
  abbrev pub Answers : Result Run Stop → SinkState → SinkState → Type 0
  Answers (Ok run) old new = Finishes run old new
  Answers (Err stop) old new = Refuses (stop_status stop) (stop_report stop) old new

  -- the run is written whole, or memory was wanting in a call of the sink
  abbrev pub Completed : Run → SinkState → SinkState → Type 0
  Completed run old new =
      ((mid : SinkState) × PerformsAll Tells (calls_of run) old mid Wrote × Concludes run.end mid new)
      ⊎ ((mid : SinkState) × PerformsAll Tells (calls_of run) old mid SinkLacks
      × Refuses 10 (stop_report LacksMemory) mid new)

  -- What is left to answer where no count of faults or absences rose: what the words and the files come to, or memory
  -- was wanting, before anything was written or in a call of the sink. Where they come to an absent file no other end
  -- is left: memory was wanting before its read.
  abbrev pub Completes : Result Run Stop → SinkState → SinkState → Type 0
  Completes (Ok run) old new = Completed run old new ⊎ Refuses 10 (stop_report LacksMemory) old new
  Completes (Err (Refused cause)) old new =
      Answers (Err (Refused cause)) old new ⊎ Refuses 10 (stop_report LacksMemory) old new
  Completes (Err stop) old new = Refuses 10 (stop_report LacksMemory) old new
