use Rattle.std.specs.Prelude.{◌≡◌, ℕ, List, map, Result, Ok, Err, Vec, string_bytes}
use Rattle.arrayvec.specs.ArrayVec.{ArrayVec}
use Rattle.gba_command.specs.declared.cause.Cause.{Cause as CauseText}
use Rattle.gba_command.specs.declared.cause.Cause.TheVariants as cause
use Rattle.gba_command.specs.declared.refusal.Refusal.{Refusal}
use Rattle.gba_command.specs.declared.refusal.Refusal.TheVariants as refusal
use Rattle.gba_command.specs.declared.writing.WriteStop.{WriteStop}
use Rattle.gba_command.specs.declared.writing.WriteStop.TheVariants as writing
use Rattle.gba_command.specs.declared.outputs.OutputFile.{OutputFile}
use Rattle.gba_command.specs.declared.outputs.Outputs.{Outputs}
use Rattle.gba_command.specs.Cause.{Cause, NoCommand, Job, Image, Digest, Source, Frozen, Stop, Refused, Absent, StoreFails, LacksMemory}
use Rattle.gba_command.specs.Words.{Command, RunJob, Assemble, ListArm, ListThumb, Generate, Trace, Freeze, Resume, RunWords, FileWords, GenerateWords, TraceWords, FreezeWords, ResumeWords}
use Rattle.gba_command.specs.Writing.{Output, Run, WriteEnd, Wrote, SinkFails, SinkLacks, at_once}
use Rattle.gba_command.specs.declared.words.Command.{Command as CommandText}
use Rattle.gba_command.specs.declared.words.Command.TheVariants as command
use Rattle.gba_command.specs.declared.words.FileWords.{FileWords as FileText}
use Rattle.gba_command.specs.declared.words.FreezeWords.{FreezeWords as FreezeText}
use Rattle.gba_command.specs.declared.words.GenerateWords.{GenerateWords as GenerateText}
use Rattle.gba_command.specs.declared.words.ResumeWords.{ResumeWords as ResumeText}
use Rattle.gba_command.specs.declared.words.RunWords.{RunWords as RunText}
use Rattle.gba_command.specs.declared.words.TraceWords.{TraceWords as TraceText}

-- what the program's types stand for

abbrev pub run_words_value : RunText → RunWords
run_words_value words = record { job = words.job.now; out = words.out.now }

abbrev pub file_words_value : FileText → FileWords
file_words_value words = record { from = words.from.now; to = words.to.now }

abbrev pub generate_words_value : GenerateText → GenerateWords
generate_words_value words = record { number = words.number; cycles = words.cycles; out = words.out.now }

abbrev pub trace_words_value : TraceText → TraceWords
trace_words_value words = record { run = run_words_value words.run; first = words.first; count = words.count }

abbrev pub freeze_words_value : FreezeText → FreezeWords
freeze_words_value words = record { run = run_words_value words.run; clock = words.clock }

abbrev pub resume_words_value : ResumeText → ResumeWords
resume_words_value words = record { run = run_words_value words.run; frozen = words.frozen.now }

abbrev pub command_value : CommandText → Command
command_value (command.RunJob words) = RunJob (run_words_value words)
command_value (command.Assemble words) = Assemble (file_words_value words)
command_value (command.ListArm words) = ListArm (file_words_value words)
command_value (command.ListThumb words) = ListThumb (file_words_value words)
command_value (command.Generate words) = Generate (generate_words_value words)
command_value (command.Trace words) = Trace (trace_words_value words)
command_value (command.Freeze words) = Freeze (freeze_words_value words)
command_value (command.Resume words) = Resume (resume_words_value words)

abbrev pub cause_value : CauseText → Cause
cause_value cause.NoCommand = NoCommand
cause_value (cause.Job name error) = Job name.items error
cause_value (cause.Image name error) = Image name.items error
cause_value (cause.Digest name stated got) = Digest name.items stated got
cause_value (cause.Source name error) = Source name.items error
cause_value (cause.Frozen name error) = Frozen name.items error

abbrev pub stop_value : Refusal → Stop
stop_value (refusal.Refused of) = Refused (cause_value of)
stop_value (refusal.Absent name) = Absent name.items
stop_value (refusal.StoreFault name) = StoreFails name.items
stop_value refusal.NoMemory = LacksMemory

-- how the reads of a function ended that returned this, whose value is seen by `view`
abbrev pub end_of : {X Y : Type 0} → (X → Y) → Result X Refusal → Result Y Stop
end_of view (Ok x) = Ok (view x)
end_of view (Err refusal) = Err (stop_value refusal)

-- what a function returned that reads nothing is this judgement, unless memory was wanting
abbrev pub Agrees : {X Y : Type 0} → (X → Y) → Result Y Cause → Result X Refusal → Type 0
Agrees view due (Ok x) = due ≡ Ok (view x)
Agrees view due (Err (refusal.Refused of)) = due ≡ Err (cause_value of)
Agrees view due (Err (refusal.Absent name)) = ⊥
Agrees view due (Err (refusal.StoreFault name)) = ⊥
Agrees view due (Err refusal.NoMemory) = Unit {0}

abbrev pub bytes_value : {Z : Type 0} → Vec ℕ Z → List ℕ
bytes_value bytes = bytes.items

abbrev pub output_value : OutputFile → Output
output_value output = record { name = string_bytes output.name; bytes = output.bytes.items }

abbrev pub conclusion_value : Result (ArrayVec ℕ) CauseText → Result (List ℕ) Cause
conclusion_value (Ok summary) = Ok summary.items
conclusion_value (Err cause) = Err (cause_value cause)

abbrev pub run_value : Outputs → Run
run_value outputs = at_once (map output_value outputs.files.items) (conclusion_value outputs.end)

abbrev pub write_stop_value : WriteStop → WriteEnd
write_stop_value (writing.Fault name) = SinkFails name.items
write_stop_value writing.NoMemory = SinkLacks

-- how the calls of a sink ended in a function that returned this
abbrev pub write_end : {X : Type 0} → Result X WriteStop → WriteEnd
write_end (Ok x) = Wrote
write_end (Err stop) = write_stop_value stop
