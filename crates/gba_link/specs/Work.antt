use Rattle.gba_command.specs.Views.{run_value}
use Rattle.gba_command.specs.Writing.{Run}
use Rattle.gba_link.specs.declared.work.Work.{Work}
use Rattle.gba_link.specs.declared.work.Work.TheVariants.{Frozen, Made, Ready, Resumed}

-- What the program's work stands for. Only private functions cite these.

-- a prepared run stands for itself
abbrev pub run_itself : Run → Run
run_itself run = run

-- what the program's type stands for
abbrev pub work_value : Work → Run
work_value (Made outputs) = run_value outputs
work_value (Ready run) = run
work_value (Frozen run) = run
work_value (Resumed run) = run
