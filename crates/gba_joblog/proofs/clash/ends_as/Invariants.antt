use Rattle.std.proofs.Common.{◌≡◌, drop}
use Rattle.std.specs.List.{list_any}
use Rattle.gba_joblog.specs.Clash.{asks_as}
use Rattle.gba_joblog.specs.Outputs.{all_kinds}
use Rattle.gba_joblog.specs.Views.{console_value}
use Rattle.gba_joblog.proofs.clash.ends_as.Given as goal

abbrev pub invariant-loop-kind : goal.invariant-loop-kind
invariant-loop-kind l = list_any (asks_as (console_value l.fn.console) l.fn.tail) (drop l.kind-index l.kind-items)
    ≡ list_any (asks_as (console_value l.fn.console) l.fn.tail) all_kinds
