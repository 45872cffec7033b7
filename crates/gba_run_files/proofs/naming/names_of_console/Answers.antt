use Rattle.std.specs.Prelude.{◌≤◌, string_len}
use Rattle.gba_joblog.proofs.EachKind.{all-kinds}
use Rattle.gba_run_files.proofs.naming.names_of_console.Goals as goal

pub invariant_of-result : goal.invariant_of-result
invariant_of-result c = record {
  short = all-kinds (λ name. string_len name ≤ 200) _ c.in_ok-frames.ensures.short c.in_ok-samples.ensures.short
      c.in_ok-words.ensures.short c.in_ok-state.ensures.short c.in_ok-save.ensures.short;
}
