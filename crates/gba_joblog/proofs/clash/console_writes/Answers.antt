use Rattle.std.proofs.Common.{◌≡◌, Some, None, sym, ◌∙◌}
use Rattle.std.specs.Prelude.{decimal}
use Rattle.gba_joblog.specs.Clash.{tail_after}
use Rattle.gba_joblog.proofs.OutputNames.{console_writes-tail, console_writes-no_tail}
use Rattle.gba_joblog.specs.Views.{console_value}
use Rattle.gba_joblog.proofs.clash.console_writes.Goals as goal

pub returns-in-Some : goal.returns-in-Some
returns-in-Some c =
    let digits : c.as_bytes.result.now ≡ decimal c.args.player = c.as_bytes.ensures.value ∙ c.format.ensures.text in
    let tail : tail_after c.args.out.now c.as_bytes.result.now c.args.name.now
    ≡ Some c.in-Some.tail.now = sym c.in-Some.ensures in
    c.ends_as.ensures ∙ sym (console_writes-tail c.args.out.now c.args.player
    (console_value c.args.console.now) c.args.name.now c.in-Some.tail.now (rw digits at tail))

pub returns-in-None : goal.returns-in-None
returns-in-None c =
    let digits : c.as_bytes.result.now ≡ decimal c.args.player = c.as_bytes.ensures.value ∙ c.format.ensures.text in
    let tail : tail_after c.args.out.now c.as_bytes.result.now c.args.name.now ≡ None = sym c.in-None.ensures in
    sym (console_writes-no_tail c.args.out.now c.args.player (console_value c.args.console.now) c.args.name.now
    (rw digits at tail))
