use Rattle.std.proofs.Common.{◌∙◌, length, ap, arith}
use Rattle.std.proofs.lemmas.List.{length-map}
use Rattle.gba_console.specs.Machine.{without_limit}
use Rattle.gba_joblog.specs.Views.{console_value, job_value}
use Rattle.gba_session.specs.Session.{Consoles}
use Rattle.gba_run_files.specs.Views.{names_value}
use Rattle.gba_run_files.proofs.FileNames.{names-long}
use Rattle.gba_run_files.proofs.Segmented.{begin-before}
use Rattle.gba_run_files.proofs.resuming.PreparedResume.new.Goals as goal

pub invariant_of-result : goal.invariant_of-result
invariant_of-result c =
    let names = c.in_ok-names.names.items in (
      c.requires.sound,
      record {
        asks = ap (λ (s : Consoles). s.asks) c.in_ok-session.ensures;
        until = ap (λ (s : Consoles). s.until) c.in_ok-session.ensures;
        left =
            begin-before (job_value c.args.job) _ c.in_ok-session.session c.in_ok-session.ensures
            c.requires.sound.some_cycles;
        many = ap (λ (s : Consoles). length s.start.consoles) c.in_ok-session.ensures
            ∙ length-map c.args.cut.consoles without_limit ∙ c.requires.count;
      },
      omega (
        arith,
        length-map names names_value,
        ap length c.in_ok-names.ensures.names,
        names-long c.args.out.now 0 c.len.result,
        c.len.ensures,
        length-map c.args.job.consoles.items console_value,
      ),
    )
