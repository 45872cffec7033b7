use Rattle.std.proofs.Common.{◌∙◌, length, ap, arith}
use Rattle.std.proofs.lemmas.List.{length-map}
use Rattle.gba_joblog.specs.Views.{console_value, job_value}
use Rattle.gba_session.proofs.Consoles.{consoles-length, fit-long}
use Rattle.gba_session.specs.Session.{Consoles}
use Rattle.gba_run_files.specs.Views.{names_value}
use Rattle.gba_run_files.proofs.FileNames.{names-long}
use Rattle.gba_run_files.proofs.prepared.PreparedRun.new.Goals as goal

pub invariant_of-result : goal.invariant_of-result
invariant_of-result c =
    let names = c.in_ok-names.names.items in (
      c.requires.sound,
      record {
        asks = ap (λ (s : Consoles). s.asks) c.in_ok-session.ensures.session;
        until = ap (λ (s : Consoles). s.until) c.in_ok-session.ensures.session;
        left = omega (
          arith,
          ap (λ (s : Consoles). s.to) c.in_ok-session.ensures.session,
          ap (λ (s : Consoles). s.until) c.in_ok-session.ensures.session,
          c.requires.sound.some_cycles,
        );
        many = ap (λ (s : Consoles). length s.start.consoles) c.in_ok-session.ensures.session
            ∙ consoles-length (job_value c.args.job) 0 (job_value c.args.job).consoles c.args.images.items
            (fit-long (job_value c.args.job).consoles c.args.images.items c.requires.images);
      },
      omega (
        arith,
        length-map names names_value,
        ap length c.in_ok-names.ensures.names,
        names-long c.args.out.now 0 c.len.result,
        c.len.ensures,
        length-map c.args.job.consoles.items console_value,
      ),
      c.in_ok-log_name.ensures.short,
      c.in_ok-log.ensures.items,
      omega (arith, c.in_ok-log.ensures.capacity, c.printed_len.ensures.value),
      c.in_ok-digests.ensures,
    )
