use Rattle.std.proofs.Common.{◌∙◌, ap}
use Rattle.std.specs.Prelude.{string_bytes}
use Rattle.gba_generator.proofs.MadeJob.{lines-joined}
use Rattle.gba_generator.proofs.job.job_text.Goals as goal

pub returns : goal.returns
returns c = record {
  text = ap (λ bytes. bytes.items) c.into_bytes.ensures.value
      ∙ lines-joined c.args.cycles c.args.out.now (string_bytes c.in_ok-first.first)
      (string_bytes c.in_ok-second.second)
      (string_bytes c.in_ok-third.third) (string_bytes c.in_ok-fourth.fourth) (string_bytes c.in_ok-text.text)
      c.in_ok-first.ensures c.in_ok-second.ensures c.in_ok-third.ensures c.in_ok-fourth.ensures c.in_ok-text.ensures.ok;
}
