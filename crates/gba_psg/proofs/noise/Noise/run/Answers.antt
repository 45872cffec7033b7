use Rattle.gba_psg.specs.Noise.{is_narrow, next_noise, noise_period}
use Rattle.gba_psg.proofs.Moves.{tone-still}
use Rattle.gba_psg.proofs.noise.Noise.run.Goals as goal

pub returns-then-not-self : goal.returns-then-not-self
returns-then-not-self c =
    let s = c.args.self.now in
    λ i. record s {
      tone = tone-still (next_noise (is_narrow s)) (noise_period s) c.args.cycles s.tone c.if-not-self.true i;
    }
