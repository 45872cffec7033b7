use Rattle.std.proofs.Common.{◌+◌, ◌%◌, ◌<◌, ap, sym, ◌∙◌, arith}
use Rattle.gba_psg.specs.declared.tone.Tone.{Tone}
use Rattle.gba_psg.specs.Running.{moves_of, wait_of}
use Rattle.gba_psg.specs.Wave.{digit_count, next_digit, wave_period}
use Rattle.gba_psg.proofs.Moves.{round-some, tone-moved, tone-still, tone-waits}
use Rattle.gba_psg.proofs.wave.Wave.run.Goals as goal

pub returns-then-not-self : goal.returns-then-not-self
returns-then-not-self c =
    let s = c.args.self.now in
    λ i. record s { tone = tone-still (next_digit s) (wave_period s) c.args.cycles s.tone c.if-not-self.true i }

pub returns-then-moves-gt0 : goal.returns-then-moves-gt0
returns-then-moves-gt0 c =
    let s = c.args.self.now in
    let p = c.period-period.ensures.value in
    let waits = c.pass-moves.ensures.tone ∙ ap (λ n. record s.tone { wait = wait_of n c.args.cycles s.tone }) p in
    let moves = c.pass-moves.ensures.moves ∙ ap (λ n. moves_of n c.args.cycles s.tone) p in
    let from = ap (λ (t : Tone). (t.place + c.pass-moves.result) % c.digit_count.result) c.pass-moves.ensures.tone in
    let size = c.digit_count.ensures.value in
    let some : 0 < digit_count s = omega (arith, c.digit_count.ensures.some, size) in
    let rounds = round-some (digit_count s) c.pass-moves.result s.tone.place some c.if-moves-gt0.true in
    λ i. record s {
      tone =
          tone-moved (next_digit s) (wave_period s) c.args.cycles c.pass-moves.result _ s.tone c.pass-moves.new.self
          waits moves (from ∙ ap (λ n. (s.tone.place + c.pass-moves.result) % n) size ∙ sym rounds) i;
    }

pub returns-else-moves-gt0 : goal.returns-else-moves-gt0
returns-else-moves-gt0 c =
    let s = c.args.self.now in
    let p = c.period-period.ensures.value in
    let waits = c.pass-moves.ensures.tone ∙ ap (λ n. record s.tone { wait = wait_of n c.args.cycles s.tone }) p in
    let moves = c.pass-moves.ensures.moves ∙ ap (λ n. moves_of n c.args.cycles s.tone) p in
    λ i. record s {
      tone =
          tone-waits (next_digit s) (wave_period s) c.args.cycles c.pass-moves.result s.tone c.pass-moves.new.self
          waits moves c.if-moves-gt0.false i;
    }
