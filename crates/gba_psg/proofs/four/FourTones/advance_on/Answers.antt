use Rattle.std.proofs.Common.{◌≡◌, ℕ, ◌+◌, ◌-◌, ◌%◌, ◌<◌, ap, subst, sym, ◌∙◌, arith}
use Rattle.gba_psg.specs.declared.four.FourTones.{FourTones}
use Rattle.gba_psg.specs.Tones.{after_cycles}
use Rattle.gba_psg.specs.Soundness.{AreSound}
use Rattle.gba_psg.proofs.Sound.{cycles-sound}
use Rattle.gba_psg.proofs.Ticking.{cycles-add, cycles-stay-on, last-before, passed-sequencer}
use Rattle.gba_psg.proofs.four.FourTones.advance_on.Goals as goal

-- the cycles before the one that ticks
abbrev before : FourTones → ℕ
before ts = 0xffff - ts.sequencer % 0x10000

room : (ts : FourTones) → ts.sequencer % 0x10000 + before ts < 0x10000
room ts = grind arith

pub pass_tick-requires-clause-on : goal.pass_tick-requires-clause-on
pass_tick-requires-clause-on c =
    let ts = c.args.self.now in
    ap (λ (t : FourTones). t.is_on) c.pass-else-cycles-before.ensures ∙ cycles-stay-on (before ts) ts c.requires.on

pub pass_tick-requires-clause-before : goal.pass_tick-requires-clause-before
pass_tick-requires-clause-before c =
    let ts = c.args.self.now in
    ap (λ (t : FourTones). t.sequencer % 0x10000) c.pass-else-cycles-before.ensures
    ∙ ap (λ s. s % 0x10000) (passed-sequencer (before ts) ts c.requires.on c.requires.sound (room ts))
    ∙ last-before ts.sequencer

pub pass_tick-requires-clause-sound : goal.pass_tick-requires-clause-sound
pass_tick-requires-clause-sound c =
    let ts = c.args.self.now in
    subst AreSound (sym c.pass-else-cycles-before.ensures) (cycles-sound (before ts) ts c.requires.sound)

pub returns-else-cycles-before : goal.returns-else-cycles-before
returns-else-cycles-before c =
    let ts = c.args.self.now in
    let count = c.args.cycles - before ts - 1 + 1 in
    let all : before ts + count ≡ c.args.cycles = omega (arith, c.if-cycles-before.false) in
    c.pass_tick.ensures
    ∙ ap (after_cycles count) c.pass-else-cycles-before.ensures
    ∙ sym (cycles-add (before ts) count ts)
    ∙ ap (λ n. after_cycles n ts) all
