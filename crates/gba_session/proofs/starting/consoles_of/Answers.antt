use Rattle.std.proofs.Common.{◌≡◌, ◌<◌, ◌++◌, ◌∙◌, List, [], length, map, drop, get_or, sym, ap, subst, arith, rules, append-nil}
use Rattle.std.specs.List.{AllZip}
use Rattle.std.proofs.lemmas.List.{get_or-map, length-map, nil_from_length}
use Rattle.gba_console.specs.Machine.{without_limit}
use Rattle.gba_image.specs.declared.images.ConsoleImages.{ConsoleImages}
use Rattle.gba_joblog.specs.Soundness.{IsConsole}
use Rattle.gba_joblog.specs.Views.{console_value, job_value}
use Rattle.gba_joblog.proofs.OutputNames.{holds_at}
use Rattle.gba_session.specs.Session.{later_end}
use Rattle.gba_session.specs.Start.{FitsConsole, consoles_from}
use Rattle.gba_session.proofs.Consoles.{consoles-none, fit-long, fit-next, kept-consoles, kept-limits}
use Rattle.gba_session.proofs.starting.consoles_of.Goals as goal

pub loop-player-init : goal.loop-player-init
loop-player-init c =
    let job = job_value c.args.job.now in
    let rest = c.into_iter-images.ensures.rest in
    let fit : AllZip FitsConsole job.consoles c.into_iter-images.result.rest.items =
    subst (λ (left : List ConsoleImages). AllZip FitsConsole job.consoles left) (sym rest) c.requires.images in (
      search rules,
      search rules,
      fit,
      omega (arith, ap length rest, fit-long job.consoles c.args.images.items c.requires.images),
    )

pub console_of-requires-clause-console : goal.console_of-requires-clause-console
console_of-requires-clause-console c =
    let consoles = c.args.job.now.consoles.items in
    let within : c.loop-player.player < length consoles =
    omega (arith, c.loop-player-test.true, c.len-player-end.ensures) in
    holds_at IsConsole console_value consoles c.loop-player.player c.index.result.now c.requires.sound.each within
    c.index.ensures

pub console_of-requires-clause-images : goal.console_of-requires-clause-images
console_of-requires-clause-images c =
    let job = job_value c.args.job.now in
    let player = c.loop-player.player in
    let said = console_value c.index.result.now in
    let items = c.args.job.now.consoles.items in
    let few : player < length items = omega (arith, c.loop-player-test.true, c.len-player-end.ensures) in
    let within : player < length job.consoles = omega (arith, few, length-map items console_value) in
    let here : said ≡ get_or job.consoles player said =
    sym (get_or-map console_value items player c.index.result.now said few ∙ ap console_value (sym c.index.ensures)) in
    (fit-next player job.consoles said c.loop-player.images.rest.items c.next.new.self.rest.items c.in-Some.one
    within here c.in-Some.ensures.items c.loop-player.invariant.2).0

pub loop-player-preserved : goal.loop-player-preserved
loop-player-preserved c =
    let job = job_value c.args.job.now in
    let player = c.loop-player.player in
    let old = c.loop-player.consoles.items in
    let console = c.in_ok-console.console in
    let held = c.loop-player.invariant in
    let within : player < length job.consoles =
    omega (
      arith,
      c.loop-player-test.true,
      c.len-player-end.ensures,
      length-map c.args.job.now.consoles.items console_value,
    ) in
    let said = console_value c.index.result.now in
    let items = c.args.job.now.consoles.items in
    let few : player < length items = omega (arith, c.loop-player-test.true, c.len-player-end.ensures) in
    let here : said ≡ get_or job.consoles player said =
    sym (get_or-map console_value items player c.index.result.now said few ∙ ap console_value (sym c.index.ensures)) in
    let split = c.in-Some.ensures.items in (
      kept-consoles job player said old c.keep.new.all.items console c.in-Some.one c.loop-player.images.rest.items
          c.next.new.self.rest.items _ within here c.in_ok-keep.ensures split c.in_ok-console.ensures.console held.0,
      kept-limits (later_end c.args.job.now.cycles 0) old c.keep.new.all.items console c.in_ok-keep.ensures
          c.in_ok-console.ensures.limit held.1,
      (fit-next player job.consoles said c.loop-player.images.rest.items c.next.new.self.rest.items c.in-Some.one
          within here split held.2).1,
      omega (arith, held.3, ap length split),
    )

pub returns-clause-consoles : goal.returns-clause-consoles
returns-clause-consoles c =
    let job = job_value c.args.job.now in
    let player = c.loop-player.player in
    let held = c.loop-player.invariant in
    let made = map without_limit c.loop-player.consoles.items in
    let left = c.loop-player.images.rest.items in
    let over : left ≡ [] = nil_from_length left
    (omega (
      arith,
      held.3,
      c.loop-player-test.false,
      c.len-player-end.ensures,
      length-map c.args.job.now.consoles.items console_value,
    )) in
    let none = ap (λ (xs : List ConsoleImages). consoles_from job player (drop player job.consoles) xs) over
    ∙ consoles-none job player (drop player job.consoles) in
    sym (ap (λ ms. made ++ ms) none ∙ append-nil made) ∙ held.0
