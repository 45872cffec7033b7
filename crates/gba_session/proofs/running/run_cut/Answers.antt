use Rattle.std.proofs.Common.{◌∙◌, map, ap, arith, rules}
use Rattle.std.proofs.lemmas.List.{get_or-map, length-map}
use Rattle.gba_console.specs.Machine.{clock_of, without_limit}
use Rattle.gba_console.proofs.Crossing.{console_send, console_sync}
use Rattle.gba_session.proofs.Limits.{limits-reach}
use Rattle.gba_session.proofs.running.run_cut.Goals as goal

pub run_to-requires : goal.run_to-requires
run_to-requires g c =
    let limits = limits-reach c.args.until c.args.cut.consoles c.requires.limit in
    (search (rules, console_send), (search rules, (search (rules, console_sync), (search rules, limits))))

pub returns-clause-done : goal.returns-clause-done
returns-clause-done g c k d within =
    let ms = c.run_to.result.consoles in
    let many = length-map ms without_limit in
    let done = c.run_to.ensures.done k within in
    let here = get_or-map clock_of (map without_limit ms) k (without_limit d) 0 (omega (arith, within, many)) in
    let plain = get_or-map without_limit ms k d (without_limit d) within in
    let is = here ∙ ap clock_of plain in
    omega (arith, done, is)
