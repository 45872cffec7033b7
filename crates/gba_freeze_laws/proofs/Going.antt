-- What is thawed goes on as the run does.
use Rattle.std.proofs.Common.{◌≡◌, ◌∙◌, List, [], ◌∷◌, map, refl, sym, ap}
use Rattle.std.proofs.lemmas.List.{length-map}
use Rattle.gba_console.specs.Alone.{console_kind}
use Rattle.gba_console.specs.Machine.{Machine, forgotten, without_limit}
use Rattle.gba_console.specs.Segments.{LiveSegments, forgotten_cut}
use Rattle.gba_freeze_laws.specs.Length.{FrozenFilesAreShort}
use Rattle.gba_freeze_laws.specs.Parts.{FrozenRunsGoOn, end_from}
use Rattle.gba_freeze_laws.specs.Reached.{RunsCanBeFrozen, reached}
use Rattle.gba_session.proofs.Consoles.{fit-long}
use Rattle.gba_session.proofs.Preparing.{start-can}
use Rattle.gba_session.specs.Start.{end_of, run_until, start_of}
use Rattle.gba_thaw_laws.proofs.Cut.{runs-unseen}
use Rattle.gba_thaw_laws.specs.Cut.{FilesThawAgain, as_it_runs}
use Rattle.link_cut_laws.specs.Law.{KeepsCable}
use Rattle.link_mapped.specs.Law.{AreAlike, RunsAlike}
use Rattle.link_mapped.specs.Mapped.{each_mapped, mapped}
use Rattle.link_order.specs.Cut.{Cut, plain_cut}
use Rattle.link_order.specs.GlobalOrder.{run}
use Rattle.gba_freeze_laws.proofs.Parting.{have-parts, same-lines}

each-plain : (ms : List Machine)
    → each_mapped (λ i. as_it_runs) (map without_limit ms) ≡ each_mapped (λ i. as_it_runs) ms
each-plain [] = refl
each-plain (m ∷ ms) = ap (λ (rest : List Machine). as_it_runs m ∷ rest) (each-plain ms)

plain-alike : (cut : Cut Machine)
    → mapped (λ i. as_it_runs) (plain_cut without_limit cut) ≡ mapped (λ i. as_it_runs) cut
plain-alike cut =
    ap (λ (ms : List Machine). let c : Cut Machine = record cut { consoles = ms } in c) (each-plain cut.consoles)

pub goes-on : RunsCanBeFrozen → FrozenFilesAreShort → FilesThawAgain → LiveSegments → KeepsCable console_kind
    → AreAlike console_kind → RunsAlike console_kind → FrozenRunsGoOn
goes-on frozen short again segments cables alike runs digest job images clock long small is fits saved early =
    let start = start_of job images in
    let first = reached job images clock in
    let can = frozen job images clock is fits saved early in
    let thaw = again digest job.cycles start first long small can (short digest job.cycles start first long can) in
    let made = thaw.made in
    let begins = start-can job images is (fit-long job.consoles images fits) in
    let rest = run_until job.cycles (forgotten_cut first) in
    let second = end_from job made in
    let whole = segments start clock job.cycles begins.some_console begins.delays begins.sound early in
    let resumed =
    runs (λ i. as_it_runs) (λ i. as_it_runs) (plain_cut without_limit made) made job.cycles runs-unseen
    (plain-alike made)
    ∙ thaw.runs job.cycles in
    let same =
    (alike (λ i. as_it_runs) (λ i. as_it_runs) (run console_kind (plain_cut without_limit made) job.cycles)
    (run console_kind (forgotten_cut first) job.cycles) runs-unseen.clocks resumed).same_live in
    let count = (cables (forgotten_cut first) job.cycles).count_is in
    let many = sym (count ∙ length-map first.consoles forgotten) in
    record {
      made = made;
      thawed = thaw.thawed;
      same = thaw.same;
      consoles = have-parts (end_of job images) first rest second whole (sym same) many;
      lines = same-lines (end_of job images) first rest second whole (sym same) many;
    }
