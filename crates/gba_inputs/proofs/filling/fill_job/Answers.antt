use Rattle.std.proofs.Common.{◌≡◌, List, length, map, ap, sym, subst, ◌∙◌, arith, rules}
use Rattle.std.specs.Vec.{with_items}
use Rattle.std.proofs.lemmas.List.{length-map, places, with_items_is}
use Rattle.gba_joblog.specs.Job.{ConsoleJob, WholeJob}
use Rattle.gba_joblog.specs.Soundness.{IsJob}
use Rattle.gba_joblog.specs.Views.{console_value, job_value}
use Rattle.gba_inputs.specs.Filled.{filled, filled_consoles}
use Rattle.gba_inputs.specs.Views.{inputs_value}
use Rattle.gba_inputs.proofs.SoundInputs.{filled-sound, zip-long}
use Rattle.gba_inputs.proofs.filling.fill_job.Goals as goal

abbrev with_consoles : WholeJob → List ConsoleJob → WholeJob
with_consoles job consoles = record job { consoles = consoles }

pub fill_all-requires : goal.fill_all-requires
fill_all-requires c =
    let consoles = c.args.job.now.consoles.items in
    let zipped = zip-long (map console_value consoles) (map inputs_value c.args.inputs.now) c.requires.read in
    omega (
      arith,
      zipped,
      length-map consoles console_value,
      length-map c.args.inputs.now inputs_value,
      ap length c.as_mut_slice.ensures.value,
    )

pub returns : goal.returns
returns c =
    let job = job_value c.args.job.now in
    let inputs = map inputs_value c.args.inputs.now in
    let old = c.args.job.now.consoles in
    let new = c.fill_all.new.consoles in
    let items : (with_items old new).items ≡ new = with_items_is old new (search (rules, places)) in
    let consoles : map console_value (with_items old new).items ≡ filled_consoles job.consoles inputs =
    ap (map console_value) items ∙ c.fill_all.ensures.consoles
    ∙ ap (λ cs. filled_consoles (map console_value cs) inputs) c.as_mut_slice.ensures.value in
    let whole : with_consoles job (map console_value (with_items old new).items) ≡ filled job inputs =
    ap (with_consoles job) consoles in
    record {
      filled = whole;
      sound = subst IsJob (sym whole) (filled-sound job inputs c.requires.sound c.requires.read);
      images = c.fill_all.ensures.images;
    }
