use Rattle.std.proofs.lemmas.Result.{err_from_is_err_and}
use Rattle.std.specs.Prelude.{codes}
use Rattle.gba_command.specs.Views.{file_words_value}
use Rattle.gba_command.proofs.Each.{goes-done}
use Rattle.gba_command.proofs.Plans.{goes-lacks, goes-stop, goes-then}
use Rattle.gba_translate.specs.Translation.{after_assembly, one_file, source_plan}
use Rattle.gba_translate.proofs.source.assemble_source.Goals as goal

pub returns-in_err-image : goal.returns-in_err-image
returns-in_err-image g c =
    let words = file_words_value c.args.words.now in
    let gives = g.S.Store.gives in
    let p = err_from_is_err_and c.from_residual.result c.from_residual.ensures.1 in
    rw (p.1, p.2)
    (record { goes = goes-stop gives (source_plan words.from) (after_assembly words) _ _ _ c.in_err-image.ensures })

pub returns-in-Ok : goal.returns-in-Ok
returns-in-Ok g c =
    let words = file_words_value c.args.words.now in
    let image = c.in_ok-image.image.items in
    let gives = g.S.Store.gives in
    record {
      goes = goes-then gives (source_plan words.from) (after_assembly words) _ _ _ image _ c.in_ok-image.ensures
          (goes-done gives (one_file words.to (codes "asm") image) _ _ c.in-Ok.ensures);
    }

pub returns-in-Err : goal.returns-in-Err
returns-in-Err g c =
    let words = file_words_value c.args.words.now in
    let image = c.in_ok-image.image.items in
    let gives = g.S.Store.gives in
    record {
      goes = goes-then gives (source_plan words.from) (after_assembly words) _ _ _ image _ c.in_ok-image.ensures
          (goes-lacks gives (after_assembly words image) _);
    }
