use Rattle.std.proofs.lemmas.Result.{err_from_is_err_and}
use Rattle.std.proofs.Common.{◌∙◌, ap}
use Rattle.gba_command.specs.Views.{file_words_value}
use Rattle.gba_command.proofs.Each.{goes-done}
use Rattle.gba_command.proofs.Plans.{goes-lacks, goes-stop, goes-then}
use Rattle.gba_translate.specs.Translation.{after_image, image_plan, listed}
use Rattle.gba_translate.proofs.listing.list_image.Goals as goal

pub returns-in_err-image : goal.returns-in_err-image
returns-in_err-image g c =
    let words = file_words_value c.args.words.now in
    let gives = g.S.Store.gives in
    let p = err_from_is_err_and c.from_residual.result c.from_residual.ensures.1 in
    rw (p.1, p.2)
    (record {
      goes = goes-stop gives (image_plan words.from) (after_image c.args.set words) _ _ _ c.in_err-image.ensures.goes;
    })

pub returns-in-Ok : goal.returns-in-Ok
returns-in-Ok g c =
    let words = file_words_value c.args.words.now in
    let image = c.in_ok-image.image.items in
    let gives = g.S.Store.gives in
    record {
      goes =
          goes-then gives (image_plan words.from) (after_image c.args.set words) _ _ _ image _
          c.in_ok-image.ensures.goes (goes-done gives (listed words.to c.args.set image) _ _
          (c.in-Ok.ensures ∙ ap (listed words.to c.args.set) c.as_slice.ensures.value));
    }

pub returns : goal.returns
returns g c =
    let words = file_words_value c.args.words.now in
    let image = c.in_ok-image.image.items in
    let gives = g.S.Store.gives in
    record {
      goes =
          goes-then gives (image_plan words.from) (after_image c.args.set words) _ _ _ image _
          c.in_ok-image.ensures.goes (goes-lacks gives (after_image c.args.set words image) _);
    }
