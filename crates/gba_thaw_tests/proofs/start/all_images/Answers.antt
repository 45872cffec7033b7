use Rattle.std.proofs.Common.{◌≡◌, ◌+◌, ◌++◌, ◌<◌, ◌∙◌, ℕ, List, [], ◌∷◌, ap, get_or, length, map, subst, sym, take, take_all}
use Rattle.std.specs.List.{AllZip}
use Rattle.std.proofs.lemmas.List.{map-append, take_more}
use Rattle.std.proofs.lemmas.Slice.Zip.{all_zipped_more}
use Rattle.gba_image.specs.declared.images.ConsoleImages.{ConsoleImages}
use Rattle.gba_joblog.specs.Job.{ConsoleJob}
use Rattle.gba_joblog.specs.Views.{console_value}
use Rattle.gba_joblog.specs.declared.job.JobConsole.{JobConsole}
use Rattle.gba_session.specs.Start.{FitsConsole}
use Rattle.gba_thaw_tests.proofs.start.all_images.Goals as goal

-- the images of one console more
fit-more : (i : ℕ) (consoles : List JobConsole) (console : JobConsole) (old new : List ConsoleImages)
    (one : ConsoleImages) → i < length consoles → console ≡ get_or consoles i console → new ≡ old ++ one ∷ []
    → FitsConsole (console_value console) one
    → AllZip FitsConsole (map console_value (take i consoles)) old
    → AllZip FitsConsole (map console_value (take (i + 1) consoles)) new
fit-more i consoles console old new one within here kept fits before =
    let split : take (i + 1) consoles ≡ take i consoles ++ console ∷ [] =
    take_more consoles i console within ∙ ap (λ x. take i consoles ++ x ∷ []) (sym here) in
    let values : map console_value (take (i + 1) consoles)
    ≡ map console_value (take i consoles) ++ console_value console ∷ [] =
    ap (map console_value) split ∙ map-append console_value (take i consoles) (console ∷ []) in
    subst (λ (cs : List ConsoleJob). AllZip FitsConsole cs new) (sym values)
    (subst (λ (is : List ConsoleImages). AllZip FitsConsole
    (map console_value (take i consoles) ++ console_value console ∷ []) is)
    (sym kept)
    (all_zipped_more FitsConsole (map console_value (take i consoles)) old (console_value console) one before fits))

pub loop-console-preserved : goal.loop-console-preserved
loop-console-preserved c =
    fit-more c.loop-console.console-index c.args.consoles.now c.console-item.result c.loop-console.all.items
    c.keep.new.all.items c.in_ok-images.images c.loop-console-test.true c.console-item.is c.in_ok-keep.ensures
    c.in_ok-images.ensures c.loop-console.invariant

pub returns : goal.returns
returns c =
    let consoles = c.args.consoles.now in
    subst (λ (all : List JobConsole). AllZip FitsConsole (map console_value all) c.loop-console.all.items)
    (take_all c.loop-console.console-index consoles c.loop-console-test.false) c.loop-console.invariant
