use Rattle.std.proofs.Common.{◌≡◌, ℕ, ◌+◌, ◌<◌, ◌≤◌, true, false, ◌&&◌, List, [], length, drop, get_or, sym, ap, ◌∙◌, arith}
use Rattle.std.proofs.lemmas.List.{drop_all}
use Rattle.gba_numbers.specs.Ranges.{field_fits}
use Rattle.gba_frozen.specs.Rows.{all_fit, field_of, in_time}
use Rattle.gba_frozen.proofs.Loops.{all_fit-more, all_fit-none}
use Rattle.gba_frozen.proofs.RowCounts.{count_few}
use Rattle.gba_frozen.proofs.lines.all_fit.Goals as goal

pub overflow_cast-part : goal.overflow_cast-part
overflow_cast-part c = omega (arith, count_few c.args.row, c.requires.count)

pub returns-then-not-fits_in_time : goal.returns-then-not-fits_in_time
returns-then-not-fits_in_time c =
    let part : ℕ = c.loop-part.part in
    let values : List ℕ = c.args.values.now in
    let inside : part < length values = omega arith in
    let more = all_fit-more c.args.until c.args.row part values inside in
    let step : (field_fits (field_of c.args.row part) (get_or values part 0)
    && in_time c.args.until (field_of c.args.row part) (get_or values part 0)) ≡ false = cc in
    sym (sym c.loop-part.invariant ∙ more
    ∙ ap (λ b. b && all_fit c.args.until c.args.row (part + 1) (drop (part + 1) values)) step)

pub loop-part-preserved : goal.loop-part-preserved
loop-part-preserved c =
    let part : ℕ = c.loop-part.part in
    let values : List ℕ = c.args.values.now in
    let inside : part < length values = omega arith in
    let more = all_fit-more c.args.until c.args.row part values inside in
    let step : (field_fits (field_of c.args.row part) (get_or values part 0)
    && in_time c.args.until (field_of c.args.row part) (get_or values part 0)) ≡ true = cc in
    sym (more ∙ ap (λ b. b && all_fit c.args.until c.args.row (part + 1) (drop (part + 1) values)) step)
    ∙ c.loop-part.invariant

pub returns : goal.returns
returns c =
    let part : ℕ = c.loop-part.part in
    let values : List ℕ = c.args.values.now in
    let past : length values ≤ part = omega arith in
    let gone : drop part values ≡ [] = drop_all part values past in
    sym (all_fit-none c.args.until c.args.row part values gone) ∙ c.loop-part.invariant
