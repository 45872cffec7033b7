use Rattle.std.proofs.Common.{sym, ◌∙◌}
use Rattle.gba_filling.specs.Memories.{bytes_of}
use Rattle.gba_thaw.specs.Console.{can_be_made, parts_thawed}
use Rattle.gba_thaw.proofs.Thawed.{none-made, not-going, not-made, parts-made, poured, some-made, told-of}
use Rattle.gba_thaw.proofs.console.whole.Goals as goal

pub returns-in_default : goal.returns-in_default
returns-in_default c =
    let m = c.args.console.now in
    let f = c.args.loose.now in
    let io = c.io_of-io.result in
    let told =
    told-of m c.numbers.result.now f.numbers io c.parts_thawed.result c.numbers.ensures c.parts_thawed.ensures in
    not-made c.args.until m f.numbers (λ name. bytes_of name f.memories) f.drawn io c.io_of-io.ensures
    (none-made (can_be_made m f.numbers io) (parts_thawed m f.numbers io) (sym c.in_default.is ∙ told))

pub can_go_on-requires-clause-parts : goal.can_go_on-requires-clause-parts
can_go_on-requires-clause-parts c =
    let m = c.args.console.now in
    let f = c.args.loose.now in
    let io = c.io_of-io.result in
    let told =
    told-of m c.numbers.result.now f.numbers io c.parts_thawed.result c.numbers.ensures c.parts_thawed.ensures in
    parts-made (can_be_made m f.numbers io) (parts_thawed m f.numbers io) c.in-Some.parts (sym c.in-Some.is ∙ told)

pub pour_all-requires-clause-parts : goal.pour_all-requires-clause-parts
pour_all-requires-clause-parts c =
    let m = c.args.console.now in
    let f = c.args.loose.now in
    let io = c.io_of-io.result in
    let told =
    told-of m c.numbers.result.now f.numbers io c.parts_thawed.result c.numbers.ensures c.parts_thawed.ensures in
    parts-made (can_be_made m f.numbers io) (parts_thawed m f.numbers io) c.in-Some.parts (sym c.in-Some.is ∙ told)

pub pour_all-requires-clause-made : goal.pour_all-requires-clause-made
pour_all-requires-clause-made c =
    let m = c.args.console.now in
    let f = c.args.loose.now in
    let io = c.io_of-io.result in
    let told =
    told-of m c.numbers.result.now f.numbers io c.parts_thawed.result c.numbers.ensures c.parts_thawed.ensures in
    some-made (can_be_made m f.numbers io) (parts_thawed m f.numbers io) c.in-Some.parts (sym c.in-Some.is ∙ told)

pub returns-then-not-can_go_on : goal.returns-then-not-can_go_on
returns-then-not-can_go_on c =
    let m = c.args.console.now in
    let f = c.args.loose.now in
    not-going c.args.until m f.numbers (λ name. bytes_of name f.memories) f.drawn c.io_of-io.result c.io_of-io.ensures
    (sym c.can_go_on.ensures ∙ c.if-not-can_go_on.true)

pub returns : goal.returns
returns c =
    let m = c.args.console.now in
    let f = c.args.loose.now in
    let io = c.io_of-io.result in
    let told =
    told-of m c.numbers.result.now f.numbers io c.parts_thawed.result c.numbers.ensures c.parts_thawed.ensures in
    poured c.args.until m f.numbers (λ name. bytes_of name f.memories) f.drawn io c.io_of-io.ensures
    (some-made (can_be_made m f.numbers io) (parts_thawed m f.numbers io) c.in-Some.parts (sym c.in-Some.is ∙ told))
    (sym c.can_go_on.ensures ∙ c.if-not-can_go_on.false) c.pour_all.new.console c.pour_all.ensures c.eq.result
    (rw (c.as_slice.ensures.value, c.io_bytes.ensures.items, c.board.ensures, c.as_slice-2.ensures) at c.eq.ensures)
