use Rattle.std.proofs.Common.{◌≡◌, ◌≤◌, ◌∙◌, List, length, None, Some, ap, subst, sym, arith}
use Rattle.std.proofs.lemmas.List.{length-map}
use Rattle.gba_console.specs.Machine.{without_limit}
use Rattle.gba_filling.specs.Loose.{LooseConsole}
use Rattle.gba_frozen.specs.Reading.{judged}
use Rattle.gba_frozen.specs.declared.kinds.Setup.{Setup}
use Rattle.gba_frozen_read.specs.Thawed.{IsThawed}
use Rattle.gba_thaw.proofs.Read.{count-is, have-lengths, refused-as, thawed-as, whole-is}
use Rattle.gba_thaw.specs.Cut.{setup_of, whole_of}
use Rattle.gba_thaw.specs.Loose.{AllHaveLengths}
use Rattle.gba_thaw.proofs.file.thaw.Goals as goal

pub returns-in-Err-clause-refused : goal.returns-in-Err-clause-refused
unfolding IsThawed
returns-in-Err-clause-refused c =
    let start = c.args.start in
    let S : Setup = setup_of c.args.digest.now c.args.until start.consoles in
    let same : c.setup_of-setup.result ≡ S = rw c.nodes.ensures.value at c.setup_of-setup.ensures in
    refused-as c.setup_of-setup.result S (whole_of c.args.until start) c.args.bytes.now c.in-Err.refused same
    c.in-Err.ensures

pub go_on-requires-clause-count : goal.go_on-requires-clause-count
unfolding IsThawed
go_on-requires-clause-count c =
    let start = c.args.start in
    let S : Setup = setup_of c.args.digest.now c.args.until start.consoles in
    let same : c.setup_of-setup.result ≡ S = rw c.nodes.ensures.value at c.setup_of-setup.ensures in
    let read = c.in-Ok-read_frozen.ensures in
    let few : length start.consoles ≤ 4 =
    omega (arith, c.nodes.ensures.cable.at_most_four, length-map start.consoles without_limit) in
    ap (λ (fs : List LooseConsole). length fs) c.consoles.ensures
    ∙ count-is c.args.digest.now c.args.until start c.setup_of-setup.result same few c.read_frozen.new.into read.0
    read.1 read.3

pub go_on-requires-clause-lengths : goal.go_on-requires-clause-lengths
unfolding IsThawed
go_on-requires-clause-lengths c =
    let start = c.args.start in
    let S : Setup = setup_of c.args.digest.now c.args.until start.consoles in
    let same : c.setup_of-setup.result ≡ S = rw c.nodes.ensures.value at c.setup_of-setup.ensures in
    let read = c.in-Ok-read_frozen.ensures in
    let few : length start.consoles ≤ 4 =
    omega (arith, c.nodes.ensures.cable.at_most_four, length-map start.consoles without_limit) in
    subst (λ (fs : List LooseConsole). AllHaveLengths start.consoles fs) (sym c.consoles.ensures)
    (have-lengths c.args.digest.now c.args.until start c.setup_of-setup.result same few c.read_frozen.new.into
    read.0 read.1 read.3)

pub returns-in-Some-clause-thawed : goal.returns-in-Some-clause-thawed
unfolding IsThawed
returns-in-Some-clause-thawed c =
    let start = c.args.start in
    let S : Setup = setup_of c.args.digest.now c.args.until start.consoles in
    let same : c.setup_of-setup.result ≡ S = rw c.nodes.ensures.value at c.setup_of-setup.ensures in
    let read = c.in-Ok-read_frozen.ensures in
    let few : length start.consoles ≤ 4 =
    omega (arith, c.nodes.ensures.cable.at_most_four, length-map start.consoles without_limit) in
    let whole : whole_of c.args.until start read.0 ≡ Some c.in-Some.cut =
    whole-is c.args.digest.now c.args.until start c.setup_of-setup.result same few c.read_frozen.new.into read.0
    read.1 read.3
    ∙ sym ((rw (c.consoles.ensures, c.signals.ensures) at c.go_on.ensures) read.0.sent read.1.signals) ∙ c.in-Some.is in
    thawed-as c.setup_of-setup.result S (whole_of c.args.until start) c.args.bytes.now c.in-Ok-read_frozen.lines
    read.0 same read.4
    ∙ ap (judged c.in-Ok-read_frozen.lines) whole

pub returns-clause-refused : goal.returns-clause-refused
unfolding IsThawed
returns-clause-refused c =
    let start = c.args.start in
    let S : Setup = setup_of c.args.digest.now c.args.until start.consoles in
    let same : c.setup_of-setup.result ≡ S = rw c.nodes.ensures.value at c.setup_of-setup.ensures in
    let read = c.in-Ok-read_frozen.ensures in
    let few : length start.consoles ≤ 4 =
    omega (arith, c.nodes.ensures.cable.at_most_four, length-map start.consoles without_limit) in
    let whole : whole_of c.args.until start read.0 ≡ None =
    whole-is c.args.digest.now c.args.until start c.setup_of-setup.result same few c.read_frozen.new.into read.0
    read.1 read.3
    ∙ sym ((rw (c.consoles.ensures, c.signals.ensures) at c.go_on.ensures) read.0.sent read.1.signals) ∙ c.in-None.is in
    thawed-as c.setup_of-setup.result S (whole_of c.args.until start) c.args.bytes.now c.in-Ok-read_frozen.lines read.0
    same read.4
    ∙ ap (judged c.in-Ok-read_frozen.lines) whole
