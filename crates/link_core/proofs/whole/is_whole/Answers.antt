use Rattle.std.proofs.Common.{◌≡◌, ℕ, ap, ◌∙◌, sym}
use Rattle.std.specs.Prelude.{length, map, slice_index}
use Rattle.std.proofs.lemmas.List.{length-map}
use Rattle.link_node.specs.Delays.{hop_of}
use Rattle.link_order.specs.Cut.{Cut, plain_cut}
use Rattle.link_order.specs.NodeKind.{NodeKind, kind_of}
use Rattle.link_core.specs.Kept.{cut_of}
use Rattle.link_core.specs.Whole.{is_whole_by}
use Rattle.link_core.proofs.Wholeness.{tested-whole, whole-tested}
use Rattle.link_core.proofs.whole.is_whole.Goals as goal

pub returns : goal.returns
returns g c =
    let kind : NodeKind g.N.Node.Record = kind_of g.N.Node.clock g.N.Node.was g.N.Node.next in
    let cut : Cut g.N.Node.Record
    = plain_cut g.N.Node.plain
    (cut_of c.args.nodes.now (record { delays = c.args.delays.now; sent = c.args.sent.now })) in
    let test = λ (n : ℕ). is_whole_by (hop_of c.args.delays.now) (slice_index (map g.N.Node.clock cut.consoles))
    (slice_index (map g.N.Node.was cut.consoles)) n c.args.sent.now in
    let told : c.are_whole.result ≡ test (length cut.consoles)
    = c.are_whole.ensures ∙ ap test (sym (length-map c.args.nodes.now g.N.Node.plain)) in
    ((λ t. tested-whole kind cut (sym told ∙ t)), (λ w. told ∙ whole-tested kind cut w))
