use Rattle.std.proofs.Common.{◌≡◌, refl, sym, ◌∙◌, subst}
use Rattle.std.specs.Prelude.{List, All, length}
use Rattle.std.proofs.lemmas.List.{with_items_is}
use Rattle.link_order.specs.NodeKind.{NodeKind, kind_of}
use Rattle.link_lane.specs.Following.{LaneState}
use Rattle.link_run.specs.Going.{MayGo, AllWent}
use Rattle.link_run.proofs.Roundings.{went_length}
use Rattle.link_run.proofs.run.advance_round.Goals as goal

pub advance_all-requires-clause-may_go : goal.advance_all-requires-clause-may_go
advance_all-requires-clause-may_go g c κs within =
    subst (λ (l : List (LaneState g.row.N.Denot)). All (MayGo c.args.round.shared c.args.until) l)
    (sym c.as_mut_slice.ensures.value) c.requires.may_go

pub returns : goal.returns
returns g c =
    let kind : NodeKind g.N.Node.Record = kind_of g.N.Node.clock g.N.Node.was g.N.Node.next in
    let went : AllWent kind g.N.Node.plain g.N.Node.bound c.args.until c.args.round.lanes.items c.advance_all.new.lanes
    = subst (λ (l : List (LaneState g.row.N.Denot)). AllWent kind g.N.Node.plain g.N.Node.bound c.args.until l
    c.advance_all.new.lanes) c.as_mut_slice.ensures.value c.advance_all.ensures in
    let lengths : length c.advance_all.new.lanes ≡ length c.args.round.lanes.items
    = went_length kind g.N.Node.plain g.N.Node.bound c.args.until c.args.round.lanes.items
    c.advance_all.new.lanes went in
    record {
      shared_is = refl;
      spare_is = refl;
      went =
          subst (λ (l : List (LaneState g.row.N.Denot)). AllWent kind g.N.Node.plain g.N.Node.bound c.args.until
          c.args.round.lanes.items l)
          (sym (with_items_is c.args.round.lanes c.advance_all.new.lanes (lengths ∙ sym c.args.round.lanes.ok.0))) went;
    }
