use Rattle.std.specs.Prelude.{List, [], ◌∷◌, length, map}
use Rattle.std.proofs.Common.{ℕ, ◌≡◌, sym, ap, ◌∙◌, subst}
use Rattle.atomic_table.specs.Seated.{TableId}
use Rattle.link_order.specs.NodeKind.{NodeKind, IsLawful, kind_of}
use Rattle.link_order.specs.Cut.{Cut}
use Rattle.link_rule.specs.Rule.{Ruled, first_view}
use Rattle.link_rule.proofs.Opening.{opens}
use Rattle.link_table.specs.declared.key.Key.{Key}
use Rattle.link_table.specs.Text.{script_of}
use Rattle.link_table.specs.Opening.{IsLeast, AreDealt, IsUndealt}
use Rattle.link_table.proofs.Beginnings.{IsOpen, is_open, sound_text, opening_text, players_text, undealt_whole}
use Rattle.link_table.proofs.shared.Shared.begin.Goals as goal

pub of_words-requires : goal.of_words-requires
of_words-requires g c =
    let kind : NodeKind g.N.Node.Record = kind_of g.N.Node.clock g.N.Node.was g.N.Node.next in
    let law : IsLawful kind = record {
      rises = g.met.N.Node.rises;
      short = g.met.N.Node.short;
      moves = g.met.N.Node.moves;
      bears = g.met.N.Node.bears;
      fits = g.met.N.Node.fits;
    } in
    let key : Key g.row.N.Denot = record { cut = c.of.result; limit = c.least_limit.result } in
    let h : IsOpen kind g.N.Node.plain key c.in_ok-words.words.items
    = is_open kind g.N.Node.plain key c.args.cut.now c.nodes-nodes.result.now c.in_ok-words.words.items c.of.ensures
    c.nodes-nodes.ensures.value c.nodes-nodes.ensures.cable c.nodes-nodes.ensures.sound c.least_limit.ensures.small
    c.in_ok-words.ensures in
    subst (λ (l : List ℕ). Ruled (script_of kind g.N.Node.plain) key l
    (first_view (script_of kind g.N.Node.plain) key ∷ []))
    (sym c.deref.ensures.value)
    (opens (script_of kind g.N.Node.plain) key c.in_ok-words.words.items
    (sound_text kind law g.N.Node.plain key c.in_ok-words.words.items h)
    (opening_text kind g.N.Node.plain key c.in_ok-words.words.items h))

pub deal-requires-clause-common : goal.deal-requires-clause-common
deal-requires-clause-common g c =
    let kind : NodeKind g.N.Node.Record = kind_of g.N.Node.clock g.N.Node.was g.N.Node.next in
    let law : IsLawful kind = record {
      rises = g.met.N.Node.rises;
      short = g.met.N.Node.short;
      moves = g.met.N.Node.moves;
      bears = g.met.N.Node.bears;
      fits = g.met.N.Node.fits;
    } in
    let key : Key g.row.N.Denot = record { cut = c.of.result; limit = c.least_limit.result } in
    let h : IsOpen kind g.N.Node.plain key c.in_ok-words.words.items
    = is_open kind g.N.Node.plain key c.args.cut.now c.nodes-nodes.result.now c.in_ok-words.words.items c.of.ensures
    c.nodes-nodes.ensures.value c.nodes-nodes.ensures.cable c.nodes-nodes.ensures.sound c.least_limit.ensures.small
    c.in_ok-words.ensures in
    let nodes_are : c.nodes-nodes.result.now ≡ key.cut.value.consoles
    = c.nodes-nodes.ensures.value ∙ ap (λ (d : Cut g.row.N.Denot). d.consoles) (sym c.of.ensures) in (
      key,
      record {
        players_is = ap length nodes_are ∙ players_text kind g.N.Node.plain key;
        sound = sound_text kind law g.N.Node.plain key c.in_ok-words.words.items h;
        delays_are = c.delays.ensures.value ∙ ap (λ (d : Cut g.row.N.Denot). d.delays) (sym c.of.ensures);
        within = c.delays.ensures.within;
      },
      undealt_whole kind g.N.Node.plain key c.in_ok-table.place.me (length c.nodes-nodes.result.now)
          (ap length nodes_are ∙ players_text kind g.N.Node.plain key) (c.in_ok-table.ensures {u = tt}).4,
    )

pub returns : goal.returns
returns g c =
    let kind : NodeKind g.N.Node.Record = kind_of g.N.Node.clock g.N.Node.was g.N.Node.next in
    let law : IsLawful kind = record {
      rises = g.met.N.Node.rises;
      short = g.met.N.Node.short;
      moves = g.met.N.Node.moves;
      bears = g.met.N.Node.bears;
      fits = g.met.N.Node.fits;
    } in
    let key : Key g.row.N.Denot = record { cut = c.of.result; limit = c.least_limit.result } in
    let h : IsOpen kind g.N.Node.plain key c.in_ok-words.words.items
    = is_open kind g.N.Node.plain key c.args.cut.now c.nodes-nodes.result.now c.in_ok-words.words.items c.of.ensures
    c.nodes-nodes.ensures.value c.nodes-nodes.ensures.cable c.nodes-nodes.ensures.sound c.least_limit.ensures.small
    c.in_ok-words.ensures in
    let nodes_are : c.nodes-nodes.result.now ≡ key.cut.value.consoles
    = c.nodes-nodes.ensures.value ∙ ap (λ (d : Cut g.row.N.Denot). d.consoles) (sym c.of.ensures) in
    let whole : IsUndealt kind g.N.Node.plain key c.in_ok-table.place.me 0 (length c.nodes-nodes.result.now)
    = undealt_whole kind g.N.Node.plain key c.in_ok-table.place.me (length c.nodes-nodes.result.now)
    (ap length nodes_are ∙ players_text kind g.N.Node.plain key) (c.in_ok-table.ensures {u = tt}).4 in
    let dealt : AreDealt kind g.N.Node.plain key c.in_ok-table.table.shared.table_id (length c.nodes-nodes.result.now)
    (length c.nodes-nodes.result.now) c.in_ok-seats.seats.items
    = subst (λ (t : TableId). AreDealt kind g.N.Node.plain key t (length c.nodes-nodes.result.now)
    (length c.nodes-nodes.result.now) c.in_ok-seats.seats.items) (c.in_ok-table.ensures {u = tt}).2
    (c.in_ok-seats.ensures key whole) in
    record {
      key = key;
      cut_is = c.of.ensures;
      limit_is = subst (λ (l : List g.row.N.Denot). IsLeast (map g.N.Node.bound l) c.least_limit.result)
          c.nodes-nodes.ensures.value c.least_limit.ensures.least;
      small_limit = c.least_limit.ensures.small;
      sound = sound_text kind law g.N.Node.plain key c.in_ok-words.words.items h;
      dealt = subst (λ (l : List g.row.N.Denot). AreDealt kind g.N.Node.plain key c.in_ok-table.table.shared.table_id
          (length l) (length l) c.in_ok-seats.seats.items) c.nodes-nodes.ensures.value dealt;
    }
