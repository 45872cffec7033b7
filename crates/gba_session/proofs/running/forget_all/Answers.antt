use Rattle.std.proofs.Common.{◌≡◌, ◌∙◌, true, List, sym, ap, subst}
use Rattle.gba_console.specs.Alone.{console_kind}
use Rattle.gba_console.specs.Machine.{Machine, without_limit}
use Rattle.gba_console.specs.Segments.{forgotten_cut}
use Rattle.gba_session.proofs.running.forget_all.Goals as goal
use Rattle.link_core.specs.Kept.{AllLive, cut_of}
use Rattle.link_order.proofs.Lists.{all_map}
use Rattle.link_order.specs.Cut.{Cut, IsSound, is_live, plain_cut}
use Rattle.link_order.specs.declared.sent.Sent.{Sent}

pub join-requires-clause-sound : goal.join-requires-clause-sound
join-requires-clause-sound c =
    let shell = c.part-consoles.result.1 in
    let was : Cut Machine = plain_cut without_limit (cut_of c.part-consoles.result.0.items shell) in
    let is : plain_cut without_limit (cut_of c.forget_each.new.consoles.items shell) ≡ forgotten_cut was =
    ap (λ (ms : List Machine). let x : Cut Machine = cut_of ms shell in x) c.forget_each.ensures.plain in
    subst (IsSound console_kind) (sym is) ((c.forgets.ensures.soundly was).sound c.part-consoles.ensures.sound)

pub join-requires-clause-live : goal.join-requires-clause-live
join-requires-clause-live c =
    let shell = c.part-consoles.result.1 in
    let was : Cut Machine = plain_cut without_limit (cut_of c.part-consoles.result.0.items shell) in
    let is : plain_cut without_limit (cut_of c.forget_each.new.consoles.items shell) ≡ forgotten_cut was =
    ap (λ (ms : List Machine). let x : Cut Machine = cut_of ms shell in x) c.forget_each.ensures.plain in
    subst (AllLive console_kind) (sym is)
    (all_map (λ (one : Sent). is_live console_kind was one ≡ true)
    (λ (one : Sent). is_live console_kind (forgotten_cut was) one ≡ true) shell.sent
    (λ one live. (c.forgets.ensures.soundly was).awaited one ∙ live) c.part-consoles.ensures.live)
