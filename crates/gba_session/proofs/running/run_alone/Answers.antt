use Rattle.std.proofs.Common.{◌≡◌, ◌≤◌, ℕ, List, [], ◌∷◌, ◌∙◌, length, map, slice_set, ap, sym, subst, arith}
use Rattle.std.specs.List.{All}
use Rattle.gba_console.specs.Alone.{alone, console_kind}
use Rattle.gba_console.specs.Machine.{Machine, limit_of, without_limit}
use Rattle.gba_console.specs.Run.{run_to}
use Rattle.gba_session.proofs.Alone.{IsClose, alone-runs, alone-sound, close-run, one-is, set-one, sound-close, sound-own}
use Rattle.gba_session.proofs.running.run_alone.Goals as goal
use Rattle.gba_session.specs.Start.{run_until}
use Rattle.link_node.specs.declared.delays.Delays.{Delays}
use Rattle.link_order.specs.Cut.{Cut, IsSound}
use Rattle.link_order.specs.declared.sent.Sent.{Sent}

abbrev cut_with : List Machine → Delays → List Sent → Cut Machine
cut_with consoles delays sent = record { consoles = map without_limit consoles; delays = delays; sent = sent }

pub run_to-requires : goal.run_to-requires
run_to-requires c =
    let xs = c.part-consoles.result.0.items in
    let m = c.index_mut.result.now in
    let long : length xs ≡ 1 = omega (arith, ap length c.part-consoles.ensures.nodes, c.requires.one) in
    let all : c.args.cut.consoles ≡ m ∷ [] =
    sym c.part-consoles.ensures.nodes ∙ one-is xs m long
    ∙ ap (λ (x : Machine). x ∷ []) (sym c.index_mut.ensures.value) in
    let limits : All (λ (limit : ℕ). c.args.until ≤ limit) (limit_of m ∷ []) =
    subst (λ (ys : List Machine). All (λ (limit : ℕ). c.args.until ≤ limit) (map limit_of ys)) all c.requires.limit in
    limits 0 0 (omega arith)

pub join-requires-clause-sound : goal.join-requires-clause-sound
join-requires-clause-sound c =
    let xs = c.part-consoles.result.0.items in
    let shell = c.part-consoles.result.1 in
    let m = c.index_mut.result.now in
    let after = c.run_to.new.self in
    let delays = c.clear.new.self.delays in
    let long : length xs ≡ 1 = omega (arith, ap length c.part-consoles.ensures.nodes, c.requires.one) in
    let one : xs ≡ m ∷ [] = one-is xs m long ∙ ap (λ (x : Machine). x ∷ []) (sym c.index_mut.ensures.value) in
    let sound : IsSound console_kind (alone (without_limit m) shell.delays shell.sent) =
    subst (λ (ys : List Machine). IsSound console_kind (cut_with ys shell.delays shell.sent)) one
    c.part-consoles.ensures.sound in
    let close = sound-close (without_limit m) shell.delays shell.sent sound in
    let ran : IsClose (run_to c.args.until m) =
    close-run (c.steps_pass.ensures []) c.args.until c.args.until m
    (record { begun = close.begun; short = close.short }) in
    let here : IsClose after = subst IsClose (sym c.run_to.ensures.run) ran in
    let made : cut_with (slice_set xs 0 after) delays c.clear.new.self.sent ≡ alone (without_limit after) delays [] =
    ap (λ (ys : List Machine). cut_with ys delays c.clear.new.self.sent) (set-one xs after long)
    ∙ ap (λ (s : List Sent). alone (without_limit after) delays s) c.clear.ensures.sent in
    subst (IsSound console_kind) (sym made)
    (alone-sound (without_limit after) delays (record { begun = here.begun; short = here.short }))

pub returns-clause-run : goal.returns-clause-run
returns-clause-run c =
    let cut = c.args.cut in
    let until = c.args.until in
    let xs = c.part-consoles.result.0.items in
    let shell = c.part-consoles.result.1 in
    let m = c.index_mut.result.now in
    let after = c.run_to.new.self in
    let delays = c.clear.new.self.delays in
    let long : length xs ≡ 1 = omega (arith, ap length c.part-consoles.ensures.nodes, c.requires.one) in
    let one : xs ≡ m ∷ [] = one-is xs m long ∙ ap (λ (x : Machine). x ∷ []) (sym c.index_mut.ensures.value) in
    let sound : IsSound console_kind (alone (without_limit m) shell.delays shell.sent) =
    subst (λ (ys : List Machine). IsSound console_kind (cut_with ys shell.delays shell.sent)) one
    c.part-consoles.ensures.sound in
    let own = sound-own (without_limit m) shell.delays shell.sent sound in
    let start : alone (without_limit m) shell.delays shell.sent ≡ cut_with cut.consoles cut.delays cut.sent =
    ap (λ (ys : List Machine). cut_with ys shell.delays shell.sent) (sym one ∙ c.part-consoles.ensures.nodes)
    ∙ ap (λ (d : Delays). cut_with cut.consoles d shell.sent) c.part-consoles.ensures.delays
    ∙ ap (λ (s : List Sent). cut_with cut.consoles cut.delays s) c.part-consoles.ensures.sent in
    ap (λ (x : Cut Machine). cut_with x.consoles x.delays x.sent) c.join.ensures
    ∙ ap (λ (ys : List Machine). cut_with ys delays c.clear.new.self.sent) (set-one xs after long)
    ∙ ap (λ (s : List Sent). alone (without_limit after) delays s) c.clear.ensures.sent
    ∙ ap (λ (d : Delays). alone (without_limit after) d []) c.clear.ensures.delays
    ∙ ap (λ (x : Machine). alone (without_limit x) shell.delays []) c.run_to.ensures.run
    ∙ sym (alone-runs c.enough.ensures until shell.delays shell.sent m own)
    ∙ ap (run_until until) start
