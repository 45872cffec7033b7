use Rattle.std.proofs.Common.{ℕ, ◌≡◌, ◌<◌, arith, ap, sym, ◌∙◌, subst, get_or}
use Rattle.std.specs.Prelude.{List, map, slice_index}
use Rattle.link_core.proofs.Readings.{read-node, read-bound}
use Rattle.link_trials.specs.declared.mixer.Mixer.{Mixer}
use Rattle.link_trials.specs.Mixing.{Mixed}
use Rattle.link_trials.proofs.trial.step_once.Goals as goal

abbrev plain : Mixer → Mixed
plain m = record { state = m.state; clock = m.clock; was = m.was }

pub serial_step-requires : goal.serial_step-requires
serial_step-requires g c =
    let xs : List Mixer = c.args.cut.now.consoles in
    let n : Mixer = c.index-nodes-player.result in
    let i : ℕ = c.least-player.result in
    let is : n ≡ get_or xs i n = c.index-nodes-player.is
    ∙ ap (λ (ys : List Mixer). get_or ys i n) c.nodes.ensures.value in
    let own = read-node plain (λ (r : Mixed). r.clock) xs i n c.least-player.ensures.player
    ∙ ap (λ (m : Mixer). m.clock) (sym is) in
    let most = read-bound (λ (m : Mixer). m.limit) xs i n c.least-player.ensures.player
    ∙ ap (λ (m : Mixer). m.limit) (sym is) in
    let less : slice_index (map (λ (r : Mixed). r.clock) (map plain xs)) i
    < slice_index (map (λ (m : Mixer). m.limit) xs) i = omega (arith, own, most) in
    subst (λ (k : ℕ). slice_index (map (λ (r : Mixed). r.clock) (map plain xs)) k
    < slice_index (map (λ (m : Mixer). m.limit) xs) k)
    c.least-player.ensures.value less
