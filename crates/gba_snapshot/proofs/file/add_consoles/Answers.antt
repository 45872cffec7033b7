use Rattle.std.proofs.Common.{◌≡◌, ◌+◌, ◌++◌, List, ℕ, drop, sym, ap, ◌∙◌, arith}
use Rattle.std.proofs.lemmas.List.{append-nil}
use Rattle.gba_frozen_text.proofs.Printing.{grown}
use Rattle.gba_console.specs.Machine.{Machine}
use Rattle.gba_snapshot.specs.Console.{console_text}
use Rattle.gba_snapshot.specs.File.{consoles_text}
use Rattle.gba_snapshot.proofs.Lines.{consoles-more, consoles-none}
use Rattle.gba_snapshot.proofs.file.add_consoles.Goals as goal

pub loop-player-preserved : goal.loop-player-preserved
loop-player-preserved c =
    let i : ℕ = c.loop-player.player in
    let m : Machine = c.index-consoles-player.result in
    let all : List Machine = c.args.consoles.now in
    let grew : c.add_console.new.into.items ≡ c.loop-player.into.items ++ console_text i m =
    c.add_console.ensures.items in
    let split : consoles_text i (drop i all) ≡ console_text i m ++ consoles_text (i + 1) (drop (i + 1) all) =
    consoles-more all i m c.loop-player-test.true
    ∙ ap (λ (x : Machine). console_text i x ++ consoles_text (i + 1) (drop (i + 1) all))
    (sym c.index-consoles-player.is) in
    record {
      items =
          grown c.loop-player.into.items c.add_console.new.into.items (console_text i m) (consoles_text i (drop i all))
          (consoles_text (i + 1) (drop (i + 1) all)) _ grew split c.loop-player.invariant.items;
      len = omega arith;
      room = omega arith;
    }

pub returns-clause-items : goal.returns-clause-items
returns-clause-items c =
    sym (append-nil c.loop-player.into.items)
    ∙ ap (λ (t : List ℕ). c.loop-player.into.items ++ t)
    (sym (consoles-none c.args.consoles.now c.loop-player.player (omega arith)))
    ∙ c.loop-player.invariant.items
