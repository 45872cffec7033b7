use Rattle.std.proofs.Common.{◌<◌, ◌+◌, drop, length, ap, sym, ◌∙◌, arith, rules}
use Rattle.gba_numbers.specs.Fields.{place_of}
use Rattle.gba_numbers.specs.Numbers.{ConsoleNumbers, is_there}
use Rattle.gba_frozen.specs.Reading.{queue_byte, with_bytes}
use Rattle.gba_filling.specs.Loose.{LooseConsole, with_numbers}
use Rattle.gba_filling.proofs.RowSteps.{bytes-more, bytes-none, queue-behind, there-kept}
use Rattle.gba_filling.proofs.rows.set_queue_bytes.Goals as goal

pub loop-place-preserved : goal.loop-place-preserved
loop-place-preserved c =
    let place = c.loop-place.place in
    let bytes = c.args.bytes.now in
    let field = queue_byte c.args.queue in
    let console : LooseConsole = c.loop-place.console in
    let inside : place < length bytes = omega arith in
    record {
      left =
          ap (λ (one : LooseConsole).
          with_numbers (with_bytes field (place + 1) (drop (place + 1) bytes) one.numbers) one) (search rules)
          ∙ ap (λ (n : ConsoleNumbers). with_numbers n console)
          (sym (bytes-more field place bytes console.numbers inside))
          ∙ c.loop-place.invariant.left;
      there = λ other below.
          ap (λ (one : LooseConsole). is_there (place_of (field other)) one.numbers) c.set.ensures
          ∙ there-kept (place_of (field place)) (place_of (field other)) c.from.result console.numbers
          (queue-behind c.args.queue place)
          ∙ c.loop-place.invariant.there other below;
    }

pub returns : goal.returns
returns c =
    let console : LooseConsole = c.loop-place.console in
    ap (λ (n : ConsoleNumbers). with_numbers n console)
    (sym (bytes-none (queue_byte c.args.queue) c.loop-place.place c.args.bytes.now console.numbers (omega arith)))
    ∙ c.loop-place.invariant.left
