use Rattle.std.proofs.Common.{◌<◌, ◌+◌, drop, length, ap, sym, ◌∙◌, arith, rules}
use Rattle.gba_numbers.specs.Numbers.{ConsoleNumbers}
use Rattle.gba_frozen.specs.Reading.{wave_byte, with_bytes}
use Rattle.gba_filling.specs.Loose.{LooseConsole, with_numbers}
use Rattle.gba_filling.proofs.RowSteps.{bytes-more, bytes-none}
use Rattle.gba_filling.proofs.rows.set_wave.Goals as goal

pub loop-place-preserved : goal.loop-place-preserved
loop-place-preserved c =
    let place = c.loop-place.place in
    let bytes = c.args.bytes.now in
    let field = wave_byte c.args.bank in
    let console : LooseConsole = c.loop-place.console in
    let inside : place < length bytes = omega arith in
    ap (λ (one : LooseConsole). with_numbers (with_bytes field (place + 1) (drop (place + 1) bytes) one.numbers) one)
    (search rules)
    ∙ ap (λ (n : ConsoleNumbers). with_numbers n console) (sym (bytes-more field place bytes console.numbers inside))
    ∙ c.loop-place.invariant

pub returns : goal.returns
returns c =
    let console : LooseConsole = c.loop-place.console in
    ap (λ (n : ConsoleNumbers). with_numbers n console)
    (sym (bytes-none (wave_byte c.args.bank) c.loop-place.place c.args.bytes.now console.numbers (omega arith)))
    ∙ c.loop-place.invariant
