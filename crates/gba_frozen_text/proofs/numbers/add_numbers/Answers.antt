use Rattle.std.proofs.Common.{ℕ, ◌++◌, List, ap, ◌∙◌}
use Rattle.gba_frozen_print.specs.Printed.{ended, wave_text}
use Rattle.gba_frozen_text.specs.Text.{board_rows, processor_rows, said_line, tone_rows}
use Rattle.gba_frozen_text.proofs.Printing.{numbers-added}
use Rattle.gba_frozen_text.proofs.numbers.add_numbers.Goals as goal

pub returns-clause-items : goal.returns-clause-items
unfolding said_line processor_rows tone_rows board_rows
returns-clause-items g c =
    numbers-added (g.S.Freezing.numbers c.args.source.now) c.args.player c.args.into.now.items c.add_row.new.into.items
    c.add_row-2.new.into.items c.add_rows.new.into.items c.add_queue_of.new.into.items c.add_queue_of-2.new.into.items
    c.add_rows-2.new.into.items c.add_wave.new.into.items c.add_wave-2.new.into.items c.add_rows-3.new.into.items
    c.add_row.ensures.items c.add_row-2.ensures.items c.add_rows.ensures.items c.add_queue_of.ensures.items
    c.add_queue_of-2.ensures.items c.add_rows-2.ensures.items
    (c.add_wave.ensures.items
    ∙ ap (λ (bytes : List ℕ). c.add_rows-2.new.into.items ++ ended (wave_text 0 bytes)) c.wave.ensures)
    (c.add_wave-2.ensures.items
    ∙ ap (λ (bytes : List ℕ). c.add_wave.new.into.items ++ ended (wave_text 1 bytes)) c.wave-2.ensures)
    c.add_rows-3.ensures.items
