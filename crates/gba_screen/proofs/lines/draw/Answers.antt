use Rattle.gba_screen.proofs.Drawing.{drawn_line}
use Rattle.gba_screen.proofs.lines.draw.Goals as goal

pub returns : goal.returns
returns c =
    drawn_line c.args.r.now c.args.memory.now c.palette.result.now c.vram.result.now c.oam.result.now c.args.line
    c.mix_line.new.colours c.spell_line.new.bytes c.mix_line.auto.colours c.mix_line.ensures
    c.palette.ensures.bytes c.vram.ensures.bytes c.oam.ensures.bytes c.spell_line.ensures
