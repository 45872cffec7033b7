use Rattle.std.proofs.Common.{length, sym, ap, ◌∙◌}
use Rattle.gba_bus.specs.Regions.{region_of}
use Rattle.gba_mem.specs.Video.{has_oam, has_palette, has_vram}
use Rattle.gba_mem.proofs.Keeping.{TellsOf, oam_tells, palette_tells, the_third, vram_tells}
use Rattle.gba_mem.proofs.memory.Memory.keeps.Goals as goal
use Rattle.gba_mem.proofs.memory.Memory.keeps.Goals.{After-keeps_palette, After-keeps_vram}

pub returns-in-Palette-clause-sound : goal.returns-in-Palette-clause-sound
returns-in-Palette-clause-sound c =
    (palette_tells c.keeps_palette.result c.args.mode c.args.self.now c.args.address c.args.width c.args.value
    (sym c.region_of.ensures ∙ c.in-Palette.is) (ap length (sym c.palette.ensures.bytes) ∙ c.palette.ensures.length)
    (c.keeps_palette.ensures
    ∙ ap (λ bytes. has_palette bytes c.args.address c.args.width c.args.value) c.palette.ensures.bytes)).sound

pub returns-in-Palette-clause-exact : goal.returns-in-Palette-clause-exact
returns-in-Palette-clause-exact c =
    (palette_tells c.keeps_palette.result c.args.mode c.args.self.now c.args.address c.args.width c.args.value
    (sym c.region_of.ensures ∙ c.in-Palette.is) (ap length (sym c.palette.ensures.bytes) ∙ c.palette.ensures.length)
    (c.keeps_palette.ensures
    ∙ ap (λ bytes. has_palette bytes c.args.address c.args.width c.args.value) c.palette.ensures.bytes)).exact

pub returns-in-Vram-clause-sound : goal.returns-in-Vram-clause-sound
returns-in-Vram-clause-sound c =
    (vram_tells c.keeps_vram.result c.args.mode c.args.self.now c.args.address c.args.width c.args.value
    (sym c.region_of.ensures ∙ c.in-Vram.is) (ap length (sym c.vram.ensures.bytes) ∙ c.vram.ensures.length)
    (c.keeps_vram.ensures
    ∙ ap (λ bytes. has_vram c.args.mode bytes c.args.address c.args.width c.args.value) c.vram.ensures.bytes)).sound

pub returns-in-Vram-clause-exact : goal.returns-in-Vram-clause-exact
returns-in-Vram-clause-exact c =
    (vram_tells c.keeps_vram.result c.args.mode c.args.self.now c.args.address c.args.width c.args.value
    (sym c.region_of.ensures ∙ c.in-Vram.is) (ap length (sym c.vram.ensures.bytes) ∙ c.vram.ensures.length)
    (c.keeps_vram.ensures
    ∙ ap (λ bytes. has_vram c.args.mode bytes c.args.address c.args.width c.args.value) c.vram.ensures.bytes)).exact

pub returns-in_default : goal.returns-in_default
returns-in_default c =
    let told : TellsOf c.keeps_oam.result c.args.mode c.args.self.now c.args.address c.args.width c.args.value =
    oam_tells c.keeps_oam.result c.args.mode c.args.self.now c.args.address c.args.width c.args.value
    (the_third (region_of c.args.address) c.requires
    (λ is. c.in_default.not-Palette (c.region_of.ensures ∙ is))
    (λ is. c.in_default.not-Vram (c.region_of.ensures ∙ is)))
    (ap length (sym c.oam.ensures.bytes) ∙ c.oam.ensures.length)
    (c.keeps_oam.ensures ∙ ap (λ bytes. has_oam bytes c.args.address c.args.width c.args.value) c.oam.ensures.bytes) in
    record { sound = told.sound; exact = told.exact }
