use Rattle.std.proofs.Common.{sym, ap, ◌∙◌}
use Rattle.gba_asm.specs.Assembly.{assembly_of}
use Rattle.gba_generator.proofs.Assembled.{code-given, never-refused}
use Rattle.gba_generator.proofs.bios.assembled.Goals as goal

pub returns-in-Ok : goal.returns-in-Ok
returns-in-Ok c =
    code-given c.args.number c.args.player c.in-Ok.bytes.items
    (ap assembly_of (sym c.in_ok-source.ensures) ∙ ap assembly_of (sym c.as_bytes.ensures.value)
    ∙ c.in-Ok.ensures.bytes)

pub unreachable-requires : goal.unreachable-requires
unreachable-requires c =
    never-refused c.args.number c.args.player c.in-Err-Source.field-0-0
    (ap assembly_of (sym c.in_ok-source.ensures) ∙ ap assembly_of (sym c.as_bytes.ensures.value)
    ∙ (rw c.in-Err-Source.field-0-is at c.in-Err-Source.ensures.bytes))
