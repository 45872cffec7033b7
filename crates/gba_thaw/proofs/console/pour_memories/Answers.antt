use Rattle.std.proofs.Common.{◌≡◌, length, ap, ◌∙◌, arith}
use Rattle.gba_image.specs.Backups.{backup_length}
use Rattle.gba_image.specs.declared.backup.Backup.{Backup}
use Rattle.gba_numbers.specs.declared.names.MemoryName.TheVariants as memory
use Rattle.gba_snapshot.specs.Console.{backup_in}
use Rattle.gba_thaw.proofs.console.pour_memories.Goals as goal

pub set_bytes-requires : goal.set_bytes-requires
set_bytes-requires c = omega (arith, ap length c.bytes.ensures, c.requires memory.Wram)

pub set_bytes-requires-2 : goal.set_bytes-requires-2
set_bytes-requires-2 c = omega (arith, ap length c.bytes-2.ensures, c.requires memory.Iwram)

pub set_bytes-requires-3 : goal.set_bytes-requires-3
set_bytes-requires-3 c = omega (arith, ap length c.bytes-3.ensures, c.requires memory.Palette)

pub set_bytes-requires-4 : goal.set_bytes-requires-4
set_bytes-requires-4 c = omega (arith, ap length c.bytes-4.ensures, c.requires memory.Vram)

pub set_bytes-requires-5 : goal.set_bytes-requires-5
set_bytes-requires-5 c = omega (arith, ap length c.bytes-5.ensures, c.requires memory.Oam)

pub set_bytes-requires-6 : goal.set_bytes-requires-6
set_bytes-requires-6 c =
    let kept : backup_in c.set_bytes-5.new.self ≡ backup_in c.args.console.now =
    ap backup_in c.set_bytes-5.ensures ∙ ap backup_in c.set_bytes-4.ensures ∙ ap backup_in c.set_bytes-3.ensures
    ∙ ap backup_in c.set_bytes-2.ensures ∙ ap backup_in c.set_bytes.ensures in
    omega (arith, ap length c.bytes-6.ensures, c.requires memory.Backup, ap (λ (b : Backup). backup_length b) kept)
