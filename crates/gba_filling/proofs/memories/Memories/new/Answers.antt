use Rattle.std.proofs.Common.{◌≡◌, List, [], ◌∷◌, ℕ}
use Rattle.std.specs.Prelude.{replicate}
use Rattle.gba_numbers.specs.declared.names.MemoryName.{MemoryName}
use Rattle.gba_numbers.specs.declared.names.MemoryName.TheVariants as memory
use Rattle.gba_frozen.specs.Places.{memory_length}
use Rattle.gba_filling.specs.Memories.{bytes_of}
use Rattle.gba_filling.proofs.MemoryPuts.{none-put}
use Rattle.gba_filling.proofs.memories.Memories.new.Goals as goal

pub returns : goal.returns
returns c = none-put c.args.backup memories zeros where
  memories : List (List ℕ)
  memories =
      c.in_ok-zeros.field-0.items ∷ c.in_ok-zeros-2.field-0.items ∷ c.in_ok-zeros-3.field-0.items
      ∷ c.in_ok-zeros-4.field-0.items ∷ c.in_ok-zeros-5.field-0.items ∷ c.in_ok-zeros-6.field-0.items
      ∷ c.in_ok-zeros-7.field-0.items ∷ []

  zeros : (name : MemoryName) → bytes_of name memories ≡ replicate (memory_length c.args.backup name) 0
  zeros memory.Io = c.in_ok-zeros.ensures
  zeros memory.Wram = c.in_ok-zeros-2.ensures
  zeros memory.Iwram = c.in_ok-zeros-3.ensures
  zeros memory.Palette = c.in_ok-zeros-4.ensures
  zeros memory.Vram = c.in_ok-zeros-5.ensures
  zeros memory.Oam = c.in_ok-zeros-6.ensures
  zeros memory.Backup = c.in_ok-zeros-7.ensures
