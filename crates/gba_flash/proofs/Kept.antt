use Rattle.std.proofs.Common.{◌≡◌, ◌≢◌, ℕ, ◌+◌, ◌/◌, ◌<◌, ◌==◌, Bool, true, false, ◌&&◌, List, slice_index, refl, sym, ◌∙◌, arith}
use Rattle.std.proofs.lemmas.Bool.Decides.{nat_tests}
use Rattle.std.proofs.lemmas.List.{get_or-set_other}
use Rattle.gba_flash.specs.Flash.{FlashMemory, bytes_after, command_of, flash_written, is_commanding, is_programming, place_in, sector_of, sector_size, written_in}
use Rattle.gba_flash.specs.Laws.{KeepsBytes}
use Rattle.gba_flash.specs.declared.machine.Command.{Command}
use Rattle.gba_flash.specs.declared.machine.Command.TheVariants as command
use Rattle.gba_flash.specs.declared.machine.FlashState.{FlashState}
use Rattle.gba_flash.specs.declared.machine.FlashState.TheVariants.{Ready, First, Second, Program, Bank}
use Rattle.gba_flash.proofs.Commands.{all-said, is_all, is_sector, sector-said}
use Rattle.gba_flash.proofs.Erased.{erased-apart}

-- the places of a sector
other-sector : (place at k : ℕ) → place / sector_size ≢ at / sector_size → k < sector_size → place ≢ sector_of at + k
other-sector place at k other below same = other (omega (arith, below, same))

kept-by : (c : Command) (place at : ℕ) (bytes : List ℕ) → is_all c ≡ false
    → (is_sector c ≡ true → place / sector_size ≢ at / sector_size)
    → slice_index (bytes_after c at bytes) place ≡ slice_index bytes place
kept-by command.Arm place at bytes all sector = refl
kept-by (command.Identify identify) place at bytes all sector = refl
kept-by command.Program place at bytes all sector = refl
kept-by command.Bank place at bytes all sector = refl
kept-by command.EraseAll place at bytes all sector = absurd cc
kept-by command.EraseSector place at bytes all sector =
    erased-apart (sector_of at) sector_size place bytes (λ k below. other-sector place at k (sector refl) below)
kept-by command.Nothing place at bytes all sector = refl

-- one test is false where the other is true
apart-by : (armed is_value : Bool) (a b : ℕ) → armed && (is_value && (a == b)) ≡ false
    → armed && is_value ≡ true → a ≢ b
apart-by true true a b none both same = grind (arith, nat_tests, none, same)
apart-by true false a b none both same = absurd cc
apart-by false is_value a b none both same = absurd cc

kept-in : (state : FlashState) (place offset value : ℕ) (f : FlashMemory)
    → is_programming state && (place == place_in f.machine offset) ≡ false
    → (is_commanding state && f.machine.armed) && ((offset == 0x5555) && (value == 0x10)) ≡ false
    → (is_commanding state && f.machine.armed)
    && ((value == 0x30) && (place / sector_size == place_in f.machine offset / sector_size)) ≡ false
    → slice_index (written_in state offset value f).bytes place ≡ slice_index f.bytes place
kept-in Ready place offset value f one all sector = refl
kept-in First place offset value f one all sector = refl
kept-in Second place offset value f one all sector =
    let armed = f.machine.armed in
    kept-by (command_of offset value f.backup armed) place (place_in f.machine offset) f.bytes
    (all-said offset value f.backup armed ∙ all)
    (λ said. apart-by armed (value == 0x30) _ _ sector (sym (sector-said offset value f.backup armed) ∙ said))
kept-in Program place offset value f one all sector =
    get_or-set_other f.bytes (place_in f.machine offset) place _ 0 (λ same. apart-by true true _ _ one refl same)
kept-in Bank place offset value f one all sector = refl

pub keeps-bytes : KeepsBytes
unfolding flash_written
keeps-bytes place offset value f one all sector = kept-in f.machine.state place offset value f one all sector
