-- A console.
use Rattle.std.proofs.Common.{◌≡◌, ℕ, ◌∙◌, ap, Bool, true, ◌&&◌, List, None, Some, option_map, if◌then◌else◌, refl}
use Rattle.std.specs.Str.{bytes_eq}
use Rattle.std.proofs.lemmas.Slice.Eq.{bytes_eq-Decides}
use Rattle.gba_console.specs.Machine.{Machine}
use Rattle.gba_console.specs.Pouring.{machine_poured, machine_with_flash}
use Rattle.gba_console.specs.Shorn.{rested, shorn}
use Rattle.gba_console.specs.declared.pouring.ConsoleParts.{ConsoleParts}
use Rattle.gba_console.proofs.Poured.{poured-again}
use Rattle.gba_snapshot.specs.Console.{memory_bytes}
use Rattle.gba_snapshot.specs.Io.{io_bytes}
use Rattle.gba_snapshot.specs.Snapshot.{numbers_of}
use Rattle.gba_thaw.specs.Console.{console_thawed, flash_thawed, limit_thawed, machine_thawed, says_io, with_memories}
use Rattle.gba_thaw_laws.specs.Holds.{Holds}
use Rattle.gba_thaw_laws.specs.Laws.{IsStartOf, ThawsAgain}
use Rattle.gba_thaw_laws.proofs.Going.{can-go-on}
use Rattle.gba_thaw_laws.proofs.Made.{can-be-made}
use Rattle.gba_thaw_laws.proofs.Memories.{frame-again}
use Rattle.gba_thaw_laws.proofs.Parts.{parts-again}
use Rattle.gba_thaw_laws.proofs.Unseen.{IsAlike, io-unseen}

own-bytes : (bytes : List ℕ) → bytes_eq bytes bytes ≡ true
own-bytes bytes = (bytes_eq-Decides bytes bytes).1 refl

-- the console that is thawed
abbrev thawed : Machine → Machine → Machine
thawed start m = machine_thawed start (numbers_of m) (memory_bytes m.board.core) m.board.core.lines

says-again : (start m : Machine) → IsStartOf m start → Holds m
    → says_io (memory_bytes m.board.core) (thawed start m) ≡ true
says-again start m same holds =
    let parts = parts-again start m same holds in
    let alike : IsAlike m.board.core (thawed start m).board.core =
    record {
      devices = ap (λ (p : ConsoleParts). p.board.devices) parts;
      serial = ap (λ (p : ConsoleParts). p.board.serial) parts;
    } in
    ap (λ (bytes : List ℕ). bytes_eq bytes (io_bytes 512 m.board.core))
    (io-unseen 512 m.board.core (thawed start m).board.core alike)
    ∙ own-bytes (io_bytes 512 m.board.core)

shorn-again : (start m : Machine) → IsStartOf m start → Holds m → shorn (thawed start m) ≡ shorn m
shorn-again start m same holds =
    let into = machine_with_flash (flash_thawed (numbers_of m)) (with_memories (memory_bytes m.board.core) start) in
    let until = limit_thawed (numbers_of m) in
    ap (λ (p : ConsoleParts). shorn (machine_poured p m.board.core.lines until into)) (parts-again start m same holds)
    ∙ poured-again until into (rested m) (frame-again start m same holds)

thawed-by : (test : Bool) (made m : Machine) → test ≡ true → shorn made ≡ shorn m
    → option_map shorn (if test then Some made else None) ≡ Some (shorn m)
thawed-by test made m passed same =
    (λ i. option_map shorn (if passed i then Some made else None)) ∙ ap (λ (n : Machine). Some n) same

pub thaws-again : ThawsAgain
unfolding console_thawed
thaws-again until start m same holds early =
    let made = can-be-made start m same holds in
    let goes = can-go-on until start m same holds early in
    let says = says-again start m same holds in
    thawed-by _ (thawed start m) m (λ i. made i && goes i && says i) (shorn-again start m same holds)
