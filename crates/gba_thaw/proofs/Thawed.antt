-- A console that is thawed, by the tests that it passes.
use Rattle.std.proofs.Common.{◌≡◌, ℕ, ◌&&◌, Bool, true, false, List, Option, Some, None, refl, ap, sym, ◌∙◌, subst}
use Rattle.std.specs.Prelude.{if◌then◌else◌}
use Rattle.std.specs.Str.{bytes_eq}
use Rattle.gba_console.specs.Machine.{Machine}
use Rattle.gba_console.specs.declared.pouring.ConsoleParts.{ConsoleParts}
use Rattle.gba_filling.specs.Drawn.{DrawnLines}
use Rattle.gba_numbers.specs.Numbers.{ConsoleNumbers}
use Rattle.gba_numbers.specs.declared.names.MemoryName.TheVariants as memory
use Rattle.gba_snapshot.specs.Io.{io_bytes}
use Rattle.gba_thaw.specs.Console.{MemoryBytes, can_be_made, can_go_on, console_thawed, machine_thawed, parts_thawed, says_io}

-- one factor that is false makes a test of three false
pub first-false : (a b c : Bool) → a ≡ false → (a && b && c) ≡ false
first-false a b c e = rw e refl

pub second-false : (a b c : Bool) → b ≡ false → (a && b && c) ≡ false
second-false true b c e = rw e refl
second-false false b c e = refl

third-left : (a b c : Bool) → a ≡ true → b ≡ true → (a && b && c) ≡ c
third-left a b c e d = rw (e, d) refl

pub no-console : {A : Type 0} (test : Bool) (one : A) → test ≡ false → (if test then Some one else None) ≡ None
no-console test one e = rw e refl

pub none-made : (test : Bool) (parts : ConsoleParts) → None ≡ (if test then Some parts else None) → test ≡ false
none-made true parts h = absurd cc
none-made false parts h = refl

pub some-made : (test : Bool) (parts made : ConsoleParts) → Some made ≡ (if test then Some parts else None)
    → test ≡ true
some-made true parts made h = refl
some-made false parts made h = absurd cc

pub parts-made : (test : Bool) (parts made : ConsoleParts) → Some made ≡ (if test then Some parts else None)
    → made ≡ parts
parts-made true parts made h = cc
parts-made false parts made h = absurd cc

-- of the same numbers the same parts are told
pub told-of : (m : Machine) (told n : ConsoleNumbers) (io : List ℕ) (made : Option ConsoleParts) → told ≡ n
    → made ≡ (if can_be_made m told io then Some (parts_thawed m told io) else None)
    → made ≡ (if can_be_made m n io then Some (parts_thawed m n io) else None)
told-of m told n io made same is =
    subst (λ (one : ConsoleNumbers). made ≡ (if can_be_made m one io then Some (parts_thawed m one io) else None)) same
    is

module _ (until : ℕ) (m : Machine) (n : ConsoleNumbers) (bytes : MemoryBytes) (drawn : DrawnLines) (io : List ℕ)
    (is : io ≡ bytes memory.Io) where
  pub not-made : can_be_made m n io ≡ false → console_thawed until m n bytes drawn ≡ None
  unfolding console_thawed
  not-made e =
      no-console (can_be_made m n (bytes memory.Io) && can_go_on until m n (bytes memory.Io) drawn
      && says_io bytes (machine_thawed m n bytes drawn.lines)) (machine_thawed m n bytes drawn.lines)
      (first-false (can_be_made m n (bytes memory.Io)) (can_go_on until m n (bytes memory.Io) drawn)
      (says_io bytes (machine_thawed m n bytes drawn.lines)) (ap (can_be_made m n) (sym is) ∙ e))

  pub not-going : can_go_on until m n io drawn ≡ false → console_thawed until m n bytes drawn ≡ None
  unfolding console_thawed
  not-going e =
      no-console (can_be_made m n (bytes memory.Io) && can_go_on until m n (bytes memory.Io) drawn
      && says_io bytes (machine_thawed m n bytes drawn.lines)) (machine_thawed m n bytes drawn.lines)
      (second-false (can_be_made m n (bytes memory.Io)) (can_go_on until m n (bytes memory.Io) drawn)
      (says_io bytes (machine_thawed m n bytes drawn.lines))
      (ap (λ (one : List ℕ). can_go_on until m n one drawn) (sym is) ∙ e))

  pub poured : can_be_made m n io ≡ true → can_go_on until m n io drawn ≡ true → (new : Machine)
      → new ≡ machine_thawed m n bytes drawn.lines → (says : Bool) → says ≡ bytes_eq (io_bytes 512 new.board.core) io
      → console_thawed until m n bytes drawn ≡ (if says then Some new else None)
  unfolding console_thawed
  poured made goes new new_is says says_is =
      let here : says ≡ says_io bytes (machine_thawed m n bytes drawn.lines) =
      says_is ∙ ap (λ (one : List ℕ). bytes_eq (io_bytes 512 new.board.core) one) is
      ∙ ap (λ (one : Machine). bytes_eq (io_bytes 512 one.board.core) (bytes memory.Io)) new_is in
      ap (λ (test : Bool). if test then Some (machine_thawed m n bytes drawn.lines) else None)
      (third-left (can_be_made m n (bytes memory.Io)) (can_go_on until m n (bytes memory.Io) drawn)
      (says_io bytes (machine_thawed m n bytes drawn.lines)) (ap (can_be_made m n) (sym is) ∙ made)
      (ap (λ (one : List ℕ). can_go_on until m n one drawn) (sym is) ∙ goes) ∙ sym here)
      ∙ ap (λ (one : Machine). if says then Some one else None) (sym new_is)
