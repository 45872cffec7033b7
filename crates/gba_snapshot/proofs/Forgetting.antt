-- What is written of a console doesn't tell of the lists of what it made, nor of the end of their room.
use Rattle.std.proofs.Common.{◌≡◌, ℕ, ◌+◌, ◌∙◌, List, [], ◌∷◌, ◌++◌, map, refl, ap, sym}
use Rattle.gba_console.specs.Machine.{Machine, forgotten, without_limit}
use Rattle.gba_console.specs.Segments.{behind}
use Rattle.gba_frozen.specs.Reading.{ConsoleDraft}
use Rattle.gba_frozen_text.specs.Text.{console_says, says_text}
use Rattle.gba_numbers.specs.Numbers.{ConsoleNumbers}
use Rattle.gba_numbers.specs.declared.fields.Field.{Field}
use Rattle.gba_numbers.specs.declared.fields.Field.TheVariants as console
use Rattle.gba_snapshot.specs.Console.{backup_in, console_text, draft_of, state_file}
use Rattle.gba_snapshot.specs.File.{consoles_text, frozen_file}
use Rattle.gba_snapshot.specs.Snapshot.{console_number, numbers_of, single_fields}
use Rattle.link_order.specs.Cut.{Cut, plain_cut}

module _ (m : Machine) where
  number-forgotten : (field : Field) → console_number field (forgotten m) ≡ console_number field m
  unfolding console_number
  number-forgotten console.Clock = refl
  number-forgotten console.Was = refl
  number-forgotten console.Applied = refl
  number-forgotten (console.Register register) = refl
  number-forgotten (console.Board field) = refl
  number-forgotten (console.QueueByte queue place) = refl
  number-forgotten console.Frames = refl
  number-forgotten console.Samples = refl
  number-forgotten console.Words = refl
  number-forgotten console.FlashState = refl
  number-forgotten console.FlashArmed = refl
  number-forgotten console.FlashIdentify = refl
  number-forgotten console.FlashBank = refl

  number-unlimited : (field : Field) → console_number field (without_limit m) ≡ console_number field m
  unfolding console_number
  number-unlimited console.Clock = refl
  number-unlimited console.Was = refl
  number-unlimited console.Applied = refl
  number-unlimited (console.Register register) = refl
  number-unlimited (console.Board field) = refl
  number-unlimited (console.QueueByte queue place) = refl
  number-unlimited console.Frames = refl
  number-unlimited console.Samples = refl
  number-unlimited console.Words = refl
  number-unlimited console.FlashState = refl
  number-unlimited console.FlashArmed = refl
  number-unlimited console.FlashIdentify = refl
  number-unlimited console.FlashBank = refl

-- the same numbers in the same order
all-same : (one other : Field → ℕ) → ((field : Field) → one field ≡ other field) → (fields : List Field)
    → map one fields ≡ map other fields
all-same one other same [] = refl
all-same one other same (field ∷ fields) =
    ap (λ (n : ℕ). n ∷ map one fields) (same field)
    ∙ ap (λ (ns : List ℕ). other field ∷ ns) (all-same one other same fields)

with_values : List ℕ → Machine → ConsoleNumbers
with_values values m = record {
  values = values;
  queue_a = m.board.core.devices.sound.queue_a.bytes;
  queue_b = m.board.core.devices.sound.queue_b.bytes;
  wave0 = m.board.core.devices.tones.wave.bank0;
  wave1 = m.board.core.devices.tones.wave.bank1;
}

pub numbers-forgotten : (m : Machine) → numbers_of (forgotten m) ≡ numbers_of m
unfolding numbers_of with_values
numbers-forgotten m =
    ap (λ (values : List ℕ). with_values values m)
    (all-same (λ f. console_number f (forgotten m)) (λ f. console_number f m) (number-forgotten m) single_fields)

numbers-unlimited : (m : Machine) → numbers_of (without_limit m) ≡ numbers_of m
unfolding numbers_of with_values
numbers-unlimited m =
    ap (λ (values : List ℕ). with_values values m)
    (all-same (λ f. console_number f (without_limit m)) (λ f. console_number f m) (number-unlimited m) single_fields)

with_numbers : ConsoleNumbers → Machine → ConsoleDraft
with_numbers n m = record (draft_of m) { numbers = n }

draft-forgotten : (m : Machine) → draft_of (forgotten m) ≡ draft_of m
unfolding draft_of with_numbers
draft-forgotten m = ap (λ (n : ConsoleNumbers). with_numbers n m) (numbers-forgotten m)

draft-unlimited : (m : Machine) → draft_of (without_limit m) ≡ draft_of m
unfolding draft_of with_numbers
draft-unlimited m = ap (λ (n : ConsoleNumbers). with_numbers n m) (numbers-unlimited m)

pub state-forgotten : (m : Machine) → state_file (forgotten m) ≡ state_file m
state-forgotten m = rw (numbers-forgotten m) refl

pub state-unlimited : (m : Machine) → state_file (without_limit m) ≡ state_file m
state-unlimited m = rw (numbers-unlimited m) refl

-- nor of lists that stand in front
pub state-behind : (first m : Machine) → state_file (behind first m) ≡ state_file m
state-behind first m =
    let plain : state_file (forgotten (behind first m)) ≡ state_file (behind first m) =
    state-forgotten (behind first m) in
    let same : state_file (forgotten (behind first m)) ≡ state_file m = state-forgotten m in
    sym plain ∙ same

console-forgotten : (player : ℕ) (m : Machine) → console_text player (forgotten m) ≡ console_text player m
console-forgotten player m =
    ap (λ (d : ConsoleDraft). says_text (console_says (backup_in m) player d)) (draft-forgotten m)

console-unlimited : (player : ℕ) (m : Machine) → console_text player (without_limit m) ≡ console_text player m
console-unlimited player m =
    ap (λ (d : ConsoleDraft). says_text (console_says (backup_in m) player d)) (draft-unlimited m)

heads : {X : Type 0} (x y : X) (xs ys : List X) → x ∷ xs ≡ y ∷ ys → x ≡ y
heads x y xs ys h = cc

tails : {X : Type 0} (x y : X) (xs ys : List X) → x ∷ xs ≡ y ∷ ys → xs ≡ ys
tails x y xs ys h = cc

consoles-forgotten : (player : ℕ) (ms ws : List Machine) → map forgotten ms ≡ map forgotten ws
    → consoles_text player ms ≡ consoles_text player ws
unfolding consoles_text
consoles-forgotten player [] [] same = refl
consoles-forgotten player [] (w ∷ ws) same = absurd cc
consoles-forgotten player (m ∷ ms) [] same = absurd cc
consoles-forgotten player (m ∷ ms) (w ∷ ws) same =
    let head : forgotten m ≡ forgotten w =
    heads (forgotten m) (forgotten w) (map forgotten ms) (map forgotten ws) same in
    let one : console_text player m ≡ console_text player w =
    sym (console-forgotten player m) ∙ ap (console_text player) head ∙ console-forgotten player w in
    ap (λ (text : List ℕ). text ++ consoles_text (player + 1) ms) one
    ∙ ap (λ (text : List ℕ). console_text player w ++ text)
    (consoles-forgotten (player + 1) ms ws
    (tails (forgotten m) (forgotten w) (map forgotten ms) (map forgotten ws) same))

consoles-unlimited : (player : ℕ) (ms : List Machine)
    → consoles_text player (map without_limit ms) ≡ consoles_text player ms
unfolding consoles_text
consoles-unlimited player [] = refl
consoles-unlimited player (m ∷ ms) =
    ap (λ (text : List ℕ). text ++ consoles_text (player + 1) (map without_limit ms)) (console-unlimited player m)
    ∙ ap (λ (text : List ℕ). console_text player m ++ text) (consoles-unlimited (player + 1) ms)

with_consoles : Cut Machine → List Machine → Cut Machine
with_consoles cut consoles = record cut { consoles = consoles }

-- the frozen file of consoles that differ in their lists alone is the same
pub file-forgotten : (digest : List ℕ) (one other : Cut Machine)
    → map forgotten one.consoles ≡ map forgotten other.consoles → one.sent ≡ other.sent
    → frozen_file digest one ≡ frozen_file digest other
unfolding frozen_file
file-forgotten digest one other consoles sent =
    rw (consoles-forgotten 0 one.consoles other.consoles consoles, sent) refl

pub file-unlimited : (digest : List ℕ) (cut : Cut Machine)
    → frozen_file digest (plain_cut without_limit cut) ≡ frozen_file digest cut
unfolding frozen_file
file-unlimited digest cut = rw (consoles-unlimited 0 cut.consoles) refl
