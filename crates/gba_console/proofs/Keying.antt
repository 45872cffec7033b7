use Rattle.std.proofs.Common.{◌≡◌, ℕ, ◌+◌, ◌<◌, ◌≤◌, true, false, List, [], ◌∷◌, length, drop, get_or, refl, sym, arith}
use Rattle.std.specs.Prelude.{nat_le}
use Rattle.std.proofs.Math.ListN.{drop_of_length-le}
use Rattle.std.proofs.lemmas.Bool.Decides.{nat_tests}
use Rattle.std.proofs.lemmas.List.{drop_more}
use Rattle.gba_io.specs.Core.{Core, core_keyed}
use Rattle.gba_console.specs.Keys.{after_keys, due_count, due_of}
use Rattle.gba_console.specs.declared.keys.KeyState.{KeyState}

-- Changes of the keys, one after another.

-- none is due
pub keys-early : (clock : ℕ) (changes : List KeyState) (b : Core) → clock < due_of changes
    → after_keys clock changes b ≡ b
unfolding after_keys
keys-early clock [] b early = refl
keys-early clock (change ∷ changes) b early =
    let test : nat_le change.clock clock ≡ false = grind (arith, nat_tests) in
    rw test refl

pub count-early : (clock : ℕ) (changes : List KeyState) → clock < due_of changes → due_count clock changes ≡ 0
unfolding due_count
count-early clock [] early = refl
count-early clock (change ∷ changes) early =
    let test : nat_le change.clock clock ≡ false = grind (arith, nat_tests) in
    rw test refl

-- the next one is
pub keys-due : (clock : ℕ) (change : KeyState) (changes : List KeyState) (b : Core) → change.clock ≤ clock
    → after_keys clock (change ∷ changes) b ≡ after_keys clock changes (core_keyed change.keys b)
unfolding after_keys
keys-due clock change changes b due =
    let test : nat_le change.clock clock ≡ true = grind (arith, nat_tests) in
    rw test refl

pub count-due : (clock : ℕ) (change : KeyState) (changes : List KeyState) → change.clock ≤ clock
    → due_count clock (change ∷ changes) ≡ 1 + due_count clock changes
unfolding due_count
count-due clock change changes due =
    let test : nat_le change.clock clock ≡ true = grind (arith, nat_tests) in
    rw test refl

-- The same at a place of the list.
abbrev pub change_at : List KeyState → ℕ → KeyState
change_at changes next = get_or changes next (record { clock = 0; keys = 0 })

from : (changes : List KeyState) (next : ℕ) → next < length changes
    → drop next changes ≡ change_at changes next ∷ drop (next + 1) changes
from changes next inside = drop_more changes next (record { clock = 0; keys = 0 }) inside

pub early-at : (clock : ℕ) (changes : List KeyState) (next : ℕ) (b : Core) → next < length changes
    → clock < (change_at changes next).clock → b ≡ after_keys clock (drop next changes) b
early-at clock changes next b inside early =
    rw (from changes next inside)
    (sym (keys-early clock (change_at changes next ∷ drop (next + 1) changes) b early))

pub due-at : (clock : ℕ) (changes : List KeyState) (next : ℕ) (b c : Core) → next < length changes
    → (change_at changes next).clock ≤ clock → c ≡ core_keyed (change_at changes next).keys b
    → after_keys clock (drop (next + 1) changes) c ≡ after_keys clock (drop next changes) b
due-at clock changes next b c inside due same =
    rw (from changes next inside, same)
    (sym (keys-due clock (change_at changes next) (drop (next + 1) changes) b due))

pub none-at : (clock : ℕ) (changes : List KeyState) (next : ℕ) (b : Core) → length changes ≤ next
    → b ≡ after_keys clock (drop next changes) b
unfolding after_keys
none-at clock changes next b past = rw (drop_of_length-le changes past) refl

pub count-at : (clock : ℕ) (changes : List KeyState) (next : ℕ) → next < length changes
    → clock < (change_at changes next).clock → due_count clock (drop next changes) ≡ 0
count-at clock changes next inside early =
    rw (from changes next inside) (count-early clock (change_at changes next ∷ drop (next + 1) changes) early)

pub due-count-at : (clock : ℕ) (changes : List KeyState) (next : ℕ) → next < length changes
    → (change_at changes next).clock ≤ clock
    → due_count clock (drop next changes) ≡ 1 + due_count clock (drop (next + 1) changes)
due-count-at clock changes next inside due =
    rw (from changes next inside) (count-due clock (change_at changes next) (drop (next + 1) changes) due)

pub none-count-at : (clock : ℕ) (changes : List KeyState) (next : ℕ) → length changes ≤ next
    → due_count clock (drop next changes) ≡ 0
unfolding due_count
none-count-at clock changes next past = rw (drop_of_length-le changes past) refl
