-- What a plan comes to, whatever its files hold.
use Rattle.std.proofs.Common.{◌≡◌, ℕ, Bool, true, false, cond, List, length, nat_lt, Option, Some, None, Result, Ok, Err, refl, ap, ◌∙◌, inl, inr}
use Rattle.gba_store.specs.Files.{Files}
use Rattle.gba_store.specs.declared.outside.ReadError.{ReadError}
use Rattle.gba_command.specs.Cause.{Cause, Stop, Refused}
use Rattle.gba_command.specs.Plan.{Plan, Done, Refuse, Read, after_file, bind, judgement, outcome}
use Rattle.gba_command.specs.Reading.{GoesTo}

-- with files of some bytes the plan comes to this
unfoldable pub ComesTo : {X : Type 0} → Plan X → X → Type 0
ComesTo (Done x) y = x ≡ y
ComesTo (Refuse cause) y = ⊥
ComesTo (Read name most long next) y = (bytes : List ℕ) × ComesTo (next bytes) y

pub goes-comes : {Store X : Type 0} (gives : List ℕ → ℕ → Result (List ℕ) ReadError → Store → Store → Type 0)
    (plan : Plan X) (old new : Store) (x : X) → GoesTo gives plan old new (Ok x) → ComesTo plan x
unfolding GoesTo ComesTo
goes-comes gives (Done y) old new x (inl h) = absurd cc
goes-comes gives (Done y) old new x (inr h) = cc
goes-comes gives (Refuse cause) old new x (inl h) = absurd cc
goes-comes gives (Refuse cause) old new x (inr h) = absurd cc
goes-comes gives (Read name most long next) old new x (inl h) = absurd cc
goes-comes gives (Read name most long next) old new x (inr (inl h)) = absurd cc
goes-comes gives (Read name most long next) old new x (inr (inr (inl h))) = absurd cc
goes-comes gives (Read name most long next) old new x (inr (inr (inr h))) =
    (h.1, goes-comes gives (next h.1) h.0 new x h.4)

-- a file that is there and isn't too long
pub record IsRead (found : Option (List ℕ)) (most : ℕ) (bytes : List ℕ) : Type 0 where
  pub there : found ≡ Some bytes
  pub short : nat_lt most (length bytes) ≡ false

pub file-ok : {Y : Type 0} (name : List ℕ) (most : ℕ) (long : Cause) (next : List ℕ → Result Y Stop)
    (found : Option (List ℕ)) (y : Y) → after_file name most long next found ≡ Ok y
    → (bytes : List ℕ) × IsRead found most bytes × (next bytes ≡ Ok y)
file-ok name most long next None y h = absurd cc
file-ok {Y} name most long next (Some bytes) y h = by_length (nat_lt most (length bytes)) refl h where
  by_length : (t : Bool) → nat_lt most (length bytes) ≡ t → cond t (Err (Refused long)) (next bytes) ≡ Ok y
      → (some : List ℕ) × IsRead (Some bytes) most some × (next some ≡ Ok y)
  by_length true e s = absurd cc
  by_length false e s = (bytes, record { there = refl; short = e }, s)

pub file-reads : {Y : Type 0} (name : List ℕ) (most : ℕ) (long : Cause) (next : List ℕ → Result Y Stop)
    (found : Option (List ℕ)) (bytes : List ℕ) → IsRead found most bytes
    → after_file name most long next found ≡ next bytes
file-reads name most long next found bytes h = rw (h.there, h.short) refl

pub outcome-comes : {X : Type 0} (files : Files) (plan : Plan X) (x : X) → outcome files plan ≡ Ok x → ComesTo plan x
unfolding outcome ComesTo
outcome-comes files (Done y) x h = cc
outcome-comes files (Refuse cause) x h = absurd cc
outcome-comes files (Read name most long next) x h =
    let f = file-ok name most long (λ bytes. outcome files (next bytes)) (files name) x h in
    (f.0, outcome-comes files (next f.0) x f.2)

pub comes-bind : {X Y : Type 0} (plan : Plan X) (following : X → Plan Y) (y : Y) → ComesTo (bind plan following) y
    → (x : X) × ComesTo plan x × ComesTo (following x) y
unfolding ComesTo
comes-bind (Done x) following y h = (x, refl, h)
comes-bind (Refuse cause) following y h = absurd h
comes-bind (Read name most long next) following y h =
    let rest = comes-bind (next h.0) following y h.1 in
    (rest.0, (h.0, rest.1), rest.2)

pub comes-judged : {X : Type 0} (due : Result X Cause) (x : X) → ComesTo (judgement due) x → due ≡ Ok x
unfolding ComesTo
comes-judged (Ok y) x h = ap (λ v. Ok v) h
comes-judged (Err cause) x h = absurd h

pub comes-done : {X : Type 0} (x y : X) → ComesTo (Done x) y → x ≡ y
unfolding ComesTo
comes-done x y h = h

-- the outcome of a plan and of what follows from it
pub outcome-parts : {X Y : Type 0} (files : Files) (plan : Plan X) (following : X → Plan Y) (y : Y)
    → outcome files (bind plan following) ≡ Ok y
    → (x : X) × (outcome files plan ≡ Ok x) × (outcome files (following x) ≡ Ok y)
unfolding outcome
outcome-parts files (Done x) following y h = (x, refl, h)
outcome-parts files (Refuse cause) following y h = absurd cc
outcome-parts files (Read name most long next) following y h =
    let f = file-ok name most long (λ bytes. outcome files (bind (next bytes) following)) (files name) y h in
    let rest = outcome-parts files (next f.0) following y f.2 in
    (rest.0, file-reads name most long (λ bytes. outcome files (next bytes)) (files name) f.0 f.1 ∙ rest.1, rest.2)

pub outcome-then : {X Y : Type 0} (files : Files) (plan : Plan X) (following : X → Plan Y) (x : X) (end : Result Y Stop)
    → outcome files plan ≡ Ok x → outcome files (following x) ≡ end → outcome files (bind plan following) ≡ end
unfolding outcome
outcome-then files (Done y) following x end h k = let same : y ≡ x = cc in rw same k
outcome-then files (Refuse cause) following x end h k = absurd cc
outcome-then files (Read name most long next) following x end h k =
    let f = file-ok name most long (λ bytes. outcome files (next bytes)) (files name) x h in
    file-reads name most long (λ bytes. outcome files (bind (next bytes) following)) (files name) f.0 f.1
    ∙ outcome-then files (next f.0) following x end f.2 k

pub outcome-done : {X : Type 0} (files : Files) (x : X) → outcome files (Done x) ≡ Ok x
unfolding outcome
outcome-done files x = refl
