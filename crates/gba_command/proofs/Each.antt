-- A plan for each of a list, one after another.
use Rattle.std.proofs.Common.{◌≡◌, ℕ, List, [], ◌∷◌, ◌++◌, Result, Ok, Err, refl, ap, inr}
use Rattle.gba_store.specs.declared.outside.ReadError.{ReadError}
use Rattle.gba_command.specs.Cause.{Stop, LacksMemory}
use Rattle.gba_command.specs.Plan.{Plan, Done, each}
use Rattle.gba_command.specs.Reading.{GoesTo}
use Rattle.gba_command.proofs.Plans.{goes-lacks, goes-stop, goes-then}

-- a plan that reads nothing
pub goes-done : {Store X : Type 0} (gives : List ℕ → ℕ → Result (List ℕ) ReadError → Store → Store → Type 0) (due x : X)
    (at : Store) → x ≡ due → GoesTo gives (Done due) at at (Ok x)
unfolding GoesTo
goes-done {Store} {X} gives due x at is = inr (refl, ap (λ (y : X). Ok y) is)

-- However the reads that are left end, from where they stand now, so do those of the whole plan.
unfoldable pub Leads : {Store X : Type 0} → (List ℕ → ℕ → Result (List ℕ) ReadError → Store → Store → Type 0) → Plan X
    → Store → Plan X → Store → Type 0
Leads {Store} {X} gives whole old rest mid =
    (new : Store) (end : Result X Stop) → GoesTo gives rest mid new end → GoesTo gives whole old new end

pub leads-begin : {Store X : Type 0} (gives : List ℕ → ℕ → Result (List ℕ) ReadError → Store → Store → Type 0)
    (whole : Plan X) (old : Store) → Leads gives whole old whole old
unfolding Leads
leads-begin gives whole old new end h = h

pub leads-more : {Store X Y : Type 0} (gives : List ℕ → ℕ → Result (List ℕ) ReadError → Store → Store → Type 0)
    (whole : Plan (List Y)) (plan : X → Plan Y) (done : List Y) (x : X) (xs : List X) (y : Y) (old mid next : Store)
    → Leads gives whole old (each plan done (x ∷ xs)) mid → GoesTo gives (plan x) mid next (Ok y)
    → Leads gives whole old (each plan (done ++ y ∷ []) xs) next
unfolding Leads each
leads-more gives whole plan done x xs y old mid next h goes new end rest =
    h new end (goes-then gives (plan x) (λ y. each plan (done ++ y ∷ []) xs) mid next new y end goes rest)

pub leads-stop : {Store X Y : Type 0} (gives : List ℕ → ℕ → Result (List ℕ) ReadError → Store → Store → Type 0)
    (whole : Plan (List Y)) (plan : X → Plan Y) (done : List Y) (x : X) (xs : List X) (old mid new : Store)
    (stop : Stop) → Leads gives whole old (each plan done (x ∷ xs)) mid → GoesTo gives (plan x) mid new (Err stop)
    → GoesTo gives whole old new (Err stop)
unfolding Leads each
leads-stop gives whole plan done x xs old mid new stop h goes =
    h new (Err stop) (goes-stop gives (plan x) (λ y. each plan (done ++ y ∷ []) xs) mid new stop goes)

pub leads-end : {Store X Y : Type 0} (gives : List ℕ → ℕ → Result (List ℕ) ReadError → Store → Store → Type 0)
    (whole : Plan (List Y)) (plan : X → Plan Y) (done : List Y) (old mid : Store)
    → Leads gives whole old (each plan done []) mid → GoesTo gives whole old mid (Ok done)
unfolding Leads each
leads-end gives whole plan done old mid h = h mid (Ok done) (goes-done gives done done mid refl)

pub leads-lacks : {Store X : Type 0} (gives : List ℕ → ℕ → Result (List ℕ) ReadError → Store → Store → Type 0)
    (whole rest : Plan X) (old mid : Store) → Leads gives whole old rest mid
    → GoesTo gives whole old mid (Err LacksMemory)
unfolding Leads
leads-lacks gives whole rest old mid h = h mid (Err LacksMemory) (goes-lacks gives rest mid)
