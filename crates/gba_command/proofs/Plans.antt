-- Plans one after another.
use Rattle.std.proofs.Common.{◌≡◌, ◌⊎◌, ℕ, List, Result, Ok, Err, refl, sym, ap, subst, inl, inr}
use Rattle.gba_store.specs.declared.outside.ReadError.{ReadError}
use Rattle.gba_store.specs.declared.outside.ReadError.TheVariants as reading
use Rattle.gba_command.specs.declared.refusal.Refusal.{Refusal}
use Rattle.gba_command.specs.declared.refusal.Refusal.TheVariants as refusal
use Rattle.gba_command.specs.Cause.{Cause, Stop, Refused, Absent, StoreFails, LacksMemory}
use Rattle.gba_command.specs.Plan.{Plan, Done, Refuse, Read, bind, judgement}
use Rattle.gba_command.specs.Reading.{GoesTo, stop_at}
use Rattle.gba_command.specs.Views.{Agrees, end_of}

abbrev pub stop_in : {X : Type 0} → Result X Stop → Stop
stop_in (Ok x) = LacksMemory
stop_in (Err stop) = stop

abbrev pub stopped : (X : Type 0) → Stop → Result X Stop
stopped X stop = Err stop

-- the stop of one kind of result is that of another
pub same-stop : {X Y : Type 0} (one other : Stop) → stopped X one ≡ stopped X other → stopped Y one ≡ stopped Y other
same-stop {X} {Y} one other is = ap (stopped Y) (ap stop_in is)

-- memory may be wanting before anything of a plan is read
pub goes-lacks : {Store X : Type 0} (gives : List ℕ → ℕ → Result (List ℕ) ReadError → Store → Store → Type 0)
    (plan : Plan X) (old : Store) → GoesTo gives plan old old (Err LacksMemory)
unfolding GoesTo
goes-lacks gives (Done x) old = inl (refl, refl)
goes-lacks gives (Refuse cause) old = inl (refl, refl)
goes-lacks gives (Read name most long next) old = inl (refl, refl)

-- a plan that came to a value, and the plan that follows from it
pub goes-then : {Store X Y : Type 0} (gives : List ℕ → ℕ → Result (List ℕ) ReadError → Store → Store → Type 0)
    (plan : Plan X) (following : X → Plan Y) (old mid new : Store) (x : X) (end : Result Y Stop)
    → GoesTo gives plan old mid (Ok x) → GoesTo gives (following x) mid new end
    → GoesTo gives (bind plan following) old new end
unfolding GoesTo
goes-then gives (Done y) following old mid new x end (inl h) k = absurd cc
goes-then {Store} {X} {Y} gives (Done y) following old mid new x end (inr h) k =
    let same : x ≡ y = cc in
    subst (λ (v : X). GoesTo gives (following v) old new end) same
    (subst (λ (s : Store). GoesTo gives (following x) s new end) h.0 k)
goes-then gives (Refuse cause) following old mid new x end (inl h) k = absurd cc
goes-then gives (Refuse cause) following old mid new x end (inr h) k = absurd cc
goes-then gives (Read name most long next) following old mid new x end (inl h) k = absurd cc
goes-then gives (Read name most long next) following old mid new x end (inr (inl h)) k = absurd cc
goes-then gives (Read name most long next) following old mid new x end (inr (inr (inl h))) k = absurd cc
goes-then gives (Read name most long next) following old mid new x end (inr (inr (inr h))) k =
    inr (inr (inr (h.0, h.1, h.2, h.3, goes-then gives (next h.1) following h.0 mid new x end h.4 k)))

-- a plan that was stopped, whatever would have followed
pub goes-stop : {Store X Y : Type 0} (gives : List ℕ → ℕ → Result (List ℕ) ReadError → Store → Store → Type 0)
    (plan : Plan X) (following : X → Plan Y) (old new : Store) (stop : Stop)
    → GoesTo gives plan old new (Err stop) → GoesTo gives (bind plan following) old new (Err stop)
unfolding GoesTo
goes-stop {Store} {X} {Y} gives (Done y) following old new stop (inl h) =
    let is : stopped Y stop ≡ stopped Y LacksMemory = same-stop stop LacksMemory h.1 in
    subst (λ (s : Store). GoesTo gives (following y) old s (Err stop)) (sym h.0)
    (subst (λ (e : Result Y Stop). GoesTo gives (following y) old old e) (sym is) (goes-lacks gives (following y) old))
goes-stop gives (Done y) following old new stop (inr h) = absurd cc
goes-stop gives (Refuse cause) following old new stop (inl h) = inl (h.0, same-stop stop _ h.1)
goes-stop gives (Refuse cause) following old new stop (inr h) = inr (h.0, same-stop stop _ h.1)
goes-stop gives (Read name most long next) following old new stop (inl h) = inl (h.0, same-stop stop _ h.1)
goes-stop gives (Read name most long next) following old new stop (inr (inl h)) =
    inr (inl (h.0, h.1, same-stop stop _ h.2))
goes-stop gives (Read name most long next) following old new stop (inr (inr (inl h))) =
    inr (inr (inl (h.0, h.1, h.2, h.3, (h.4.0, same-stop stop _ h.4.1))))
goes-stop gives (Read name most long next) following old new stop (inr (inr (inr h))) =
    inr (inr (inr (h.0, h.1, h.2, h.3, goes-stop gives (next h.1) following h.0 new stop h.4)))

-- a judgement reads nothing
pub goes-judged : {Store X Y : Type 0} (gives : List ℕ → ℕ → Result (List ℕ) ReadError → Store → Store → Type 0)
    (view : X → Y) (due : Result Y Cause) (result : Result X Refusal) (old : Store) → Agrees view due result
    → GoesTo gives (judgement due) old old (end_of view result)
unfolding GoesTo
goes-judged {Store} {X} {Y} gives view due (Ok x) old is =
    subst (λ (d : Result Y Cause). GoesTo gives (judgement d) old old (Ok (view x))) (sym is) (inr (refl, refl))
goes-judged {Store} {X} {Y} gives view due (Err (refusal.Refused of)) old is =
    subst (λ (d : Result Y Cause). GoesTo gives (judgement d) old old (end_of view (Err (refusal.Refused of)))) (sym is)
    (inr (refl, refl))
goes-judged gives view due (Err (refusal.Absent name)) old is = absurd is
goes-judged gives view due (Err (refusal.StoreFault name)) old is = absurd is
goes-judged gives view due (Err refusal.NoMemory) old is = goes-lacks gives (judgement due) old

abbrev pub refusal_plan : (X : Type 0) → Cause → Plan X
refusal_plan X cause = Refuse cause

-- a refusal reads nothing
pub goes-refused : {Store : Type 0} (X : Type 0)
    (gives : List ℕ → ℕ → Result (List ℕ) ReadError → Store → Store → Type 0) (cause : Cause) (old : Store)
    → GoesTo gives (refusal_plan X cause) old old (Err (Refused cause))
unfolding GoesTo
goes-refused X gives cause old = inr (refl, refl)

-- whether this cause of a refusal stands somewhere in a plan
unfoldable pub Names : {X : Type 0} → Cause → Plan X → Type 0
Names cause (Done x) = ⊥
Names cause (Refuse other) = other ≡ cause
Names cause (Read name most long next) = (long ≡ cause) ⊎ ((bytes : List ℕ) × Names cause (next bytes))

abbrev pub cause_in : {X : Type 0} → Cause → Result X Stop → Cause
cause_in other (Ok x) = other
cause_in other (Err (Refused cause)) = cause
cause_in other (Err (Absent name)) = other
cause_in other (Err (StoreFails name)) = other
cause_in other (Err LacksMemory) = other

not-read : (name : List ℕ) (refusal : ReadError) (cause : Cause) → Refused cause ≡ stop_at name refusal → ⊥
not-read name reading.Absent cause is = cc
not-read name reading.Failed cause is = cc
not-read name reading.NoMemory cause is = cc

-- a plan is refused only for a cause that stands in it
pub refused-named : {Store X : Type 0} (gives : List ℕ → ℕ → Result (List ℕ) ReadError → Store → Store → Type 0)
    (plan : Plan X) (old new : Store) (cause : Cause) → GoesTo gives plan old new (Err (Refused cause))
    → Names cause plan
unfolding GoesTo Names
refused-named gives (Done x) old new cause (inl h) = absurd cc
refused-named gives (Done x) old new cause (inr h) = absurd cc
refused-named gives (Refuse other) old new cause (inl h) = absurd cc
refused-named gives (Refuse other) old new cause (inr h) = sym (ap (cause_in other) h.1)
refused-named gives (Read name most long next) old new cause (inl h) = absurd cc
refused-named gives (Read name most long next) old new cause (inr (inl h)) =
    absurd (not-read name h.0 cause (ap stop_in h.2))
refused-named gives (Read name most long next) old new cause (inr (inr (inl h))) = inl (sym (ap (cause_in long) h.4.1))
refused-named gives (Read name most long next) old new cause (inr (inr (inr h))) =
    inr (h.1, refused-named gives (next h.1) h.0 new cause h.4)

-- a plan of nothing but a refusal
pub refuses-alone : {Store X : Type 0} (gives : List ℕ → ℕ → Result (List ℕ) ReadError → Store → Store → Type 0)
    (cause : Cause) (old new : Store) (end : Result X Stop) → GoesTo gives (refusal_plan X cause) old new end
    → (new ≡ old) × ((end ≡ Err LacksMemory) ⊎ (end ≡ Err (Refused cause)))
unfolding GoesTo
refuses-alone gives cause old new end (inl h) = (h.0, inl h.1)
refuses-alone gives cause old new end (inr h) = (h.0, inr h.1)
