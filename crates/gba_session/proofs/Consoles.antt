use Rattle.std.proofs.Common.{◌≡◌, ◌≤◌, ◌<◌, ℕ, ◌+◌, ◌∙◌, Bool, List, [], ◌∷◌, ◌++◌, length, drop, take, get_or, map, refl, sym, ap, subst, arith, append_assoc, take_all}
use Rattle.std.specs.List.{All, AllZip}
use Rattle.std.proofs.lemmas.List.{length-map, map-append, take_more}
use Rattle.std.proofs.lemmas.List.Elements.{All-append}
use Rattle.link_order.proofs.Lists.{all_cons, all_nil}
use Rattle.link_order.proofs.Hops.{cable_of_delays}
use Rattle.link_order.proofs.Starts.{sound_start}
use Rattle.link_node.specs.Delays.{AreDelays}
use Rattle.link_order.specs.Cut.{IsCable, IsFresh, IsSound, opening, plain_cut}
use Rattle.gba_joblog.specs.Soundness.{IsJob}
use Rattle.gba_console.specs.Alone.{console_kind}
use Rattle.gba_console.specs.Machine.{Machine, forgotten, limit_of, without_limit}
use Rattle.gba_image.specs.declared.images.ConsoleImages.{ConsoleImages}
use Rattle.gba_joblog.specs.declared.outputs.PerKind.{PerKind}
use Rattle.gba_joblog.proofs.OutputNames.{at_item}
use Rattle.gba_joblog.specs.Job.{ConsoleJob, WholeJob}
use Rattle.gba_session.specs.Files.{all_files, asks_of}
use Rattle.gba_session.specs.Start.{FitsConsole, console_at, consoles_from}
use Rattle.gba_joblog.specs.Views.{console_value}
use Rattle.gba_joblog.specs.declared.job.JobConsole.{JobConsole}
use Rattle.gba_session.specs.Held.{IsUnused, asks_in}
use Rattle.gba_session.specs.declared.player.Player.{Player}

-- The consoles of a job, one after another.

consoles-cons : (job : WholeJob) (player : ℕ) (console : ConsoleJob) (consoles left : List ConsoleJob)
    (one : ConsoleImages) (rest : List ConsoleImages) → left ≡ console ∷ consoles
    → consoles_from job player left (one ∷ rest)
    ≡ without_limit (console_at job player console one) ∷ consoles_from job (player + 1) consoles rest
unfolding consoles_from
consoles-cons job player console consoles left one rest is = rw is refl

-- there are as many images as consoles
pub fit-long : (consoles : List ConsoleJob) (images : List ConsoleImages) → AllZip FitsConsole consoles images
    → length images ≡ length consoles
fit-long [] [] fit = refl
fit-long [] (one ∷ images) fit = absurd fit
fit-long (c ∷ consoles) [] fit = absurd fit
fit-long (c ∷ consoles) (one ∷ images) fit = omega (arith, fit-long consoles images fit.1)

-- the images of the next console fit it, and those that are left the consoles that are left
pub fit-next : (player : ℕ) (consoles : List ConsoleJob) (said : ConsoleJob) (left rest : List ConsoleImages)
    (one : ConsoleImages) → player < length consoles → said ≡ get_or consoles player said → left ≡ one ∷ rest
    → AllZip FitsConsole (drop player consoles) left
    → FitsConsole said one × AllZip FitsConsole (drop (player + 1) consoles) rest
fit-next player consoles said left rest one within here split fit =
    let first : drop player consoles ≡ said ∷ drop (player + 1) consoles = at_item consoles player said within here in
    let P : List ConsoleJob → List ConsoleImages → Type 0 = λ cs is. AllZip FitsConsole cs is in
    subst (λ (is : List ConsoleImages). P (said ∷ drop (player + 1) consoles) is) split
    (subst (λ (cs : List ConsoleJob). P cs left) first fit)

-- the consoles so far and those that are left
pub consoles-more : (job : WholeJob) (player : ℕ) (said : ConsoleJob) (made : List Machine) (console : Machine)
    (one : ConsoleImages) (rest : List ConsoleImages) (all : List Machine) → player < length job.consoles
    → said ≡ get_or job.consoles player said
    → made ++ consoles_from job player (drop player job.consoles) (one ∷ rest) ≡ all
    → without_limit console ≡ without_limit (console_at job player said one)
    → (made ++ (without_limit console ∷ [])) ++ consoles_from job (player + 1) (drop (player + 1) job.consoles) rest
    ≡ all
consoles-more job player said made console one rest all within here before is =
    let cs = job.consoles in
    let split : drop player cs ≡ said ∷ drop (player + 1) cs = at_item cs player said within here in
    let more = consoles-cons job player said (drop (player + 1) cs) (drop player cs) one rest split in
    let left = consoles_from job (player + 1) (drop (player + 1) cs) rest in
    append_assoc made (without_limit console ∷ []) left
    ∙ ap (λ (m : Machine). made ++ (m ∷ left)) is
    ∙ ap (λ ms. made ++ ms) (sym more)
    ∙ before

map-one : (old : List Machine) (console : Machine)
    → map without_limit (old ++ (console ∷ [])) ≡ map without_limit old ++ (without_limit console ∷ [])
map-one old console = map-append without_limit old (console ∷ [])

pub kept-consoles : (job : WholeJob) (player : ℕ) (said : ConsoleJob) (old new : List Machine) (console : Machine)
    (one : ConsoleImages) (left rest : List ConsoleImages) (all : List Machine) → player < length job.consoles
    → said ≡ get_or job.consoles player said
    → new ≡ old ++ (console ∷ []) → left ≡ one ∷ rest
    → without_limit console ≡ without_limit (console_at job player said one)
    → map without_limit old ++ consoles_from job player (drop player job.consoles) left ≡ all
    → map without_limit new ++ consoles_from job (player + 1) (drop (player + 1) job.consoles) rest ≡ all
kept-consoles job player said old new console one left rest all within here kept split is before =
    ap (λ ms. map without_limit ms ++ consoles_from job (player + 1) (drop (player + 1) job.consoles) rest) kept
    ∙ ap (λ ms. ms ++ consoles_from job (player + 1) (drop (player + 1) job.consoles) rest) (map-one old console)
    ∙ consoles-more job player said (map without_limit old) console one rest all within here
    (ap (λ (xs : List ConsoleImages). map without_limit old ++ consoles_from job player (drop player job.consoles) xs)
    (sym split)
    ∙ before) is

-- the limits of consoles of which one more is kept
pub kept-limits : (until : ℕ) (old new : List Machine) (console : Machine) → new ≡ old ++ (console ∷ [])
    → limit_of console ≡ until → All (λ limit. until ≤ limit) (map limit_of old)
    → All (λ limit. until ≤ limit) (map limit_of new)
kept-limits until old new console kept is before =
    let P : List ℕ → Type 0 = λ xs. All (λ limit. until ≤ limit) xs in
    let whole : map limit_of new ≡ map limit_of old ++ (limit_of console ∷ []) =
    ap (map limit_of) kept ∙ map-append limit_of old (console ∷ []) in
    subst P (sym whole) (All-append (λ limit. until ≤ limit) (map limit_of old) (limit_of console ∷ []) before
    (all_cons (λ limit. until ≤ limit) (limit_of console) [] (omega (arith, is)) (all_nil (λ limit. until ≤ limit))))

pub consoles-none : (job : WholeJob) (player : ℕ) (left : List ConsoleJob) → consoles_from job player left [] ≡ []
unfolding consoles_from
consoles-none job player [] = refl
consoles-none job player (console ∷ left) = refl

-- no console has stepped at reset
all-fresh : (job : WholeJob) (player : ℕ) (consoles : List ConsoleJob) (images : List ConsoleImages)
    → All (IsFresh console_kind) (consoles_from job player consoles images)
unfolding consoles_from
all-fresh job player [] images = all_nil (IsFresh console_kind)
all-fresh job player (console ∷ consoles) [] = all_nil (IsFresh console_kind)
all-fresh job player (console ∷ consoles) (one ∷ images) =
    all_cons (IsFresh console_kind) (without_limit (console_at job player console one))
    (consoles_from job (player + 1) consoles images) (record { clock_is = refl; was_is = refl })
    (all-fresh job (player + 1) consoles images)

pub consoles-length : (job : WholeJob) (player : ℕ) (consoles : List ConsoleJob) (images : List ConsoleImages)
    → length images ≡ length consoles → length (consoles_from job player consoles images) ≡ length consoles
unfolding consoles_from
consoles-length job player [] images same = refl
consoles-length job player (console ∷ consoles) [] same = absurd (omega (arith, same))
consoles-length job player (console ∷ consoles) (one ∷ images) same =
    let rest = consoles-length job (player + 1) consoles images (omega (arith, same)) in omega (arith, rest)

-- the cut of a job's consoles at reset is a sound one
module _ (job : WholeJob) (images : List ConsoleImages) (made : List Machine) (sound : IsJob job)
    (whole : length images ≡ length job.consoles)
    (is : map without_limit made ≡ consoles_from job 0 job.consoles images) where
  pub made-length : length made ≡ length job.consoles
  made-length =
      sym (length-map made without_limit) ∙ ap length is ∙ consoles-length job 0 job.consoles images whole

  pub start-sound : IsSound console_kind (plain_cut without_limit (opening made job.delays))
  start-sound =
      let P : List Machine → Type 0 = λ xs. IsSound console_kind (opening xs job.delays) in
      subst P (sym is)
      (sound_start console_kind (consoles_from job 0 job.consoles images) job.delays
      (all-fresh job 0 job.consoles images))

  pub start-delays : AreDelays job.delays
  start-delays = sound.delays.within

  pub start-cable : IsCable (plain_cut without_limit (opening made job.delays))
  start-cable =
      let many = length-map made without_limit in
      cable_of_delays (plain_cut without_limit (opening made job.delays))
      (omega (arith, many, made-length, sound.some_consoles)) (omega (arith, many, made-length, sound.few_consoles))
      start-delays

-- one more player, who is asked for what its console is
pub asks-more : (i : ℕ) (made : List JobConsole) (x : JobConsole) (old new : List Player) (p : Player)
    → i < length made → x ≡ get_or made i x → new ≡ old ++ p ∷ [] → p.asks ≡ asks_of (console_value x)
    → map asks_in old ≡ map (λ console. asks_of (console_value console)) (take i made)
    → map asks_in new ≡ map (λ console. asks_of (console_value console)) (take (i + 1) made)
asks-more i made x old new p within here kept is before =
    let f = λ (console : JobConsole). asks_of (console_value console) in
    let split : take (i + 1) made ≡ take i made ++ x ∷ [] =
    take_more made i x within ∙ ap (λ y. take i made ++ y ∷ []) (sym here) in
    ap (map asks_in) kept ∙ map-append asks_in old (p ∷ [])
    ∙ ap (λ (asks : PerKind Bool). map asks_in old ++ asks ∷ []) is
    ∙ ap (λ (all : List (PerKind Bool)). all ++ f x ∷ []) before ∙ sym (map-append f (take i made) (x ∷ []))
    ∙ ap (map f) (sym split)

asks-map : (made : List JobConsole)
    → map (λ console. asks_of (console_value console)) made ≡ map asks_of (map console_value made)
asks-map [] = refl
asks-map (console ∷ made) = ap (λ asks. asks_of (console_value console) ∷ asks) (asks-map made)

pub asks-are : (i : ℕ) (made : List JobConsole) (players : List Player) → length made ≤ i
    → map asks_in players ≡ map (λ console. asks_of (console_value console)) (take i made)
    → map asks_in players ≡ map asks_of (map console_value made)
asks-are i made players over is =
    is ∙ ap (map (λ console. asks_of (console_value console))) (take_all i made over) ∙ asks-map made

pub unused-more : (old new : List Player) (p : Player) → new ≡ old ++ p ∷ [] → IsUnused p → All IsUnused old
    → All IsUnused new
unused-more old new p kept is before =
    subst (All IsUnused) (sym kept)
    (All-append IsUnused old (p ∷ []) before (all_cons IsUnused p [] is (all_nil IsUnused)))

-- at reset the lists of consoles are empty
pub consoles-empty : (job : WholeJob) (player : ℕ) (consoles : List ConsoleJob) (images : List ConsoleImages)
    → map forgotten (consoles_from job player consoles images) ≡ consoles_from job player consoles images
unfolding consoles_from
consoles-empty job player [] images = refl
consoles-empty job player (console ∷ consoles) [] = refl
consoles-empty job player (console ∷ consoles) (one ∷ images) =
    ap (λ (ms : List Machine). without_limit (console_at job player console one) ∷ ms)
    (consoles-empty job (player + 1) consoles images)

-- there are as many files as consoles
pub files-long : (asks : List (PerKind Bool)) (machines : List Machine) → length asks ≡ length machines
    → length (all_files asks machines) ≡ length asks
unfolding all_files
files-long [] machines same = refl
files-long (one ∷ asks) [] same = absurd (omega (arith, same))
files-long (one ∷ asks) (m ∷ machines) same =
    let rest = files-long asks machines (omega (arith, same)) in omega (arith, rest)
