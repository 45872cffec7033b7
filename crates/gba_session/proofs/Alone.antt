-- A console that is alone on its cable: its own run is the global order's.
use Rattle.std.proofs.Common.{◌≡◌, ◌≤◌, ◌+◌, ℕ, zero, suc, Bool, true, false, List, [], ◌∷◌, ◌∙◌, length, get_or, refl, sym, ap, arith, if◌then◌else◌}
use Rattle.std.specs.List.{All}
use Rattle.std.specs.Prelude.{Option, Some, None, filter, nat_lt, slice_set}
use Rattle.link_node.specs.declared.signal.Signal.{Signal}
use Rattle.link_node.specs.declared.delays.Delays.{Delays}
use Rattle.link_order.proofs.Lists.{all_head, all_map, all_nil, all_tail}
use Rattle.link_order.proofs.Sound.{joined_all}
use Rattle.link_order.specs.Cut.{IsSound, IsSoundSignal, is_live, live}
use Rattle.link_order.specs.GlobalOrder.{after_turns, cycles_left, trace_of, with_signal}
use Rattle.link_order.specs.declared.sent.Sent.{Sent}
use Rattle.gba_console.proofs.Alone.{turns, turns-end, turns-go}
use Rattle.gba_console.proofs.Unlimited.{stepped-unlimited}
use Rattle.gba_console.specs.Alone.{alone, console_kind}
use Rattle.gba_console.specs.Machine.{Machine, clock_of, without_limit}
use Rattle.gba_console.specs.Run.{IsEnough, StepPasses, run, run_to}
use Rattle.gba_console.specs.Step.{next, told}
use Rattle.gba_session.specs.Start.{run_until}

-- how far a console may run is no part of its run
by-test : (test : Bool) (x y m : Machine) → x ≡ without_limit y
    → (if test then x else without_limit m) ≡ without_limit (if test then y else m)
by-test true x y m is = is
by-test false x y m is = refl

run-unlimited : (most until : ℕ) (m : Machine) → run most until (without_limit m) ≡ without_limit (run most until m)
unfolding run
run-unlimited zero until m = refl
run-unlimited (suc most) until m =
    by-test (nat_lt (clock_of m) until) (run most until (next (without_limit m))) (run most until (next m)) m
    (ap (run most until) (stepped-unlimited [] m) ∙ run-unlimited most until (next m))

-- what a console alone has told
abbrev pub IsOwn : Sent → Type 0
IsOwn one = one.sender ≡ 0

own-joined : (o : Option Signal) (sent : List Sent) → All IsOwn sent → All IsOwn (with_signal 0 o sent)
own-joined None sent own = own
own-joined (Some s) sent own = joined_all IsOwn 0 (Some s) sent refl own

record Ends (most until : ℕ) (m : Machine) (delays : Delays) (sent : List Sent) : Type 0 where
  said : List Sent
  own : All IsOwn said
  is : turns most until m delays sent ≡ alone (run most until m) delays said

run-more : (most until : ℕ) (m : Machine) → nat_lt (clock_of m) until ≡ true
    → run (suc most) until m ≡ run most until (next m)
unfolding run
run-more most until m is = rw is refl

run-over : (most until : ℕ) (m : Machine) → nat_lt (clock_of m) until ≡ false → run (suc most) until m ≡ m
unfolding run
run-over most until m is = rw is refl

turns-none : (until : ℕ) (m : Machine) (delays : Delays) (sent : List Sent)
    → turns 0 until m delays sent ≡ alone m delays sent
unfolding trace_of after_turns
turns-none until m delays sent = refl

run-none : (until : ℕ) (m : Machine) → run 0 until m ≡ m
unfolding run
run-none until m = refl

ends-by : (test : Bool) (most until : ℕ) (m : Machine) (delays : Delays) (sent : List Sent)
    → nat_lt (clock_of m) until ≡ test → All IsOwn sent
    → Ends most until (next m) delays (with_signal 0 (told [] m) sent) → Ends (suc most) until m delays sent
ends-by true most until m delays sent is own rest = record {
  said = rest.said;
  own = rest.own;
  is = turns-go most until m delays sent is ∙ rest.is
      ∙ ap (λ (x : Machine). alone x delays rest.said) (sym (run-more most until m is));
}
ends-by false most until m delays sent is own rest = record {
  said = sent;
  own = own;
  is = turns-end (suc most) until m delays sent is
      ∙ ap (λ (x : Machine). alone x delays sent) (sym (run-over most until m is));
}

ends : (most until : ℕ) (m : Machine) (delays : Delays) (sent : List Sent) → All IsOwn sent
    → Ends most until m delays sent
ends zero until m delays sent own = record {
  said = sent;
  own = own;
  is = turns-none until m delays sent ∙ ap (λ (x : Machine). alone x delays sent) (sym (run-none until m));
}
ends (suc most) until m delays sent own =
    ends-by (nat_lt (clock_of m) until) most until m delays sent refl own
    (ends most until (next m) delays (with_signal 0 (told [] m) sent) (own-joined (told [] m) sent own))

-- no one else is there to take it
dead : (m : Machine) (delays : Delays) (sent : List Sent) (one : Sent) → IsOwn one
    → is_live console_kind (alone m delays sent) one ≡ false
dead m delays sent one own = rw own refl

all-dead : (m : Machine) (delays : Delays) (sent left : List Sent) → All IsOwn left
    → filter (is_live console_kind (alone m delays sent)) left ≡ []
all-dead m delays sent [] own = refl
all-dead m delays sent (one ∷ left) own =
    let here = dead m delays sent one (all_head IsOwn one left own) in
    let rest = all-dead m delays sent left (all_tail IsOwn one left own) in
    rw here rest

pub alone-runs : IsEnough → (until : ℕ) (delays : Delays) (sent : List Sent) (m : Machine) → All IsOwn sent
    → run_until until (alone (without_limit m) delays sent) ≡ alone (without_limit (run_to until m)) delays []
alone-runs enough until delays sent m own =
    let plain = without_limit m in
    let left = cycles_left console_kind (alone plain delays sent) until in
    let e = ends left until plain delays sent own in
    ap (live console_kind) e.is
    ∙ ap (λ (xs : List Sent). alone (run left until plain) delays xs)
    (all-dead (run left until plain) delays e.said e.said e.own)
    ∙ ap (λ (x : Machine). alone x delays []) (enough until left until plain (omega arith) (omega arith))
    ∙ ap (λ (x : Machine). alone x delays []) (run-unlimited until until m)

-- a console's last step took at most 512 cycles
pub record IsClose (m : Machine) : Type 0 where
  pub begun : m.was ≤ clock_of m
  pub short : clock_of m ≤ m.was + 512

close-by : (test : Bool) (x m : Machine) → IsClose x → IsClose m → IsClose (if test then x else m)
close-by true x m a b = a
close-by false x m a b = b

pub close-run : ((m : Machine) → StepPasses [] m) → (most until : ℕ) (m : Machine) → IsClose m
    → IsClose (run most until m)
unfolding run
close-run steps zero until m close = close
close-run steps (suc most) until m close =
    let s = steps m in
    let after : IsClose (next m) =
    record { begun = omega (arith, s.raised, s.was); short = omega (arith, s.short, s.was) } in
    close-by (nat_lt (clock_of m) until) (run most until (next m)) m (close-run steps most until (next m) after) close

-- a list of one
pub one-is : {X : Type 0} (xs : List X) (d : X) → length xs ≡ 1 → xs ≡ get_or xs 0 d ∷ []
one-is [] d long = absurd (omega (arith, long))
one-is (x ∷ []) d long = refl
one-is (x ∷ y ∷ xs) d long = absurd (omega (arith, long))

pub set-one : {X : Type 0} (xs : List X) (x : X) → length xs ≡ 1 → slice_set xs 0 x ≡ x ∷ []
set-one [] x long = absurd (omega (arith, long))
set-one (y ∷ []) x long = refl
set-one (y ∷ z ∷ xs) x long = absurd (omega (arith, long))

-- a console alone with nothing on its way is a sound cut of a cable
pub alone-sound : (m : Machine) (delays : Delays) → IsClose m → IsSound console_kind (alone m delays [])
alone-sound m delays close = record {
  near = λ i j a b apart. absurd (apart (omega (arith, a, b)));
  begun = λ i a. let first : i ≡ 0 = omega (arith, a) in rw first close.begun;
  short = λ i a. let first : i ≡ 0 = omega (arith, a) in rw first close.short;
  signals = all_nil _;
  ordered = λ i j d less below. absurd (omega (arith, below));
}

-- what is on its way in a sound cut of one console is its own
pub sound-own : (m : Machine) (delays : Delays) (sent : List Sent) → IsSound console_kind (alone m delays sent)
    → All IsOwn sent
sound-own m delays sent sound =
    all_map (IsSoundSignal console_kind (alone m delays sent)) IsOwn sent (λ one h. omega (arith, h.from_player))
    sound.signals

pub sound-close : (m : Machine) (delays : Delays) (sent : List Sent) → IsSound console_kind (alone m delays sent)
    → IsClose m
sound-close m delays sent sound = record { begun = sound.begun 0 (omega arith); short = sound.short 0 (omega arith) }
