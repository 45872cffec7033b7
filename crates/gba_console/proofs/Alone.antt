-- The global order's run of one console.
use Rattle.std.proofs.Common.{◌≡◌, ℕ, zero, suc, Bool, true, false, List, [], ◌∷◌, refl, ap, ◌∙◌, arith, if◌then◌else◌}
use Rattle.std.specs.Prelude.{nat_lt}
use Rattle.link_node.specs.declared.delays.Delays.{Delays}
use Rattle.link_order.specs.Cut.{Cut, clock_at}
use Rattle.link_order.proofs.Runs.{after_none, after_one, trace_ends, trace_goes}
use Rattle.link_order.specs.GlobalOrder.{after_turns, cycles_left, least, step_of, trace_of, with_signal}
use Rattle.link_order.specs.declared.sent.Sent.{Sent}
use Rattle.gba_console.specs.Alone.{RunsAlone, alone, console_kind}
use Rattle.gba_console.specs.Machine.{Machine, clock_of}
use Rattle.gba_console.specs.Run.{IsEnough, run}
use Rattle.gba_console.specs.Step.{next, told}

-- it has the least clock
same-if : (test : Bool) (n : ℕ) → (if test then n else n) ≡ n
same-if true n = refl
same-if false n = refl

least-alone : (m : Machine) (delays : Delays) (sent : List Sent) → least console_kind (alone m delays sent) ≡ 0
least-alone m delays sent = same-if (nat_lt (clock_of m) (clock_of m)) 0

-- whether it goes on
test-alone : (until : ℕ) (m : Machine) (delays : Delays) (sent : List Sent) (test : Bool)
    → nat_lt (clock_of m) until ≡ test
    → nat_lt (clock_at console_kind (alone m delays sent) (least console_kind (alone m delays sent))) until ≡ test
test-alone until m delays sent test is =
    ap (λ i. nat_lt (clock_at console_kind (alone m delays sent) i) until) (least-alone m delays sent) ∙ is

abbrev pub turns : ℕ → ℕ → Machine → Delays → List Sent → Cut Machine
turns most until m delays sent =
    after_turns console_kind (alone m delays sent) (trace_of console_kind most (alone m delays sent) until)

-- a turn, and the turns after it
pub turns-go : (most until : ℕ) (m : Machine) (delays : Delays) (sent : List Sent) → nat_lt (clock_of m) until ≡ true
    → turns (suc most) until m delays sent ≡ turns most until (next m) delays (with_signal 0 (told [] m) sent)
turns-go most until m delays sent is =
    let cut = alone m delays sent in
    ap (after_turns console_kind cut) (trace_goes console_kind most cut until (test-alone until m delays sent true is))
    ∙ ap (λ i. after_turns console_kind cut (i ∷ trace_of console_kind most (step_of console_kind cut i) until))
    (least-alone m delays sent)
    ∙ after_one console_kind cut 0 (trace_of console_kind most (step_of console_kind cut 0) until)

pub turns-end : (most until : ℕ) (m : Machine) (delays : Delays) (sent : List Sent) → nat_lt (clock_of m) until ≡ false
    → turns most until m delays sent ≡ alone m delays sent
turns-end most until m delays sent is =
    let cut = alone m delays sent in
    ap (after_turns console_kind cut) (trace_ends console_kind most cut until (test-alone until m delays sent false is))
    ∙ after_none console_kind cut

turns-by : (test : Bool) (most until : ℕ) (m : Machine) (delays : Delays) (sent : List Sent)
    → nat_lt (clock_of m) until ≡ test
    → (turns most until (next m) delays (with_signal 0 (told [] m) sent)).consoles ≡ run most until (next m) ∷ []
    → (turns (suc most) until m delays sent).consoles ≡ (if test then run most until (next m) else m) ∷ []
turns-by true most until m delays sent is rest =
    ap (λ (cut : Cut Machine). cut.consoles) (turns-go most until m delays sent is) ∙ rest
turns-by false most until m delays sent is rest =
    ap (λ (cut : Cut Machine). cut.consoles) (turns-end (suc most) until m delays sent is)

turns-are : (most until : ℕ) (m : Machine) (delays : Delays) (sent : List Sent)
    → (turns most until m delays sent).consoles ≡ run most until m ∷ []
unfolding after_turns trace_of run
turns-are zero until m delays sent = refl
turns-are (suc most) until m delays sent =
    turns-by (nat_lt (clock_of m) until) most until m delays sent refl
    (turns-are most until (next m) delays (with_signal 0 (told [] m) sent))

pub runs-alone : IsEnough → RunsAlone
runs-alone enough until delays sent m =
    let left = cycles_left console_kind (alone m delays sent) until in
    turns-are left until m delays sent
    ∙ ap (λ (n : Machine). n ∷ []) (enough until left until m (omega arith) (omega arith))
