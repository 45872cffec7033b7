-- No step looks at what a shorn console lacks.
use Rattle.std.proofs.Common.{◌≡◌, Bool, true, false, List, refl, sym, ◌∙◌, ap, if◌then◌else◌}
use Rattle.link_mapped.specs.Mapped.{IsUnseen}
use Rattle.link_node.specs.declared.signal.Incoming.{Incoming}
use Rattle.gba_console.specs.Alone.{console_kind}
use Rattle.gba_console.specs.Machine.{Machine, clock_of, forgotten, is_off, without_limit}
use Rattle.gba_console.specs.Segments.{last_behind}
use Rattle.gba_console.specs.Shorn.{TellsAlike, rested, shorn}
use Rattle.gba_console.specs.Step.{prepared, stepped, stepped_off, stepped_on, told, told_on}
use Rattle.gba_console.specs.declared.doing.What.{What}
use Rattle.gba_console.proofs.Behind.{acted-told, behind-forgotten, stepped-in-front, told-in-front}
use Rattle.gba_console.proofs.Unlimited.{stepped-unlimited, told-unlimited}

-- what a step resets at its start
stepped-rested : (dues : List Incoming) (m : Machine) → stepped dues (rested m) ≡ stepped dues m
unfolding stepped stepped_off stepped_on
stepped-rested dues m = refl

told-rested : (dues : List Incoming) (m : Machine) → told dues (rested m) ≡ told dues m
unfolding told told_on
told-rested dues m = refl

-- the lists, what was in them put in front again
stepped-forgotten : (dues : List Incoming) (m : Machine)
    → forgotten (stepped dues (forgotten m)) ≡ forgotten (stepped dues m)
stepped-forgotten dues m =
    sym (ap forgotten (stepped-in-front dues m (forgotten m)))
    ∙ ap (λ (x : Machine). forgotten (stepped dues x)) (behind-forgotten m)

told-forgotten : (dues : List Incoming) (m : Machine) → told dues (forgotten m) ≡ told dues m
told-forgotten dues m = sym (told-in-front dues m (forgotten m)) ∙ ap (told dues) (behind-forgotten m)

-- all of it
stepped-shorn : (dues : List Incoming) (m : Machine) → shorn (stepped dues (shorn m)) ≡ shorn (stepped dues m)
stepped-shorn dues m =
    ap shorn (stepped-rested dues (without_limit (forgotten m)))
    ∙ ap shorn (stepped-unlimited dues (forgotten m))
    ∙ ap shorn (stepped-forgotten dues m)

told-shorn : (dues : List Incoming) (m : Machine) → told dues (shorn m) ≡ told dues m
told-shorn dues m =
    told-rested dues (without_limit (forgotten m)) ∙ told-unlimited dues (forgotten m) ∙ told-forgotten dues m

pub shorn-unseen : IsUnseen console_kind (λ i. shorn) (λ i. shorn)
shorn-unseen = record {
  clocks = record {
    clock = λ i x y same. ap clock_of same;
    was = λ i x y same. ap (λ (m : Machine). m.was) same;
  };
  next = λ i x y dues same.
      sym (stepped-shorn dues x) ∙ ap (λ (m : Machine). shorn (stepped dues m)) same ∙ stepped-shorn dues y;
  tells = λ i x y dues same. sym (told-shorn dues x) ∙ ap (told dues) same ∙ told-shorn dues y;
}

-- A step tells what it did, whatever was told before it.
one-last : (first : What) (test : Bool) (one other : Machine) → last_behind first one.last ≡ one.last
    → last_behind first other.last ≡ other.last
    → last_behind first (if test then one else other).last ≡ (if test then one else other).last
one-last first true one other here there = here
one-last first false one other here there = there

off-last : (first : What) (dues : List Incoming) (m : Machine)
    → last_behind first (stepped_off dues m).last ≡ (stepped_off dues m).last
unfolding stepped_off
off-last first dues m = refl

on-last : (first : What) (dues : List Incoming) (m : Machine)
    → last_behind first (stepped_on dues m).last ≡ (stepped_on dues m).last
unfolding stepped_on
on-last first dues m = acted-told first m.registers (prepared dues m)

last-told : (first : What) (dues : List Incoming) (m : Machine)
    → last_behind first (stepped dues m).last ≡ (stepped dues m).last
unfolding stepped
last-told first dues m =
    one-last first (is_off m) (stepped_off dues m) (stepped_on dues m) (off-last first dues m) (on-last first dues m)

last-shorn : (dues : List Incoming) (m : Machine) → (stepped dues m).last ≡ (stepped dues (shorn m)).last
last-shorn dues m =
    sym (ap (λ (x : Machine). (stepped dues x).last) (behind-forgotten m))
    ∙ ap (λ (x : Machine). x.last) (stepped-in-front dues m (forgotten m))
    ∙ last-told m.last dues (forgotten m)
    ∙ sym (ap (λ (x : Machine). x.last) (stepped-unlimited dues (forgotten m)))
    ∙ sym (ap (λ (x : Machine). x.last) (stepped-rested dues (without_limit (forgotten m))))

pub tells-alike : TellsAlike
tells-alike dues m n same =
    let last = last-shorn dues m ∙ ap (λ (x : Machine). (stepped dues x).last) same ∙ sym (last-shorn dues n) in
    ap (λ (x : Machine). record x { last = (stepped dues m).last }) (shorn-unseen.next 0 m n dues same)
    ∙ ap (λ (what : What). record (shorn (stepped dues n)) { last = what }) last
