-- What is thawed a run can go on from.
use Rattle.std.proofs.Common.{◌≡◌, ◌∙◌, ℕ, zero, suc, Bool, true, false, ◌&&◌, List, [], ◌∷◌, length, map, Option, Some, None, refl, ap, sym, subst, arith}
use Rattle.std.specs.Prelude.{if◌then◌else◌}
use Rattle.std.specs.List.{All}
use Rattle.std.proofs.lemmas.Bool.{and_parts}
use Rattle.gba_console.specs.Alone.{console_kind}
use Rattle.gba_console.specs.Machine.{Machine, forgotten, without_limit}
use Rattle.gba_console.specs.Pouring.{machine_poured, machine_with_flash}
use Rattle.gba_console.specs.declared.pouring.ConsoleParts.{ConsoleParts}
use Rattle.gba_filling.specs.Drawn.{DrawnLines}
use Rattle.gba_filling.specs.Signals.{sent_of}
use Rattle.gba_frozen.specs.Reading.{ConsoleDraft, Draft}
use Rattle.gba_numbers.specs.Numbers.{ConsoleNumbers}
use Rattle.gba_numbers.specs.declared.names.MemoryName.TheVariants as memory
use Rattle.gba_snapshot.specs.Console.{backup_in}
use Rattle.gba_session.specs.Session.{AreEmpty}
use Rattle.gba_text.proofs.Steps.{some-is}
use Rattle.gba_thaw.proofs.Follows.{draft-of}
use Rattle.gba_thaw.specs.Console.{MemoryBytes, can_be_made, can_go_on, console_thawed, flash_thawed, limit_thawed, machine_thawed, parts_thawed, says_io, with_memories}
use Rattle.gba_thaw.specs.Cut.{can_run, consoles_thawed, cut_if, draft_thawed, in_front, joined, lines_read, memories_read, setup_of, whole_of}
use Rattle.gba_thaw.specs.Law.{GoesOnFrom, ThawsSoundly}
use Rattle.link_core.proofs.Wholeness.{tested-whole}
use Rattle.link_core.specs.Whole.{IsWhole, is_whole}
use Rattle.link_node.specs.declared.delays.Delays.{Delays}
use Rattle.link_order.specs.Cut.{Cut, plain_cut}
use Rattle.link_order.specs.declared.sent.Sent.{Sent}

-- ---- the lists are empty

abbrev IsEmpty : Machine → Type 0
IsEmpty m = without_limit m ≡ forgotten (without_limit m)

abbrev AllEmpty : List Machine → Type 0
AllEmpty ms = All (λ (m : Machine). without_limit m ≡ forgotten (without_limit m)) ms

-- what is poured into a console leaves its lists empty
poured-empty : (parts : ConsoleParts) (lines : List (List ℕ)) (until : ℕ) (m : Machine)
    → IsEmpty (machine_poured parts lines until m)
poured-empty parts lines until m = refl

some-empty : (test : Bool) (one new : Machine) → IsEmpty one → (if test then Some one else None) ≡ Some new
    → IsEmpty new
some-empty true one new empty same = subst (λ (m : Machine). IsEmpty m) (some-is one new same) empty
some-empty false one new empty same = absurd cc

thawed-empty : (until : ℕ) (m : Machine) (n : ConsoleNumbers) (bytes : MemoryBytes) (drawn : DrawnLines) (new : Machine)
    → console_thawed until m n bytes drawn ≡ Some new → IsEmpty new
unfolding console_thawed
thawed-empty until m n bytes drawn new is =
    some-empty (can_be_made m n (bytes memory.Io) && can_go_on until m n (bytes memory.Io) drawn
    && says_io bytes (machine_thawed m n bytes drawn.lines)) (machine_thawed m n bytes drawn.lines) new
    (poured-empty (parts_thawed m n (bytes memory.Io)) drawn.lines (limit_thawed n)
    (machine_with_flash (flash_thawed n) (with_memories bytes m))) is

-- so are those of all, of which there is one for each
record AreThawed (ms new : List Machine) : Type 0 where
  many : length new ≡ length ms
  empty : AllEmpty new

front-parts : (ms : List Machine) (one : Option Machine) (rest : Option (List Machine)) (new : List Machine)
    → in_front one rest ≡ Some new
    → ((x : Machine) (xs : List Machine) → one ≡ Some x → rest ≡ Some xs → new ≡ x ∷ xs → AreThawed ms new)
    → AreThawed ms new
front-parts ms (Some one) (Some rest) new is go = go one rest refl refl (sym (some-is (one ∷ rest) new is))
front-parts ms (Some one) None new is go = absurd cc
front-parts ms None rest new is go = absurd cc

cons-empty : (x : Machine) (xs : List Machine) → IsEmpty x → AllEmpty xs → AllEmpty (x ∷ xs)
cons-empty x xs one others zero d within = one
cons-empty x xs one others (suc k) d within = others k d (omega (arith, within))

all-thawed : (until : ℕ) (ms : List Machine) (ds : List ConsoleDraft) (new : List Machine)
    → consoles_thawed until ms ds ≡ Some new → AreThawed ms new
unfolding consoles_thawed
all-thawed until [] ds new is =
    subst (λ (ns : List Machine). AreThawed [] ns) (some-is [] new is)
    (record { many = refl; empty = λ k d within. absurd (omega (arith, within)) })
all-thawed until (m ∷ ms) [] new is = absurd cc
all-thawed until (m ∷ ms) (d ∷ ds) new is =
    front-parts (m ∷ ms) (draft_thawed until m d) (consoles_thawed until ms ds) new is (λ x xs one rest same.
    let here = thawed-empty until m d.numbers (memories_read (backup_in m) d.memory) (lines_read d.drawn) x one in
    let others = all-thawed until ms ds xs rest in
    subst (λ (ns : List Machine). AreThawed (m ∷ ms) ns) (sym same)
    (record { many = omega (arith, others.many); empty = cons-empty x xs here others.empty }))

-- ---- the cut

record CutParts (delays : Delays) (sent : List Sent) (made : Option (List Machine)) (cut : Cut Machine) : Type 0 where
  machines : List Machine
  made_is : made ≡ Some machines
  can : can_run (joined delays sent machines) ≡ true
  is : cut ≡ joined delays sent machines

cut-parts : (delays : Delays) (sent : List Sent) (made : Option (List Machine)) (cut : Cut Machine)
    → cut_if delays sent made ≡ Some cut → CutParts delays sent made cut
cut-parts delays sent None cut is = absurd cc
cut-parts delays sent (Some ms) cut is = by (can_run (joined delays sent ms)) refl is where
  by : (t : Bool) → can_run (joined delays sent ms) ≡ t
      → (if t then Some (joined delays sent ms) else None) ≡ Some cut → CutParts delays sent (Some ms) cut
  by true e same =
      record { machines = ms; made_is = refl; can = e; is = sym (some-is (joined delays sent ms) cut same) }
  by false e same = absurd cc

whole-of-test : (cut : Cut Machine) → is_whole console_kind cut ≡ true → IsWhole console_kind cut
unfolding is_whole
whole-of-test cut e = tested-whole console_kind cut e

goes-on : (until : ℕ) (start : Cut Machine) (d : Draft) (cut : Cut Machine) → whole_of until start d ≡ Some cut
    → GoesOnFrom start cut
unfolding whole_of
goes-on until start d cut same =
    let sent = map sent_of d.sent in
    let p = cut-parts start.delays sent (consoles_thawed until start.consoles d.consoles) cut same in
    let thawed = all-thawed until start.consoles d.consoles p.machines p.made_is in
    let both = and_parts _ _ p.can in
    record {
      delays = ap (λ (c : Cut Machine). c.delays) p.is;
      many = ap (λ (c : Cut Machine). length c.consoles) p.is ∙ thawed.many;
      whole = subst (λ (c : Cut Machine). IsWhole console_kind (plain_cut without_limit c)) (sym p.is)
          (whole-of-test (plain_cut without_limit (joined start.delays sent p.machines)) both.1);
      empty = subst (λ (c : Cut Machine). AreEmpty c) (sym p.is) thawed.empty;
    }

pub thaws-soundly : ThawsSoundly
thaws-soundly digest until start cut bytes same =
    let d = draft-of (setup_of digest until start.consoles) (whole_of until start) bytes cut same in
    goes-on until start d.0 cut d.1
