-- A unit in a transfer hears the signals of a step: the transfer goes on, or it is the one that is recorded.
use Rattle.std.proofs.Common.{ℕ, ◌≡◌, ◌≢◌, ◌+◌, ◌<◌, ◌≤◌, Bool, true, false, ◌&&◌, List, [], ◌∷◌, ◌++◌, Option, None, Some, if◌then◌else◌, refl, ap, sym, subst, ◌∙◌, inl, inr, arith}
use Rattle.std.specs.Prelude.{All, nat_le, option_to_list}
use Rattle.std.proofs.lemmas.Bool.{cases_Bool}
use Rattle.std.proofs.lemmas.Bool.Decides.{nat_tests}
use Rattle.std.proofs.lemmas.List.Elements.{All-head, All-tail}
use Rattle.gba_serial.specs.SerialUnit.{SerialUnit, is_peer, is_wired, mode_of}
use Rattle.gba_serial.specs.Timing.{is_multi}
use Rattle.gba_serial.specs.Take.{answered, end_of, is_answered, taken, with_known, with_normal_reply, with_reply, with_reply_in, with_reply_of, with_start}
use Rattle.gba_serial.specs.End.{ended, ended_of, ending, ending_of, finished, transfer_of}
use Rattle.gba_serial.specs.Steps.{ends, fed, fed_ends, hear}
use Rattle.gba_serial.specs.declared.transfer.Running.{Running}
use Rattle.gba_serial.specs.declared.transfer.Transfer.{Transfer}
use Rattle.gba_serial.proofs.Going.{ended-before, ending-before, goes}
use Rattle.link_node.specs.Due.{IsDue}
use Rattle.link_node.specs.declared.signal.Incoming.{Incoming}
use Rattle.link_node.specs.declared.signal.Start.{Start}
use Rattle.gba_agreement.proofs.Course.{Course, HasPlace, IsOn, IsWiredTo, either, taken-on, taken-place}

-- the unit as it is when the signals before an end are taken
abbrev pub until_end : ℕ → List Incoming → SerialUnit → SerialUnit
until_end end [] u = u
until_end end (due ∷ dues) u = if nat_le end due.arrival then u else until_end end dues (taken due u)

late-test : (end arrival : ℕ) → end ≤ arrival → nat_le end arrival ≡ true
late-test end arrival late = grind (arith, nat_tests)

early-test : (end arrival : ℕ) → arrival < end → nat_le end arrival ≡ false
early-test end arrival early = grind (arith, nat_tests)

test-late : (end arrival : ℕ) → nat_le end arrival ≡ true → end ≤ arrival
test-late end arrival test = grind (arith, nat_tests)

test-early : (end arrival : ℕ) → nat_le end arrival ≡ false → arrival < end
test-early end arrival test = grind (arith, nat_tests)

pub until_end-late : (end : ℕ) (due : Incoming) (dues : List Incoming) (u : SerialUnit) → end ≤ due.arrival
    → until_end end (due ∷ dues) u ≡ u
until_end-late end due dues u late = rw (late-test end due.arrival late) refl

pub until_end-early : (end : ℕ) (due : Incoming) (dues : List Incoming) (u : SerialUnit) → due.arrival < end
    → until_end end (due ∷ dues) u ≡ until_end end dues (taken due u)
until_end-early end due dues u early = rw (early-test end due.arrival early) refl

-- what each signal before the end keeps
until_end-keeps : (end : ℕ) (Inv : SerialUnit → Type 0) (Q : Incoming → Type 0)
    → ((due : Incoming) (v : SerialUnit) → due.arrival < end → Q due → Inv v → Inv (taken due v))
    → (dues : List Incoming) (u : SerialUnit) → All Q dues → Inv u → Inv (until_end end dues u)
until_end-keeps end Inv Q keeps [] u all here = here
until_end-keeps end Inv Q keeps (due ∷ dues) u all here =
    elim (cases_Bool (nat_le end due.arrival)) [
      | inl e ↦ subst Inv (sym (until_end-late end due dues u (test-late end due.arrival e))) here
      | inr e ↦
          let early = test-early end due.arrival e in
          subst Inv (sym (until_end-early end due dues u early))
          (until_end-keeps end Inv Q keeps dues (taken due u) (All-tail Q due dues all)
          (keeps due u early (All-head Q due dues all) here))
    ]

any : {X : Type 0} (xs : List X) → All (λ (x : X). Unit {0}) xs
any xs k d below = tt

pub until_end-on : (c : Course) (dues : List Incoming) (u : SerialUnit) → IsOn c u → IsOn c (until_end c.end dues u)
until_end-on c dues u on =
    until_end-keeps c.end (IsOn c) (λ due. Unit {0}) (λ due v early one here. taken-on c due v here) dues u
    (any dues) on

-- no signal of player j comes before the end
abbrev pub IsSilent : ℕ → ℕ → Incoming → Type 0
IsSilent end j due = due.sender ≡ j → end ≤ due.arrival

pub until_end-place : (c : Course) (j w : ℕ) (got : Bool) (dues : List Incoming) (u : SerialUnit) → IsOn c u
    → IsWiredTo c j → All (IsSilent c.end j) dues → HasPlace c.mode j got w u
    → HasPlace c.mode j got w (until_end c.end dues u)
until_end-place c j w got dues u on wire silent place =
    let Inv : SerialUnit → Type 0 = λ v. IsOn c v × HasPlace c.mode j got w v in
    (until_end-keeps c.end Inv (IsSilent c.end j)
    (λ due v early still here.
    let apart : due.sender ≢ j = λ e. let late = still e in absurd (omega (arith, late, early)) in
    (taken-on c due v here.0, taken-place c j w got due v here.0 wire apart here.1))
    dues u silent (on, place)).1

pub until_end-append : (end : ℕ) (xs ys : List Incoming) (u : SerialUnit) → All (λ due. due.arrival < end) xs
    → until_end end (xs ++ ys) u ≡ until_end end ys (until_end end xs u)
until_end-append end [] ys u early = refl
until_end-append end (x ∷ xs) ys u early =
    let P : Incoming → Type 0 = λ due. due.arrival < end in
    let here = All-head P x xs early in
    until_end-early end x (xs ++ ys) u here ∙ until_end-append end xs ys (taken x u) (All-tail P x xs early)
    ∙ sym (ap (until_end end ys) (until_end-early end x xs u here))

-- a step that doesn't reach the end
before-end : (c : Course) (clock : ℕ) (u : SerialUnit) (on : IsOn c u) → clock < c.end → clock < on.run.end
before-end c clock u on early = let e = on.end_is in omega (arith, e, early)

pub fed-is : (c : Course) (dues : List Incoming) (u : SerialUnit) → IsOn c u → All (λ due. due.arrival < c.end) dues
    → fed dues u ≡ until_end c.end dues u
fed-is c [] u on early = refl
fed-is c (due ∷ dues) u on early =
    let P : Incoming → Type 0 = λ due. due.arrival < c.end in
    let here = All-head P due dues early in
    ap (λ v. fed dues (taken due v)) (ended-before due.arrival u on.run on.runs (before-end c due.arrival u on here))
    ∙ fed-is c dues (taken due u) (taken-on c due u on) (All-tail P due dues early)
    ∙ sym (until_end-early c.end due dues u here)

pub hear-is : (c : Course) (clock : ℕ) (dues : List Incoming) (u : SerialUnit) → IsOn c u → clock < c.end
    → All (λ due. due.arrival < c.end) dues → hear clock dues u ≡ until_end c.end dues u
hear-is c clock dues u on before early =
    let there = until_end-on c dues u on in
    ap (ended clock) (fed-is c dues u on early)
    ∙ ended-before clock (until_end c.end dues u) there.run there.runs
    (before-end c clock (until_end c.end dues u) there before)

-- no transfer ends by a clock
abbrev pub EndsAfter : ℕ → Option Running → Type 0
EndsAfter clock None = Unit {0}
EndsAfter clock (Some run) = clock < run.end

ended_of-after : (clock : ℕ) (run : Option Running) (u : SerialUnit) → u.run ≡ run → EndsAfter clock run
    → ended clock u ≡ u
ended_of-after clock None u is after = ap (λ some. ended_of clock some u) is
ended_of-after clock (Some run) u is after = ended-before clock u run is after

ending_of-after : (clock : ℕ) (run : Option Running) (u : SerialUnit) → u.run ≡ run → EndsAfter clock run
    → ending clock u ≡ None
ending_of-after clock None u is after = ap (λ some. ending_of clock some u) is
ending_of-after clock (Some run) u is after = ending-before clock u run is after

earlier-after : (arrival clock : ℕ) (run : Option Running) → arrival ≤ clock → EndsAfter clock run
    → EndsAfter arrival run
earlier-after arrival clock None le after = tt
earlier-after arrival clock (Some run) le after = omega (arith, le, after)

-- a signal starts none that ends by the clock of its step
Later : ℕ → SerialUnit → Type 0
Later clock u = EndsAfter clock u.run

reply_in-after : (clock sender word : ℕ) (run : Running) (u : SerialUnit) → clock < run.end → EndsAfter clock u.run
    → EndsAfter clock (with_reply_in sender word run u).run
reply_in-after clock sender word run u later after =
    let P : SerialUnit → Type 0 = λ v. EndsAfter clock v.run in
    either P (is_multi (mode_of u)) _ _ (λ multi. later)
    (λ normal. either P (run.starter && is_wired sender u) (with_normal_reply sender word run u) u (λ took. later)
    (λ left. after))

reply_of-after : (clock sender word : ℕ) (run : Option Running) (u : SerialUnit) → EndsAfter clock run
    → EndsAfter clock u.run → EndsAfter clock (with_reply_of sender word run u).run
reply_of-after clock sender word None u later after = after
reply_of-after clock sender word (Some run) u later after = reply_in-after clock sender word run u later after

reply-after : (clock sender : ℕ) (reply : Option ℕ) (u : SerialUnit) → EndsAfter clock u.run
    → EndsAfter clock (with_reply sender reply u).run
unfolding with_reply
reply-after clock sender None u after = after
reply-after clock sender (Some word) u after = reply_of-after clock sender word u.run u after after

answered-after : (clock : ℕ) (due : Incoming) (start : Start) (u : SerialUnit) → clock < end_of due start u
    → EndsAfter clock (answered due start u).run
answered-after clock due start u later =
    either (λ v. EndsAfter clock v.run) (is_multi (mode_of u)) _ _ (λ multi. later) (λ normal. later)

start-after : (was clock : ℕ) (due : Incoming) (start : Option Start) (u : SerialUnit) → was < due.arrival
    → clock ≤ was + 512 → EndsAfter clock u.run → EndsAfter clock (with_start due start u).run
unfolding with_start
start-after was clock due None u arrived short after = after
start-after was clock due (Some start) u arrived short after =
    either (λ v. EndsAfter clock v.run) (is_answered due start u) _ _
    (λ answers. answered-after clock due start u (goes.answers_once was clock due start u answers arrived short))
    (λ ignored. after)

taken-after : (was clock : ℕ) (due : Incoming) (u : SerialUnit) → was < due.arrival → clock ≤ was + 512
    → EndsAfter clock u.run → EndsAfter clock (taken due u).run
unfolding taken
taken-after was clock due u arrived short after =
    either (λ v. EndsAfter clock v.run) (is_peer due.sender u) _ _
    (λ peer. start-after was clock due due.signal.start (with_reply due.sender due.signal.reply (with_known due u))
    arrived short (reply-after clock due.sender due.signal.reply (with_known due u) after))
    (λ other. after)

-- so nothing more ends in a step after an end
pub ends-none : (was clock : ℕ) (dues : List Incoming) (u : SerialUnit) → clock ≤ was + 512
    → All (IsDue was clock) dues → EndsAfter clock u.run → ends clock dues u ≡ []
ends-none was clock [] u short due after = ap option_to_list (ending_of-after clock u.run u refl after)
ends-none was clock (one ∷ dues) u short due after =
    let here = All-head (IsDue was clock) one dues due in
    let still = earlier-after one.arrival clock u.run here.by_now after in
    ap (λ none. (option_to_list none ++ fed_ends dues (taken one (ended one.arrival u)))
    ++ option_to_list (ending clock (fed dues (taken one (ended one.arrival u)))))
    (ending_of-after one.arrival u.run u refl still)
    ∙ ap (λ v. ends clock dues (taken one v)) (ended_of-after one.arrival u.run u refl still)
    ∙ ends-none was clock dues (taken one u) short (All-tail (IsDue was clock) one dues due)
    (taken-after was clock one u here.after_last short after)

-- the step that reaches the end records the transfer, as its unit is then, and nothing else
pub record EndsWith (clock : ℕ) (dues : List Incoming) (u v : SerialUnit) : Type 0 where
  pub run : Running
  pub runs : v.run ≡ Some run
  pub only : ends clock dues u ≡ transfer_of run v ∷ []

ending-now : (clock : ℕ) (run : Running) (u : SerialUnit) → u.run ≡ Some run → run.end ≤ clock
    → ending clock u ≡ Some (transfer_of run u)
ending-now clock run u runs reached =
    ap (λ some. ending_of clock some u) runs ∙ rw (late-test run.end clock reached) refl

finished-idle : (clock : ℕ) (run : Running) (u : SerialUnit) → run.end ≤ clock
    → (ended_of clock (Some run) u).run ≡ None
unfolding finished
finished-idle clock run u reached = rw (late-test run.end clock reached) refl

ended-idle : (clock : ℕ) (run : Running) (u : SerialUnit) → u.run ≡ Some run → run.end ≤ clock
    → (ended clock u).run ≡ None
ended-idle clock run u runs reached =
    ap (λ some. (ended_of clock some u).run) runs ∙ finished-idle clock run u reached

pub ends-once : (c : Course) (was clock : ℕ) (dues : List Incoming) (u : SerialUnit) → IsOn c u → c.end ≤ clock
    → clock ≤ was + 512 → All (IsDue was clock) dues → EndsWith clock dues u (until_end c.end dues u)
ends-once c was clock [] u on reached short due = record {
  run = on.run;
  runs = on.runs;
  only = ap option_to_list (ending-now clock on.run u on.runs (omega (arith, reached, on.end_is)));
}
ends-once c was clock (one ∷ dues) u on reached short due =
    let here = All-head (IsDue was clock) one dues due in
    let rest = All-tail (IsDue was clock) one dues due in
    let more : Option Transfer → List Transfer =
    λ o. (option_to_list o ++ fed_ends dues (taken one (ended one.arrival u)))
    ++ option_to_list (ending clock (fed dues (taken one (ended one.arrival u)))) in
    elim (cases_Bool (nat_le c.end one.arrival)) [
      | inl e ↦
          let late = test-late c.end one.arrival e in
          let over : on.run.end ≤ one.arrival = omega (arith, late, on.end_is) in
          let idle : EndsAfter clock (ended one.arrival u).run =
          subst (EndsAfter clock) (sym (ended-idle one.arrival on.run u on.runs over)) tt in
          let none = ends-none was clock dues (taken one (ended one.arrival u)) short rest
          (taken-after was clock one (ended one.arrival u) here.after_last short idle) in
          subst (EndsWith clock (one ∷ dues) u) (sym (until_end-late c.end one dues u late)) (record {
            run = on.run;
            runs = on.runs;
            only = ap more (ending-now one.arrival on.run u on.runs over)
                ∙ ap (λ list. transfer_of on.run u ∷ list) none;
          })
      | inr e ↦
          let early = test-early c.end one.arrival e in
          let going = before-end c one.arrival u on early in
          let there = ends-once c was clock dues (taken one u) (taken-on c one u on) reached short rest in
          subst (EndsWith clock (one ∷ dues) u) (sym (until_end-early c.end one dues u early)) (record {
            run = there.run;
            runs = there.runs;
            only = ap more (ending-before one.arrival u on.run on.runs going)
                ∙ ap (λ v. ends clock dues (taken one v)) (ended-before one.arrival u on.run on.runs going)
                ∙ there.only;
          })
    ]
