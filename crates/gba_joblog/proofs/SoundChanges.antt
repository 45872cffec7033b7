-- The key changes that are read are sound: each keeps those before it with it sound.
use Rattle.std.proofs.Common.{◌≡◌, ◌≤◌, ◌<◌, ◌^◌, ◌-◌, ℕ, ◌+◌, Bool, true, false, List, [], ◌∷◌, ◌++◌, length, nat_le, nat_lt, get_or, Option, Some, None, Result, Ok, Err, ap, sym, subst, ◌∙◌, arith}
use Rattle.std.specs.Prelude.{IfOk}
use Rattle.std.proofs.lemmas.Bool.{leb-true, ltb-true}
use Rattle.std.proofs.lemmas.List.{length-append}
use Rattle.std.proofs.lemmas.List.Elements.{All-nil, All-push}
use Rattle.std.proofs.lemmas.List.Sorted.{IsNonDecreasingBy-short, IsNonDecreasingBy-push}
use Rattle.std.proofs.lemmas.Option.{slice_get-get_or}
use Rattle.gba_text.specs.Lines.{lines}
use Rattle.gba_text.specs.Words.{words}
use Rattle.gba_text.proofs.Languages.{says}
use Rattle.gba_text.proofs.Steps.{bind-ok, ok-is, some-is, held-true}
use Rattle.gba_text.specs.Answers.{Parses}
use Rattle.gba_text.specs.Languages.{Leads, EndsIn}
use Rattle.gba_text.specs.Steps.{◌>>=◌, holds, Taken}
use Rattle.gba_joblog.specs.Answers.{line_error}
use Rattle.gba_joblog.specs.Changes.{change_at, least_clock, clock_or_start, most_changes}
use Rattle.gba_joblog.specs.Lines.{is_said}
use Rattle.gba_joblog.specs.KeyFile.{key_files, key_line_says, change_if, plus_change, changes_with, keys_of}
use Rattle.gba_joblog.specs.Operands.{LineWords, number_at, keys_at, end_at}
use Rattle.gba_joblog.specs.Soundness.{IsChange, AreChanges}
use Rattle.gba_joblog.specs.declared.job.KeyChange.{KeyChange}
use Rattle.gba_joblog.specs.declared.kinds.ParseRefused.{ParseRefused}
use Rattle.gba_joblog.specs.declared.kinds.JobKind.{JobKind}
use Rattle.gba_joblog.specs.declared.kinds.JobKind.TheVariants.{Order, Long}
use Rattle.gba_joblog.proofs.Steps.{number_at-range, keys_at-range}

pub none : AreChanges []
none = record {
  each = All-nil IsChange;
  rising = IsNonDecreasingBy-short (λ (change : KeyChange). change.clock) [] (omega arith);
  few = omega arith;
}

abbrev made : Taken LineWords ℕ → Taken LineWords ℕ → KeyChange
made clock keys = record { clock = clock.value; keys = keys.value }

abbrev with_room : List KeyChange → Taken LineWords ℕ → Taken LineWords ℕ → Result KeyChange JobKind
with_room before clock keys = holds (nat_lt (length before) most_changes) Long >>= (λ _. Ok (made clock keys))

abbrev with_keys : List KeyChange → Taken LineWords ℕ → Taken LineWords ℕ → Result KeyChange JobKind
with_keys before clock keys = end_at keys.left >>= (λ _. with_room before clock keys)

abbrev in_order : List KeyChange → Taken LineWords ℕ → Result KeyChange JobKind
in_order before clock = keys_at clock.left >>= with_keys before clock

abbrev with_clock : List KeyChange → Taken LineWords ℕ → Result KeyChange JobKind
with_clock before clock = holds (nat_le (least_clock before) clock.value) Order >>= (λ _. in_order before clock)

-- what a change that is read tells
record IsNext (before : List KeyChange) (change : KeyChange) : Type 0 where
  is : IsChange change
  after : least_clock before ≤ change.clock
  room : length before < most_changes

change_at-next : (before : List KeyChange) (ws : LineWords) (change : KeyChange) → change_at before ws ≡ Ok change
    → IsNext before change
unfolding change_at
change_at-next before ws change h =
    let c = bind-ok (number_at 0 (2 ^ 38 - 1) ws) (with_clock before) change h in
    let o = bind-ok (holds (nat_le (least_clock before) c.0.value) Order) (λ _. in_order before c.0) change c.2 in
    let k = bind-ok (keys_at c.0.left) (with_keys before c.0) change o.2 in
    let e = bind-ok (end_at k.0.left) (λ _. with_room before c.0 k.0) change k.2 in
    let r = bind-ok (holds (nat_lt (length before) most_changes) Long) (λ _. Ok (made c.0 k.0)) change e.2 in
    let same : change ≡ made c.0 k.0 = sym (ok-is (made c.0 k.0) change r.2) in
    let early = number_at-range 0 (2 ^ 38 - 1) ws c.0 c.1 in
    rw same (record {
      is = record { early = omega (arith, early.1); keys = keys_at-range c.0.left k.0 k.1 };
      after = leb-true _ _ (held-true _ Order o.0 o.1);
      room = ltb-true _ _ (held-true _ Long r.0 r.1);
    })

-- the clock of the last change
pub last-least : (before : List KeyChange) (d : KeyChange) → 0 < length before
    → least_clock before ≡ (get_or before (length before - 1) d).clock
unfolding least_clock
last-least before d some = ap clock_or_start (slice_get-get_or before (length before - 1) d (omega arith))

pub change_at-keeps : (before : List KeyChange) (ws : LineWords) (change : KeyChange) → AreChanges before
    → change_at before ws ≡ Ok change → AreChanges (before ++ change ∷ [])
change_at-keeps before ws change h said =
    let next = change_at-next before ws change said in
    record {
      each = All-push IsChange before change h.each next.is;
      rising = IsNonDecreasingBy-push (λ (change : KeyChange). change.clock) before change h.rising
          (λ d some. rw (← last-least before d some) next.after);
      few = rw length-append (omega (arith, next.room));
    }

by_said : (before : List KeyChange) (ws : LineWords) (said : Bool) (change : Option KeyChange) → AreChanges before
    → change_if before ws said ≡ Ok change → AreChanges (plus_change before change)
by_said before ws said None h e = h
by_said before ws false (Some change) h e = absurd cc
by_said before ws true (Some change) h e =
    let b = bind-ok (change_at before ws) (λ change. Ok (Some change)) (Some change) e in
    let same : b.0 ≡ change = some-is b.0 change (ok-is (Some b.0) (Some change) b.2) in
    change_at-keeps before ws change h (b.1 ∙ ap (λ c. Ok c) same)

line-keeps : (before after : List KeyChange) (line : List ℕ) → AreChanges before
    → changes_with before line ≡ Ok after → AreChanges after
unfolding changes_with key_line_says
line-keeps before after line h said =
    let b = bind-ok (key_line_says before line) (λ change. Ok (plus_change before change)) after said in
    let c = bind-ok (is_said line) (change_if before (words line)) b.0 b.1 in
    subst AreChanges (ok-is (plus_change before b.0) after b.2) (by_said before (words line) c.0 b.0 h c.2)

lines-keep : (n : ℕ) (before after : List KeyChange) (ls : List (List ℕ)) → AreChanges before
    → Leads key_files n before ls after → AreChanges after
unfolding Leads
lines-keep n before after [] h leads = subst AreChanges leads h
lines-keep n before after (line ∷ ls) h leads =
    lines-keep (n + 1) leads.0 after ls (line-keeps before leads.0 line h leads.1) leads.2

-- the changes of each key file that is read are sound
pub keys-sound : (bytes : List ℕ) (changes : List KeyChange) → keys_of bytes ≡ Ok changes → AreChanges changes
unfolding keys_of
keys-sound bytes changes h =
    let ends : EndsIn key_files bytes (Ok changes) = rw h at (says key_files bytes) in
    subst AreChanges (ok-is ends.said changes ends.end) (lines-keep 0 [] ends.said (lines bytes) none ends.leads)

pub keys-are-sound : {X : Type 0} (view : X → List KeyChange) (bytes : List ℕ) (answer : Result X ParseRefused)
    → Parses line_error view answer (keys_of bytes) → IfOk answer (λ x. AreChanges (view x))
keys-are-sound view bytes (Ok x) h = keys-sound bytes (view x) h
keys-are-sound view bytes (Err e) h = tt
