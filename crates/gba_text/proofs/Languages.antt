-- Languages of lines: the relation between files and what they say, and the function that gives it.
use Rattle.std.proofs.Common.{◌≡◌, ◌≤◌, ◌<◌, ℕ, ◌+◌, ◌⊎◌, inl, inr, List, [], ◌∷◌, ◌++◌, length, take, Option, Some, None, Result, Ok, Err, refl, ap, sym, ◌∙◌, arith}
use Rattle.std.proofs.lemmas.Bool.{lt-ltb, le-ltb, cases_lt}
use Rattle.std.proofs.lemmas.List.{length-take, take_all}
use Rattle.std.specs.Prelude.{IfSome}
use Rattle.gba_text.specs.declared.kinds.LineError.{LineError}
use Rattle.gba_text.specs.Answers.{IsSaid, Parses}
use Rattle.gba_text.specs.Languages.{Language, Says, StopsAt, Leads, lines_say, answer_of, error_at}

pub lines_say-more : {S A K : Type 0} (language : Language S A K) (number : ℕ) (d : S) (line : List ℕ)
    (rest : List (List ℕ)) (e : S) → language.with_line (number + 1) d line ≡ Ok e
    → lines_say language number d (line ∷ rest) ≡ lines_say language (number + 1) e rest
unfolding lines_say
lines_say-more language number d line rest e h = rw h refl

pub lines_say-refused : {S A K : Type 0} (language : Language S A K) (number : ℕ) (d : S) (line : List ℕ)
    (rest : List (List ℕ)) (kind : K) → language.with_line (number + 1) d line ≡ Err kind
    → lines_say language number d (line ∷ rest) ≡ Err (error_at (number + 1) kind)
unfolding lines_say
lines_say-refused language number d line rest kind h = rw h refl

pub lines_say-end : {S A K : Type 0} (language : Language S A K) (number : ℕ) (d : S)
    → lines_say language number d [] ≡ language.at_end number d
unfolding lines_say
lines_say-end language number d = refl

pub answer_of-lines : {S A K : Type 0} (language : Language S A K) (bytes : List ℕ) (answer : Result A (LineError K))
    → length bytes ≤ language.longest
    → lines_say language 0 language.nothing (language.lines_of bytes) ≡ answer → answer_of language bytes ≡ answer
unfolding answer_of
answer_of-lines language bytes answer short h = rw (le-ltb _ _ short) h

pub answer_of-long : {S A K : Type 0} (language : Language S A K) (bytes : List ℕ) → language.longest < length bytes
    → answer_of language bytes ≡ Err (error_at 0 language.too_long)
unfolding answer_of
answer_of-long language bytes long = rw (lt-ltb _ _ long) refl

-- one byte more than the longest file tells what the whole file says
pub answer_of-take : {S A K : Type 0} (language : Language S A K) (bytes : List ℕ)
    → answer_of language (take (language.longest + 1) bytes) ≡ answer_of language bytes
answer_of-take language bytes = elim (cases_lt language.longest (length bytes)) [
  | inl long ↦ answer_of-long language (take (language.longest + 1) bytes)
      (omega (arith, length-take (language.longest + 1) bytes))
      ∙ sym (answer_of-long language bytes long)
  | inr short ↦ ap (answer_of language) (take_all (language.longest + 1) bytes (omega arith))
]

-- what lines come to: a line is refused, or they all lead to an end
abbrev ComesTo : {S A K : Type 0} → Language S A K → ℕ → S → List (List ℕ) → Result A (LineError K) → Type 0
ComesTo {S} language n d ls (Ok said) =
    (e : S) × Leads language n d ls e × (language.at_end (n + length ls) e ≡ Ok said)
ComesTo {S} language n d ls (Err r) =
    StopsAt language n d ls r ⊎ ((e : S) × Leads language n d ls e × (language.at_end (n + length ls) e ≡ Err r))

pub leads_none : {S A K : Type 0} (language : Language S A K) (n : ℕ) (d : S) → Leads language n d [] d
unfolding Leads
leads_none language n d = refl

pub leads_more : {S A K : Type 0} (language : Language S A K) (n : ℕ) (d mid e : S) (line : List ℕ)
    (ls : List (List ℕ)) → language.with_line (n + 1) d line ≡ Ok mid
    → Leads language (n + 1) mid ls e → Leads language n d (line ∷ ls) e
unfolding Leads
leads_more language n d mid e line ls said rest = (mid, said, rest)

at_end : {S A K : Type 0} (language : Language S A K) (n : ℕ) (d : S) (answer : Result A (LineError K))
    → language.at_end n d ≡ answer → ComesTo language n d [] answer
at_end language n d (Ok said) h = (d, leads_none language n d, ap (λ k. language.at_end k d) (omega arith) ∙ h)
at_end language n d (Err r) h = inr (d, leads_none language n d, ap (λ k. language.at_end k d) (omega arith) ∙ h)

one_more : {S A K : Type 0} (language : Language S A K) (n : ℕ) (d mid : S) (line : List ℕ) (ls : List (List ℕ))
    (answer : Result A (LineError K)) → language.with_line (n + 1) d line ≡ Ok mid
    → ComesTo language (n + 1) mid ls answer → ComesTo language n d (line ∷ ls) answer
one_more language n d mid line ls (Ok said) step h =
    (h.0, leads_more language n d mid h.0 line ls step h.1, ap (λ k. language.at_end k h.0) (omega arith) ∙ h.2)
one_more language n d mid line ls (Err r) step (inl stops) =
    inl (record {
      before = line ∷ stops.before;
      line = stops.line;
      after = stops.after;
      said = stops.said;
      place = ap (λ rest. line ∷ rest) stops.place;
      count = omega (arith, stops.count);
      leads = leads_more language n d mid stops.said line stops.before step stops.leads;
      refusal = stops.refusal;
    })
one_more language n d mid line ls (Err r) step (inr h) =
    inr (h.0, leads_more language n d mid h.0 line ls step h.1, ap (λ k. language.at_end k h.0) (omega arith) ∙ h.2)

comes_to : {S A K : Type 0} (language : Language S A K) (n : ℕ) (d : S) (ls : List (List ℕ))
    → ComesTo language n d ls (lines_say language n d ls)
comes_to language n d [] = rw lines_say-end (at_end language n d (language.at_end n d) refl)
comes_to {S} {A} {K} language n d (line ∷ ls) =
    by_line (language.with_line (n + 1) d line) refl (λ mid. comes_to language (n + 1) mid ls) where
      by_line : (said : Result S K) → language.with_line (n + 1) d line ≡ said → ((mid : S)
          → ComesTo language (n + 1) mid ls (lines_say language (n + 1) mid ls))
          → ComesTo language n d (line ∷ ls) (lines_say language n d (line ∷ ls))
      by_line (Ok mid) e rest =
          rw (lines_say-more language n d line ls mid e) (one_more language n d mid line ls (lines_say language
          (n + 1) mid ls) e (rest mid))
      by_line (Err kind) e rest =
          rw (lines_say-refused language n d line ls kind e) (inl (record {
            before = [];
            line = line;
            after = ls;
            said = d;
            place = refl;
            count = omega arith;
            leads = leads_none language n d;
            refusal = e;
          }))

said_by : {S A K : Type 0} (language : Language S A K) (bytes : List ℕ) (answer : Result A (LineError K))
    → length bytes ≤ language.longest
    → ComesTo language 0 language.nothing (language.lines_of bytes) answer → Says language bytes answer
said_by language bytes (Ok said) short h = record {
  short = short;
  said = h.0;
  leads = h.1;
  end = ap (λ k. language.at_end k h.0) (omega arith) ∙ h.2;
}
said_by language bytes (Err r) short (inl stops) = inr (inl (record { short = short; stops = stops }))
said_by language bytes (Err r) short (inr h) =
    inr (inr (record {
      short = short;
      said = h.0;
      leads = h.1;
      end = ap (λ k. language.at_end k h.0) (omega arith) ∙ h.2;
    }))

-- each file has the answer that the function gives
pub says : {S A K : Type 0} (language : Language S A K) (bytes : List ℕ)
    → Says language bytes (answer_of language bytes)
says language bytes = elim (cases_lt language.longest (length bytes)) [
  | inl long ↦ rw (answer_of-long language bytes long) (inl (long, refl))
  | inr short ↦ rw (answer_of-lines language bytes _ short refl) (said_by language bytes _ short (comes_to language
      0 language.nothing (language.lines_of bytes)))
]

pub led : {S A K : Type 0} (language : Language S A K) (n : ℕ) (d e : S) (ls : List (List ℕ))
    → Leads language n d ls e → lines_say language n d ls ≡ language.at_end (n + length ls) e
unfolding Leads
led language n d e [] h =
    lines_say-end language n d ∙ ap (λ k. language.at_end k d) (omega arith) ∙ ap (language.at_end (n + 0)) h
led language n d e (line ∷ ls) h =
    lines_say-more language n d line ls h.0 h.1 ∙ led language (n + 1) h.0 e ls h.2
    ∙ ap (λ k. language.at_end k e) (omega arith)

stopped_at : {S A K : Type 0} (language : Language S A K) (n : ℕ) (d mid : S) (before : List (List ℕ))
    (line : List ℕ) (after : List (List ℕ)) (kind : K) (at : ℕ) → Leads language n d before mid
    → at ≡ n + length before + 1 → language.with_line at mid line ≡ Err kind
    → lines_say language n d (before ++ line ∷ after) ≡ Err (error_at at kind)
unfolding Leads
stopped_at language n d mid [] line after kind at h count e =
    let here : at ≡ n + 1 = omega arith in
    rw here (lines_say-refused language n d line after kind (rw (← here, h) e))
stopped_at language n d mid (first ∷ before) line after kind at h count e =
    lines_say-more language n d first (before ++ line ∷ after) h.0 h.1
    ∙ stopped_at language (n + 1) h.0 mid before line after kind at h.2 (omega arith) e

-- no other
pub one : {S A K : Type 0} (language : Language S A K) (bytes : List ℕ) (answer : Result A (LineError K))
    → Says language bytes answer → answer ≡ answer_of language bytes
one language bytes (Ok said) h =
    sym (answer_of-lines language bytes (Ok said) h.short (led language 0 language.nothing h.said
    (language.lines_of bytes) h.leads ∙ ap (λ k. language.at_end k h.said) (omega arith) ∙ h.end))
one language bytes (Err r) (inl h) = ap Err h.1 ∙ sym (answer_of-long language bytes h.0)
one language bytes (Err r) (inr (inl h)) =
    let s = h.stops in
    sym (answer_of-lines language bytes (Err r) h.short (ap (lines_say language 0 language.nothing) s.place
    ∙ stopped_at language 0 language.nothing s.said s.before s.line s.after r.kind r.line s.leads s.count s.refusal))
one language bytes (Err r) (inr (inr h)) =
    sym (answer_of-lines language bytes (Err r) h.short (led language 0 language.nothing h.said
    (language.lines_of bytes) h.leads ∙ ap (λ k. language.at_end k h.said) (omega arith) ∙ h.end))

refusal_said : {S A K : Type 0} (language : Language S A K) (bytes : List ℕ) (o : Option (LineError K))
    → IfSome o (λ e. answer_of language bytes ≡ Err e) → IfSome o (λ e. Says language bytes (Err e))
refusal_said language bytes (Some e) h = rw h at (says language bytes)
refusal_said language bytes None h = tt

-- what the function says of an answer, the relation says too
pub is_said : {X S A K R : Type 0} (line_error : R → Option (LineError K)) (language : Language S A K) (view : X → A)
    (bytes : List ℕ) (answer : Result X R) → Parses line_error view answer (answer_of language bytes)
    → IsSaid line_error language view bytes answer
is_said line_error language view bytes (Ok x) h = rw h at (says language bytes)
is_said line_error language view bytes (Err r) h = refusal_said language bytes (line_error r) h
