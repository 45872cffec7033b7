-- The lines of a file of a language, read one after another by a cursor.
use Rattle.std.proofs.Common.{◌≡◌, ◌≤◌, ℕ, ◌+◌, Bool, true, false, cond, ◌&&◌, eqb, List, [], ◌∷◌, length, Option, Some, None, Result, Ok, Err, refl, ap, sym, ◌∙◌, arith}
use Rattle.std.specs.Prelude.{IfSome}
use Rattle.gba_text.specs.declared.kinds.LineError.{LineError}
use Rattle.gba_text.specs.Answers.{Parses, Reads}
use Rattle.gba_text.specs.Languages.{Language, lines_say, answer_of, error_at}
use Rattle.gba_text.specs.Lines.{lines, begins_with_feed, onto_front}
use Rattle.gba_text.specs.Reading.{Reading, first_of, with_line, next_line}
use Rattle.gba_text.proofs.Languages.{lines_say-more, lines_say-refused, lines_say-end, answer_of-lines}

-- a line is left, and what it leaves
pub record Opens (old new : Reading) (line : List ℕ) : Type 0 where
  pub lines : old.lines ≡ line ∷ new.lines
  pub number : new.number ≡ old.number + 1

opens_by : (ls : List (List ℕ)) (r : Reading) (line : List ℕ) → Some line ≡ first_of ls
    → (ls ≡ line ∷ (with_line ls r).lines) × ((with_line ls r).number ≡ r.number + 1)
opens_by [] r line e = absurd cc
opens_by (l ∷ ls) r line e = (cc, refl)

-- the next line, and what it leaves
pub opens : (old new : Reading) (line : List ℕ) → Some line ≡ first_of old.lines → new ≡ next_line old
    → Opens old new line
opens old new line first state =
    let o = opens_by old.lines old line first in
    record {
      lines = o.0 ∙ ap (λ (r : Reading). line ∷ r.lines) (sym state);
      number = ap (λ (r : Reading). r.number) state ∙ o.1;
    }

-- no line is left
pub closes : (ls : List (List ℕ)) → None ≡ first_of ls → ls ≡ []
closes [] e = refl
closes (l ∷ ls) e = absurd cc

onto-few : (b : ℕ) (pieces : List (List ℕ)) → length (onto_front b pieces) ≤ length pieces + 1
onto-few b [] = omega arith
onto-few b (piece ∷ pieces) = omega arith

few_by : (b n : ℕ) (pieces : List (List ℕ)) → length pieces ≤ n → (s t : Bool)
    → length (cond s ([] ∷ pieces) (cond t pieces (onto_front b pieces))) ≤ n + 1
few_by b n pieces h true t = omega arith
few_by b n pieces h false true = omega arith
few_by b n pieces h false false = omega (arith, onto-few b pieces)

-- a file has no more lines than bytes
pub lines-few : (bs : List ℕ) → length (lines bs) ≤ length bs
unfolding lines
lines-few [] = omega arith
lines-few (b ∷ bs) =
    omega (arith, few_by b (length bs) (lines bs) (lines-few bs) (eqb b 10) (eqb b 13 && begins_with_feed bs))

-- so many lines of a file are read, and lead to what is said; these lines are left
pub record IsReading {S A K : Type 0} (language : Language S A K) (bytes : List ℕ) (number : ℕ) (d : S)
    (rest : List (List ℕ)) : Type 0 where
  pub said : lines_say language number d rest ≡ lines_say language 0 language.nothing (language.lines_of bytes)
  pub count : number + length rest ≡ length (language.lines_of bytes)

went_on : {S A K : Type 0} (language : Language S A K) (bytes : List ℕ) (number : ℕ) (d : S) (line : List ℕ)
    (rest : List (List ℕ)) (e : S) → IsReading language bytes number d (line ∷ rest)
    → language.with_line (number + 1) d line ≡ Ok e → IsReading language bytes (number + 1) e rest
went_on language bytes number d line rest e h s =
    let more = lines_say-more language number d line rest e s in
    record { said = sym more ∙ h.said; count = omega (arith, h.count) }

stopped : {S A K : Type 0} (language : Language S A K) (bytes : List ℕ) (number : ℕ) (d : S) (line : List ℕ)
    (rest : List (List ℕ)) (kind : K) → IsReading language bytes number d (line ∷ rest)
    → language.with_line (number + 1) d line ≡ Err kind
    → lines_say language 0 language.nothing (language.lines_of bytes) ≡ Err (error_at (number + 1) kind)
stopped language bytes number d line rest kind h s =
    sym h.said ∙ lines_say-refused language number d line rest kind s

-- one line more is read
pub reads_on : {S A K : Type 0} (language : Language S A K) (bytes : List ℕ) (old new : Reading) (d e : S)
    (line : List ℕ) (number : ℕ) (rest : List (List ℕ)) → IsReading language bytes old.number d old.lines
    → Some line ≡ first_of old.lines → new ≡ next_line old → language.with_line new.number d line ≡ Ok e
    → number ≡ new.number → rest ≡ new.lines → IsReading language bytes number e rest
reads_on language bytes old new d e line number rest h first state said same left =
    let o = opens old new line first state in
    let here : IsReading language bytes old.number d (line ∷ new.lines) = rw o.lines at h in
    rw (same, left, o.number) (went_on language bytes old.number d line new.lines e here (rw o.number at said))

-- a line is refused
pub reads_refused : {S A K : Type 0} (language : Language S A K) (bytes : List ℕ) (old new : Reading) (d : S)
    (line : List ℕ) (kind : K) → IsReading language bytes old.number d old.lines
    → Some line ≡ first_of old.lines → new ≡ next_line old → language.with_line new.number d line ≡ Err kind
    → lines_say language 0 language.nothing (language.lines_of bytes) ≡ Err (error_at new.number kind)
reads_refused language bytes old new d line kind h first state said =
    let o = opens old new line first state in
    let here : IsReading language bytes old.number d (line ∷ new.lines) = rw o.lines at h in
    rw o.number (stopped language bytes old.number d line new.lines kind here (rw o.number at said))

pub reads_end : {S A K : Type 0} (language : Language S A K) (bytes : List ℕ) (old new : Reading) (d : S)
    → IsReading language bytes old.number d old.lines → None ≡ first_of old.lines → new ≡ next_line old
    → (lines_say language 0 language.nothing (language.lines_of bytes) ≡ language.at_end new.number d)
    × (new.number ≡ length (language.lines_of bytes))
reads_end language bytes old new d h first state =
    let none : old.lines ≡ [] = closes old.lines first in
    let same : new ≡ old = state ∙ ap (λ ls. with_line ls old) none in
    let here : IsReading language bytes old.number d [] = rw none at h in
    rw same (sym here.said ∙ lines_say-end language old.number d, omega (arith, here.count))

refused_by : {S A K : Type 0} (language : Language S A K) (bytes : List ℕ) (old new : Reading) (d : S)
    (line : List ℕ) (o : Option (LineError K)) → length bytes ≤ language.longest
    → IsReading language bytes old.number d old.lines → Some line ≡ first_of old.lines → new ≡ next_line old
    → IfSome o (λ e. (language.with_line new.number d line ≡ Err e.kind) × (e.line ≡ new.number))
    → IfSome o (λ e. answer_of language bytes ≡ Err e)
refused_by language bytes old new d line (Some e) short h first state reads =
    let all = answer_of-lines language bytes (Err (error_at new.number e.kind)) short
    (reads_refused language bytes old new d line e.kind h first state reads.0) in
    all ∙ ap (λ number. Err (error_at number e.kind)) (sym reads.1)
refused_by language bytes old new d line None short h first state reads = tt

-- a refusal while a line is read is that of the file
pub refuses : {S A X K R : Type 0} (line_error : R → Option (LineError K)) (language : Language S A K) (view : X → A)
    (bytes : List ℕ) (old new : Reading) (d said : S) (line : List ℕ) (r : R) → length bytes ≤ language.longest
    → IsReading language bytes old.number d old.lines → Some line ≡ first_of old.lines → new ≡ next_line old
    → Reads {X = Unit {0}} line_error (Err r) new.number said (language.with_line new.number d line)
    → Parses line_error view (Err r) (answer_of language bytes)
refuses line_error language view bytes old new d said line r short h first state reads =
    refused_by language bytes old new d line (line_error r) short h first state reads

-- the whole file is read
pub finishes : {S A K : Type 0} (language : Language S A K) (bytes : List ℕ) (old new : Reading) (d : S)
    (answer : Result A (LineError K)) → length bytes ≤ language.longest
    → IsReading language bytes old.number d old.lines
    → None ≡ first_of old.lines → new ≡ next_line old → language.at_end new.number d ≡ answer
    → answer_of language bytes ≡ answer
finishes language bytes old new d answer short h first state end =
    answer_of-lines language bytes answer short ((reads_end language bytes old new d h first state).0 ∙ end)

-- a file that isn't too long has few lines, where it has no more than bytes
pub reads_few : {S A K : Type 0} (language : Language S A K) (bytes : List ℕ) (old new : Reading) (d : S)
    → length (language.lines_of bytes) ≤ length bytes → length bytes ≤ language.longest
    → IsReading language bytes old.number d old.lines
    → None ≡ first_of old.lines → new ≡ next_line old → new.number ≤ language.longest
reads_few language bytes old new d few short h first state =
    omega (arith, few, (reads_end language bytes old new d h first state).1)
