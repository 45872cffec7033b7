-- What calls of a sink leave in its files, one after another.
use Rattle.std.specs.Prelude.{take, unwrap_or, slice_index_or, if◌then◌else◌, ◌||◌}
use Rattle.std.specs.List.{All}
use Rattle.std.specs.Str.{bytes_eq}
use Rattle.std.proofs.lemmas.List.{append-nil, append_assoc}
use Rattle.std.proofs.lemmas.Slice.Eq.{bytes_eq-Decides}
use Rattle.std.proofs.Common.{◌≡◌, ◌≢◌, ◌⊎◌, ℕ, zero, suc, ◌<◌, Bool, true, false, List, [], ◌∷◌, ◌++◌, length, map, Option, Some, Result, Ok, Err, refl, sym, ap, ◌∙◌, subst, inl, inr, arith}
use Rattle.gba_store.specs.Files.{Files}
use Rattle.gba_command.specs.Answer.{Closes, Concludes, Finishes}
use Rattle.gba_command.specs.Cause.{Cause, NoCommand, Job, Image, Digest, Source, Frozen, status_of}
use Rattle.gba_command.specs.LeftFiles.{standard_output, is_among, added, NamesDiffer, HasOwnFiles, with_summary, LeavesFiles, left_in, HasStopped, MayHold, LeavesFronts, LeavesPieces}
use Rattle.gba_command.specs.Writing.{Output, Run, SinkState, WriteEnd, Wrote, SinkFails, SinkLacks, IsStopped, Call, Create, Append, Performs, PerformsAll, creation, addition, line_call, summary_calls, calls_of, at_once}

pub same-name : (a b : List ℕ) → bytes_eq a b ≡ true → a ≡ b
same-name a b h = grind (arith, bytes_eq-Decides)

pub own-name : (a : List ℕ) → bytes_eq a a ≡ true
own-name a = grind (arith, bytes_eq-Decides)

pub other-name : (a b : List ℕ) → bytes_eq a b ≡ false → a ≢ b
other-name a b h is = let same : bytes_eq a b ≡ true = subst (λ (c : List ℕ). bytes_eq a c ≡ true) is (own-name a) in
    absurd cc

pub names-apart : (a b : List ℕ) → a ≢ b → bytes_eq a b ≡ false
names-apart a b apart = by (bytes_eq a b) refl where
  by : (t : Bool) → bytes_eq a b ≡ t → bytes_eq a b ≡ false
  by true is = absurd (apart (same-name a b is))
  by false is = is

-- each of these files has a name of theirs
own-named : (outputs : List Output) (k : ℕ) (d : Output) → k < length outputs
    → is_among (slice_index_or outputs k d).name outputs ≡ true
unfolding is_among
own-named [] k d below = absurd (omega (arith, below))
own-named (output ∷ outputs) zero d below = rw (own-name output.name) refl
own-named (output ∷ outputs) (suc k) d below =
    let one : Output = slice_index_or outputs k d in
    by (bytes_eq output.name one.name) (own-named outputs k d (omega (arith, below))) where
      by : (t : Bool) → is_among (slice_index_or outputs k d).name outputs ≡ true
          → (t || is_among (slice_index_or outputs k d).name outputs) ≡ true
      by true is = refl
      by false is = is

absurd-named : (one : List ℕ) (outputs : List Output) → is_among one outputs ≡ true
    → is_among standard_output outputs ≡ false → one ≡ standard_output → ⊥
absurd-named one outputs is none same =
    let there : is_among standard_output outputs ≡ true = subst (λ (n : List ℕ). is_among n outputs ≡ true) same is in
    absurd cc

-- what one call makes of the file of a name
abbrev after_one : Call → List ℕ → Option (List ℕ) → Option (List ℕ)
after_one (Create other) name before = if bytes_eq other name then Some [] else before
after_one (Append other piece) name before = if bytes_eq other name then Some (unwrap_or before [] ++ piece) else before

module _ (Tells : Type 0) where
  done-one : (call : Call) (old new : SinkState) → Tells → Performs Tells call old new Wrote → (name : List ℕ)
      → new.files name ≡ after_one call name (old.files name)
  unfolding Performs
  done-one (Create other) old new tells h name = by (bytes_eq other name) refl where
    by : (b : Bool) → bytes_eq other name ≡ b → new.files name ≡ (if b then Some [] else old.files name)
    by true is = ap new.files (sym (same-name other name is)) ∙ (h.1 tells).file
    by false is = (h.1 tells).others name (λ same. other-name other name is (sym same))
  done-one (Append other piece) old new tells h name = by (bytes_eq other name) refl where
    by : (b : Bool) → bytes_eq other name ≡ b
        → new.files name ≡ (if b then Some (unwrap_or (old.files name) [] ++ piece) else old.files name)
    by true is =
        let same : other ≡ name = same-name other name is in
        ap new.files (sym same) ∙ (h.1 tells).file
        ∙ ap (λ (n : List ℕ). Some (unwrap_or (old.files n) [] ++ piece)) same
    by false is = (h.1 tells).others name (λ same. other-name other name is (sym same))

  -- calls and those behind them: the first are all done, or one of them isn't
  split : (before after : List Call) (old new : SinkState) (end : WriteEnd)
      → PerformsAll Tells (before ++ after) old new end
      → ((mid : SinkState) × PerformsAll Tells before old mid Wrote × PerformsAll Tells after mid new end)
      ⊎ (PerformsAll Tells before old new end × IsStopped end)
  unfolding PerformsAll
  split [] after old new end h = inl (old, (refl, refl), h)
  split (call ∷ before) after old new end (inl d) = inr (inl d, d.1)
  split (call ∷ before) after old new end (inr d) =
      elim (split before after d.0 new end d.2) [
        | inl t ↦ inl (t.0, inr (d.0, d.1, t.1), t.2)
        | inr t ↦ inr (inr (d.0, d.1, t.0), t.1)
      ]

  -- the call of a file that isn't done, and those before it
  record StopsAt (call : Output → Call) (outputs : List Output) (old new : SinkState) (end : WriteEnd) : Type 0 where
    before : List Output
    one : Output
    after : List Output
    place : outputs ≡ before ++ one ∷ after
    mid : SinkState
    done : PerformsAll Tells (map call before) old mid Wrote
    last : Performs Tells (call one) mid new end

  stops-at : (call : Output → Call) (outputs : List Output) (old new : SinkState) (end : WriteEnd)
      → PerformsAll Tells (map call outputs) old new end → IsStopped end → StopsAt call outputs old new end
  unfolding PerformsAll
  stops-at call [] old new end h stopped = absurd (subst IsStopped h.1 stopped)
  stops-at call (one ∷ outputs) old new end (inl h) stopped =
      record { before = []; one = one; after = outputs; place = refl; mid = old; done = (refl, refl); last = h.0 }
  stops-at call (one ∷ outputs) old new end (inr h) stopped =
      let s : StopsAt call outputs h.0 new end = stops-at call outputs h.0 new end h.2 stopped in
      record {
        before = one ∷ s.before;
        one = s.one;
        after = s.after;
        place = ap (λ (l : List Output). one ∷ l) s.place;
        mid = s.mid;
        done = inr (h.0, h.1, s.done);
        last = s.last;
      }

  made-first : (output : Output) (outputs : List Output) (name : List ℕ) (before : Option (List ℕ))
      → left_in outputs [] name (if bytes_eq output.name name then Some [] else before)
      ≡ left_in (output ∷ outputs) [] name before
  unfolding is_among added
  made-first output outputs name before = by (bytes_eq output.name name) (is_among name outputs) where
    by : (a b : Bool) → (if b then Some [] else (if a then Some [] else before)) ≡ (if a || b then Some [] else before)
    by true true = refl
    by true false = refl
    by false true = refl
    by false false = refl

  creates-leave : (outputs : List Output) (old new : SinkState) → Tells
      → PerformsAll Tells (map creation outputs) old new Wrote → (name : List ℕ)
      → new.files name ≡ left_in outputs [] name (old.files name)
  unfolding PerformsAll is_among
  creates-leave [] old new tells h name = ap (λ (s : SinkState). s.files name) h.0
  creates-leave (output ∷ outputs) old new tells (inl h) name = absurd h.1
  creates-leave (output ∷ outputs) old new tells (inr h) name =
      creates-leave outputs h.0 new tells h.2 name
      ∙ ap (left_in outputs [] name) (done-one (creation output) old h.0 tells h.1 name)
      ∙ made-first output outputs name (old.files name)

  piece-adds : (piece : Output) (name bytes : List ℕ) (before : Option (List ℕ)) → before ≡ Some bytes
      → after_one (addition piece) name before ≡ Some (bytes ++ (if bytes_eq piece.name name then piece.bytes else []))
  piece-adds piece name bytes before is = by (bytes_eq piece.name name) where
    by : (b : Bool) → (if b then Some (unwrap_or before [] ++ piece.bytes) else before)
        ≡ Some (bytes ++ (if b then piece.bytes else []))
    by true = ap (λ (o : Option (List ℕ)). Some (unwrap_or o [] ++ piece.bytes)) is
    by false = is ∙ ap Some (sym (append-nil bytes))

  -- pieces that are added to a file that is there
  adds-leave : (pieces : List Output) (old new : SinkState) → Tells
      → PerformsAll Tells (map addition pieces) old new Wrote → (name bytes : List ℕ) → old.files name ≡ Some bytes
      → new.files name ≡ Some (bytes ++ added name pieces)
  unfolding PerformsAll added
  adds-leave [] old new tells h name bytes is =
      ap (λ (s : SinkState). s.files name) h.0 ∙ is ∙ ap Some (sym (append-nil bytes))
  adds-leave (piece ∷ pieces) old new tells (inl h) name bytes is = absurd h.1
  adds-leave (piece ∷ pieces) old new tells (inr h) name bytes is =
      let more : List ℕ = if bytes_eq piece.name name then piece.bytes else [] in
      adds-leave pieces h.0 new tells h.2 name (bytes ++ more)
      (done-one (addition piece) old h.0 tells h.1 name ∙ piece-adds piece name bytes (old.files name) is)
      ∙ ap Some (append_assoc bytes more (added name pieces))

  not-named : (one name : List ℕ) (outputs : List Output) → is_among one outputs ≡ true → is_among name outputs ≡ false
      → bytes_eq one name ≡ false
  not-named one name outputs is none = by (bytes_eq one name) refl where
    by : (b : Bool) → bytes_eq one name ≡ b → bytes_eq one name ≡ false
    by true same =
        let there : is_among name outputs ≡ true
        = subst (λ (n : List ℕ). is_among n outputs ≡ true) (same-name one name same) is in
        absurd cc
    by false is = is

  -- pieces of files, and a name that none of them has
  adds-spare : (outputs pieces later : List Output) (old new : SinkState) → Tells
      → All (λ (piece : Output). is_among piece.name outputs ≡ true) (pieces ++ later)
      → PerformsAll Tells (map addition pieces) old new Wrote → (name : List ℕ) → is_among name outputs ≡ false
      → new.files name ≡ old.files name
  unfolding PerformsAll
  adds-spare outputs [] later old new tells own h name none = ap (λ (s : SinkState). s.files name) h.0
  adds-spare outputs (piece ∷ pieces) later old new tells own (inl h) name none = absurd h.1
  adds-spare outputs (piece ∷ pieces) later old new tells own (inr h) name none =
      let apart : bytes_eq piece.name name ≡ false
      = not-named piece.name name outputs (own 0 piece (omega arith)) none in
      adds-spare outputs pieces later h.0 new tells (λ k d below. own (suc k) d (omega (arith, below))) h.2 name none
      ∙ done-one (addition piece) old h.0 tells h.1 name
      ∙ ap (λ (b : Bool). if b then Some (unwrap_or (old.files name) [] ++ piece.bytes) else old.files name) apart

  -- all files made, and then pieces added
  leaves : (outputs front later : List Output) (old mid new : SinkState) → Tells
      → All (λ (piece : Output). is_among piece.name outputs ≡ true) (front ++ later)
      → PerformsAll Tells (map creation outputs) old mid Wrote → PerformsAll Tells (map addition front) mid new Wrote
      → (name : List ℕ) → new.files name ≡ left_in outputs front name (old.files name)
  unfolding added
  leaves outputs front later old mid new tells own made adds name = by (is_among name outputs) refl where
    by : (b : Bool) → is_among name outputs ≡ b
        → new.files name ≡ (if b then Some (added name front) else old.files name)
    by true is =
        adds-leave front mid new tells adds name []
        (creates-leave outputs old mid tells made name
        ∙ ap (λ (b : Bool). if b then Some [] else old.files name) is)
    by false is =
        adds-spare outputs front later mid new tells own adds name is
        ∙ creates-leave outputs old mid tells made name
        ∙ ap (λ (b : Bool). if b then Some (added name []) else old.files name) is

  -- the call of the summary, if there is one
  summary-leaves : (end : Result (List ℕ) Cause) (old new : SinkState) → Tells
      → PerformsAll Tells (summary_calls end) old new Wrote
      → (new.files standard_output ≡ with_summary end (old.files standard_output))
      × ((name : List ℕ) → name ≢ standard_output → new.files name ≡ old.files name)
  unfolding PerformsAll
  summary-leaves (Err cause) old new tells h =
      (ap (λ (s : SinkState). s.files standard_output) h.0, λ name apart. ap (λ (s : SinkState). s.files name) h.0)
  summary-leaves (Ok summary) old new tells (inl h) = absurd h.1
  summary-leaves (Ok summary) old new tells (inr h) =
      let call : (name : List ℕ) → new.files name ≡ after_one (line_call summary) name (old.files name)
      = λ name. ap (λ (s : SinkState). s.files name) h.2.0 ∙ done-one (line_call summary) old h.0 tells h.1 name in (
        call standard_output
            ∙ ap (λ (b : Bool). if b then Some (unwrap_or (old.files standard_output) [] ++ summary)
            else old.files standard_output)
            (own-name standard_output),
        λ name apart. call name
            ∙ ap (λ (b : Bool). if b then Some (unwrap_or (old.files name) [] ++ summary) else old.files name)
            (names-apart standard_output name (λ same. apart (sym same))),
      )

  -- the calls of a run that were all done: its files are made, its pieces added, and then comes the summary
  record Done (run : Run) (old new : SinkState) : Type 0 where
    made : SinkState
    added_to : SinkState
    creates : PerformsAll Tells (map creation run.outputs) old made Wrote
    adds : PerformsAll Tells (map addition run.pieces) made added_to Wrote
    tells_end : PerformsAll Tells (summary_calls run.end) added_to new Wrote

  all-done : (run : Run) (old new : SinkState) → PerformsAll Tells (calls_of run) old new Wrote → Done run old new
  all-done run old new h =
      let creates : List Call = map creation run.outputs in
      let adds : List Call = map addition run.pieces in
      elim (split (creates ++ adds) (summary_calls run.end) old new Wrote h) [
        | inl t ↦ elim (split creates adds old t.0 Wrote t.1) [
          | inl u ↦ record { made = u.0; added_to = t.0; creates = u.1; adds = u.2; tells_end = t.2 }
          | inr u ↦ absurd u.1
        ]
        | inr t ↦ absurd t.1
      ]

  pub left-files : (run : Run) (old new : SinkState) → Tells → HasOwnFiles run
      → PerformsAll Tells (calls_of run) old new Wrote → LeavesFiles run old.files new.files
  left-files run old new tells own h =
      let d : Done run old new = all-done run old new h in
      let all : All (λ (piece : Output). is_among piece.name run.outputs ≡ true) (run.pieces ++ [])
      = subst (λ (l : List Output). All (λ (piece : Output). is_among piece.name run.outputs ≡ true) l)
      (sym (append-nil run.pieces)) own.own in
      let held : (name : List ℕ) → d.added_to.files name ≡ left_in run.outputs run.pieces name (old.files name)
      = leaves run.outputs run.pieces [] old d.made d.added_to tells all d.creates d.adds in
      let last = summary-leaves run.end d.added_to new tells d.tells_end in
      let unnamed : (name : List ℕ) → is_among name run.outputs ≡ false → d.added_to.files name ≡ old.files name
      = λ name none. held name
      ∙ ap (λ (b : Bool). if b then Some (added name run.pieces) else old.files name) none in
      record {
        outputs = λ k output below.
            let one : Output = slice_index_or run.outputs k output in
            let there : is_among one.name run.outputs ≡ true = own-named run.outputs k output below in
            last.1 one.name (λ same. absurd-named one.name run.outputs there own.apart same)
            ∙ held one.name
            ∙ ap (λ (b : Bool). if b then Some (added one.name run.pieces) else old.files one.name) there
            ∙ ap Some (own.whole k output below);
        summary = last.0 ∙ ap (with_summary run.end) (unnamed standard_output own.apart);
        others = λ name none apart. last.1 name apart ∙ unnamed name none;
      }

  summary-stops : (end : Result (List ℕ) Cause) (old new : SinkState) (stop : WriteEnd)
      → PerformsAll Tells (summary_calls end) old new stop → IsStopped stop
      → (summary : List ℕ) × (end ≡ Ok summary) × Performs Tells (line_call summary) old new stop
  unfolding PerformsAll
  summary-stops (Err cause) old new stop h stopped = absurd (subst IsStopped h.1 stopped)
  summary-stops (Ok summary) old new stop (inl h) stopped = (summary, refl, h.0)
  summary-stops (Ok summary) old new stop (inr h) stopped = absurd (subst IsStopped h.2.1 stopped)

  -- the call that wasn't done: of the next file, of the next piece once all files are made, or of the summary
  NextCall : Run → List Output → List Output → Call → Type 0
  NextCall run unmade left call =
      ((output : Output) × (later : List Output) × (unmade ≡ output ∷ later) × (call ≡ creation output))
      ⊎ ((piece : Output) × (later : List Output) × (unmade ≡ []) × (left ≡ piece ∷ later) × (call ≡ addition piece))
      ⊎ ((summary : List ℕ) × (unmade ≡ []) × (left ≡ []) × (run.end ≡ Ok summary) × (call ≡ line_call summary))

  record Stopped (run : Run) (old new : SinkState) (stop : WriteEnd) : Type 0 where
    made : List Output
    unmade : List Output
    front : List Output
    left : List Output
    stopped : HasStopped run made unmade front left
    mid : SinkState
    held : (name : List ℕ) → mid.files name ≡ left_in made front name (old.files name)
    call : Call
    next : NextCall run unmade left call
    last : Performs Tells call mid new stop

  all-made : (run : Run) → run.outputs ≡ run.outputs ++ []
  all-made run = sym (append-nil run.outputs)

  stops-making : (run : Run) (old new : SinkState) (stop : WriteEnd) → Tells
      → PerformsAll Tells (map creation run.outputs) old new stop → IsStopped stop → Stopped run old new stop
  unfolding NextCall
  stops-making run old new stop tells h stopped =
      let s : StopsAt creation run.outputs old new stop = stops-at creation run.outputs old new stop h stopped in
      record {
        made = s.before;
        unmade = s.one ∷ s.after;
        front = [];
        left = run.pieces;
        stopped = record { files = s.place; pieces = refl; files_first = inr refl };
        mid = s.mid;
        held = creates-leave s.before old s.mid tells s.done;
        call = creation s.one;
        next = inl (s.one, s.after, refl, refl);
        last = s.last;
      }

  stops-adding : (run : Run) (old made new : SinkState) (stop : WriteEnd) → Tells → HasOwnFiles run
      → PerformsAll Tells (map creation run.outputs) old made Wrote
      → PerformsAll Tells (map addition run.pieces) made new stop → IsStopped stop → Stopped run old new stop
  unfolding NextCall
  stops-adding run old made new stop tells own creates h stopped =
      let s : StopsAt addition run.pieces made new stop = stops-at addition run.pieces made new stop h stopped in
      record {
        made = run.outputs;
        unmade = [];
        front = s.before;
        left = s.one ∷ s.after;
        stopped = record { files = all-made run; pieces = s.place; files_first = inl refl };
        mid = s.mid;
        held = leaves run.outputs s.before (s.one ∷ s.after) old made s.mid tells
            (subst (λ (l : List Output). All (λ (piece : Output). is_among piece.name run.outputs ≡ true) l) s.place
            own.own)
            creates s.done;
        call = addition s.one;
        next = inr (inl (s.one, s.after, refl, refl, refl));
        last = s.last;
      }

  stops-ending : (run : Run) (old made whole new : SinkState) (stop : WriteEnd) → Tells → HasOwnFiles run
      → PerformsAll Tells (map creation run.outputs) old made Wrote
      → PerformsAll Tells (map addition run.pieces) made whole Wrote
      → PerformsAll Tells (summary_calls run.end) whole new stop → IsStopped stop → Stopped run old new stop
  unfolding NextCall
  stops-ending run old made whole new stop tells own creates adds h stopped =
      let last = summary-stops run.end whole new stop h stopped in
      record {
        made = run.outputs;
        unmade = [];
        front = run.pieces;
        left = [];
        stopped = record { files = all-made run; pieces = sym (append-nil run.pieces); files_first = inl refl };
        mid = whole;
        held = leaves run.outputs run.pieces [] old made whole tells
            (subst (λ (l : List Output). All (λ (piece : Output). is_among piece.name run.outputs ≡ true) l)
            (sym (append-nil run.pieces)) own.own) creates adds;
        call = line_call last.0;
        next = inr (inr (last.0, refl, refl, last.1, refl));
        last = last.2;
      }

  stopped-run : (run : Run) (old new : SinkState) (stop : WriteEnd) → Tells → HasOwnFiles run
      → PerformsAll Tells (calls_of run) old new stop → IsStopped stop → Stopped run old new stop
  stopped-run run old new stop tells own h stopped =
      let creates : List Call = map creation run.outputs in
      let adds : List Call = map addition run.pieces in
      elim (split (creates ++ adds) (summary_calls run.end) old new stop h) [
        | inl t ↦ elim (split creates adds old t.0 Wrote t.1) [
          | inl u ↦ stops-ending run old u.0 t.0 new stop tells own u.1 u.2 t.2 stopped
          | inr u ↦ absurd u.1
        ]
        | inr t ↦ elim (split creates adds old new stop t.0) [
          | inl u ↦ stops-adding run old u.0 new stop tells own u.1 u.2 stopped
          | inr u ↦ stops-making run old new stop tells u.0 stopped
        ]
      ]

  pub left-pieces : (run : Run) (old new : SinkState) → Tells → HasOwnFiles run
      → PerformsAll Tells (calls_of run) old new SinkLacks → LeavesPieces run old.files new.files
  unfolding Performs
  left-pieces run old new tells own h =
      let s : Stopped run old new SinkLacks = stopped-run run old new SinkLacks tells own h tt in
      record {
        made = s.made;
        unmade = s.unmade;
        front = s.front;
        left = s.left;
        stopped = s.stopped;
        each = λ name. ap (λ (f : Files). f name) (s.last.2 tells) ∙ s.held name;
      }

  -- what the failing call leaves in its file, and that it leaves the others
  record Failing (run : Run) (unmade left : List Output) (name : List ℕ) (before now : Files) : Type 0 where
    failing : MayHold run unmade left name (before name) (now name)
    others : (other : List ℕ) → other ≢ name → now other ≡ before other

  fails : (run : Run) (unmade left : List Output) (call : Call) (name : List ℕ) (mid new : SinkState) → Tells
      → NextCall run unmade left call → Performs Tells call mid new (SinkFails name)
      → Failing run unmade left name mid.files new.files
  unfolding NextCall Performs
  fails run unmade left call name mid new tells (inl n) h =
      let output : Output = n.0 in
      let p : Performs Tells (creation output) mid new (SinkFails name)
      = subst (λ (c : Call). Performs Tells c mid new (SinkFails name)) n.3 h in
      let f = p.3 tells in
      let is : output.name ≡ name = p.1 in
      record {
        failing = elim f.file [
          | inl same ↦ inl (ap new.files (sym is) ∙ same ∙ ap mid.files is)
          | inr none ↦
              inr (inl (record {
                output = output;
                later = n.1;
                next = n.2;
                named = is;
                file = ap new.files (sym is) ∙ none;
              }))
        ];
        others = λ other apart. f.others other (λ same. apart (same ∙ is));
      }
  fails run unmade left call name mid new tells (inr (inl n)) h =
      let piece : Output = n.0 in
      let p : Performs Tells (addition piece) mid new (SinkFails name)
      = subst (λ (c : Call). Performs Tells c mid new (SinkFails name)) n.4 h in
      let f = p.3 tells in
      let is : piece.name ≡ name = p.1 in
      record {
        failing = elim f.file [
          | inl same ↦ inl (ap new.files (sym is) ∙ same ∙ ap mid.files is)
          | inr more ↦ inr (inr (inl (record {
            piece = piece;
            later = n.1;
            count = more.0;
            all_made = n.2;
            next = n.3;
            named = is;
            file = ap new.files (sym is) ∙ more.1
                ∙ ap (λ (n : List ℕ). Some (unwrap_or (mid.files n) [] ++ take more.0 piece.bytes)) is;
          })))
        ];
        others = λ other apart. f.others other (λ same. apart (same ∙ is));
      }
  fails run unmade left call name mid new tells (inr (inr n)) h =
      let summary : List ℕ = n.0 in
      let p : Performs Tells (line_call summary) mid new (SinkFails name)
      = subst (λ (c : Call). Performs Tells c mid new (SinkFails name)) n.4 h in
      let f = p.3 tells in
      let is : standard_output ≡ name = p.1 in
      record {
        failing = elim f.file [
          | inl same ↦ inl (ap new.files (sym is) ∙ same ∙ ap mid.files is)
          | inr more ↦ inr (inr (inr (record {
            summary = summary;
            count = more.0;
            all_made = n.1;
            all_added = n.2;
            ends = n.3;
            named = sym is;
            file = ap new.files (sym is) ∙ more.1
                ∙ ap (λ (n : List ℕ). Some (unwrap_or (mid.files n) [] ++ take more.0 summary)) is;
          })))
        ];
        others = λ other apart. f.others other (λ same. apart (same ∙ is));
      }

  pub left-fronts : (run : Run) (old new : SinkState) (name : List ℕ) → Tells → HasOwnFiles run
      → PerformsAll Tells (calls_of run) old new (SinkFails name) → LeavesFronts run name old.files new.files
  left-fronts run old new name tells own h =
      let s : Stopped run old new (SinkFails name) = stopped-run run old new (SinkFails name) tells own h tt in
      let f : Failing run s.unmade s.left name s.mid.files new.files
      = fails run s.unmade s.left s.call name s.mid new tells s.next s.last in
      record {
        made = s.made;
        unmade = s.unmade;
        front = s.front;
        left = s.left;
        stopped = s.stopped;
        failing =
            subst (λ (o : Option (List ℕ)). MayHold run s.unmade s.left name o (new.files name))
            (s.held name) f.failing;
        others = λ other apart. f.others other apart ∙ s.held other;
      }

  some-status : (cause : Cause) → 0 ≡ status_of cause → ⊥
  some-status NoCommand h = absurd cc
  some-status (Job name error) h = absurd cc
  some-status (Image name error) h = absurd cc
  some-status (Digest name stated got) h = absurd cc
  some-status (Source name error) h = absurd cc
  some-status (Frozen name error) h = absurd cc

  concluded : (end : Result (List ℕ) Cause) (mid new : SinkState) → Concludes Tells 0 end mid new
      → (summary : List ℕ) × (end ≡ Ok summary) × (new ≡ mid)
  concluded (Ok summary) mid new h = (summary, refl, h.1)
  concluded (Err cause) mid new h = absurd (some-status cause h.0)

  pub left-by-zero : (run : Run) (old new : SinkState) → Tells → HasOwnFiles run → Finishes Tells 0 run old new
      → (summary : List ℕ) × (run.end ≡ Ok summary) × LeavesFiles run old.files new.files
  left-by-zero run old new tells own h = by h.1 h.2 h.3 where
    by : (end : WriteEnd) → PerformsAll Tells (calls_of run) old h.0 end → Closes Tells 0 run.end end h.0 new
        → (summary : List ℕ) × (run.end ≡ Ok summary) × LeavesFiles run old.files new.files
    by Wrote calls closes =
        let c = concluded run.end h.0 new closes in (
          c.0,
          c.1,
          subst (λ (s : SinkState). LeavesFiles run old.files s.files) (sym c.2)
              (left-files run old h.0 tells own calls),
        )
    by (SinkFails name) calls closes = absurd (let nine : 0 ≡ 9 = closes.0 in cc)
    by SinkLacks calls closes = absurd (let ten : 0 ≡ 10 = closes.0 in cc)

none-added : (name : List ℕ) (outputs : List Output) → is_among name outputs ≡ false → added name outputs ≡ []
unfolding is_among added
none-added name [] none = refl
none-added name (output ∷ outputs) none = by (bytes_eq output.name name) none (none-added name outputs) where
  by : (t : Bool) → (t || is_among name outputs) ≡ false → (is_among name outputs ≡ false → added name outputs ≡ [])
      → (if t then output.bytes else []) ++ added name outputs ≡ []
  by true is rest = absurd cc
  by false is rest = rest is

whole-once : (outputs : List Output) → NamesDiffer outputs → (k : ℕ) (d : Output) → k < length outputs
    → added (slice_index_or outputs k d).name outputs ≡ (slice_index_or outputs k d).bytes
unfolding NamesDiffer added
whole-once [] differ k d below = absurd (omega (arith, below))
whole-once (output ∷ outputs) differ zero d below =
    ap (λ (b : Bool). (if b then output.bytes else []) ++ added output.name outputs) (own-name output.name)
    ∙ ap (λ (l : List ℕ). output.bytes ++ l) (none-added output.name outputs differ.0)
    ∙ append-nil output.bytes
whole-once (output ∷ outputs) differ (suc k) d below =
    let one : Output = slice_index_or outputs k d in
    let there : is_among one.name outputs ≡ true = own-named outputs k d (omega (arith, below)) in
    let apart : bytes_eq output.name one.name ≡ false
    = names-apart output.name one.name (λ same.
    let here : is_among output.name outputs ≡ true
    = subst (λ (n : List ℕ). is_among n outputs ≡ true) (sym same) there in
    let none = differ.0 in absurd cc) in
    ap (λ (b : Bool). (if b then output.bytes else []) ++ added one.name outputs) apart
    ∙ whole-once outputs differ.1 k d (omega (arith, below))

pub has-own-files : (outputs : List Output) (end : Result (List ℕ) Cause) → NamesDiffer outputs
    → is_among standard_output outputs ≡ false → HasOwnFiles (at_once outputs end)
has-own-files outputs end differ none =
    record { apart = none; own = own-named outputs; whole = whole-once outputs differ }
