-- What is hashed of a session, segment by segment.
use Rattle.std.proofs.Common.{◌≡◌, ◌<◌, ◌≤◌, ◌∙◌, ◌++◌, ℕ, Bool, true, false, not, nat_lt, List, [], ◌∷◌, ◌+◌, length, get_or, refl, sym, ap, subst, arith, Some, if◌then◌else◌}
use Rattle.std.specs.List.{All}
use Rattle.std.specs.Prelude.{slice_get}
use Rattle.std.proofs.lemmas.Grind.{flat_map-append}
use Rattle.std.proofs.lemmas.List.{length-append}
use Rattle.std.proofs.lemmas.List.Elements.{All-append}
use Rattle.std.proofs.lemmas.Option.{get_or_from_slice_get, slice_get-get_or}
use Rattle.gba_console.specs.Machine.{Machine, forgotten}
use Rattle.gba_console.specs.Segments.{behind, joined}
use Rattle.gba_joblog.specs.Outputs.{at_kind}
use Rattle.gba_joblog.specs.declared.outputs.OutKind.{OutKind}
use Rattle.gba_joblog.specs.declared.outputs.OutKind.TheVariants.{Frames, Samples, Words, State, Save}
use Rattle.gba_joblog.specs.declared.outputs.PerKind.{PerKind}
use Rattle.gba_output.specs.TransferWords.{words_line}
use Rattle.gba_session.proofs.Asking.{over-at}
use Rattle.gba_session.proofs.Joining.{joined-get}
use Rattle.gba_session.proofs.SoFar.{SoFar}
use Rattle.gba_session.specs.Digests.{Adds, AddsAll, AddsEach, AddsHere, AreHashed, IsFresh, IsHashed, bytes_by_now, has_piece, is_made}
use Rattle.gba_session.specs.Files.{grows, output_bytes}
use Rattle.gba_session.specs.Session.{Consoles, advanced, is_over, later_end, segment_cut, whole_cut}
use Rattle.gba_session.specs.Start.{run_until}
use Rattle.gba_snapshot.proofs.Forgetting.{state-behind}
use Rattle.link_order.proofs.Lists.{all_cons, all_nil}
use Rattle.link_order.specs.Cut.{Cut}
use Rattle.sha2.specs.Hashers.{Holds256}
use Rattle.sha2.specs.Sha256.{sha256}
use Rattle.sha2.specs.declared.Sha256.{Sha256}

-- what an emptied console has made before the run is over
none-made : (m : Machine) (kind : OutKind) → bytes_by_now false (forgotten m) kind ≡ []
none-made m Frames = refl
none-made m Samples = refl
none-made m Words = refl
none-made m State = refl
none-made m Save = refl

-- once the run is over all is made
all-made : (m : Machine) (kind : OutKind) → bytes_by_now true m kind ≡ output_bytes kind m
all-made m Frames = refl
all-made m Samples = refl
all-made m Words = refl
all-made m State = refl
all-made m Save = refl

-- hashers with no byte yet
abbrev pub AreNew : PerKind Sha256 → Type 0
AreNew hashers = (kind : OutKind) → Holds256 (at_kind hashers kind) []

pub are-new : (h : PerKind Sha256) → Holds256 h.frames [] → Holds256 h.samples [] → Holds256 h.words []
    → Holds256 h.state [] → Holds256 h.save [] → AreNew h
are-new h frames samples words state save Frames = frames
are-new h frames samples words state save Samples = samples
are-new h frames samples words state save Words = words
are-new h frames samples words state save State = state
are-new h frames samples words state save Save = save

pub new-more : (old new : List (PerKind Sha256)) (h : PerKind Sha256) → new ≡ old ++ h ∷ [] → AreNew h
    → All AreNew old → All AreNew new
new-more old new h kept is before =
    subst (All AreNew) (sym kept)
    (All-append AreNew old (h ∷ []) before (all_cons AreNew h [] is (all_nil AreNew)))

pub long-more : (old new : List (PerKind Sha256)) (h : PerKind Sha256) (n : ℕ) → new ≡ old ++ h ∷ []
    → length old ≡ n → length new ≡ n + 1
long-more old new h n kept long = ap length kept ∙ length-append old (h ∷ []) ∙ ap (λ (m : ℕ). m + 1) long

pub fresh-hashed : (s : Consoles) (each : List (PerKind Sha256)) → IsFresh s → All AreNew each
    → length each ≡ length s.asks → length (whole_cut s).consoles ≡ length s.asks
    → length (run_until s.to s.start).consoles ≡ length s.asks → s.to ≤ s.until → AreHashed s each
fresh-hashed s each fresh new many whole so_far within = record {
  many = many;
  whole = whole;
  so_far = so_far;
  within = within;
  hashed = λ k asks m h there kind asked.
      let ms = (run_until s.to s.start).consoles in
      let empty : get_or ms k m ≡ forgotten (get_or ms k m) =
      fresh.empty k m (omega (arith, there, many, so_far)) in
      let none : [] ≡ bytes_by_now (is_over s) (get_or ms k m) kind =
      sym (ap (λ (over : Bool). bytes_by_now over (get_or ms k m) kind) fresh.left
      ∙ ap (λ (one : Machine). bytes_by_now false one kind) empty ∙ none-made (get_or ms k m) kind) in
      subst (Holds256 (at_kind (get_or each k h) kind)) none (new k h there kind);
}

-- a piece that there is lies behind what was made before
made-behind : (over : Bool) (before m : Machine) (kind : OutKind) → is_made over kind ≡ true
    → bytes_by_now false before kind ++ output_bytes kind m ≡ bytes_by_now over (behind before m) kind
made-behind over before m Frames made = refl
made-behind over before m Samples made = refl
made-behind over before m Words made =
    sym (flat_map-append words_line before.board.ended.words m.board.ended.words)
made-behind over before m State made = rw made (sym (state-behind before m))
made-behind over before m Save made = rw made refl

apart : true ≡ false → ⊥
apart same = grind (arith, same)

-- where there is none, nothing of the kind is made by then
none-behind : (over : Bool) (before m : Machine) (kind : OutKind) → is_made over kind ≡ false
    → bytes_by_now false before kind ≡ bytes_by_now over (behind before m) kind
none-behind over before m Frames made = absurd (apart made)
none-behind over before m Samples made = absurd (apart made)
none-behind over before m Words made = absurd (apart made)
none-behind over before m State made = rw made refl
none-behind over before m Save made = rw made refl

asked-piece : (over : Bool) (asks : PerKind Bool) (kind : OutKind) → at_kind asks kind ≡ true
    → has_piece over asks kind ≡ is_made over kind
asked-piece over asks kind asked = ap (λ (asked : Bool). if asked then is_made over kind else false) asked

-- one kind of output is hashed
pub adds-piece : (over : Bool) (asks : PerKind Bool) (kind : OutKind) (old new : Sha256) (m : Machine)
    (piece : List ℕ) → has_piece over asks kind ≡ true → at_kind asks kind ≡ true → piece ≡ output_bytes kind m
    → ((message : List ℕ) → Holds256 old message → Holds256 new (message ++ piece)) → Adds over kind old m new
adds-piece over asks kind old new m piece has asked is told before held =
    let made : is_made over kind ≡ true = sym (asked-piece over asks kind asked) ∙ has in
    subst (Holds256 new)
    (ap (λ (bytes : List ℕ). bytes_by_now false before kind ++ bytes) is ∙ made-behind over before m kind made)
    (told (bytes_by_now false before kind) held)

pub adds-none : (over : Bool) (asks : PerKind Bool) (kind : OutKind) (hasher : Sha256) (m : Machine)
    → has_piece over asks kind ≡ false → at_kind asks kind ≡ true → Adds over kind hasher m hasher
adds-none over asks kind hasher m has asked before held =
    subst (Holds256 hasher)
    (none-behind over before m kind (sym (asked-piece over asks kind asked) ∙ has)) held

-- a piece that there is was asked for, and is made
pub piece-asked : (over : Bool) (asks : PerKind Bool) (kind : OutKind) → has_piece over asks kind ≡ true
    → at_kind asks kind ≡ true
piece-asked over asks kind has = by (at_kind asks kind) refl where
  by : (t : Bool) → at_kind asks kind ≡ t → at_kind asks kind ≡ true
  by true is = is
  by false is = absurd (apart (sym (sym (ap (λ (t : Bool). if t then is_made over kind else false) is) ∙ has)))

pub piece-made : (over : Bool) (asks : PerKind Bool) (kind : OutKind) → has_piece over asks kind ≡ true
    → grows kind ≡ false → over ≡ true
piece-made over asks kind has lasting =
    sym (ap (λ (g : Bool). if g then true else over) lasting)
    ∙ sym (asked-piece over asks kind (piece-asked over asks kind has)) ∙ has

-- some asks
pub none : PerKind Bool
none = record { frames = false; samples = false; words = false; state = false; save = false }

-- a player that has a piece was asked for it, and it is made
module _ (s : Consoles) (k : ℕ) (kind : OutKind) (has : Bool) (within : k < length s.asks)
    (told : (asks : PerKind Bool) → slice_get s.asks k ≡ Some asks → has ≡ has_piece (is_over s) asks kind)
    (yes : has ≡ true) where
  pub told-asked : (asks : PerKind Bool) → slice_get s.asks k ≡ Some asks → at_kind asks kind ≡ true
  told-asked asks here = piece-asked (is_over s) asks kind (sym (told asks here) ∙ yes)

  pub told-made : grows kind ≡ false → is_over s ≡ true
  told-made lasting =
      piece-made (is_over s) (get_or s.asks k none) kind
      (sym (told (get_or s.asks k none) (slice_get-get_or s.asks k none within)) ∙ yes) lasting

-- the kinds of one player
pub adds-all : (over : Bool) (asks : PerKind Bool) (old new : PerKind Sha256) (m : Machine)
    → (asks.frames ≡ true → Adds over Frames old.frames m new.frames)
    → (asks.samples ≡ true → Adds over Samples old.samples m new.samples)
    → (asks.words ≡ true → Adds over Words old.words m new.words)
    → (asks.state ≡ true → Adds over State old.state m new.state)
    → (asks.save ≡ true → Adds over Save old.save m new.save) → AddsAll over asks old m new
adds-all over asks old new m frames samples words state save Frames = frames
adds-all over asks old new m frames samples words state save Samples = samples
adds-all over asks old new m frames samples words state save Words = words
adds-all over asks old new m frames samples words state save State = state
adds-all over asks old new m frames samples words state save Save = save

-- the run isn't over: the next segment is run
going : (d : Consoles) → is_over d ≡ false → nat_lt d.to d.until ≡ true
going d left = by (nat_lt d.to d.until) refl where
  by : (t : Bool) → nat_lt d.to d.until ≡ t → nat_lt d.to d.until ≡ true
  by true is = is
  by false is = absurd (apart (sym (ap not is) ∙ left))

asks-kept : (d : Consoles) → (advanced d).asks ≡ d.asks
asks-kept d = by (nat_lt d.to d.until) refl where
  by : (t : Bool) → nat_lt d.to d.until ≡ t → (advanced d).asks ≡ d.asks
  by true is = rw is refl
  by false is = rw is refl

pub still-many : (d s : Consoles) (old : List (PerKind Sha256)) → AreHashed d old → s ≡ advanced d
    → length old ≡ length s.asks
still-many d s old held next =
    held.many ∙ ap length (sym (ap (λ (c : Consoles). c.asks) next ∙ asks-kept d))

module _ (d s : Consoles) (old new : List (PerKind Sha256)) (held : AreHashed d old) (left : is_over d ≡ false)
    (next : s ≡ advanced d) (joins : run_until s.to s.start ≡ joined (run_until s.from s.start) (segment_cut s))
    (within : s.to ≤ s.until) (segment : length (segment_cut s).consoles ≡ length s.asks)
    (whole : length (whole_cut s).consoles ≡ length s.asks)
    (so_far : length (run_until s.to s.start).consoles ≡ length s.asks) (adds : AddsEach s old new) where
  run-next : s ≡ record d { from = d.to; to = later_end d.until d.to }
  run-next =
      next
      ∙ ap (λ (t : Bool). let run : Consoles = record d { from = d.to; to = later_end d.until d.to } in if t then run else d)
      (going d left)

  from-is : d.to ≡ s.from
  from-is = sym (ap (λ (c : Consoles). c.from) run-next)

  start-is : d.start ≡ s.start
  start-is = sym (ap (λ (c : Consoles). c.start) run-next)

  asks-is : d.asks ≡ s.asks
  asks-is = sym (ap (λ (c : Consoles). c.asks) run-next)

  front : Cut Machine
  front = run_until s.from s.start

  front-is : run_until d.to d.start ≡ front
  unfolding front
  front-is = ap (λ (n : ℕ). run_until n d.start) from-is ∙ ap (run_until s.from) start-is

  front-many : length front.consoles ≡ length s.asks
  front-many = sym (ap (λ (c : Cut Machine). length c.consoles) front-is) ∙ held.so_far ∙ ap length asks-is

  old-many : length old ≡ length s.asks
  old-many = held.many ∙ ap length asks-is

  was-hashed : (k : ℕ) (asks : PerKind Bool) (m : Machine) (h : PerKind Sha256) → k < length old
      → IsHashed false (get_or s.asks k asks) (get_or old k h) (get_or front.consoles k m)
  was-hashed k asks m h there =
      subst (λ (over : Bool). IsHashed over (get_or s.asks k asks) (get_or old k h) (get_or front.consoles k m)) left
      (subst (λ (c : Cut Machine). IsHashed (is_over d) (get_or s.asks k asks) (get_or old k h) (get_or c.consoles k m))
      front-is
      (subst (λ (all : List (PerKind Bool)). IsHashed (is_over d) (get_or all k asks) (get_or old k h)
      (get_or (run_until d.to d.start).consoles k m)) asks-is (held.hashed k asks m h there)))

  now-made : (k : ℕ) (m : Machine) → k < length s.asks
      → get_or (run_until s.to s.start).consoles k m
      ≡ behind (get_or front.consoles k m) (get_or (segment_cut s).consoles k m)
  unfolding front
  now-made k m there =
      ap (λ (c : Cut Machine). get_or c.consoles k m) joins
      ∙ joined-get (run_until s.from s.start) (segment_cut s) k m m (omega (arith, there, segment))
      (omega (arith, there, front-many))

  pub hashed-next : AreHashed s new
  hashed-next = record {
    many = adds.many ∙ old-many;
    whole = whole;
    so_far = so_far;
    within = within;
    hashed = λ k asks m h there kind asked.
        let was : k < length old = omega (arith, there, adds.many) in
        subst (λ (one : Machine). Holds256 (at_kind (get_or new k h) kind) (bytes_by_now (is_over s) one kind))
        (sym (now-made k m (omega (arith, was, old-many))))
        (adds.each k h h was asks m kind asked (get_or front.consoles k m) (was-hashed k asks m h was kind asked));
  }

-- what a player is asked for once the run is over
pub gives-digest : (s : Consoles) (each : List (PerKind Sha256)) (player : ℕ) (kind : OutKind) (m : Machine)
    (hashers : PerKind Sha256) (digest : List ℕ) → AreHashed s each → player < length s.asks
    → ((asks : PerKind Bool) → slice_get s.asks player ≡ Some asks → at_kind asks kind ≡ true) → is_over s ≡ true
    → slice_get (whole_cut s).consoles player ≡ Some m → hashers ≡ get_or each player hashers
    → ((message : List ℕ) → Holds256 (at_kind hashers kind) message → digest ≡ sha256 message)
    → digest ≡ sha256 (output_bytes kind m)
gives-digest s each player kind m hashers digest held within asked over is here told =
    let asks = get_or s.asks player none in
    let yes : at_kind asks kind ≡ true = asked asks (slice_get-get_or s.asks player none within) in
    let whole : get_or (run_until s.to s.start).consoles player m ≡ m =
    ap (λ (n : ℕ). get_or (run_until n s.start).consoles player m) (over-at s.to s.until held.within over)
    ∙ get_or_from_slice_get (whole_cut s).consoles player m m is in
    told (output_bytes kind m)
    (subst (λ (bytes : List ℕ). Holds256 (at_kind hashers kind) bytes)
    (ap (λ (o : Bool). bytes_by_now o m kind) over ∙ all-made m kind)
    (subst (λ (one : Machine). Holds256 (at_kind hashers kind) (bytes_by_now (is_over s) one kind)) whole
    (subst (λ (h : PerKind Sha256). Holds256 (at_kind h kind)
    (bytes_by_now (is_over s) (get_or (run_until s.to s.start).consoles player m) kind)) (sym here)
    (held.hashed player none m hashers (omega (arith, within, held.many)) kind yes))))

-- hashers that are changed in place, one player's after another's
pub all-add : (s : Consoles) (i : ℕ) (old new : List (PerKind Sha256)) → length old ≤ i
    → SoFar (AddsHere s) i old new → AddsEach s old new
all-add s i old new past held = record {
  many = held.many;
  each = λ k h g within. held.changed k h g (omega (arith, within, past)) within;
}
