-- A text is added to a buffer, piece by piece.
use Rattle.std.proofs.Common.{◌≡◌, ℕ, ◌+◌, ◌<◌, ◌≤◌, List, [], ◌∷◌, ◌++◌, length, drop, get_or, map, refl, sym, ap, ◌∙◌, arith}
use Rattle.std.proofs.lemmas.List.{append-nil, append_assoc, drop_all, drop_more, length-append}
use Rattle.std.specs.List.{flat_map}
use Rattle.gba_joblog.specs.Cable.{pair_of}
use Rattle.gba_joblog.specs.Job.{ConsoleJob}
use Rattle.gba_joblog.specs.declared.cable.Pair.{Pair}
use Rattle.gba_joblog.specs.declared.job.KeyChange.{KeyChange}
use Rattle.gba_joblog.specs.Log.{change_text, changes_text, console_text, consoles_text}
use Rattle.gba_joblog.specs.declared.outputs.OutKind.{OutKind}
use Rattle.gba_joblog.specs.declared.outputs.OutKind.TheVariants.{Frames}
use Rattle.gba_joblog.proofs.OutputNames.{at_item}
use Rattle.gba_log.specs.Buffers.{Buffer, Grew, HasRoom}

-- of a whole text this rest isn't added yet
pub record Printed (old new : Buffer) (whole rest : List ℕ) : Type 0 where
  pub front : List ℕ
  pub split : front ++ rest ≡ whole
  pub grew : Grew old new front

pub printed-begin : (into : Buffer) (whole : List ℕ) → Printed into into whole whole
printed-begin into whole = record {
  front = [];
  split = refl;
  grew = record { items = sym (append-nil into.items); len = omega arith; room = omega arith };
}

pub printed-room : (old new : Buffer) (whole piece rest : List ℕ) → HasRoom old whole
    → Printed old new whole (piece ++ rest) → HasRoom new piece
printed-room old new whole piece rest room h =
    let front = length-append h.front (piece ++ rest) in
    let back = length-append piece rest in
    let all = ap length h.split in
    omega (arith, front, back, all, h.grew.len, h.grew.room)

pub printed-more : (old mid new : Buffer) (whole piece rest : List ℕ) → Printed old mid whole (piece ++ rest)
    → Grew mid new piece → Printed old new whole rest
printed-more old mid new whole piece rest h grew = record {
  front = h.front ++ piece;
  split = append_assoc h.front piece rest ∙ h.split;
  grew = record {
    items = grew.items ∙ ap (λ (items : List ℕ). items ++ piece) h.grew.items ∙ append_assoc old.items h.front piece;
    len = omega (arith, grew.len, h.grew.len, length-append h.front piece);
    room = omega (arith, grew.room, h.grew.room);
  };
}

pub printed-end : (old new : Buffer) (whole : List ℕ) → Printed old new whole [] → Grew old new whole
printed-end old new whole h =
    let all : h.front ≡ whole = sym (append-nil h.front) ∙ h.split in
    rw (← all) h.grew

pub changes_text-none : changes_text [] ≡ []
unfolding changes_text
changes_text-none = refl

pub changes_text-more : (change : KeyChange) (changes : List KeyChange)
    → changes_text (change ∷ changes) ≡ change_text change ++ changes_text changes
unfolding changes_text
changes_text-more change changes = refl

-- a change that nothing says, as the default of a list's place
abbrev pub no_change : KeyChange
no_change = record { clock = 0; keys = 0 }

-- the changes from this place on
pub changes_text-at : (changes : List KeyChange) (i : ℕ) → i < length changes
    → changes_text (drop i changes)
    ≡ change_text (get_or changes i no_change) ++ changes_text (drop (i + 1) changes)
changes_text-at changes i lt =
    ap changes_text (drop_more changes i no_change lt)
    ∙ changes_text-more (get_or changes i no_change) (drop (i + 1) changes)

pub changes_text-past : (changes : List KeyChange) (i : ℕ) → length changes ≤ i → changes_text (drop i changes) ≡ []
changes_text-past changes i past = ap changes_text (drop_all i changes past) ∙ changes_text-none

-- the links from this place of the pairs on
pub pairs-at : (text : Pair → List ℕ) (pairs : List Pair) (i : ℕ) → i < length pairs
    → flat_map text (drop i pairs) ≡ text (get_or pairs i (pair_of 0 0)) ++ flat_map text (drop (i + 1) pairs)
pairs-at text pairs i lt = ap (flat_map text) (drop_more pairs i (pair_of 0 0) lt)

-- the outputs from this place of the kinds on
pub kinds-at : (text : OutKind → List ℕ) (kinds : List OutKind) (i : ℕ) → i < length kinds
    → flat_map text (drop i kinds) ≡ text (get_or kinds i Frames) ++ flat_map text (drop (i + 1) kinds)
kinds-at text kinds i lt = ap (flat_map text) (drop_more kinds i Frames lt)

pub consoles_text-none : (player : ℕ) → consoles_text player [] ≡ []
unfolding consoles_text
consoles_text-none player = refl

pub consoles_text-more : (player : ℕ) (console : ConsoleJob) (consoles : List ConsoleJob)
    → consoles_text player (console ∷ consoles) ≡ console_text player console ++ consoles_text (player + 1) consoles
unfolding consoles_text
consoles_text-more player console consoles = refl

-- the consoles from this place on
pub consoles_text-at : {X : Type 0} (view : X → ConsoleJob) (xs : List X) (i : ℕ) (x : X) → i < length xs
    → x ≡ get_or xs i x
    → consoles_text i (map view (drop i xs))
    ≡ console_text i (view x) ++ consoles_text (i + 1) (map view (drop (i + 1) xs))
consoles_text-at view xs i x lt is =
    ap (λ ys. consoles_text i (map view ys)) (at_item xs i x lt is)
    ∙ consoles_text-more i (view x) (map view (drop (i + 1) xs))

pub consoles_text-past : {X : Type 0} (view : X → ConsoleJob) (xs : List X) (i : ℕ) → length xs ≤ i
    → consoles_text i (map view (drop i xs)) ≡ []
consoles_text-past view xs i past =
    ap (λ ys. consoles_text i (map view ys)) (drop_all i xs past) ∙ consoles_text-none i
