-- How many consoles have begun, line by line.
use Rattle.std.proofs.Common.{◌≡◌, ◌<◌, ℕ, suc, ◌+◌, ◌==◌, Bool, true, false, cond, nat_lt, List, [], ◌∷◌, length, Option, Some, None, Ok, refl, ap, sym, ◌∙◌, subst, arith}
use Rattle.std.proofs.lemmas.Bool.Decides.{nat_tests}
use Rattle.std.proofs.lemmas.List.{length-append}
use Rattle.gba_text.specs.Steps.{Taken, taken}
use Rattle.gba_text.proofs.Spans.{rest_of_all}
use Rattle.gba_text.proofs.Steps.{bind-ok}
use Rattle.gba_flash.specs.Flash.{is_flash}
use Rattle.gba_frozen.specs.Lines.{Said, Nothing, Values, QueueBytes, WaveBytes, MemoryBytes, Colours, Live, line_said, slot_said}
use Rattle.gba_frozen.specs.Places.{after_row, backup_of, is_left, is_place, is_slot, left_for, next_by, next_place, place_for, placed}
use Rattle.gba_frozen.specs.Reading.{ConsoleDraft, Draft, after_said, fed_said, is_past, nothing_read, read_at, said_at, with_last, with_line_of, with_said, without_feed}
use Rattle.gba_frozen.specs.Rows.{is_row}
use Rattle.gba_frozen.specs.Spelling.{pieces}
use Rattle.gba_frozen.specs.Words.{LineWords}
use Rattle.gba_frozen.specs.declared.kinds.Setup.{Setup}
use Rattle.gba_frozen.specs.declared.places.Place.{Place}
use Rattle.gba_frozen.specs.declared.places.Slot.{Slot}
use Rattle.gba_frozen.specs.declared.places.Slot.TheVariants.{Version, Digest, Fixed, Queue, Wave, Memory, Drawn, Signals, End, Past}
use Rattle.gba_frozen.specs.declared.rows.Row.{Row}
use Rattle.gba_frozen.specs.declared.rows.Row.TheVariants as row
use Rattle.gba_frozen_read.specs.Thawed.{CountedAt, IsCounted, IsNext, SaidFits, is_begun, is_behind_consoles, with_next}
use Rattle.gba_frozen_read.proofs.Steps.{said-there}
use Rattle.gba_frozen_read.proofs.Fits.{digest-says, drawn-says, end-says, memory-says, queue-says, row-says, signal-says, version-says, wave-says}

either : {A : Type 0} (P : A → Type 0) (b : Bool) (one other : A) → P one → P other → P (cond b one other)
either P true one other p q = p
either P false one other p q = q

-- a place among the lines of a console that has begun
abbrev Inside : Slot → Type 0
Inside slot = (is_begun slot ≡ true) × (is_behind_consoles slot ≡ false)

inside : (consoles player count : ℕ) (slot : Slot) → player < consoles → count ≡ player + 1 → Inside slot
    → CountedAt consoles (placed player slot) count
inside consoles player count slot below is within = record {
  player = below;
  begun = rw within.0 is;
  all = λ over. absurd (cc (within.1, over));
}

-- the places behind lines that may be missing
behind_drawn : (consoles player count : ℕ) (b : Bool) → nat_lt (player + 1) consoles ≡ b → player < consoles
    → count ≡ player + 1
    → CountedAt consoles (cond b (placed (player + 1) (Fixed row.Heading)) (placed player Signals)) count
behind_drawn consoles player count true e below is = record {
  player = grind (arith, nat_tests);
  begun = is;
  all = λ over. absurd cc;
}
behind_drawn consoles player count false e below is = record {
  player = below;
  begun = is;
  all = λ _. grind (arith, nat_tests);
}

next-counted : (setup : Setup) (player : ℕ) (slot : Slot) (words : LineWords) (count : ℕ) → is_left slot words ≡ true
    → CountedAt setup.consoles (placed player slot) count → CountedAt setup.consoles (next_by setup player slot) count
unfolding is_left next_by
next-counted setup player Version words count left h = absurd cc
next-counted setup player Digest words count left h = absurd cc
next-counted setup player (Fixed which) words count left h = absurd cc
next-counted setup player (Queue queue) words count left h = absurd cc
next-counted setup player (Wave bank) words count left h = absurd cc
next-counted setup player (Memory last) words count left h =
    inside setup.consoles player count _ h.player h.begun
    (either (λ (r : Row). Inside (Fixed r)) (is_flash (backup_of setup player)) row.Flash row.Was (refl, refl) (
      refl,
      refl,
    ))
next-counted setup player (Drawn last) words count left h =
    behind_drawn setup.consoles player count (nat_lt (player + 1) setup.consoles) refl h.player h.begun
next-counted setup player Signals words count left h =
    record { player = h.player; begun = h.begun; all = λ _. h.all refl }
next-counted setup player End words count left h = absurd cc
next-counted setup player Past words count left h = absurd cc

left-counted : (setup : Setup) (words : LineWords) (at : Place) (count : ℕ) → CountedAt setup.consoles at count
    → CountedAt setup.consoles (left_for setup words at) count
left-counted setup words at count h = by_test (is_left at.slot words) refl where
  by_test : (b : Bool) → is_left at.slot words ≡ b → CountedAt setup.consoles (cond b (next_place setup at) at) count
  by_test true e = next-counted setup at.player at.slot words count e h
  by_test false e = h

place-counted : (setup : Setup) (words : LineWords) (at : Place) (count : ℕ) → CountedAt setup.consoles at count
    → CountedAt setup.consoles (place_for setup words at) count
place-counted setup words at count h =
    left-counted setup words (left_for setup words at) count (left-counted setup words at count h)

-- how many have begun with a line
count_with : Said → ℕ → ℕ
count_with (Values row.Heading values) count = count + 1
count_with _ count = count

last-count : (change : ConsoleDraft → ConsoleDraft) (consoles : List ConsoleDraft)
    → length (with_last change consoles) ≡ length consoles
unfolding with_last
last-count change [] = refl
last-count change (last ∷ []) = refl
last-count change (console ∷ next ∷ consoles) = ap suc (last-count change (next ∷ consoles))

said-count : (said : Said) (d : Draft) → length (with_said said d).consoles ≡ count_with said (length d.consoles)
unfolding with_said count_with
said-count (Values row.Heading values) d = simp length-append
said-count (Values (row.Console n) values) d = last-count (with_line_of (Values (row.Console n) values)) d.consoles
said-count (Values row.Clock values) d = last-count (with_line_of (Values row.Clock values)) d.consoles
said-count (Values row.Halted values) d = last-count (with_line_of (Values row.Halted values)) d.consoles
said-count (Values (row.Register n) values) d = last-count (with_line_of (Values (row.Register n) values)) d.consoles
said-count (Values (row.Timer n) values) d = last-count (with_line_of (Values (row.Timer n) values)) d.consoles
said-count (Values (row.Dma n) values) d = last-count (with_line_of (Values (row.Dma n) values)) d.consoles
said-count (Values row.Sequencer values) d = last-count (with_line_of (Values row.Sequencer values)) d.consoles
said-count (Values (row.Tone n) values) d = last-count (with_line_of (Values (row.Tone n) values)) d.consoles
said-count (Values row.Position values) d = last-count (with_line_of (Values row.Position values)) d.consoles
said-count (Values (row.Affine n) values) d = last-count (with_line_of (Values (row.Affine n) values)) d.consoles
said-count (Values row.Serial values) d = last-count (with_line_of (Values row.Serial values)) d.consoles
said-count (Values row.Known values) d = last-count (with_line_of (Values row.Known values)) d.consoles
said-count (Values row.Flash values) d = last-count (with_line_of (Values row.Flash values)) d.consoles
said-count (Values row.Was values) d = last-count (with_line_of (Values row.Was values)) d.consoles
said-count (Values row.Applied values) d = last-count (with_line_of (Values row.Applied values)) d.consoles
said-count (Values row.Counts values) d = last-count (with_line_of (Values row.Counts values)) d.consoles
said-count Nothing d = last-count (with_line_of Nothing) d.consoles
said-count (QueueBytes queue current bytes) d = last-count (with_line_of (QueueBytes queue current bytes)) d.consoles
said-count (WaveBytes bank bytes) d = last-count (with_line_of (WaveBytes bank bytes)) d.consoles
said-count (MemoryBytes place bytes) d = last-count (with_line_of (MemoryBytes place bytes)) d.consoles
said-count (Colours line colours) d = last-count (with_line_of (Colours line colours)) d.consoles
said-count (Live sender signal) d = refl

-- behind a row stands a line of the same console
row-inside : (player : ℕ) (which : Row) → Inside (after_row player which)
unfolding after_row
row-inside player row.Heading = (refl, refl)
row-inside player (row.Console n) = (refl, refl)
row-inside player row.Clock = (refl, refl)
row-inside player row.Halted = (refl, refl)
row-inside player (row.Register n) =
    either (λ (r : Row). Inside (Fixed r)) (nat_lt n 36) (row.Register (n + 1)) (row.Timer 0) (refl, refl) (refl, refl)
row-inside player (row.Timer n) =
    either (λ (r : Row). Inside (Fixed r)) (nat_lt n 3) (row.Timer (n + 1)) (row.Dma 0) (refl, refl) (refl, refl)
row-inside player (row.Dma n) = either Inside (nat_lt n 3) (Fixed (row.Dma (n + 1))) (Queue 0) (refl, refl) (refl, refl)
row-inside player row.Sequencer = (refl, refl)
row-inside player (row.Tone n) =
    either Inside (nat_lt n 4) (Fixed (row.Tone (n + 1))) (Wave 0) (refl, refl) (refl, refl)
row-inside player row.Position = (refl, refl)
row-inside player (row.Affine n) =
    either (λ (r : Row). Inside (Fixed r)) (n == 2) (row.Affine 3) row.Serial (refl, refl) (refl, refl)
row-inside player row.Serial = (refl, refl)
row-inside player row.Known = (refl, refl)
row-inside player row.Flash = (refl, refl)
row-inside player row.Was = (refl, refl)
row-inside player row.Applied = (refl, refl)
row-inside player row.Counts = (refl, refl)

row-count : (consoles player : ℕ) (which : Row) (values : List ℕ) (count : ℕ)
    → CountedAt consoles (placed player (Fixed which)) count → count_with (Values which values) count ≡ player + 1
unfolding count_with
row-count consoles player row.Heading values count h = ap (λ n. n + 1) h.begun
row-count consoles player (row.Console n) values count h = h.begun
row-count consoles player row.Clock values count h = h.begun
row-count consoles player row.Halted values count h = h.begun
row-count consoles player (row.Register n) values count h = h.begun
row-count consoles player (row.Timer n) values count h = h.begun
row-count consoles player (row.Dma n) values count h = h.begun
row-count consoles player row.Sequencer values count h = h.begun
row-count consoles player (row.Tone n) values count h = h.begun
row-count consoles player row.Position values count h = h.begun
row-count consoles player (row.Affine n) values count h = h.begun
row-count consoles player row.Serial values count h = h.begun
row-count consoles player row.Known values count h = h.begun
row-count consoles player row.Flash values count h = h.begun
row-count consoles player row.Was values count h = h.begun
row-count consoles player row.Applied values count h = h.begun
row-count consoles player row.Counts values count h = h.begun

-- what a line of a place says, and where the file is read on behind it
record Goes (setup : Setup) (player : ℕ) (count : ℕ) (said : Said) (at : Place) : Type 0 where
  fits : SaidFits setup player said
  same : at.player ≡ player
  counted : CountedAt setup.consoles at (count_with said count)

slot-goes : (setup : Setup) (player : ℕ) (slot : Slot) (words : LineWords) (count : ℕ) (said : Said)
    → is_slot slot ≡ true → CountedAt setup.consoles (placed player slot) count
    → slot_said setup player slot words ≡ Ok said
    → Goes setup player count said (after_said setup (placed player slot) said)
unfolding slot_said is_slot after_said next_by count_with
slot-goes setup player Version words count said is h e =
    let s = version-says words said e in
    subst (λ (t : Said). Goes setup player count t (after_said setup (placed player Version) t)) (sym s)
    (record {
      fits = tt;
      same = refl;
      counted = record { player = h.player; begun = h.begun; all = λ over. absurd cc };
    })
slot-goes setup player Digest words count said is h e =
    let s = digest-says setup.digest words said e in
    subst (λ (t : Said). Goes setup player count t (after_said setup (placed player Digest) t)) (sym s)
    (record {
      fits = tt;
      same = refl;
      counted = record { player = h.player; begun = h.begun; all = λ over. absurd cc };
    })
slot-goes setup player (Fixed which) words count said is h e =
    let s = row-says setup.until which words said e in
    subst (λ (t : Said). Goes setup player count t (after_said setup (placed player (Fixed which)) t)) s.1
    (record {
      fits = (is, s.2, s.3);
      same = refl;
      counted =
          inside setup.consoles player _ (after_row player which) h.player
          (row-count setup.consoles player which s.0 count h) (row-inside player which);
    })
slot-goes setup player (Queue queue) words count said is h e =
    let s = queue-says queue words said e in
    subst (λ (t : Said). Goes setup player count t (after_said setup (placed player (Queue queue)) t)) s.2
    (record {
      fits = (grind (arith, nat_tests), s.3);
      same = refl;
      counted = inside setup.consoles player count _ h.player h.begun
          (either Inside (queue == 0) (Queue 1) (Fixed row.Sequencer) (refl, refl) (refl, refl));
    })
slot-goes setup player (Wave bank) words count said is h e =
    let s = wave-says bank words said e in
    subst (λ (t : Said). Goes setup player count t (after_said setup (placed player (Wave bank)) t)) s.1
    (record {
      fits = (grind (arith, nat_tests), s.2);
      same = refl;
      counted = inside setup.consoles player count _ h.player h.begun
          (either Inside (bank == 0) (Wave 1) (Fixed row.Position) (refl, refl) (refl, refl));
    })
slot-goes setup player (Memory last) words count said is h e =
    let s = memory-says (backup_of setup player) last words said e in
    subst (λ (t : Said). Goes setup player count t (after_said setup (placed player (Memory last)) t)) s.2
    (record {
      fits = (s.3, s.4);
      same = refl;
      counted = inside setup.consoles player count _ h.player h.begun (refl, refl);
    })
slot-goes setup player (Drawn last) words count said is h e =
    let s = drawn-says last words said e in
    subst (λ (t : Said). Goes setup player count t (after_said setup (placed player (Drawn last)) t)) s.2
    (record {
      fits = (s.3, s.4);
      same = refl;
      counted = inside setup.consoles player count _ h.player h.begun (refl, refl);
    })
slot-goes setup player Signals words count said is h e =
    let s = signal-says setup.consoles words said e in
    subst (λ (t : Said). Goes setup player count t (after_said setup (placed player Signals) t)) s.2
    (record { fits = (s.3, s.4); same = refl; counted = record { player = h.player; begun = h.begun; all = h.all } })
slot-goes setup player End words count said is h e =
    let s = end-says words said e in
    subst (λ (t : Said). Goes setup player count t (after_said setup (placed player End) t)) (sym s)
    (record { fits = tt; same = refl; counted = record { player = h.player; begun = h.begun; all = λ _. h.all refl } })
slot-goes setup player Past words count said is h e = absurd cc

-- the place of a line is one
next-slot : (setup : Setup) (player : ℕ) (slot : Slot) (words : LineWords) → is_left slot words ≡ true
    → is_slot (next_by setup player slot).slot ≡ true
unfolding is_left next_by is_slot is_row
next-slot setup player Version words left = absurd cc
next-slot setup player Digest words left = absurd cc
next-slot setup player (Fixed which) words left = absurd cc
next-slot setup player (Queue queue) words left = absurd cc
next-slot setup player (Wave bank) words left = absurd cc
next-slot setup player (Memory last) words left =
    either (λ (r : Row). is_slot (Fixed r) ≡ true) (is_flash (backup_of setup player)) row.Flash row.Was refl refl
next-slot setup player (Drawn last) words left =
    either (λ (p : Place). is_slot p.slot ≡ true) (nat_lt (player + 1) setup.consoles)
    (placed (player + 1) (Fixed row.Heading)) (placed player Signals) refl refl
next-slot setup player Signals words left = refl
next-slot setup player End words left = absurd cc
next-slot setup player Past words left = absurd cc

left-slot : (setup : Setup) (words : LineWords) (at : Place) → is_slot at.slot ≡ true
    → is_slot (left_for setup words at).slot ≡ true
left-slot setup words at h = by_test (is_left at.slot words) refl where
  by_test : (b : Bool) → is_left at.slot words ≡ b → is_slot (cond b (next_place setup at) at).slot ≡ true
  by_test true e = next-slot setup at.player at.slot words e
  by_test false e = h

place-slot : (setup : Setup) (words : LineWords) (at : Place) → is_slot at.slot ≡ true
    → is_slot (place_for setup words at).slot ≡ true
place-slot setup words at h = left-slot setup words (left_for setup words at) (left-slot setup words at h)

-- what a line says is in its ranges, and so many consoles have begun behind it
said-goes : (setup : Setup) (d : Draft) (line : List ℕ) (at : Place) (said : Said) → is_slot d.at.slot ≡ true
    → IsCounted setup d → said_at setup (place_for setup (pieces line) d.at) line ≡ Ok (taken said at)
    → SaidFits setup at.player said × IsCounted setup (with_next at said d)
said-goes setup d line at said is h e =
    let here = place_for setup (pieces line) d.at in
    let count = length d.consoles in
    let b = bind-ok (line_said setup here line) _ (taken said at) e in
    let same : taken b.0 (after_said setup here b.0) ≡ taken said at = cc in
    let what : b.0 ≡ said = ap (λ (t : Taken Place Said). t.value) same in
    let where_at : after_said setup here b.0 ≡ at = ap (λ (t : Taken Place Said). t.left) same in
    let g : Goes setup here.player count b.0 (after_said setup here b.0) =
    slot-goes setup here.player here.slot (pieces line) count b.0 (place-slot setup (pieces line) d.at is)
    (place-counted setup (pieces line) d.at count h) b.1 in
    let there : Goes setup here.player count said at =
    subst (λ (s : Said). Goes setup here.player count s at) what
    (subst (λ (p : Place). Goes setup here.player count b.0 p) where_at g) in
    let next : Draft = record d { at = at } in (
      subst (λ (p : ℕ). SaidFits setup p said) (sym there.same) there.fits,
      subst (λ (p : Place). CountedAt setup.consoles p (length (with_said said next).consoles))
          (sym (said-there said next))
          (subst (λ (n : ℕ). CountedAt setup.consoles at n) (sym (said-count said next)) there.counted),
    )

read-goes : (setup : Setup) (d : Draft) (line : List ℕ) (at : Place) (said : Said) → is_slot d.at.slot ≡ true
    → IsCounted setup d → read_at setup d.at line ≡ Ok (taken said at)
    → SaidFits setup at.player said × IsCounted setup (with_next at said d)
unfolding read_at
read-goes setup d line at said is h e = by_feed (without_feed line) e where
  by_feed : (o : Option (List ℕ)) → fed_said setup d.at o ≡ Ok (taken said at)
      → SaidFits setup at.player said × IsCounted setup (with_next at said d)
  by_feed (Some l) s = said-goes setup d l at said is h s
  by_feed None s = absurd cc

-- a line that is read is the next one
pub is_next : (setup : Setup) (d : Draft) (from : Place) (line : List ℕ) (at : Place) (said : Said) → d.at ≡ from
    → is_place from ≡ true → IsCounted setup d → read_at setup from line ≡ Ok (taken said at) → IsNext setup d at said
is_next setup d from line at said here is h e =
    let read : read_at setup d.at line ≡ Ok (taken said at) = ap (λ (p : Place). read_at setup p line) here ∙ e in
    let slot : is_slot d.at.slot ≡ true =
    ap (λ (p : Place). is_slot p.slot) here ∙ rest_of_all (nat_lt from.player 4) (is_slot from.slot) is in
    let goes = read-goes setup d line at said slot h read in
    record { line = line; read = read; fits = goes.0; before = h; behind = goes.1 }

-- the first line begins no console
pub counted_first : (setup : Setup) → 0 < setup.consoles → IsCounted setup nothing_read
counted_first setup some = record { player = some; begun = refl; all = λ over. absurd cc }

-- a file whose last line is read has all consoles
pub counted_all : (setup : Setup) (d : Draft) → IsCounted setup d → is_past d.at.slot ≡ true
    → length d.consoles ≡ setup.consoles
counted_all setup d h past = at_past d.at.slot past (length d.consoles) d.at.player h.begun h.all where
  at_past : (slot : Slot) → is_past slot ≡ true → (count player : ℕ) → count ≡ cond (is_begun slot) (player + 1) player
      → (is_behind_consoles slot ≡ true → player + 1 ≡ setup.consoles) → count ≡ setup.consoles
  at_past Past e count player begun all = begun ∙ all refl
  at_past Version e count player begun all = absurd cc
  at_past Digest e count player begun all = absurd cc
  at_past (Fixed which) e count player begun all = absurd cc
  at_past (Queue queue) e count player begun all = absurd cc
  at_past (Wave bank) e count player begun all = absurd cc
  at_past (Memory last) e count player begun all = absurd cc
  at_past (Drawn last) e count player begun all = absurd cc
  at_past Signals e count player begun all = absurd cc
  at_past End e count player begun all = absurd cc
