-- A line of a console stands where the console has begun.
use Rattle.std.proofs.Common.{◌≡◌, ◌<◌, ℕ, ◌+◌, ◌==◌, Bool, true, false, cond, nat_lt, List, length, Option, Some, None, Ok, refl, ap, sym, ◌∙◌, subst}
use Rattle.gba_text.specs.Steps.{Taken, taken}
use Rattle.gba_text.proofs.Steps.{bind-ok}
use Rattle.gba_frozen.specs.Lines.{Said, Nothing, Values, QueueBytes, WaveBytes, MemoryBytes, Colours, Live, line_said, slot_said}
use Rattle.gba_frozen.specs.Places.{after_row, backup_of, next_by, place_for, placed}
use Rattle.gba_frozen.specs.Reading.{Draft, after_said, fed_said, read_at, said_at, without_feed}
use Rattle.gba_frozen.specs.Spelling.{pieces}
use Rattle.gba_frozen.specs.Words.{LineWords}
use Rattle.gba_frozen.specs.declared.kinds.Setup.{Setup}
use Rattle.gba_frozen.specs.declared.places.Place.{Place}
use Rattle.gba_frozen.specs.declared.places.Slot.{Slot}
use Rattle.gba_frozen.specs.declared.places.Slot.TheVariants.{Version, Digest, Fixed, Queue, Wave, Memory, Drawn, Signals, End, Past}
use Rattle.gba_frozen.specs.declared.rows.Row.{Row}
use Rattle.gba_frozen.specs.declared.rows.Row.TheVariants as row
use Rattle.gba_frozen_read.specs.Thawed.{CountedAt, IsNext, is_begun, with_next}
use Rattle.gba_frozen_read.proofs.Fits.{digest-says, drawn-says, end-says, memory-says, queue-says, row-says, signal-says, version-says, wave-says}
use Rattle.gba_frozen_read.proofs.Steps.{said-there}

-- whether a line is one of a console
abbrev pub is_of_console : Said → Bool
is_of_console Nothing = false
is_of_console (Live sender signal) = false
is_of_console (Values which values) = true
is_of_console (QueueBytes queue current bytes) = true
is_of_console (WaveBytes bank bytes) = true
is_of_console (MemoryBytes place bytes) = true
is_of_console (Colours line colours) = true

either : (P : Slot → Type 0) (b : Bool) (one other : Slot) → P one → P other → P (cond b one other)
either P true one other p q = p
either P false one other p q = q

either_row : (b : Bool) (one other : Row) → is_begun (Fixed one) ≡ true → is_begun (Fixed other) ≡ true
    → is_begun (Fixed (cond b one other)) ≡ true
either_row true one other p q = p
either_row false one other p q = q

row-begun : (player : ℕ) (which : Row) → is_begun (after_row player which) ≡ true
unfolding after_row
row-begun player row.Heading = refl
row-begun player (row.Console n) = refl
row-begun player row.Clock = refl
row-begun player row.Halted = refl
row-begun player (row.Register n) = either_row (nat_lt n 36) (row.Register (n + 1)) (row.Timer 0) refl refl
row-begun player (row.Timer n) = either_row (nat_lt n 3) (row.Timer (n + 1)) (row.Dma 0) refl refl
row-begun player (row.Dma n) =
    either (λ s. is_begun s ≡ true) (nat_lt n 3) (Fixed (row.Dma (n + 1))) (Queue 0) refl refl
row-begun player row.Sequencer = refl
row-begun player (row.Tone n) =
    either (λ s. is_begun s ≡ true) (nat_lt n 4) (Fixed (row.Tone (n + 1))) (Wave 0) refl refl
row-begun player row.Position = refl
row-begun player (row.Affine n) = either_row (n == 2) (row.Affine 3) row.Serial refl refl
row-begun player row.Serial = refl
row-begun player row.Known = refl
row-begun player row.Flash = refl
row-begun player row.Was = refl
row-begun player row.Applied = refl
row-begun player row.Counts = refl

slot-begun : (setup : Setup) (player : ℕ) (slot : Slot) (words : LineWords) (said : Said)
    → slot_said setup player slot words ≡ Ok said
    → is_of_console said ≡ true → is_begun (after_said setup (placed player slot) said).slot ≡ true
unfolding slot_said after_said next_by
slot-begun setup player Version words said e is = absurd (cc (ap is_of_console (version-says words said e), is))
slot-begun setup player Digest words said e is =
    absurd (cc (ap is_of_console (digest-says setup.digest words said e), is))
slot-begun setup player (Fixed which) words said e is =
    let s = row-says setup.until which words said e in
    subst (λ (t : Said). is_begun (after_said setup (placed player (Fixed which)) t).slot ≡ true) s.1
    (row-begun player which)
slot-begun setup player (Queue queue) words said e is =
    let s = queue-says queue words said e in
    subst (λ (t : Said). is_begun (after_said setup (placed player (Queue queue)) t).slot ≡ true) s.2
    (either (λ t. is_begun t ≡ true) (queue == 0) (Queue 1) (Fixed row.Sequencer) refl refl)
slot-begun setup player (Wave bank) words said e is =
    let s = wave-says bank words said e in
    subst (λ (t : Said). is_begun (after_said setup (placed player (Wave bank)) t).slot ≡ true) s.1
    (either (λ t. is_begun t ≡ true) (bank == 0) (Wave 1) (Fixed row.Position) refl refl)
slot-begun setup player (Memory last) words said e is =
    let s = memory-says (backup_of setup player) last words said e in
    subst (λ (t : Said). is_begun (after_said setup (placed player (Memory last)) t).slot ≡ true) s.2 refl
slot-begun setup player (Drawn last) words said e is =
    let s = drawn-says last words said e in
    subst (λ (t : Said). is_begun (after_said setup (placed player (Drawn last)) t).slot ≡ true) s.2 refl
slot-begun setup player Signals words said e is =
    let s = signal-says setup.consoles words said e in absurd (cc (ap is_of_console s.2, is))
slot-begun setup player End words said e is = absurd (cc (ap is_of_console (end-says words said e), is))
slot-begun setup player Past words said e is = absurd cc

said-begun : (setup : Setup) (here : Place) (line : List ℕ) (at : Place) (said : Said)
    → said_at setup here line ≡ Ok (taken said at) → is_of_console said ≡ true → is_begun at.slot ≡ true
said-begun setup here line at said e is =
    let b = bind-ok (line_said setup here line) _ (taken said at) e in
    let same : taken b.0 (after_said setup here b.0) ≡ taken said at = cc in
    let what : b.0 ≡ said = ap (λ (t : Taken Place Said). t.value) same in
    let where_at : after_said setup here b.0 ≡ at = ap (λ (t : Taken Place Said). t.left) same in
    ap (λ (p : Place). is_begun p.slot) (sym where_at)
    ∙ slot-begun setup here.player here.slot (pieces line) b.0 b.1 (ap is_of_console what ∙ is)

read-begun : (setup : Setup) (from : Place) (line : List ℕ) (at : Place) (said : Said)
    → read_at setup from line ≡ Ok (taken said at) → is_of_console said ≡ true → is_begun at.slot ≡ true
unfolding read_at
read-begun setup from line at said e is = by_feed (without_feed line) e where
  by_feed : (o : Option (List ℕ)) → fed_said setup from o ≡ Ok (taken said at) → is_begun at.slot ≡ true
  by_feed (Some l) s = said-begun setup (place_for setup (pieces l) from) l at said s is
  by_feed None s = absurd cc

-- how many consoles have begun with a line
next-counted : (setup : Setup) (d : Draft) (at : Place) (said : Said) → IsNext setup d at said
    → CountedAt setup.consoles at (length (with_next at said d).consoles)
next-counted setup d at said next =
    subst (λ (p : Place). CountedAt setup.consoles p (length (with_next at said d).consoles))
    (said-there said (record d { at = at })) next.behind

pub player-below : (setup : Setup) (d : Draft) (at : Place) (said : Said) → IsNext setup d at said
    → at.player < setup.consoles
player-below setup d at said next = (next-counted setup d at said next).player

-- with a line of a console as many as its player and those below it
pub player-begun : (setup : Setup) (d : Draft) (at : Place) (said : Said) → IsNext setup d at said
    → is_of_console said ≡ true
    → length (with_next at said d).consoles ≡ at.player + 1
player-begun setup d at said next is =
    let counted = next-counted setup d at said next in
    let begun : is_begun at.slot ≡ true = read-begun setup d.at next.line at said next.read is in
    counted.begun ∙ ap (λ (b : Bool). cond b (at.player + 1) at.player) begun
