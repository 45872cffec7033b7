-- What a line says where it isn't refused.
use Rattle.std.proofs.Common.{◌≡◌, ◌<◌, ◌≤◌, ℕ, zero, suc, ◌+◌, Bool, true, false, cond, not, nat_le, nat_lt, List, [], ◌∷◌, ◌++◌, length, drop, Option, Some, None, Ok, refl, ap, sym, ◌∙◌, arith}
use Rattle.std.specs.Prelude.{codes, decimal}
use Rattle.std.proofs.lemmas.List.{length-append}
use Rattle.std.specs.Str.{bytes_eq}
use Rattle.std.proofs.lemmas.Bool.Decides.{nat_tests}
use Rattle.gba_text.specs.Steps.{Taken, taken, holds}
use Rattle.gba_text.proofs.Steps.{bind-ok, held-true, or_refused-some}
use Rattle.gba_image.specs.declared.backup.Backup.{Backup}
use Rattle.link_node.specs.Packing.{signal_in}
use Rattle.link_node.specs.declared.signal.Signal.{Signal}
use Rattle.gba_frozen.specs.Lines.{Said, Nothing, Values, QueueBytes, WaveBytes, MemoryBytes, Colours, Live, all_zero, are_bytes, digest_line, drawn_end, drawn_said, end_line, live_of, memory_said, most_of_queue, queue_name, queue_said, row_said, signal_said, version_line, wave_said}
use Rattle.gba_frozen.specs.Places.{is_behind, is_below, is_row_place}
use Rattle.gba_frozen.specs.Rows.{all_fit, count_of, keyword_of, number_of_row, spelling_of}
use Rattle.gba_frozen.specs.Spelling.{has_digits, numbers_in, numbers_said}
use Rattle.gba_frozen.specs.Words.{LineWords, decimal_at, end_at, exact, hex_at, memory_at, number_behind, numbers_at, value_at, values_at, word_at}
use Rattle.gba_frozen.specs.declared.kinds.ThawKind.TheVariants as kind
use Rattle.gba_frozen.specs.declared.places.MemoryPlace.{MemoryPlace}
use Rattle.gba_frozen.specs.declared.rows.Row.{Row}
use Rattle.gba_frozen.specs.declared.rows.Spelling.{Spelling}

-- how many numbers there are
pub values-count : (spelling : Spelling) (count : ℕ) (front : List ℕ) (words : LineWords) (t : Taken LineWords (List ℕ))
    → values_at spelling count front words ≡ Ok t → length t.value ≡ length front + count
unfolding values_at
values-count spelling zero front words t h =
    let same : taken front words ≡ t = cc in
    ap (λ (r : Taken LineWords (List ℕ)). length r.value) (sym same) ∙ omega arith
values-count spelling (suc count) front words t h =
    let g = bind-ok (value_at spelling words) _ t h in
    let rest = values-count spelling count (front ++ g.0.value ∷ []) g.0.left t g.2 in
    omega (arith, rest, length-append {A = ℕ})

pub numbers_in-count : (width count : ℕ) (digits : List ℕ) → length (numbers_in width count digits) ≡ count
unfolding numbers_in
numbers_in-count width zero digits = refl
numbers_in-count width (suc count) digits = ap suc (numbers_in-count width count (drop width digits))

numbers_said-count : (width count : ℕ) (word ns : List ℕ) → numbers_said width count word ≡ Some ns → length ns ≡ count
unfolding numbers_said
numbers_said-count width count word ns h = by_test (has_digits (_) word) h where
  by_test : (b : Bool) → cond b (Some (numbers_in width count word)) None ≡ Some ns → length ns ≡ count
  by_test true e =
      let same : numbers_in width count word ≡ ns = cc in
      ap length (sym same) ∙ numbers_in-count width count word
  by_test false e = absurd cc

pub numbers-count : (width count : ℕ) (words : LineWords) (t : Taken LineWords (List ℕ))
    → numbers_at width count words ≡ Ok t → length t.value ≡ count
unfolding numbers_at
numbers-count width count [] t h = absurd cc
numbers-count width count (word ∷ words) t h =
    numbers_said-count width count word t.value
    (or_refused-some kind.Spelling words (numbers_said width count word) t h)

-- the lines that say nothing beyond themselves
pub version-says : (words : LineWords) (said : Said) → version_line words ≡ Ok said → said ≡ Nothing
unfolding version_line
version-says words said h =
    let k = bind-ok (exact (codes "gbalink-frozen") words) _ said h in
    let n = bind-ok (exact (codes "1") k.0.left) _ said k.2 in
    let e = bind-ok (end_at n.0.left) _ said n.2 in
    let same : Nothing ≡ said = cc in sym same

pub end-says : (words : LineWords) (said : Said) → end_line words ≡ Ok said → said ≡ Nothing
unfolding end_line
end-says words said h =
    let k = bind-ok (exact (codes "end") words) _ said h in
    let e = bind-ok (end_at k.0.left) _ said k.2 in
    let same : Nothing ≡ said = cc in sym same

pub digest-says : (digest : List ℕ) (words : LineWords) (said : Said) → digest_line digest words ≡ Ok said
    → said ≡ Nothing
unfolding digest_line
digest-says digest words said h =
    let k = bind-ok (exact (codes "job") words) _ said h in
    let d = bind-ok (numbers_at 2 32 k.0.left) _ said k.2 in
    let e = bind-ok (end_at d.0.left) _ said d.2 in
    let f = bind-ok (holds (bytes_eq d.0.value digest) kind.Job) _ said e.2 in
    let same : Nothing ≡ said = cc in sym same

-- a row
pub row-says : (until : ℕ) (which : Row) (words : LineWords) (said : Said) → row_said until which words ≡ Ok said
    → (values : List ℕ) × (Values which values ≡ said) × (length values ≡ count_of which)
    × (all_fit until which 0 values ≡ true)
unfolding row_said
row-says until which words said h =
    let k = bind-ok (exact (keyword_of which) words) _ said h in
    let n = bind-ok (number_behind (number_of_row which) k.0.left) _ said k.2 in
    let v = bind-ok (values_at (spelling_of which) (count_of which) [] n.0.left) _ said n.2 in
    let e = bind-ok (end_at v.0.left) _ said v.2 in
    let f = bind-ok (holds (all_fit until which 0 v.0.value) kind.Number) _ said e.2 in
    let same : Values which v.0.value ≡ said = cc in
    let count : length v.0.value ≡ 0 + count_of which =
    values-count (spelling_of which) (count_of which) [] n.0.left v.0 v.1 in
    (v.0.value, same, omega (arith, count), held-true (all_fit until which 0 v.0.value) kind.Number f.0 f.1)

-- a sound queue
pub queue-says : (queue : ℕ) (words : LineWords) (said : Said) → queue_said queue words ≡ Ok said
    → (current : ℕ) × (bytes : List ℕ) × (QueueBytes queue current bytes ≡ said) × (length bytes ≤ most_of_queue)
unfolding queue_said
queue-says queue words said h =
    let k = bind-ok (exact (codes "queue") words) _ said h in
    let l = bind-ok (exact (queue_name queue) k.0.left) _ said k.2 in
    let c = bind-ok (hex_at 2 l.0.left) _ said l.2 in
    let n = bind-ok (decimal_at c.0.left) _ said c.2 in
    let w = bind-ok (word_at n.0.left) _ said n.2 in
    let e = bind-ok (end_at w.0.left) _ said w.2 in
    let b = bind-ok (holds (are_bytes n.0.value w.0.value) kind.Spelling) _ said e.2 in
    let m = bind-ok (holds (nat_le n.0.value most_of_queue) kind.Number) _ said b.2 in
    let same : QueueBytes queue c.0.value (numbers_in 2 n.0.value w.0.value) ≡ said = cc in
    let few = held-true (nat_le n.0.value most_of_queue) kind.Number m.0 m.1 in
    let count = numbers_in-count 2 n.0.value w.0.value in
    (c.0.value, numbers_in 2 n.0.value w.0.value, same, grind (arith, nat_tests))

-- a bank of the wave
pub wave-says : (bank : ℕ) (words : LineWords) (said : Said) → wave_said bank words ≡ Ok said
    → (bytes : List ℕ) × (WaveBytes bank bytes ≡ said) × (length bytes ≡ 16)
unfolding wave_said
wave-says bank words said h =
    let k = bind-ok (exact (codes "wave") words) _ said h in
    let n = bind-ok (exact (decimal bank) k.0.left) _ said k.2 in
    let b = bind-ok (numbers_at 2 16 n.0.left) _ said n.2 in
    let e = bind-ok (end_at b.0.left) _ said b.2 in
    let same : WaveBytes bank b.0.value ≡ said = cc in
    (b.0.value, same, numbers-count 2 16 n.0.left b.0 b.1)

-- 32 bytes of a memory
pub memory-says : (backup : Backup) (last : Option MemoryPlace) (words : LineWords) (said : Said)
    → memory_said backup last words ≡ Ok said
    → (place : MemoryPlace) × (bytes : List ℕ) × (MemoryBytes place bytes ≡ said) × (is_row_place backup place ≡ true)
    × (length bytes ≡ 32)
unfolding memory_said
memory-says backup last words said h =
    let k = bind-ok (exact (codes "mem") words) _ said h in
    let m = bind-ok (memory_at k.0.left) _ said k.2 in
    let o = bind-ok (hex_at 6 m.0.left) _ said m.2 in
    let b = bind-ok (numbers_at 2 32 o.0.left) _ said o.2 in
    let e = bind-ok (end_at b.0.left) _ said b.2 in
    let place : MemoryPlace = record { name = m.0.value; offset = o.0.value } in
    let r = bind-ok (holds (is_behind last place) kind.Spelling) _ said e.2 in
    let z = bind-ok (holds (not (all_zero b.0.value)) kind.Spelling) _ said r.2 in
    let p = bind-ok (holds (is_row_place backup place) kind.Number) _ said z.2 in
    let same : MemoryBytes place b.0.value ≡ said = cc in (
      place,
      b.0.value,
      same,
      held-true (is_row_place backup place) kind.Number p.0 p.1,
      numbers-count 2 32 o.0.left b.0 b.1,
    )

-- a drawn line
pub drawn-says : (last : Option ℕ) (words : LineWords) (said : Said) → drawn_said last words ≡ Ok said
    → (line : ℕ) × (colours : List ℕ) × (Colours line colours ≡ said) × (line < drawn_end) × (length colours ≡ 240)
unfolding drawn_said
drawn-says last words said h =
    let k = bind-ok (exact (codes "drawn") words) _ said h in
    let y = bind-ok (decimal_at k.0.left) _ said k.2 in
    let c = bind-ok (numbers_at 4 240 y.0.left) _ said y.2 in
    let e = bind-ok (end_at c.0.left) _ said c.2 in
    let r = bind-ok (holds (is_below last y.0.value) kind.Spelling) _ said e.2 in
    let l = bind-ok (holds (nat_lt y.0.value drawn_end) kind.Number) _ said r.2 in
    let same : Colours y.0.value c.0.value ≡ said = cc in
    let low = held-true (nat_lt y.0.value drawn_end) kind.Number l.0 l.1 in
    (y.0.value, c.0.value, same, grind (arith, nat_tests), numbers-count 4 240 y.0.left c.0 c.1)

-- a live signal
live-says : (sender head words : ℕ) (o : Option Signal) (said : Said) → signal_in head words ≡ o
    → live_of sender o ≡ Ok said
    → (signal : Signal) × (Live sender signal ≡ said) × (signal_in head words ≡ Some signal)
live-says sender head words (Some signal) said is h = let same : Live sender signal ≡ said = cc in (signal, same, is)
live-says sender head words None said is h = absurd cc

pub signal-says : (consoles : ℕ) (words : LineWords) (said : Said) → signal_said consoles words ≡ Ok said
    → (sender : ℕ) × (signal : Signal) × (Live sender signal ≡ said) × (sender < consoles)
    × ((head : ℕ) × (words : ℕ) × (signal_in head words ≡ Some signal))
unfolding signal_said
signal-says consoles words said h =
    let k = bind-ok (exact (codes "signal") words) _ said h in
    let s = bind-ok (decimal_at k.0.left) _ said k.2 in
    let a = bind-ok (hex_at 16 s.0.left) _ said s.2 in
    let b = bind-ok (hex_at 16 a.0.left) _ said a.2 in
    let e = bind-ok (end_at b.0.left) _ said b.2 in
    let l = bind-ok (holds (nat_lt s.0.value consoles) kind.Number) _ said e.2 in
    let v = live-says s.0.value a.0.value b.0.value (signal_in a.0.value b.0.value) said refl l.2 in
    let low = held-true (nat_lt s.0.value consoles) kind.Number l.0 l.1 in
    (s.0.value, v.0, v.1, grind (arith, nat_tests), (a.0.value, b.0.value, v.2))
