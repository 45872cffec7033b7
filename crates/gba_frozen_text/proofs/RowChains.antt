-- Rows that are printed, read one after another.
use Rattle.std.proofs.Common.{◌≡◌, ◌≤◌, ℕ, zero, suc, ◌+◌, Bool, true, false, nat_lt, inl, inr, List, [], ◌∷◌, ◌++◌, length, None, Ok, refl, ap, sym, ◌∙◌, subst, arith}
use Rattle.std.specs.Prelude.{map}
use Rattle.std.proofs.lemmas.Bool.Decides.{nat_tests}
use Rattle.gba_numbers.specs.Numbers.{ConsoleNumbers}
use Rattle.gba_frozen.specs.Lines.{Said, Values, row_said, slot_said}
use Rattle.gba_frozen.specs.Places.{after_row, is_left, next_by, place_for, placed}
use Rattle.gba_frozen.specs.Reading.{ConsoleDraft, Draft, after_said, with_last, with_line_of, with_said, with_values}
use Rattle.gba_frozen.specs.Rows.{count_of, is_row, row_line}
use Rattle.gba_frozen.specs.Spelling.{pieces}
use Rattle.gba_frozen.specs.declared.kinds.Setup.{Setup}
use Rattle.gba_frozen.specs.declared.places.Place.{Place}
use Rattle.gba_frozen.specs.declared.places.Slot.{Slot}
use Rattle.gba_frozen.specs.declared.places.Slot.TheVariants.{Fixed, Queue, Wave, Memory, Drawn}
use Rattle.gba_frozen.specs.declared.rows.Row.{Row}
use Rattle.gba_frozen.specs.declared.rows.Row.TheVariants as row
use Rattle.gba_frozen_print.proofs.RowsAgain.{rows-again}
use Rattle.gba_frozen_text.specs.Text.{board_rows, last_rows, processor_rows, row_of, row_values, rows_from, said_line, tone_rows}
use Rattle.gba_frozen_text.proofs.Feeds.{row-fed}
use Rattle.gba_frozen_text.proofs.Chain.{Reads, Step, drafted, reads_more, reads_none, step}
use Rattle.gba_frozen_text.proofs.Filling.{Apart, partly, row-filled, row-place, row_start}
use Rattle.gba_frozen_text.proofs.Ranges.{Fit, row-count, row-fits, row-spellable}

-- a row within a console
abbrev pub is_inner : Row → Bool
is_inner row.Heading = false
is_inner _ = true

-- rows that follow one another from a slot and a place of a number on, up to others
unfoldable pub Follow : ℕ → Slot → ℕ → List Row → Slot → ℕ → Type 0
Follow player slot k [] to m = (slot ≡ to) × (k ≡ m)
Follow player slot k (which ∷ rows) to m =
    (slot ≡ Fixed which) × (row_start which ≡ k) × (is_row which ≡ true) × (is_inner which ≡ true)
    × Follow player (after_row player which) (k + count_of which) rows to m

pub follow-both : (player : ℕ) (slot mid to : Slot) (k l m : ℕ) (one other : List Row) → Follow player slot k one mid l
    → Follow player mid l other to m → Follow player slot k (one ++ other) to m
unfolding Follow
follow-both player slot mid to k l m [] other h g =
    subst (λ (s : Slot). Follow player s k other to m) (sym h.0)
    (subst (λ (p : ℕ). Follow player mid p other to m) (sym h.1) g)
follow-both player slot mid to k l m (which ∷ one) other h g =
    (h.0, h.1, h.2, h.3, follow-both player (after_row player which) mid to (k + count_of which) l m one other h.4 g)

follow-rises : (player : ℕ) (slot to : Slot) (k m : ℕ) (rows : List Row) → Follow player slot k rows to m → k ≤ m
unfolding Follow
follow-rises player slot to k m [] h = omega arith
follow-rises player slot to k m (which ∷ rows) h =
    let rest = follow-rises player (after_row player which) to (k + count_of which) m rows h.4 in omega arith

-- the rows of the registers
registers-follow : (player left first : ℕ) → first + suc left ≡ 37
    → Follow player (Fixed (row.Register first)) (2 + first) (rows_from row.Register first (suc left))
    (Fixed (row.Timer 0)) 39
unfolding Follow after_row row_start is_row count_of
registers-follow player zero first sum =
    let last : nat_lt first 36 ≡ false = grind (arith, nat_tests) in
    (refl, refl, grind (arith, nat_tests), refl, (rw last refl, omega arith))
registers-follow player (suc left) first sum =
    let more : nat_lt first 36 ≡ true = grind (arith, nat_tests) in
    let rest = registers-follow player left (first + 1) (omega arith) in
    let next : 2 + (first + 1) ≡ 2 + first + 1 = omega arith in (
      refl,
      refl,
      grind (arith, nat_tests),
      refl,
      rw more (subst (λ (k : ℕ). Follow player (Fixed (row.Register (first + 1))) k
          (rows_from row.Register (first + 1) (suc left)) (Fixed (row.Timer 0)) 39) next rest),
    )

timers-follow : (player : ℕ) → Follow player (Fixed (row.Timer 0)) 39 (rows_from row.Timer 0 4) (Fixed (row.Dma 0)) 55
unfolding Follow after_row row_start is_row count_of
timers-follow player =
    (refl, refl, refl, refl, (refl, refl, refl, refl, (refl, refl, refl, refl, (refl, refl, refl, refl, (refl, refl)))))

channels-follow : (player : ℕ) → Follow player (Fixed (row.Dma 0)) 55 (rows_from row.Dma 0 4) (Queue 0) 75
unfolding Follow after_row row_start is_row count_of
channels-follow player =
    (refl, refl, refl, refl, (refl, refl, refl, refl, (refl, refl, refl, refl, (refl, refl, refl, refl, (refl, refl)))))

clocks-follow : (player : ℕ)
    → Follow player (Fixed row.Clock) 0 (row.Clock ∷ row.Halted ∷ []) (Fixed (row.Register 0)) 2
unfolding Follow after_row row_start is_row count_of
clocks-follow player = (refl, refl, refl, refl, (refl, refl, refl, refl, (refl, refl)))

pub processor-follow : (player : ℕ) → Follow player (Fixed row.Clock) 0 processor_rows (Queue 0) 75
unfolding processor_rows
processor-follow player =
    follow-both player (Fixed row.Clock) (Fixed (row.Register 0)) (Queue 0) 0 2 75 (row.Clock ∷ row.Halted ∷ []) _
    (clocks-follow player) (follow-both player (Fixed (row.Register 0)) (Fixed (row.Dma 0)) (Queue 0) 2 55 75
    (rows_from row.Register 0 37 ++ rows_from row.Timer 0 4) (rows_from row.Dma 0 4)
    (follow-both player (Fixed (row.Register 0)) (Fixed (row.Timer 0)) (Fixed (row.Dma 0)) 2 39 55
    (rows_from row.Register 0 37)
    (rows_from row.Timer 0 4) (registers-follow player 36 0 refl) (timers-follow player)) (channels-follow player))

pub tones-follow : (player : ℕ) → Follow player (Fixed row.Sequencer) 79 tone_rows (Wave 0) 112
unfolding Follow after_row row_start is_row count_of tone_rows
tones-follow player = (
  refl,
  refl,
  refl,
  refl,
  (refl, refl, refl, refl, (refl, refl, refl, refl, (refl, refl, refl, refl, (refl, refl, refl, refl, (refl, refl))))),
)

pub board-follow : (player : ℕ) → Follow player (Fixed row.Position) 112 board_rows (Memory None) 129
unfolding Follow after_row row_start is_row count_of board_rows
board-follow player = (
  refl,
  refl,
  refl,
  refl,
  (refl, refl, refl, refl, (refl, refl, refl, refl, (refl, refl, refl, refl, (refl, refl, refl, refl, (refl, refl))))),
)

pub last-follow : (player : ℕ) → Follow player (Fixed row.Was) 133 last_rows (Drawn None) 138
unfolding Follow after_row row_start is_row count_of last_rows
last-follow player = (refl, refl, refl, refl, (refl, refl, refl, refl, (refl, refl, refl, refl, (refl, refl))))

-- a row at its place, which may be one that was moved to
pub row-step : (setup : Setup) (from : Place) (player : ℕ) (which : Row) (n : ConsoleNumbers) → Fit setup.until n
    → is_row which ≡ true
    → place_for setup (pieces (row_line which (row_values which 0 (count_of which) n))) from
    ≡ placed player (Fixed which)
    → Step setup from (said_line (row_of n which)) (row_of n which) (placed player (after_row player which))
unfolding slot_said after_said next_by said_line
row-step setup from player which n fit is place =
    let values = row_values which 0 (count_of which) n in
    let spelled = row-spellable setup.until which n fit is in
    let fits = row-fits setup.until which n fit is in
    let says : row_said setup.until which (pieces (row_line which values)) ≡ Ok (Values which values) =
    rows-again setup.until which values is (row-count which 0 (count_of which) n) spelled ∙ rw fits refl in
    step setup from (placed player (Fixed which)) (row_line which values) (Values which values)
    (placed player (after_row player which)) (row-fed which values is spelled) place says refl

stays : (setup : Setup) (player : ℕ) (which : Row) (words : List (List ℕ))
    → place_for setup words (placed player (Fixed which)) ≡ placed player (Fixed which)
unfolding is_left
stays setup player which words = refl

pub rows-read : (setup : Setup) (player : ℕ) (n : ConsoleNumbers) (slot to : Slot) (k m : ℕ) (rows : List Row)
    → Fit setup.until n → Follow player slot k rows to m
    → Reads setup (placed player slot) (map (row_of n) rows) (placed player to)
unfolding Follow
rows-read setup player n slot to k m [] fit h =
    subst (λ (s : Slot). Reads setup (placed player slot) [] (placed player s)) h.0
    (reads_none setup (placed player slot))
rows-read setup player n slot to k m (which ∷ rows) fit h =
    subst (λ (s : Slot). Reads setup (placed player s) (map (row_of n) (which ∷ rows)) (placed player to)) (sym h.0)
    (reads_more setup (placed player (Fixed which)) (placed player (after_row player which)) (placed player to)
    (row_of n which)
    (map (row_of n) rows)
    (row-step setup (placed player (Fixed which)) player which n fit h.2 (stays setup player which _))
    (rows-read setup player n (after_row player which) to (k + count_of which) m rows fit h.4))

-- what lines of a console come to
unfoldable pub with_lines : List Said → ConsoleDraft → ConsoleDraft
with_lines [] c = c
with_lines (said ∷ says) c = with_lines says (with_line_of said c)

pub with_lines-both : (one other : List Said) (c : ConsoleDraft)
    → with_lines (one ++ other) c ≡ with_lines other (with_lines one c)
unfolding with_lines
with_lines-both [] other c = refl
with_lines-both (said ∷ one) other c = with_lines-both one other (with_line_of said c)

-- lines within a console change the last one alone
abbrev pub Inner : Said → Type 0
Inner said = (d : Draft) → with_said said d ≡ record d { consoles = with_last (with_line_of said) d.consoles }

unfoldable pub AllInner : List Said → Type 0
AllInner [] = Unit {0}
AllInner (said ∷ says) = Inner said × AllInner says

pub inner_none : AllInner []
unfolding AllInner
inner_none = tt

pub inner_more : (said : Said) (says : List Said) → Inner said → AllInner says → AllInner (said ∷ says)
unfolding AllInner
inner_more said says h k = (h, k)

pub inner_both : (one other : List Said) → AllInner one → AllInner other → AllInner (one ++ other)
unfolding AllInner
inner_both [] other h k = k
inner_both (said ∷ one) other h k = (h.0, inner_both one other h.1 k)

with_last-last : (change : ConsoleDraft → ConsoleDraft) (consoles : List ConsoleDraft) (c : ConsoleDraft)
    → with_last change (consoles ++ c ∷ []) ≡ consoles ++ change c ∷ []
unfolding with_last
with_last-last change [] c = refl
with_last-last change (one ∷ []) c = refl
with_last-last change (one ∷ other ∷ consoles) c =
    ap (λ (t : List ConsoleDraft). one ∷ t) (with_last-last change (other ∷ consoles) c)

pub inner-drafted : (says : List Said) (d : Draft) (consoles : List ConsoleDraft) (c : ConsoleDraft) → AllInner says
    → drafted says (record d { consoles = consoles ++ c ∷ [] }) ≡ record d {
      consoles = consoles ++ with_lines says c ∷ [];
    }
unfolding AllInner drafted with_lines
inner-drafted [] d consoles c h = refl
inner-drafted (said ∷ says) d consoles c h =
    ap (drafted says) (h.0 (record d { consoles = consoles ++ c ∷ [] })
    ∙ ap (λ (cs : List ConsoleDraft). record d { consoles = cs }) (with_last-last (with_line_of said) consoles c))
    ∙ inner-drafted says d consoles (with_line_of said c) h.1

pub row-inner : (which : Row) (values : List ℕ) → is_inner which ≡ true → Inner (Values which values)
unfolding with_said
row-inner row.Heading values h d = absurd cc
row-inner (row.Console n) values h d = refl
row-inner row.Clock values h d = refl
row-inner row.Halted values h d = refl
row-inner (row.Register n) values h d = refl
row-inner (row.Timer n) values h d = refl
row-inner (row.Dma n) values h d = refl
row-inner row.Sequencer values h d = refl
row-inner (row.Tone n) values h d = refl
row-inner row.Position values h d = refl
row-inner (row.Affine n) values h d = refl
row-inner row.Serial values h d = refl
row-inner row.Known values h d = refl
row-inner row.Flash values h d = refl
row-inner row.Was values h d = refl
row-inner row.Applied values h d = refl
row-inner row.Counts values h d = refl

pub rows-inner : (player : ℕ) (n : ConsoleNumbers) (slot to : Slot) (k m : ℕ) (rows : List Row)
    → Follow player slot k rows to m → AllInner (map (row_of n) rows)
unfolding Follow
rows-inner player n slot to k m [] h = inner_none
rows-inner player n slot to k m (which ∷ rows) h =
    inner_more (row_of n which) (map (row_of n) rows) (row-inner which (row_values which 0 (count_of which) n) h.3)
    (rows-inner player n (after_row player which) to (k + count_of which) m rows h.4)

-- the numbers of rows that follow one another
apart_part : (k l m : ℕ) → l ≤ m → Apart k m → Apart k l
apart_part k l m less (inl low) = inl (omega arith)
apart_part k l m less (inr high) = inr high

apart_rest : (k l m : ℕ) → k ≤ l → Apart k m → Apart l m
apart_rest k l m less (inl low) = inl low
apart_rest k l m less (inr high) = inr (omega arith)

pub rows-filled : (player : ℕ) (n : ConsoleNumbers) (c : ConsoleDraft) (slot to : Slot) (k m : ℕ) (rows : List Row)
    (a b w0 w1 : List ℕ) → length n.values ≡ 138 → m ≤ 138 → Apart k m → Follow player slot k rows to m
    → with_lines (map (row_of n) rows) (record c { numbers = partly n k a b w0 w1 }) ≡ record c {
      numbers = partly n m a b w0 w1;
    }
unfolding Follow with_lines with_line_of
rows-filled player n c slot to k m [] a b w0 w1 long few apart h =
    ap (λ (p : ℕ). record c { numbers = partly n p a b w0 w1 }) h.1
rows-filled player n c slot to k m (which ∷ rows) a b w0 w1 long few apart h =
    let l = k + count_of which in
    let rise : l ≤ m = follow-rises player (after_row player which) to l m rows h.4 in
    let begin : row_start which + 0 ≡ k = omega (arith, h.1) in
    let filled : with_values which 0 (row_values which 0 (count_of which) n) (partly n (row_start which + 0) a b w0 w1)
    ≡ partly n l a b w0 w1 =
    row-filled n which (row_start which) 0 (count_of which) l a b w0 w1 long
    (λ p below. row-place which p (omega arith))
    (omega (arith, h.1)) (omega arith) (subst (λ (p : ℕ). Apart p l) (sym begin) (apart_part k l m rise apart)) in
    let here : with_values which 0 (row_values which 0 (count_of which) n) (partly n k a b w0 w1)
    ≡ partly n l a b w0 w1 =
    ap (λ (p : ℕ). with_values which 0 (row_values which 0 (count_of which) n) (partly n p a b w0 w1)) (sym begin)
    ∙ filled in
    ap (λ (m : ConsoleNumbers). with_lines (map (row_of n) rows) (record c { numbers = m })) here
    ∙ rows-filled player n c (after_row player which) to l m rows a b w0 w1 long few
    (apart_rest k l m (omega arith) apart) h.4
