use Rattle.std.proofs.Common.{◌≡◌, ℕ, ◌+◌, ◌<◌, ◌≤◌, ◌∙◌, true, false, nat_lt, List, [], ◌∷◌, ◌++◌, length, map, refl, sym, ap, subst, arith, slice_index_or, slice_set, if◌then◌else◌, ⊎_elim}
use Rattle.std.specs.List.{range_with_len}
use Rattle.std.proofs.lemmas.Bool.{cases_eq}
use Rattle.std.proofs.lemmas.Bool.Decides.{nat_tests}
use Rattle.std.proofs.lemmas.List.{get_or-set_other, get_or-set_same, get_or_append_left}
use Rattle.std.proofs.lemmas.List.FromFn.{fill_by_all, get_or-map-range_with_len, length-map-range_with_len, map-range_with_len_more}
use Rattle.gba_bus.specs.declared.region.Region.{Region}
use Rattle.gba_bus.specs.declared.region.Region.TheVariants.{Inner}
use Rattle.gba_flash.specs.declared.machine.FlashMachine.{FlashMachine}
use Rattle.gba_mem.specs.Backups.{with_machine}
use Rattle.gba_bus.specs.Regions.{is_inner}
use Rattle.gba_mem.specs.Memories.{Memories}
use Rattle.gba_mem.specs.Video.{IsSameVideo, is_video}
use Rattle.gba_ppu_reg.specs.Registers.{Picture, picture_at_reset}
use Rattle.gba_screen.specs.Lines.{line_bytes}
use Rattle.gba_screen.specs.Paying.{AreFresh, owed_line, paid_since, shown_line, shown_lines}
use Rattle.gba_screen.specs.Screen.{Screen}
use Rattle.gba_screen.proofs.Drawing.{same_line}

-- The lines that are shown, and which of them stay.

-- a line that is paid, and one that is owed
pub shown_paid : (lines : List (List ℕ)) (keys : List Picture) (m : Memories) (paid y : ℕ) → y < paid
    → shown_line lines keys m paid y ≡ slice_index_or lines y []
shown_paid lines keys m paid y h = grind (arith, nat_tests)

pub shown_owed : (lines : List (List ℕ)) (keys : List Picture) (m : Memories) (paid y : ℕ) → paid ≤ y
    → shown_line lines keys m paid y ≡ owed_line keys m y
shown_owed lines keys m paid y h = grind (arith, nat_tests)

-- lines that are the same one by one are the same
map-same : (f g : ℕ → List ℕ) (n : ℕ) → ((y : ℕ) → y < n → f y ≡ g y)
    → map f (range_with_len 0 n) ≡ map g (range_with_len 0 n)
map-same f g n same =
    fill_by_all g (map f (range_with_len 0 n)) n [] (length-map-range_with_len f 0 n)
    (λ y h. get_or-map-range_with_len f 0 n y y [] h (omega arith) ∙ same y h)

pub same_lines : (lines others : List (List ℕ)) (keys other_keys : List Picture) (m n : Memories) (paid other drawn : ℕ)
    → ((y : ℕ) → y < drawn → shown_line lines keys m paid y ≡ shown_line others other_keys n other y)
    → shown_lines lines keys m paid drawn ≡ shown_lines others other_keys n other drawn
unfolding shown_lines
same_lines lines others keys other_keys m n paid other drawn same =
    map-same (shown_line lines keys m paid) (shown_line others other_keys n other) drawn same

pub lines_count : (lines : List (List ℕ)) (keys : List Picture) (m : Memories) (paid drawn : ℕ)
    → length (shown_lines lines keys m paid drawn) ≡ drawn
unfolding shown_lines
lines_count lines keys m paid drawn = length-map-range_with_len (shown_line lines keys m paid) 0 drawn

pub line_at : (lines : List (List ℕ)) (keys : List Picture) (m : Memories) (paid drawn y : ℕ) → y < drawn
    → slice_index_or (shown_lines lines keys m paid drawn) y [] ≡ shown_line lines keys m paid y
unfolding shown_lines
line_at lines keys m paid drawn y h =
    get_or-map-range_with_len (shown_line lines keys m paid) 0 drawn y y [] h (omega arith)

pub no_lines : (lines : List (List ℕ)) (keys : List Picture) (m : Memories) (paid : ℕ)
    → shown_lines lines keys m paid 0 ≡ []
unfolding shown_lines
no_lines lines keys m paid = refl

-- where all that are shown are paid they are the bytes that stand
pub lines_paid : (lines : List (List ℕ)) (keys : List Picture) (m : Memories) (paid drawn : ℕ) → drawn ≤ paid
    → length lines ≡ drawn → shown_lines lines keys m paid drawn ≡ lines
unfolding shown_lines
lines_paid lines keys m paid drawn all whole =
    sym (fill_by_all (shown_line lines keys m paid) lines drawn [] whole
    (λ y h. sym (shown_paid lines keys m paid y (omega arith))))

-- no line is fresh
pub none_fresh : (lines : List (List ℕ)) (keys : List Picture) (m : Memories) (paid : ℕ) → AreFresh lines keys m paid 0
none_fresh lines keys m paid = record { same = λ y h late. absurd (omega arith) }

-- memories with the same video memory show the same, and leave fresh what is fresh
owed-same : (keys : List Picture) (m n : Memories) (y : ℕ) → IsSameVideo m n → owed_line keys n y ≡ owed_line keys m y
owed-same keys m n y same = same_line (slice_index_or keys y picture_at_reset) m n y same

pub fresh_beside : (lines : List (List ℕ)) (keys : List Picture) (m n : Memories) (paid fresh : ℕ) → IsSameVideo m n
    → AreFresh lines keys m paid fresh → AreFresh lines keys n paid fresh
fresh_beside lines keys m n paid fresh same old =
    record { same = λ y h late. old.same y h late ∙ sym (owed-same keys m n y same) }

shown-same : (lines : List (List ℕ)) (keys : List Picture) (m n : Memories) (paid y : ℕ) → IsSameVideo m n
    → shown_line lines keys n paid y ≡ shown_line lines keys m paid y
shown-same lines keys m n paid y same =
    ap (λ owed. if nat_lt y paid then slice_index_or lines y [] else owed) (owed-same keys m n y same)

pub lines_beside : (lines : List (List ℕ)) (keys : List Picture) (m n : Memories) (paid drawn : ℕ) → IsSameVideo m n
    → shown_lines lines keys n paid drawn ≡ shown_lines lines keys m paid drawn
lines_beside lines keys m n paid drawn same =
    same_lines lines lines keys keys n m paid paid drawn (λ y h. shown-same lines keys m n paid y same)

-- lines that are all paid don't depend on the memories, nor on their keys
pub lines_settled : (lines : List (List ℕ)) (keys : List Picture) (m n : Memories) (paid drawn : ℕ) → drawn ≤ paid
    → shown_lines lines keys n paid drawn ≡ shown_lines lines keys m paid drawn
lines_settled lines keys m n paid drawn all =
    same_lines lines lines keys keys n m paid paid drawn
    (λ y h. let late : y < paid = omega arith in shown_paid lines keys n paid y late
    ∙ sym (shown_paid lines keys m paid y late))

-- once they are paid
pub lines_once_paid : (before after : List (List ℕ)) (keys : List Picture) (m n : Memories) (paid drawn : ℕ)
    → ((y : ℕ) → y < drawn → slice_index_or after y [] ≡ shown_line before keys m paid y)
    → shown_lines after keys n drawn drawn ≡ shown_lines before keys m paid drawn
lines_once_paid before after keys m n paid drawn shown =
    same_lines after before keys keys n m drawn paid drawn (λ y h. shown_paid after keys n drawn y h ∙ shown y h)

pub lines_once_settled : (before after : List (List ℕ)) (keys : List Picture) (m n : Memories) (paid drawn last : ℕ)
    → last ≡ drawn → ((y : ℕ) → y < drawn → slice_index_or after y [] ≡ shown_line before keys m paid y)
    → shown_lines after keys n last drawn ≡ shown_lines before keys m paid drawn
lines_once_settled before after keys m n paid drawn last all shown =
    ap (λ k. shown_lines after keys n k drawn) all ∙ lines_once_paid before after keys m n paid drawn shown

-- lines that are put in front, all paid
pub lines_put : (lines rest : List (List ℕ)) (keys : List Picture) (m : Memories)
    → shown_lines (lines ++ rest) keys m (length lines) (length lines) ≡ lines
unfolding shown_lines
lines_put lines rest keys m =
    sym (fill_by_all (shown_line (lines ++ rest) keys m (length lines)) lines (length lines) [] refl
    (λ y h. sym (shown_paid (lines ++ rest) keys m (length lines) y h ∙ get_or_append_left lines rest [] y h)))

-- A line is paid: it is the one that was paid last.
pub fresh_paid : (lines : List (List ℕ)) (keys : List Picture) (m : Memories) (paid fresh : ℕ) → paid < 160
    → length lines ≡ 160 → AreFresh lines keys m paid fresh
    → AreFresh (slice_set lines paid (owed_line keys m paid)) keys m (paid + 1) (fresh + 1)
fresh_paid lines keys m paid fresh early whole old = record {
  same = λ y h late.
      ⊎_elim
      (λ (here : y ≡ paid).
      subst (λ (k : ℕ). slice_index_or (slice_set lines paid (owed_line keys m paid)) k [] ≡ owed_line keys m k)
      (sym here)
      (get_or-set_same lines paid (owed_line keys m paid) [] (omega arith)))
      (λ (other : y ≡ paid → ⊥).
      let before : paid_since paid y < fresh = omega arith in
      get_or-set_other lines paid y (owed_line keys m paid) [] other ∙ old.same y h before)
      (cases_eq y paid);
}

-- where all are fresh they stay so, and the next one stands already
pub fresh_all : (lines : List (List ℕ)) (keys : List Picture) (m : Memories) (paid other : ℕ)
    → AreFresh lines keys m paid 160 → AreFresh lines keys m other 160
fresh_all lines keys m paid other old = record {
  same = λ y h late. let before : paid_since paid y < 160 = omega arith in old.same y h before;
}

pub fresh_here : (lines : List (List ℕ)) (keys : List Picture) (m : Memories) (paid y : ℕ) → y < 160
    → AreFresh lines keys m paid 160 → slice_index_or lines y [] ≡ owed_line keys m y
fresh_here lines keys m paid y h old = let before : paid_since paid y < 160 = omega arith in old.same y h before

-- fewer are fresh too
pub fewer_fresh : (lines : List (List ℕ)) (keys : List Picture) (m : Memories) (paid fresh fewer : ℕ) → fewer ≤ fresh
    → AreFresh lines keys m paid fresh → AreFresh lines keys m paid fewer
fewer_fresh lines keys m paid fresh fewer few old = record {
  same = λ y h late. let before : paid_since paid y < fresh = omega arith in old.same y h before;
}

-- the circle: behind the last line stands the first one
pub fresh_round : (lines : List (List ℕ)) (keys : List Picture) (m : Memories) (fresh : ℕ)
    → AreFresh lines keys m 160 fresh → AreFresh lines keys m 0 fresh
fresh_round lines keys m fresh old = record {
  same = λ y h late. let before : paid_since 160 y < fresh = omega arith in old.same y h before;
}

-- A line is owed: its key is the one that it had, or it isn't fresh.
owed-other : (keys : List Picture) (m : Memories) (line y : ℕ) (r : Picture) → (y ≡ line → ⊥)
    → owed_line (slice_set keys line r) m y ≡ owed_line keys m y
owed-other keys m line y r other =
    ap (λ key. line_bytes key m y) (get_or-set_other keys line y r picture_at_reset other)

owed-here : (keys : List Picture) (m : Memories) (line : ℕ) (r : Picture) → line < length keys
    → owed_line (slice_set keys line r) m line ≡ line_bytes r m line
owed-here keys m line r h = ap (λ key. line_bytes key m line) (get_or-set_same keys line r picture_at_reset h)

pub fresh_owed : (lines : List (List ℕ)) (keys : List Picture) (m : Memories) (paid fresh line : ℕ) (r : Picture)
    → paid ≤ line → line < 160 → length keys ≡ 160
    → (paid + 159 < fresh + line → slice_index_or keys line picture_at_reset ≡ r)
    → AreFresh lines keys m paid fresh → AreFresh lines (slice_set keys line r) m paid fresh
fresh_owed lines keys m paid fresh line r owed early whole stays old = record {
  same = λ y h late.
      ⊎_elim
      (λ (here : y ≡ line).
      let late_here : paid_since paid line < fresh = subst (λ (k : ℕ). paid_since paid k < fresh) here late in
      let stays_here : paid + 159 < fresh + line = omega arith in
      subst (λ (k : ℕ). slice_index_or lines k [] ≡ owed_line (slice_set keys line r) m k) (sym here)
      (old.same line early late_here
      ∙ ap (λ key. line_bytes key m line) (stays stays_here)
      ∙ sym (owed-here keys m line r (omega arith))))
      (λ (other : y ≡ line → ⊥). old.same y h late ∙ sym (owed-other keys m line y r other))
      (cases_eq y line);
}

shown-other : (lines : List (List ℕ)) (keys : List Picture) (m : Memories) (paid line y : ℕ) (r : Picture)
    → (y ≡ line → ⊥)
    → shown_line lines (slice_set keys line r) m paid y ≡ shown_line lines keys m paid y
shown-other lines keys m paid line y r other =
    ap (λ owed. if nat_lt y paid then slice_index_or lines y [] else owed) (owed-other keys m line y r other)

pub lines_owed : (before lines : List (List ℕ)) (keys : List Picture) (m : Memories) (from paid line : ℕ) (r : Picture)
    → paid ≤ line → line < length keys
    → ((y : ℕ) → y < line → shown_line lines keys m paid y ≡ shown_line before keys m from y)
    → shown_lines lines (slice_set keys line r) m paid (line + 1)
    ≡ shown_lines before keys m from line ++ (line_bytes r m line ∷ [])
unfolding shown_lines
lines_owed before lines keys m from paid line r owed within shown =
    map-range_with_len_more (shown_line lines (slice_set keys line r) m paid) 0 line line (omega arith)
    ∙ ap (λ last. map (shown_line lines (slice_set keys line r) m paid) (range_with_len 0 line) ++ (last ∷ []))
    (shown_owed lines (slice_set keys line r) m paid line owed ∙ owed-here keys m line r within)
    ∙ ap (λ some. some ++ (line_bytes r m line ∷ []))
    (map-same (shown_line lines (slice_set keys line r) m paid) (shown_line before keys m from) line
    (λ y h. shown-other lines keys m paid line y r (λ same. absurd (omega arith)) ∙ shown y h))

-- two screens with the same parts
abbrev pub screen_of : Memories → List (List ℕ) → Screen
screen_of m lines = record { memory = m; lines = lines }

pub same_screen : (m n : Memories) (lines others : List (List ℕ)) → m ≡ n → lines ≡ others
    → screen_of m lines ≡ screen_of n others
same_screen m n lines others e f = ap (λ x. screen_of x lines) e ∙ ap (screen_of n) f

-- an access to the inner RAM is none to video memory
pub inner_beside : (region : Region) → is_inner region ≡ true → is_video region ≡ false
inner_beside Inner e = refl
inner_beside _ e = cc

pub beside_as : (m n store : Memories) → n ≡ store → IsSameVideo m store → IsSameVideo m n
beside_as m n store e same = subst (IsSameVideo m) (sym e) same

-- nor is what a flash remembers
pub machine_beside : (m n : Memories) (machine : FlashMachine) → n ≡ record m { backup = with_machine machine m.backup }
    → IsSameVideo m n
machine_beside m n machine e =
    beside_as m n (record m { backup = with_machine machine m.backup }) e
    (record { palette = refl; vram = refl; oam = refl })

-- the same lines are as fresh
pub fresh_written : (lines others : List (List ℕ)) (keys : List Picture) (m : Memories) (paid fresh : ℕ)
    → lines ≡ others
    → AreFresh others keys m paid fresh → AreFresh lines keys m paid fresh
fresh_written lines others keys m paid fresh same old =
    subst (λ (some : List (List ℕ)). AreFresh some keys m paid fresh) (sym same) old
