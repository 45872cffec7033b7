-- A whole file that is printed, read again.
use Rattle.std.proofs.Common.{◌≡◌, ◌<◌, ◌≤◌, ℕ, suc, ◌+◌, true, false, nat_lt, List, [], ◌∷◌, ◌++◌, length, Option, None, refl, ap, sym, ◌∙◌, subst, append_assoc, arith}
use Rattle.std.specs.Prelude.{codes, decimal, map}
use Rattle.std.proofs.lemmas.Bool.Decides.{nat_tests}
use Rattle.std.proofs.lemmas.List.{append-nil, length-append, length-map}
use Rattle.gba_text.proofs.Languages.{answer_of-lines, lines_say-end}
use Rattle.gba_text.specs.Languages.{answer_of, lines_say}
use Rattle.link_node.specs.declared.signal.Signal.{Signal}
use Rattle.link_node.specs.Packing.{packed_head, packed_words}
use Rattle.gba_frozen.specs.Lines.{Said, Nothing, Values, end_line, slot_said, version_line}
use Rattle.gba_frozen.specs.Places.{backup_of, first_place, is_left, next_by, place_for, placed}
use Rattle.gba_frozen.specs.Reading.{ConsoleDraft, Draft, after_said, at_end, fed_lines, frozen_language, judged, longest_file, nothing_read, with_last, with_line_of, with_said}
use Rattle.gba_frozen.specs.Rows.{keyword_of, row_line, row_words}
use Rattle.gba_frozen.specs.Spelling.{pieces}
use Rattle.gba_frozen.specs.Words.{exact}
use Rattle.gba_frozen.specs.declared.kinds.Setup.{Setup}
use Rattle.gba_frozen.specs.declared.places.Place.{Place}
use Rattle.gba_frozen.specs.declared.places.Slot.{Slot}
use Rattle.gba_frozen.specs.declared.places.Slot.TheVariants.{Digest, Drawn, End, Fixed, Past, Signals}
use Rattle.gba_frozen.specs.declared.rows.Row.TheVariants as row
use Rattle.gba_frozen_print.specs.Printed.{digest_text, end_text, ended, long_digits, signal_text, version_text}
use Rattle.gba_frozen_print.proofs.LinesAgain.{digest-again, signals-again}
use Rattle.gba_frozen_read.specs.Thawed.{with_next}
use Rattle.gba_frozen_text.specs.Laws.{AreConsoles, AreSent, FilesAgain, IsWhole}
use Rattle.gba_frozen_text.specs.Text.{console_says, consoles_say, frozen_lines, frozen_text, live_of, numbers_say, said_line, text_of}
use Rattle.gba_frozen_text.proofs.Feeds.{digest-fed, signal-fed}
use Rattle.gba_frozen_text.proofs.Chain.{Reads, Step, drafted, drafted-both, lines-read, one-line, reads_both, reads_more, reads_none, step}
use Rattle.gba_frozen_text.proofs.Consoles.{behind_heading, body-read, first-joined, heading-step, last_drawn}
use Rattle.gba_frozen_text.proofs.Drafts.{console-drafted}

-- where the next console begins
heading-next : (setup : Setup) (player : ℕ) (last : Option ℕ) → player + 1 < setup.consoles
    → place_for setup (pieces (row_line row.Heading [])) (placed player (Drawn last))
    ≡ placed (player + 1) (Fixed row.Heading)
unfolding is_left next_by keyword_of
heading-next setup player last more =
    let first = first-joined (codes "gbalink-state") (row_words row.Heading []) refl in
    let below : nat_lt (player + 1) setup.consoles ≡ true = grind (arith, nat_tests) in
    rw (first, below) refl

heading-here : (setup : Setup) (player : ℕ) (words : List (List ℕ))
    → place_for setup words (placed player (Fixed row.Heading)) ≡ placed player (Fixed row.Heading)
unfolding is_left
heading-here setup player words = refl

-- the lines of all consoles
consoles-read : (setup : Setup) (from : Place) (player : ℕ) (c : ConsoleDraft) (consoles : List ConsoleDraft)
    → player + suc (length consoles) ≡ setup.consoles → setup.consoles ≤ 4 → AreConsoles setup player (c ∷ consoles)
    → place_for setup (pieces (row_line row.Heading [])) from ≡ placed player (Fixed row.Heading)
    → (last : Option ℕ)
    × Reads setup from (consoles_say setup player (c ∷ consoles)) (placed (player + length consoles) (Drawn last))
unfolding AreConsoles consoles_say console_says numbers_say
consoles-read setup from player c [] sum few are begin =
    let last = last_drawn None c.drawn in
    let one : Reads setup from (Values row.Heading [] ∷ behind_heading (backup_of setup player) player c)
    (placed player (Drawn last)) =
    reads_more setup from (placed player (Fixed (row.Console player))) (placed player (Drawn last))
    (Values row.Heading []) _
    (heading-step setup from player c.numbers are.0.numbers.fit begin) (body-read setup player c (omega arith) are.0) in
    let same : player ≡ player + 0 = omega arith in (
      last,
      subst (λ (p : ℕ). Reads setup from ((Values row.Heading [] ∷ behind_heading (backup_of setup player) player c)
          ++ []) (placed p (Drawn last))) same
          (reads_both setup from (placed player (Drawn last)) (placed player (Drawn last)) _ [] one
          (reads_none setup (placed player (Drawn last)))),
    )
consoles-read setup from player c (next ∷ consoles) sum few are begin =
    let last = last_drawn None c.drawn in
    let one : Reads setup from (Values row.Heading [] ∷ behind_heading (backup_of setup player) player c)
    (placed player (Drawn last)) =
    reads_more setup from (placed player (Fixed (row.Console player))) (placed player (Drawn last))
    (Values row.Heading []) _
    (heading-step setup from player c.numbers are.0.numbers.fit begin) (body-read setup player c (omega arith) are.0) in
    let rest = consoles-read setup (placed player (Drawn last)) (player + 1) next consoles (omega arith) few are.1
    (heading-next setup player last (omega arith)) in
    let same : player + 1 + length consoles ≡ player + suc (length consoles) = omega arith in (
      rest.0,
      subst (λ (p : ℕ). Reads setup from ((Values row.Heading [] ∷ behind_heading (backup_of setup player) player c)
          ++ consoles_say setup (player + 1) (next ∷ consoles)) (placed p (Drawn rest.0))) same
          (reads_both setup from (placed player (Drawn last)) (placed (player + 1 + length consoles) (Drawn rest.0)) _ _
          one rest.1),
    )

consoles-drafted : (setup : Setup) (player : ℕ) (consoles : List ConsoleDraft) (d : Draft)
    → AreConsoles setup player consoles → drafted (consoles_say setup player consoles) d ≡ record d {
      consoles = d.consoles ++ consoles;
    }
unfolding AreConsoles consoles_say drafted
consoles-drafted setup player [] d are =
    ap (λ (cs : List ConsoleDraft). record d { consoles = cs }) (sym (append-nil d.consoles))
consoles-drafted setup player (c ∷ consoles) d are =
    drafted-both (console_says (backup_of setup player) player c) (consoles_say setup (player + 1) consoles) d
    ∙ ap (drafted (consoles_say setup (player + 1) consoles))
    (console-drafted setup.until (backup_of setup player) player c d are.0.numbers)
    ∙ consoles-drafted setup (player + 1) consoles (record d { consoles = d.consoles ++ c ∷ [] }) are.1
    ∙ ap (λ (cs : List ConsoleDraft). record d { consoles = cs }) (append_assoc d.consoles (c ∷ []) consoles)

-- the live signals
signal-first : (setup : Setup) (player : ℕ) (last : Option ℕ) (sender : ℕ) (signal : Signal)
    → player + 1 ≡ setup.consoles
    → place_for setup (pieces (signal_text sender signal)) (placed player (Drawn last)) ≡ placed player Signals
unfolding is_left next_by
signal-first setup player last sender signal all =
    let first =
    first-joined (codes "signal") (decimal sender ∷ long_digits (packed_head signal) ∷ long_digits (packed_words signal)
    ∷ []) refl in
    let none : nat_lt (player + 1) setup.consoles ≡ false = grind (arith, nat_tests) in
    rw (first, none, first) refl

signal-here : (setup : Setup) (player sender : ℕ) (signal : Signal)
    → place_for setup (pieces (signal_text sender signal)) (placed player Signals) ≡ placed player Signals
unfolding is_left
signal-here setup player sender signal =
    let first =
    first-joined (codes "signal") (decimal sender ∷ long_digits (packed_head signal) ∷ long_digits (packed_words signal)
    ∷ []) refl in
    rw (first, first) refl

signal-step : (setup : Setup) (from : Place) (player : ℕ) (one : ℕ × Signal) (sent : List (ℕ × Signal))
    → setup.consoles ≤ 4 → AreSent setup.consoles (one ∷ sent)
    → place_for setup (pieces (signal_text one.0 one.1)) from ≡ placed player Signals
    → Step setup from (said_line (live_of one)) (live_of one) (placed player Signals)
unfolding AreSent slot_said after_said said_line
signal-step setup from player one sent few are place =
    step setup from (placed player Signals) (signal_text one.0 one.1) (live_of one) (placed player Signals)
    (signal-fed one.0 one.1 (omega arith)) place (signals-again setup.consoles one.0 one.1 are.0 few are.1 are.2 are.3)
    refl

signals-read : (setup : Setup) (player : ℕ) (sent : List (ℕ × Signal)) → setup.consoles ≤ 4
    → AreSent setup.consoles sent → Reads setup (placed player Signals) (map live_of sent) (placed player Signals)
unfolding AreSent
signals-read setup player [] few are = reads_none setup (placed player Signals)
signals-read setup player (one ∷ sent) few are =
    reads_more setup (placed player Signals) (placed player Signals) (placed player Signals) (live_of one)
    (map live_of sent)
    (signal-step setup (placed player Signals) player one sent few are (signal-here setup player one.0 one.1))
    (signals-read setup player sent few are.4)

-- the last line
end-behind_drawn : (setup : Setup) (player : ℕ) (last : Option ℕ) → player + 1 ≡ setup.consoles
    → place_for setup (pieces end_text) (placed player (Drawn last)) ≡ placed player End
unfolding is_left next_by pieces
end-behind_drawn setup player last all =
    let none : nat_lt (player + 1) setup.consoles ≡ false = grind (arith, nat_tests) in
    rw none refl

end-behind_signals : (setup : Setup) (player : ℕ)
    → place_for setup (pieces end_text) (placed player Signals) ≡ placed player End
unfolding is_left next_by pieces
end-behind_signals setup player = refl

end-step : (setup : Setup) (from : Place) (player : ℕ) → place_for setup (pieces end_text) from ≡ placed player End
    → Step setup from end_text Nothing (placed player Past)
unfolding slot_said after_said next_by end_line exact pieces
end-step setup from player place =
    step setup from (placed player End) end_text Nothing (placed player Past) refl place refl refl

-- the signals behind the last console, and where the last line is read
record Ends (setup : Setup) (player : ℕ) (from : Place) (sent : List (ℕ × Signal)) : Type 0 where
  to : Place
  reads : Reads setup from (map live_of sent) to
  end : place_for setup (pieces end_text) to ≡ placed player End

sent-ends : (setup : Setup) (player : ℕ) (last : Option ℕ) (sent : List (ℕ × Signal)) → player + 1 ≡ setup.consoles
    → setup.consoles ≤ 4 → AreSent setup.consoles sent → Ends setup player (placed player (Drawn last)) sent
unfolding AreSent
sent-ends setup player last [] all few are = record {
  to = placed player (Drawn last);
  reads = reads_none setup (placed player (Drawn last));
  end = end-behind_drawn setup player last all;
}
sent-ends setup player last (one ∷ sent) all few are = record {
  to = placed player Signals;
  reads = reads_more setup (placed player (Drawn last)) (placed player Signals) (placed player Signals) (live_of one)
      (map live_of sent)
      (signal-step setup (placed player (Drawn last)) player one sent few are
      (signal-first setup player last one.0 one.1 all))
      (signals-read setup player sent few are.4);
  end = end-behind_signals setup player;
}

sent-drafted : (sent : List (ℕ × Signal)) (d : Draft) → drafted (map live_of sent) d ≡ record d {
  sent = d.sent ++ sent;
}
unfolding drafted with_said
sent-drafted [] d = ap (λ (s : List (ℕ × Signal)). record d { sent = s }) (sym (append-nil d.sent))
sent-drafted (one ∷ sent) d =
    sent-drafted sent (record d { sent = d.sent ++ one ∷ [] })
    ∙ ap (λ (s : List (ℕ × Signal)). record d { sent = s }) (append_assoc d.sent (one ∷ []) sent)

-- the first two lines
version-step : (setup : Setup) → Step setup first_place version_text Nothing (placed 0 Digest)
unfolding slot_said after_said next_by version_line exact pieces is_left
version-step setup = step setup first_place first_place version_text Nothing (placed 0 Digest) refl refl refl refl

digest-step : (setup : Setup) (d : Draft) → IsWhole setup d
    → Step setup (placed 0 Digest) (digest_text setup.digest) Nothing (placed 0 (Fixed row.Heading))
unfolding slot_said after_said next_by is_left
digest-step setup d is =
    step setup (placed 0 Digest) (placed 0 Digest) (digest_text setup.digest) Nothing (placed 0 (Fixed row.Heading))
    (digest-fed setup.digest) refl (digest-again setup.digest is.digest is.bytes) refl

-- what was said before the consoles
abbrev before_consoles : Draft
before_consoles = record { at = placed 0 (Fixed row.Heading); consoles = []; sent = [] }

begun : (setup : Setup)
    → with_next (placed 0 (Fixed row.Heading)) Nothing (with_next (placed 0 Digest) Nothing nothing_read)
    ≡ before_consoles
unfolding with_said with_last
begun setup = refl

-- the last line changes nothing but the place
nothing-last : (consoles : List ConsoleDraft) → with_last (with_line_of Nothing) consoles ≡ consoles
unfolding with_last with_line_of
nothing-last [] = refl
nothing-last (c ∷ []) = refl
nothing-last (c ∷ next ∷ consoles) = ap (λ (t : List ConsoleDraft). c ∷ t) (nothing-last (next ∷ consoles))

nothing-more : (d : Draft) (at : Place) → with_next at Nothing d ≡ record d { at = at }
unfolding with_said
nothing-more d at =
    ap (λ (cs : List ConsoleDraft). record { at = at; consoles = cs; sent = d.sent }) (nothing-last d.consoles)

at_end-past : (A : Type 0) (number : ℕ) (d : Draft) (whole_of : Draft → Option A) → d.at.slot ≡ Past
    → at_end whole_of number d ≡ judged number (whole_of d)
unfolding at_end
at_end-past A number d whole_of past = rw past refl

lines-count : (says : List Said) (first second last : List ℕ)
    → length (first ∷ second ∷ (map said_line says ++ last ∷ [])) ≡ 1 + 1 + length says + 1
lines-count says first second last =
    omega (arith, length-append (map said_line says) (last ∷ []), length-map {A = Said} says said_line)

-- the lines of all consoles, and the player of the last one
record AllRead (setup : Setup) (consoles : List ConsoleDraft) : Type 0 where
  player : ℕ
  last : Option ℕ
  all : player + 1 ≡ setup.consoles
  reads : Reads setup (placed 0 (Fixed row.Heading)) (consoles_say setup 0 consoles) (placed player (Drawn last))

all-read : (setup : Setup) (consoles : List ConsoleDraft) → length consoles ≡ setup.consoles → 0 < setup.consoles
    → setup.consoles ≤ 4 → AreConsoles setup 0 consoles → AllRead setup consoles
all-read setup [] count some few are = absurd (omega arith)
all-read setup (c ∷ consoles) count some few are =
    let r = consoles-read setup (placed 0 (Fixed row.Heading)) 0 c consoles (omega arith) few are
    (heading-here setup 0 (pieces (row_line row.Heading []))) in
    record { player = 0 + length consoles; last = r.0; all = omega arith; reads = r.1 }

place-is : (at : Place) (player : ℕ) → at.player ≡ player → at.slot ≡ Past → placed player Past ≡ at
place-is at player h k = ap (λ p. placed p Past) (sym h) ∙ ap (λ (s : Slot). placed at.player s) (sym k)

drafted-whole : (setup : Setup) (d : Draft) → IsWhole setup d
    → drafted (consoles_say setup 0 d.consoles ++ map live_of d.sent) before_consoles
    ≡ record { at = placed 0 (Fixed row.Heading); consoles = d.consoles; sent = d.sent }
drafted-whole setup d is =
    drafted-both (consoles_say setup 0 d.consoles) (map live_of d.sent) before_consoles
    ∙ ap (drafted (map live_of d.sent)) (consoles-drafted setup 0 d.consoles before_consoles is.consoles)
    ∙ sent-drafted d.sent (record before_consoles { consoles = d.consoles })

-- whatever a whole file comes to
pub again : (A : Type 0) (setup : Setup) (d : Draft) (whole_of : Draft → Option A) → IsWhole setup d
    → length (frozen_text setup d) ≤ longest_file
    → answer_of (frozen_language setup whole_of) (frozen_text setup d)
    ≡ judged (length (frozen_lines setup d)) (whole_of d)
unfolding frozen_text frozen_lines text_of with_said with_last fed_lines
again A setup d whole_of is short =
    let says : List Said = consoles_say setup 0 d.consoles ++ map live_of d.sent in
    let rest : List (List ℕ) = map said_line says ++ end_text ∷ [] in
    let L = lines_say (frozen_language setup whole_of) in
    let a = all-read setup d.consoles is.count (omega (arith, is.last)) is.few is.consoles in
    let s = sent-ends setup a.player a.last d.sent a.all is.few is.sent in
    let reads : Reads setup (placed 0 (Fixed row.Heading)) says s.to =
    reads_both setup (placed 0 (Fixed row.Heading)) (placed a.player (Drawn a.last)) s.to
    (consoles_say setup 0 d.consoles) (map live_of d.sent) a.reads s.reads in
    let read : Draft = record (drafted says before_consoles) { at = s.to } in
    let over : Place = placed a.player Past in
    let number : 1 + 1 + length says + 1 ≡ length (frozen_lines setup d) =
    sym (lines-count says version_text (digest_text setup.digest) end_text) in
    let whole : with_next over Nothing read ≡ d =
    nothing-more read over
    ∙ ap (λ (e : Draft). record e { at = over }) (drafted-whole setup d is)
    ∙ ap (λ (p : Place). record { at = p; consoles = d.consoles; sent = d.sent })
    (place-is d.at a.player (omega (arith, is.last, a.all)) is.past) in
    answer_of-lines (frozen_language setup whole_of) (frozen_text setup d)
    (judged (length (frozen_lines setup d)) (whole_of d)) short
    (one-line A setup whole_of 0 nothing_read version_text Nothing (placed 0 Digest)
    (ended (digest_text setup.digest) ++ text_of rest) (version-step setup)
    ∙ one-line A setup whole_of 1 (with_next (placed 0 Digest) Nothing nothing_read) (digest_text setup.digest) Nothing
    (placed 0 (Fixed row.Heading)) (text_of rest) (digest-step setup d is)
    ∙ lines-read A setup whole_of (1 + 1) before_consoles says s.to (end_text ∷ []) reads
    ∙ one-line A setup whole_of (1 + 1 + length says) read end_text Nothing over [] (end-step setup s.to a.player s.end)
    ∙ lines_say-end (frozen_language setup whole_of) (1 + 1 + length says + 1) (with_next over Nothing read)
    ∙ ap (λ (n : ℕ). at_end whole_of n (with_next over Nothing read)) number
    ∙ ap (at_end whole_of (length (frozen_lines setup d))) whole
    ∙ at_end-past A (length (frozen_lines setup d)) d whole_of is.past)

pub files-again : FilesAgain
files-again setup d whole_of is short = again Draft setup d whole_of is short
