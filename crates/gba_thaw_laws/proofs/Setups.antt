-- What a frozen file is read for, and what it is written for.
use Rattle.std.proofs.Common.{◌≡◌, ℕ, zero, suc, ◌+◌, ◌^◌, ◌<◌, ◌≤◌, ◌∙◌, ap, sym, subst, List, [], ◌∷◌, ◌++◌, length, map, get_or, slice_index, slice_index_or, Option, Some, None, IfSome, refl, arith, ltb-true, All, lit<}
use Rattle.std.proofs.lemmas.List.{get_or-map, get_or_past, length-map}
use Rattle.gba_console.specs.Machine.{Machine, clock_of}
use Rattle.gba_filling.specs.Signals.{sent_of}
use Rattle.gba_frozen.specs.Places.{backup_of}
use Rattle.gba_frozen.specs.Reading.{ConsoleDraft, Draft}
use Rattle.gba_frozen.specs.declared.kinds.Setup.{Setup}
use Rattle.gba_frozen_print.specs.Laws.{AreBelow}
use Rattle.gba_frozen_text.specs.Laws.{AreConsoles, AreSent, IsConsole, IsWhole}
use Rattle.gba_frozen_print.specs.Printed.{digest_text, end_text, version_text}
use Rattle.gba_frozen_text.specs.Text.{console_says, consoles_say, frozen_lines, frozen_text, live_of, said_line, text_of}
use Rattle.gba_image.specs.declared.backup.Backup.{Backup}
use Rattle.gba_image.specs.declared.backup.Backup.TheVariants.{Sram}
use Rattle.gba_numbers.specs.Ranges.{latest_clock}
use Rattle.gba_snapshot.specs.Console.{backup_in, draft_of}
use Rattle.gba_snapshot.specs.File.{frozen_file}
use Rattle.gba_snapshot.specs.Laws.{cut_draft, signal_of, setup_written}
use Rattle.gba_snapshot.proofs.Text.{frozen-text}
use Rattle.gba_thaw.specs.Cut.{setup_of}
use Rattle.gba_thaw_laws.specs.Cut.{AreReady, CanBeFrozen}
use Rattle.gba_thaw_laws.proofs.Lines.{lines-of-console-stand}
use Rattle.gba_thaw_laws.proofs.Ranges.{mode-below}
use Rattle.link_node.specs.Due.{FitsWidths}
use Rattle.link_node.specs.Packing.{mode_number, packed_head, packed_words, presence, reply_word, start_word}
use Rattle.link_node.specs.declared.signal.Signal.{Signal}
use Rattle.link_node.specs.declared.signal.Start.{Start}
use Rattle.link_node.proofs.PackingLemmas.{packs, start_speed_small}
use Rattle.link_order.specs.Cut.{Cut}
use Rattle.link_order.specs.declared.sent.Sent.{Sent}

-- ---- consoles

pub same-backups : (until : ℕ) (starts ms : List Machine) → AreReady until starts ms
    → map backup_in starts ≡ map backup_in ms
unfolding AreReady
same-backups until [] [] ready = refl
same-backups until [] (m ∷ ms) ready = absurd ready
same-backups until (start ∷ starts) [] ready = absurd ready
same-backups until (start ∷ starts) (m ∷ ms) ready =
    let one = ready.0.begins.kind in
    let rest = same-backups until starts ms ready.1 in
    λ i. one i ∷ rest i

pub same-count : (until : ℕ) (starts ms : List Machine) → AreReady until starts ms → length starts ≡ length ms
same-count until starts ms ready =
    sym (length-map starts backup_in) ∙ ap (λ (xs : List Backup). length xs) (same-backups until starts ms ready)
    ∙ length-map ms backup_in

clocks-latest : (until : ℕ) (starts ms : List Machine) → AreReady until starts ms → (i : ℕ)
    → slice_index (map clock_of ms) i ≤ latest_clock
unfolding AreReady
clocks-latest until [] [] ready i = omega arith
clocks-latest until [] (m ∷ ms) ready i = absurd ready
clocks-latest until (start ∷ starts) [] ready i = absurd ready
clocks-latest until (start ∷ starts) (m ∷ ms) ready zero = ready.0.holds.times.latest
clocks-latest until (start ∷ starts) (m ∷ ms) ready (suc i) = clocks-latest until starts ms ready.1 i

-- ---- backups

backups-same : (digest : List ℕ) (until : ℕ) (starts ms : List Machine) → map backup_in starts ≡ map backup_in ms
    → length ms ≤ 4
    → (player : ℕ) → backup_of (setup_of digest until starts) player ≡ backup_of (setup_written digest until ms) player
backups-same digest until starts ms same few zero = ap (λ (bs : List Backup). slice_index_or bs 0 Sram) same
backups-same digest until starts ms same few (suc zero) = ap (λ (bs : List Backup). slice_index_or bs 1 Sram) same
backups-same digest until starts ms same few (suc (suc zero)) = ap (λ (bs : List Backup). slice_index_or bs 2 Sram) same
backups-same digest until starts ms same few (suc (suc (suc zero))) =
    ap (λ (bs : List Backup). slice_index_or bs 3 Sram) same
backups-same digest until starts ms same few (suc (suc (suc (suc player)))) =
    let long = length-map ms backup_in in
    sym (get_or_past (map backup_in ms) (suc (suc (suc (suc player)))) Sram (omega (arith, few, long)))

-- ---- the text

says-same : (S F : Setup) (player : ℕ) (ds : List ConsoleDraft) → ((p : ℕ) → backup_of S p ≡ backup_of F p)
    → consoles_say S player ds ≡ consoles_say F player ds
unfolding consoles_say
says-same S F player [] same = refl
says-same S F player (d ∷ ds) same =
    let one = same player in
    let rest = says-same S F (player + 1) ds same in
    λ i. console_says (one i) player d ++ rest i

text-same : (S F : Setup) (d : Draft) → S.digest ≡ F.digest → ((p : ℕ) → backup_of S p ≡ backup_of F p)
    → frozen_text S d ≡ frozen_text F d
unfolding frozen_text frozen_lines
text-same S F d digest same =
    let says = says-same S F 0 d.consoles same in
    λ i. text_of
    (version_text ∷ digest_text (digest i) ∷ (map said_line (says i ++ map live_of d.sent) ++ end_text ∷ []))

pub file-is-text : (digest : List ℕ) (until : ℕ) (start cut : Cut Machine) → CanBeFrozen until start cut
    → frozen_file digest cut ≡ frozen_text (setup_of digest until start.consoles) (cut_draft cut)
file-is-text digest until start cut can =
    let same = same-backups until start.consoles cut.consoles can.consoles in
    frozen-text digest until cut
    ∙ sym
    (text-same (setup_of digest until start.consoles) (setup_written digest until cut.consoles) (cut_draft cut) refl
    (backups-same digest until start.consoles cut.consoles same can.few))

-- ---- the signals

presence-small : {T : Type 0} (o : Option T) → presence o ≤ 1
presence-small None = omega arith
presence-small (Some x) = omega arith

head-small : (s : Signal) → s.clock < 2 ^ 40 → FitsWidths s → packed_head s < 2 ^ 64
head-small s small fits =
    let mode = ltb-true (mode_number s.mode) 4 (mode-below s.mode) in
    let start = presence-small s.start in
    let speed = start_speed_small s.start fits.0 in
    let reply = presence-small s.reply in
    omega (arith, small, mode, start, speed, reply)

word-small : (start : Option Start) → IfSome start (λ s. (s.speed < 4) × (s.word < 2 ^ 32)) → start_word start < 2 ^ 32
word-small None h = lit< tt
word-small (Some start) h = h.1

reply-small : (reply : Option ℕ) → IfSome reply (λ word. word < 2 ^ 32) → reply_word reply < 2 ^ 32
reply-small None h = lit< tt
reply-small (Some word) h = h

words-small : (s : Signal) → FitsWidths s → packed_words s < 2 ^ 64
words-small s fits =
    let start = word-small s.start fits.0 in
    let reply = reply-small s.reply fits.1 in
    omega (arith, start, reply)

record IsGood (count : ℕ) (one : Sent) : Type 0 where
  player : one.sender < count
  clock : one.signal.clock < 2 ^ 40
  fits : FitsWidths one.signal

signals-stand : (count : ℕ) (sent : List Sent) → All (IsGood count) sent → AreSent count (map signal_of sent)
unfolding AreSent
signals-stand count [] good = tt
signals-stand count (one ∷ sent) good =
    let here = good 0 one (omega arith) in (
      here.player,
      head-small one.signal here.clock here.fits,
      words-small one.signal here.fits,
      packs one.signal here.clock here.fits,
      signals-stand count sent (λ k d inside. good (suc k) d (omega (arith, inside))),
    )

pub signals-again : (sent : List Sent) → map sent_of (map signal_of sent) ≡ sent
signals-again [] = refl
signals-again (one ∷ sent) = ap (λ (rest : List Sent). one ∷ rest) (signals-again sent)

-- ---- the draft of the whole file

consoles-stand : (S : Setup) (player : ℕ) (starts ms : List Machine) → AreReady S.until starts ms
    → ((j : ℕ) (m : Machine) → j < length ms → backup_of S (player + j) ≡ backup_in (get_or ms j m))
    → AreConsoles S player (map draft_of ms)
unfolding AreReady AreConsoles
consoles-stand S player [] [] ready kept = tt
consoles-stand S player [] (m ∷ ms) ready kept = absurd ready
consoles-stand S player (start ∷ starts) [] ready kept = absurd ready
consoles-stand S player (start ∷ starts) (m ∷ ms) ready kept =
    let one = ready.0 in
    let here : player + 0 ≡ player = omega arith in
    let backup : backup_of S player ≡ backup_in m =
    ap (λ (p : ℕ). backup_of S p) (sym here) ∙ kept 0 m (omega arith) in (
      subst (λ (b : Backup). IsConsole S.until b (draft_of m)) (sym backup)
          (lines-of-console-stand S.until m one.holds one.spelled one.early),
      consoles-stand S (player + 1) starts ms ready.1 (λ j other inside.
          let next : player + suc j ≡ player + 1 + j = omega arith in
          ap (λ (p : ℕ). backup_of S p) (sym next) ∙ kept (suc j) other (omega (arith, inside))),
    )

backup-kept : (digest : List ℕ) (until : ℕ) (ms : List Machine) (j : ℕ) (m : Machine) → j < length ms
    → backup_of (setup_written digest until ms) (0 + j) ≡ backup_in (get_or ms j m)
backup-kept digest until ms j m inside =
    let here : 0 + j ≡ j = omega arith in
    ap (λ (k : ℕ). slice_index_or (map backup_in ms) k Sram) here ∙ get_or-map backup_in ms j m Sram inside

pub draft-whole : (digest : List ℕ) (until : ℕ) (start cut : Cut Machine) → length digest ≡ 32 → AreBelow 2 digest
    → CanBeFrozen until start cut → IsWhole (setup_of digest until start.consoles) (cut_draft cut)
draft-whole digest until start cut long bytes can =
    let count = same-count until start.consoles cut.consoles can.consoles in
    let same = same-backups until start.consoles cut.consoles can.consoles in
    let drafts = length-map cut.consoles draft_of in
    let S : Setup = setup_of digest until start.consoles in
    record {
      few = omega (arith, count, can.few);
      digest = long;
      bytes = bytes;
      count = drafts ∙ sym count;
      last = omega (arith, count, can.some);
      past = refl;
      consoles = consoles-stand S 0 start.consoles cut.consoles can.consoles (λ j m inside.
          backups-same digest until start.consoles cut.consoles same can.few (0 + j)
          ∙ backup-kept digest until cut.consoles j m inside);
      sent = signals-stand (length start.consoles) cut.sent (λ k d inside.
          let sound = can.whole.sound.signals k d inside in
          let latest = clocks-latest until start.consoles cut.consoles can.consoles (get_or cut.sent k d).sender in
          record {
            player = omega (arith, sound.from_player, count);
            clock = omega (arith, sound.sent_before, latest);
            fits = can.fit k d inside;
          });
    }
