-- A frozen file is the text of what it says.
use Rattle.std.proofs.Common.{◌≡◌, ℕ, zero, suc, ◌+◌, ◌∙◌, List, [], ◌∷◌, ◌++◌, drop, get_or, map, refl, ap, sym, append_assoc, arith}
use Rattle.std.proofs.lemmas.List.{append-nil}
use Rattle.gba_console.specs.Machine.{Machine}
use Rattle.gba_frozen.specs.Lines.{Said}
use Rattle.gba_frozen.specs.Places.{backup_of}
use Rattle.gba_frozen.specs.declared.kinds.Setup.{Setup}
use Rattle.gba_frozen_print.specs.Printed.{digest_text, end_text, ended, version_text}
use Rattle.gba_frozen_text.specs.Text.{console_says, consoles_say, frozen_lines, frozen_text, live_of, said_line, says_text, text_of}
use Rattle.gba_image.specs.declared.backup.Backup.{Backup}
use Rattle.gba_image.specs.declared.backup.Backup.TheVariants.{Sram}
use Rattle.gba_snapshot.proofs.Lines.{says-append}
use Rattle.gba_snapshot.specs.Console.{backup_in, console_text, draft_of}
use Rattle.gba_snapshot.specs.File.{consoles_text, frozen_file, signals_text}
use Rattle.gba_snapshot.specs.Laws.{FrozenIsText, setup_written, signal_of}
use Rattle.link_order.specs.declared.sent.Sent.{Sent}

-- a list from one of its places on
drop-head : (k : ℕ) (xs : List Backup) (y : Backup) (ys : List Backup) (d : Backup) → drop k xs ≡ y ∷ ys
    → (get_or xs k d ≡ y) × (drop (suc k) xs ≡ ys)
drop-head zero [] y ys d h = absurd cc
drop-head zero (x ∷ xs) y ys d h = (cc, cc)
drop-head (suc k) [] y ys d h = absurd cc
drop-head (suc k) (x ∷ xs) y ys d h = drop-head k xs y ys d h

consoles-same : (setup : Setup) (player : ℕ) (machines : List Machine)
    → drop player setup.backups ≡ map backup_in machines
    → says_text (consoles_say setup player (map draft_of machines)) ≡ consoles_text player machines
unfolding consoles_say consoles_text text_of
consoles-same setup player [] backups = refl
consoles-same setup player (m ∷ machines) backups =
    let parts = drop-head player setup.backups (backup_in m) (map backup_in machines) Sram backups in
    let next : suc player ≡ player + 1 = omega arith in
    let rest = consoles-same setup (player + 1) machines (ap (λ n. drop n setup.backups) (sym next) ∙ parts.1) in
    let left : List Said = consoles_say setup (player + 1) (map draft_of machines) in
    says-append (console_says (backup_of setup player) player (draft_of m)) left
    ∙ ap (λ (b : Backup). says_text (console_says b player (draft_of m)) ++ says_text left) parts.0
    ∙ ap (λ (text : List ℕ). console_text player m ++ text) rest

signals-same : (sent : List Sent) → says_text (map live_of (map signal_of sent)) ≡ signals_text sent
unfolding signals_text text_of said_line
signals-same [] = refl
signals-same (one ∷ sent) =
    ap (λ (text : List ℕ). ended (said_line (live_of (signal_of one))) ++ text) (signals-same sent)

text-append : (xs ys : List (List ℕ)) → text_of (xs ++ ys) ≡ text_of xs ++ text_of ys
unfolding text_of
text-append [] ys = refl
text-append (x ∷ xs) ys =
    ap (λ (text : List ℕ). ended x ++ text) (text-append xs ys) ∙ sym (append_assoc (ended x) (text_of xs) (text_of ys))

last-line : text_of (end_text ∷ []) ≡ ended end_text
unfolding text_of
last-line = append-nil (ended end_text)

first-lines : (one two : List ℕ) (lines : List (List ℕ))
    → text_of (one ∷ two ∷ lines) ≡ ended one ++ (ended two ++ text_of lines)
unfolding text_of
first-lines one two lines = refl

pub frozen-text : FrozenIsText
unfolding frozen_file frozen_text frozen_lines
frozen-text digest until cut =
    let setup : Setup = setup_written digest until cut.consoles in
    let consoles : List Said = consoles_say setup 0 (map draft_of cut.consoles) in
    let signals : List Said = map live_of (map signal_of cut.sent) in
    sym (first-lines version_text (digest_text digest) (map said_line (consoles ++ signals) ++ end_text ∷ [])
    ∙ ap (λ (text : List ℕ). ended version_text ++ (ended (digest_text digest) ++ text))
    (text-append (map said_line (consoles ++ signals)) (end_text ∷ [])
    ∙ ap (λ (text : List ℕ). says_text (consoles ++ signals) ++ text) last-line
    ∙ ap (λ (text : List ℕ). text ++ ended end_text)
    (says-append consoles signals
    ∙ ap (λ (text : List ℕ). text ++ says_text signals) (consoles-same setup 0 cut.consoles refl)
    ∙ ap (λ (text : List ℕ). consoles_text 0 cut.consoles ++ text) (signals-same cut.sent))
    ∙ append_assoc (consoles_text 0 cut.consoles) (signals_text cut.sent) (ended end_text)))
