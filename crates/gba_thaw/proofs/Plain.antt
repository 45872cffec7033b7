-- Where the lists of the consoles begin at their start, and where their room ends, isn't seen by what a frozen
-- file comes to.
use Rattle.std.proofs.Common.{◌≡◌, ℕ, List, [], ◌∷◌, map, Option, refl, ap, ◌∙◌}
use Rattle.std.proofs.lemmas.List.{length-map}
use Rattle.gba_console.specs.Machine.{Machine, without_limit}
use Rattle.gba_filling.specs.Signals.{sent_of}
use Rattle.gba_frozen.specs.Reading.{ConsoleDraft, Draft, frozen_language}
use Rattle.gba_frozen.specs.declared.kinds.Setup.{Setup}
use Rattle.gba_image.specs.declared.backup.Backup.{Backup}
use Rattle.gba_snapshot.specs.Console.{backup_in}
use Rattle.gba_text.specs.Languages.{answer_of}
use Rattle.gba_thaw.specs.Console.{can_be_made, can_go_on, console_thawed}
use Rattle.gba_thaw.specs.Cut.{consoles_thawed, cut_if, draft_thawed, setup_of, thaw_of, whole_of}
use Rattle.link_order.specs.Cut.{Cut, plain_cut}

draft-plain : (until : ℕ) (m : Machine) (d : ConsoleDraft)
    → draft_thawed until (without_limit m) d ≡ draft_thawed until m d
unfolding console_thawed can_be_made can_go_on
draft-plain until m d = refl

consoles-plain : (until : ℕ) (ms : List Machine) (ds : List ConsoleDraft)
    → consoles_thawed until (map without_limit ms) ds ≡ consoles_thawed until ms ds
unfolding consoles_thawed
consoles-plain until [] ds = refl
consoles-plain until (m ∷ ms) [] = refl
consoles-plain until (m ∷ ms) (d ∷ ds) =
    let one = draft-plain until m d in
    let rest = consoles-plain until ms ds in
    rw (one, rest) refl

backups-plain : (ms : List Machine) → map backup_in (map without_limit ms) ≡ map backup_in ms
backups-plain [] = refl
backups-plain (m ∷ ms) = ap (λ (bs : List Backup). backup_in m ∷ bs) (backups-plain ms)

setup-plain : (digest : List ℕ) (until : ℕ) (ms : List Machine)
    → setup_of digest until (map without_limit ms) ≡ setup_of digest until ms
setup-plain digest until ms =
    let many = length-map ms without_limit in
    let kept = backups-plain ms in
    rw (many, kept) refl

whole-plain : (until : ℕ) (start : Cut Machine) (d : Draft)
    → whole_of until (plain_cut without_limit start) d ≡ whole_of until start d
unfolding whole_of
whole-plain until start d =
    ap (cut_if start.delays (map sent_of d.sent)) (consoles-plain until start.consoles d.consoles)

pub thaw-plain : (digest : List ℕ) (until : ℕ) (start : Cut Machine) (bytes : List ℕ)
    → thaw_of digest until (plain_cut without_limit start) bytes ≡ thaw_of digest until start bytes
thaw-plain digest until start bytes =
    ap (λ (setup : Setup). answer_of (frozen_language setup (whole_of until (plain_cut without_limit start))) bytes)
    (setup-plain digest until start.consoles)
    ∙ ap (λ (w : Draft → Option (Cut Machine)). answer_of (frozen_language (setup_of digest until start.consoles) w)
    bytes)
    (λ i d. whole-plain until start d i)
