-- What is held of a job with one line more.
use Rattle.std.proofs.Common.{◌≡◌, ◌≢◌, ◌<◌, ℕ, ◌==◌, Bool, true, false, List, [], ◌∷◌, ◌++◌, length, refl, ap, sym, ◌∙◌, subst, arith}
use Rattle.std.specs.Prelude.{slice_index_or, slice_set}
use Rattle.std.proofs.lemmas.Bool.{eq-eqb, eqb-true}
use Rattle.std.proofs.lemmas.List.{get_or_append_left, length-append, length-set}
use Rattle.std.proofs.Math.Seq.{get_or-append_seam}
use Rattle.gba_frozen.specs.Lines.{Said, Nothing, Live}
use Rattle.gba_frozen.specs.Places.{backup_of}
use Rattle.gba_frozen.specs.Reading.{Draft, console_at_first, with_line_of}
use Rattle.gba_frozen.specs.Views.{said_value}
use Rattle.gba_frozen.specs.declared.kinds.Setup.{Setup}
use Rattle.gba_frozen.specs.declared.lines.FrozenLine.{FrozenLine}
use Rattle.gba_frozen.specs.declared.lines.FrozenLine.TheVariants as line
use Rattle.gba_frozen.specs.declared.places.Place.{Place}
use Rattle.gba_frozen_read.specs.Thawed.{IsNext, with_next}
use Rattle.link_node.specs.declared.signal.Signal.{Signal}
use Rattle.gba_filling.specs.Consoles.{AreFilled, IsFilled, draft_at}
use Rattle.gba_filling.specs.Filling.{FilledJob, IsFilledJob}
use Rattle.gba_filling.specs.Signals.{AreSignals, LiveSignals}
use Rattle.gba_filling.specs.Loose.{LooseConsole}
use Rattle.gba_filling.proofs.Begun.{is_of_console, player-below}
use Rattle.gba_filling.proofs.NextDraft.{filled-next, live-next, next-changes, next-sent, nothing-next}

-- any other line is one of a console
pub others-of_console : (said : FrozenLine) → (said ≡ line.Nothing → ⊥)
    → ((sender : ℕ) (signal : Signal) → said ≡ line.Live sender signal → ⊥) → is_of_console (said_value said) ≡ true
others-of_console line.Nothing nothing live = absurd (nothing refl)
others-of_console (line.Values which values) nothing live = refl
others-of_console (line.Queue queue current bytes) nothing live = refl
others-of_console (line.Wave bank bytes) nothing live = refl
others-of_console (line.Memory place bytes) nothing live = refl
others-of_console (line.Drawn number colours) nothing live = refl
others-of_console (line.Live sender signal) nothing live = absurd (live sender signal refl)

pub job-nothing : (setup : Setup) (d : Draft) (at : Place) (said : Said) (j : FilledJob) → said ≡ Nothing
    → IsFilledJob j setup d
    → IsFilledJob j setup (with_next at said d)
job-nothing setup d at said j is h =
    let next : with_next at said d ≡ record d { at = at } =
    ap (λ (s : Said). with_next at s d) is ∙ nothing-next d at in
    rw next (record { count = h.count; consoles = h.consoles; signals = h.signals })

pub job-live : (setup : Setup) (d : Draft) (at : Place) (said : Said) (j : FilledJob) (sender : ℕ) (signal : Signal)
    (signals : LiveSignals)
    → said ≡ Live sender signal → AreSignals (d.sent ++ (sender, signal) ∷ []) signals → IsFilledJob j setup d
    → IsFilledJob (record j { signals = signals }) setup (with_next at said d)
job-live setup d at said j sender signal signals is more h =
    let next : with_next at said d ≡ record { at = at; consoles = d.consoles; sent = d.sent ++ (sender, signal) ∷ [] } =
    ap (λ (s : Said). with_next at s d) is ∙ live-next d at sender signal in
    rw next (record { count = h.count; consoles = h.consoles; signals = more })

-- the console of the line is one of the job's
pub job-player : (setup : Setup) (d : Draft) (at : Place) (said : Said) (j : FilledJob) → IsFilledJob j setup d
    → IsNext setup d at said
    → at.player < length j.consoles
job-player setup d at said j h next = omega (arith, player-below setup d at said next, h.count)

pub job-console : (setup : Setup) (d : Draft) (at : Place) (said : Said) (j : FilledJob) (f : LooseConsole)
    → is_of_console said ≡ true
    → IsFilled (backup_of setup at.player) (with_line_of said (draft_at at.player d.consoles)) f → IsFilledJob j setup d
    → IsNext setup d at said
    → IsFilledJob (record j { consoles = slice_set j.consoles at.player f }) setup (with_next at said d)
job-console setup d at said j f is filled h next = record {
  count = length-set j.consoles at.player f ∙ h.count;
  consoles =
      filled-next setup said at.player d.consoles (with_next at said d).consoles j.consoles f
      (next-changes setup d at said next is)
      (job-player setup d at said j h next) filled h.consoles;
  signals = subst (λ (sent : List (ℕ × Signal)). AreSignals sent j.signals) (sym (next-sent d at said is)) h.signals;
}

-- one console more of which nothing was said
pub filled-more : (setup : Setup) (fs : List LooseConsole) (f : LooseConsole) (player : ℕ) → length fs ≡ player
    → IsFilled (backup_of setup player) console_at_first f → AreFilled setup [] fs → AreFilled setup [] (fs ++ f ∷ [])
filled-more setup fs f player count one h other any below = by_test (other == length fs) refl where
  by_test : (b : Bool) → (other == length fs) ≡ b
      → IsFilled (backup_of setup other) console_at_first (slice_index_or (fs ++ f ∷ []) other any)
  by_test true e =
      let last : other ≡ length fs = eqb-true other (length fs) e in
      let here : slice_index_or (fs ++ f ∷ []) other any ≡ f =
      ap (λ (o : ℕ). slice_index_or (fs ++ f ∷ []) o any) last ∙ get_or-append_seam fs f [] any in
      let there : IsFilled (backup_of setup other) console_at_first f =
      subst (λ (o : ℕ). IsFilled (backup_of setup o) console_at_first f) (sym (last ∙ count)) one in
      subst (λ (g : LooseConsole). IsFilled (backup_of setup other) console_at_first g) (sym here) there
  by_test false e =
      let apart : other ≢ length fs = λ (same : other ≡ length fs). absurd (cc (e, eq-eqb other (length fs) same)) in
      let before : other < length fs = omega (arith, length-append fs (f ∷ [])) in
      let here : slice_index_or (fs ++ f ∷ []) other any ≡ slice_index_or fs other any =
      get_or_append_left fs (f ∷ []) any other before in
      subst (λ (g : LooseConsole). IsFilled (backup_of setup other) console_at_first g) (sym here) (h other any before)
