-- What a line changes of a draft, console by console.
use Rattle.std.proofs.Common.{◌≡◌, ◌≢◌, ◌<◌, ℕ, zero, suc, ◌+◌, ◌==◌, Bool, true, false, List, [], ◌∷◌, ◌++◌, length, refl, ap, sym, ◌∙◌, subst, arith}
use Rattle.std.specs.Prelude.{slice_index_or, slice_set}
use Rattle.std.proofs.lemmas.Bool.{eq-eqb, eqb-true}
use Rattle.std.proofs.lemmas.List.{get_or-set_other, get_or-set_same, length-set, nil_from_length}
use Rattle.gba_frozen.specs.Lines.{Said, Nothing, Values, QueueBytes, WaveBytes, MemoryBytes, Colours, Live}
use Rattle.gba_frozen.specs.Places.{backup_of}
use Rattle.gba_frozen.specs.Reading.{ConsoleDraft, Draft, console_at_first, with_last, with_line_of, with_said, with_values}
use Rattle.gba_frozen.specs.Rows.{count_of}
use Rattle.gba_frozen.specs.declared.kinds.Setup.{Setup}
use Rattle.gba_frozen.specs.declared.places.Place.{Place}
use Rattle.gba_frozen.specs.declared.rows.Row.TheVariants as row
use Rattle.gba_frozen_read.specs.Thawed.{IsNext, SaidFits, with_next}
use Rattle.link_node.specs.declared.signal.Signal.{Signal}
use Rattle.gba_filling.specs.Consoles.{AreFilled, IsFilled, draft_at}
use Rattle.gba_filling.specs.Loose.{LooseConsole}
use Rattle.gba_filling.proofs.Begun.{is_of_console, player-begun}

last-count : (change : ConsoleDraft → ConsoleDraft) (ds : List ConsoleDraft) → length (with_last change ds) ≡ length ds
unfolding with_last
last-count change [] = refl
last-count change (last ∷ []) = refl
last-count change (console ∷ next ∷ ds) = ap suc (last-count change (next ∷ ds))

last-here : (change : ConsoleDraft → ConsoleDraft) (ds : List ConsoleDraft) (player : ℕ) → length ds ≡ player + 1
    → draft_at player (with_last change ds) ≡ change (draft_at player ds)
unfolding with_last
last-here change [] player h = absurd (omega arith)
last-here change (last ∷ []) zero h = refl
last-here change (last ∷ []) (suc player) h = absurd (omega arith)
last-here change (console ∷ next ∷ ds) zero h = absurd (omega arith)
last-here change (console ∷ next ∷ ds) (suc player) h = last-here change (next ∷ ds) player (omega arith)

last-apart : (change : ConsoleDraft → ConsoleDraft) (ds : List ConsoleDraft) (player other : ℕ) → length ds ≡ player + 1
    → other ≢ player → draft_at other (with_last change ds) ≡ draft_at other ds
unfolding with_last
last-apart change [] player other h apart = refl
last-apart change (last ∷ []) player zero h apart = absurd (omega arith)
last-apart change (last ∷ []) player (suc other) h apart = refl
last-apart change (console ∷ next ∷ ds) player zero h apart = refl
last-apart change (console ∷ next ∷ ds) zero (suc other) h apart = absurd (omega arith)
last-apart change (console ∷ next ∷ ds) (suc player) (suc other) h apart =
    last-apart change (next ∷ ds) player other (omega arith) (omega arith)

last-same : (change : ConsoleDraft → ConsoleDraft) (ds : List ConsoleDraft) → ((d : ConsoleDraft) → change d ≡ d)
    → with_last change ds ≡ ds
unfolding with_last
last-same change [] h = refl
last-same change (last ∷ []) h = ap (λ (d : ConsoleDraft). d ∷ []) (h last)
last-same change (console ∷ next ∷ ds) h = ap (λ (rest : List ConsoleDraft). console ∷ rest)
    (last-same change (next ∷ ds) h)

-- a console begins as one of which nothing was said
begun-same : (ds : List ConsoleDraft) (player : ℕ) → draft_at player (ds ++ console_at_first ∷ []) ≡ draft_at player ds
begun-same [] zero = refl
begun-same [] (suc player) = refl
begun-same (d ∷ ds) zero = refl
begun-same (d ∷ ds) (suc player) = begun-same ds player

-- a line changes the draft of its player alone
pub record Changes (said : Said) (player : ℕ) (before after : List ConsoleDraft) : Type 0 where
  pub here : draft_at player after ≡ with_line_of said (draft_at player before)
  pub apart : (other : ℕ) → other ≢ player → draft_at other after ≡ draft_at other before

last-changes : (said : Said) (player : ℕ) (ds : List ConsoleDraft)
    → length (with_last (with_line_of said) ds) ≡ player + 1
    → Changes said player ds (with_last (with_line_of said) ds)
last-changes said player ds h =
    let count : length ds ≡ player + 1 = sym (last-count (with_line_of said) ds) ∙ h in
    record {
      here = last-here (with_line_of said) ds player count;
      apart = λ other. last-apart (with_line_of said) ds player other count;
    }

heading-changes : (values : List ℕ) (player : ℕ) (ds : List ConsoleDraft) → values ≡ []
    → Changes (Values row.Heading values) player ds (ds ++ console_at_first ∷ [])
unfolding with_line_of with_values
heading-changes values player ds none = rw none (record {
  here = begun-same ds player;
  apart = λ other _. begun-same ds other;
})

said-changes : (said : Said) (player : ℕ) (d : Draft) → is_of_console said ≡ true
    → ((values : List ℕ) → said ≡ Values row.Heading values → values ≡ [])
    → length (with_said said d).consoles ≡ player + 1 → Changes said player d.consoles (with_said said d).consoles
unfolding with_said
said-changes Nothing p d is none h = absurd cc
said-changes (Live sender signal) p d is none h = absurd cc
said-changes (Values row.Heading v) p d is none h = heading-changes v p d.consoles (none v refl)
said-changes (Values (row.Console n) v) p d is none h = last-changes (Values (row.Console n) v) p d.consoles h
said-changes (Values row.Clock v) p d is none h = last-changes (Values row.Clock v) p d.consoles h
said-changes (Values row.Halted v) p d is none h = last-changes (Values row.Halted v) p d.consoles h
said-changes (Values (row.Register n) v) p d is none h = last-changes (Values (row.Register n) v) p d.consoles h
said-changes (Values (row.Timer n) v) p d is none h = last-changes (Values (row.Timer n) v) p d.consoles h
said-changes (Values (row.Dma n) v) p d is none h = last-changes (Values (row.Dma n) v) p d.consoles h
said-changes (Values row.Sequencer v) p d is none h = last-changes (Values row.Sequencer v) p d.consoles h
said-changes (Values (row.Tone n) v) p d is none h = last-changes (Values (row.Tone n) v) p d.consoles h
said-changes (Values row.Position v) p d is none h = last-changes (Values row.Position v) p d.consoles h
said-changes (Values (row.Affine n) v) p d is none h = last-changes (Values (row.Affine n) v) p d.consoles h
said-changes (Values row.Serial v) p d is none h = last-changes (Values row.Serial v) p d.consoles h
said-changes (Values row.Known v) p d is none h = last-changes (Values row.Known v) p d.consoles h
said-changes (Values row.Flash v) p d is none h = last-changes (Values row.Flash v) p d.consoles h
said-changes (Values row.Was v) p d is none h = last-changes (Values row.Was v) p d.consoles h
said-changes (Values row.Applied v) p d is none h = last-changes (Values row.Applied v) p d.consoles h
said-changes (Values row.Counts v) p d is none h = last-changes (Values row.Counts v) p d.consoles h
said-changes (QueueBytes queue current b) p d is none h = last-changes (QueueBytes queue current b) p d.consoles h
said-changes (WaveBytes bank b) p d is none h = last-changes (WaveBytes bank b) p d.consoles h
said-changes (MemoryBytes place b) p d is none h = last-changes (MemoryBytes place b) p d.consoles h
said-changes (Colours line c) p d is none h = last-changes (Colours line c) p d.consoles h

-- the version of the state file has no numbers
heading-none : (setup : Setup) (player : ℕ) (said : Said) → SaidFits setup player said → (values : List ℕ)
    → said ≡ Values row.Heading values → values ≡ []
unfolding count_of
heading-none setup player said fits values is =
    let there = subst (λ (s : Said). SaidFits setup player s) is fits in nil_from_length values there.1

-- so it is with the next line
pub next-changes : (setup : Setup) (d : Draft) (at : Place) (said : Said) → IsNext setup d at said
    → is_of_console said ≡ true
    → Changes said at.player d.consoles (with_next at said d).consoles
next-changes setup d at said next is =
    said-changes said at.player (record d { at = at }) is (heading-none setup at.player said next.fits)
    (player-begun setup d at said next is)

sent-same : (said : Said) (d : Draft) → is_of_console said ≡ true → (with_said said d).sent ≡ d.sent
unfolding with_said
sent-same Nothing d is = absurd cc
sent-same (Live sender signal) d is = absurd cc
sent-same (Values row.Heading values) d is = refl
sent-same (Values (row.Console n) values) d is = refl
sent-same (Values row.Clock values) d is = refl
sent-same (Values row.Halted values) d is = refl
sent-same (Values (row.Register n) values) d is = refl
sent-same (Values (row.Timer n) values) d is = refl
sent-same (Values (row.Dma n) values) d is = refl
sent-same (Values row.Sequencer values) d is = refl
sent-same (Values (row.Tone n) values) d is = refl
sent-same (Values row.Position values) d is = refl
sent-same (Values (row.Affine n) values) d is = refl
sent-same (Values row.Serial values) d is = refl
sent-same (Values row.Known values) d is = refl
sent-same (Values row.Flash values) d is = refl
sent-same (Values row.Was values) d is = refl
sent-same (Values row.Applied values) d is = refl
sent-same (Values row.Counts values) d is = refl
sent-same (QueueBytes queue current bytes) d is = refl
sent-same (WaveBytes bank bytes) d is = refl
sent-same (MemoryBytes place bytes) d is = refl
sent-same (Colours line colours) d is = refl

pub next-sent : (d : Draft) (at : Place) (said : Said) → is_of_console said ≡ true → (with_next at said d).sent ≡ d.sent
next-sent d at said is = sent-same said (record d { at = at }) is

-- a line that says nothing, and a signal
pub nothing-next : (d : Draft) (at : Place) → with_next at Nothing d ≡ record d { at = at }
unfolding with_said with_line_of
nothing-next d at =
    ap (λ (consoles : List ConsoleDraft). record { at = at; consoles = consoles; sent = d.sent })
    (last-same (λ (c : ConsoleDraft). c) d.consoles (λ c. refl))

pub live-next : (d : Draft) (at : Place) (sender : ℕ) (signal : Signal)
    → with_next at (Live sender signal) d
    ≡ record { at = at; consoles = d.consoles; sent = d.sent ++ (sender, signal) ∷ [] }
unfolding with_said
live-next d at sender signal = refl

-- the consoles with one that keeps the line of its player
pub filled-next : (setup : Setup) (said : Said) (player : ℕ) (before after : List ConsoleDraft) (fs : List LooseConsole)
    (f : LooseConsole)
    → Changes said player before after → player < length fs
    → IsFilled (backup_of setup player) (with_line_of said (draft_at player before)) f → AreFilled setup before fs
    → AreFilled setup after (slice_set fs player f)
filled-next setup said player before after fs f changes inside here h other any below =
    by_test (other == player) refl where
      by_test : (b : Bool) → (other == player) ≡ b
          → IsFilled (backup_of setup other) (draft_at other after) (slice_index_or (slice_set fs player f) other any)
      by_test true e =
          let same : other ≡ player = eqb-true other player e in
          let one : slice_index_or (slice_set fs player f) player any ≡ f = get_or-set_same fs player f any inside in
          let there : IsFilled (backup_of setup player) (draft_at player after)
          (slice_index_or (slice_set fs player f) player any) =
          rw (changes.here, one) here in
          subst (λ (o : ℕ). IsFilled (backup_of setup o) (draft_at o after)
          (slice_index_or (slice_set fs player f) o any)) (sym same) there
      by_test false e =
          let apart : other ≢ player = λ (same : other ≡ player). absurd (cc (e, eq-eqb other player same)) in
          let inner : other < length fs = omega (arith, length-set fs player f) in
          let draft = changes.apart other apart in
          let one : slice_index_or (slice_set fs player f) other any ≡ slice_index_or fs other any =
          get_or-set_other fs player other f any apart in
          let there : IsFilled (backup_of setup other) (draft_at other before) (slice_index_or fs other any) =
          h other any inner in
          subst (λ (d : ConsoleDraft). IsFilled (backup_of setup other) d
          (slice_index_or (slice_set fs player f) other any)) (sym draft)
          (subst (λ (g : LooseConsole). IsFilled (backup_of setup other) (draft_at other before) g) (sym one) there)
