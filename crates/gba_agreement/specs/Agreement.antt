use Rattle.std.specs.Prelude.{ℕ, ◌≡◌, ◌≢◌, ◌+◌, ◌<◌, ◌≤◌, true, false, nat_lt, List, [], ◌∷◌, ◌++◌, None, Some, if◌then◌else◌}
use Rattle.gba_terms.specs.Bits.{field}
use Rattle.gba_serial.specs.Timing.{is_normal, multi_end, normal_end}
use Rattle.gba_serial.specs.SerialUnit.{SerialUnit, mode_of, own_word}
use Rattle.gba_serial.specs.Take.{waits}
use Rattle.gba_serial.specs.End.{ended}
use Rattle.gba_serial.specs.Steps.{fed}
use Rattle.gba_serial.specs.declared.transfer.Transfer.{Transfer}
use Rattle.link_node.specs.declared.signal.Incoming.{Incoming}
use Rattle.link_node.specs.declared.signal.LinkMode.{LinkMode}
use Rattle.link_node.specs.declared.signal.LinkMode.TheVariants.{Multi}
use Rattle.link_node.specs.declared.signal.Signal.{Signal}
use Rattle.link_node.specs.declared.signal.Start.{Start}
use Rattle.link_order.specs.NodeKind.{NodeKind}
use Rattle.link_order.specs.Due.{incoming}
use Rattle.link_order.specs.Cut.{Cut, count, hop, IsSound, IsInTime, IsCable}
use Rattle.link_steps.specs.Law.{MakesStep}
use Rattle.gba_agreement.specs.UnitView.{HasUnit, IsSeated, UnitView, ends_in}

-- this project's profile: linked consoles agree on a transfer. The laws hold of every record, also of one that no
-- console comes to

-- a cut from which the laws speak: a sound one in time, whose units know their places. Consoles at clock 0 with nothing
-- sent make a sound one in time
pub record AreLinked {C : Type 0} (kind : NodeKind C) (view : UnitView C) (cut : Cut C) : Type 0 where
  pub cable : IsCable cut
  pub sound : IsSound kind cut
  pub in_time : IsInTime kind cut
  pub seated : IsSeated view cut

-- Step k of player p tells this signal, with a start of a transfer.
pub record StartsTransfer {C : Type 0} (kind : NodeKind C) (cut : Cut C) (until p k : ℕ) (s : Signal) (start : Start)
    : Type 0
  where
    pub x : C
    pub dues : List Incoming
    pub step : MakesStep kind cut until p k x dues
    pub tells : (kind.next x dues).1 ≡ Some s
    pub starts : s.start ≡ Some start

-- Step m of player i, of console x, is the first that begins at this clock or later.
pub record ReachesEnd {C : Type 0} (kind : NodeKind C) (cut : Cut C) (until i m end : ℕ) (x : C) (dues : List Incoming)
    : Type 0
  where
    pub step : MakesStep kind cut until i m x dues
    pub before : kind.was x < end
    pub by_now : end ≤ kind.clock x

-- Step m of player i, of console x, takes signal s of player p; u is its unit at that signal's turn: the earlier ones
-- are taken, and a transfer that is over by then has ended.
pub record Meets {C : Type 0} (kind : NodeKind C) (view : UnitView C) (cut : Cut C) (until p : ℕ) (s : Signal) (i m : ℕ)
    (x : C) (u : SerialUnit) : Type 0
  where
    pub dues : List Incoming
    pub earlier : List Incoming
    pub later : List Incoming
    pub step : MakesStep kind cut until i m x dues
    pub split : dues ≡ earlier ++ incoming (hop cut p i) p s ∷ later
    pub unit_is : u ≡ ended (s.clock + hop cut p i) (fed earlier (view.unit x))

-- Multi

-- no way of a signal from player 0 is shorter over another console
abbrev pub HasDirectWays : {C : Type 0} → Cut C → Type 0
HasDirectWays cut =
    (j k : ℕ) → j < count cut → k < count cut → 0 < j → 0 < k → j ≢ k → hop cut 0 k ≤ hop cut 0 j + hop cut j k

-- a console that is on, in Multi and idle, and its send word
pub record IsReady {C : Type 0} (view : UnitView C) (word : ℕ) (x : C) (u : SerialUnit) : Type 0 where
  pub on : view.is_on x ≡ true
  pub mode : mode_of u ≡ Multi
  pub idle : u.run ≡ None
  pub sends : field u.send 0 16 ≡ word

-- the four words of a transfer of so many consoles: ones in the places of those that aren't there
abbrev pub word_at : (ℕ → ℕ) → ℕ → ℕ → ℕ
word_at word count player = if nat_lt player count then word player else 0xffff

abbrev pub words_of : (ℕ → ℕ) → ℕ → List ℕ
words_of word count = word_at word count 0 ∷ word_at word count 1 ∷ word_at word count 2 ∷ word_at word count 3 ∷ []

-- one transfer is recorded in a step, with this end, these words and no error
pub record RecordsMulti {C : Type 0} (kind : NodeKind C) (view : UnitView C) (end : ℕ) (words : List ℕ) (x : C)
    (dues : List Incoming) : Type 0
  where
    pub transfer : Transfer
    pub only : ends_in kind view x dues ≡ transfer ∷ []
    pub mode : transfer.mode ≡ Multi
    pub end_is : transfer.end ≡ end
    pub words_are : transfer.words ≡ words
    pub right : transfer.error ≡ false

-- Ways are direct, player 0 starts a Multi transfer, and every other console that takes the start is ready at its turn.
-- Then each console that reaches the end records the same transfer: word j is player j's send word when it took the
-- start, and player 0's the word that it started with.
abbrev pub AgreesMulti : {C : Type 0} → NodeKind C → UnitView C → Type 0
AgreesMulti {C} kind view =
    (cut : Cut C) (until k end : ℕ) (s : Signal) (start : Start) (word : ℕ → ℕ) → AreLinked kind view cut
    → HasDirectWays cut → StartsTransfer kind cut until 0 k s start → s.mode ≡ Multi → word 0 ≡ start.word
    → end ≡ multi_end (count cut) start.speed s.clock
    → ((i m : ℕ) (x : C) (u : SerialUnit) → 0 < i → Meets kind view cut until 0 s i m x u → IsReady view (word i) x u)
    → (i m : ℕ) (x : C) (dues : List Incoming) → ReachesEnd kind cut until i m end x dues
    → RecordsMulti kind view end (words_of word (count cut)) x dues

-- Normal

-- a console that is on, idle, in this mode, and waits for the other's clock with its bit 7 set
pub record IsWaiting {C : Type 0} (view : UnitView C) (mode : LinkMode) (x : C) (u : SerialUnit) : Type 0 where
  pub on : view.is_on x ≡ true
  pub mode_is : mode_of u ≡ mode
  pub idle : u.run ≡ None
  pub waiting : waits u ≡ true

-- one transfer is recorded in a step, with this end, this mode, this word sent and this one received
pub record RecordsNormal {C : Type 0} (kind : NodeKind C) (view : UnitView C) (mode : LinkMode)
    (end sent got : ℕ) (x : C) (dues : List Incoming) : Type 0
  where
    pub transfer : Transfer
    pub only : ends_in kind view x dues ≡ transfer ∷ []
    pub mode_is : transfer.mode ≡ mode
    pub end_is : transfer.end ≡ end
    pub sent_is : transfer.sent ≡ sent
    pub got_is : transfer.got ≡ got

-- every step of player i that reaches the end records that transfer
abbrev pub RecordsAtEnd : {C : Type 0} → NodeKind C → UnitView C → Cut C → ℕ → LinkMode → ℕ → ℕ → ℕ → ℕ → Type 0
RecordsAtEnd {C} kind view cut until mode end i sent got =
    (m : ℕ) (x : C) (dues : List Incoming) → ReachesEnd kind cut until i m end x dues
    → RecordsNormal kind view mode end sent got x dues

-- both sides: the starter's word is that of the start, the other's is the one that it had when it took the start
pub record RecordBoth {C : Type 0} (kind : NodeKind C) (view : UnitView C) (cut : Cut C) (until : ℕ) (mode : LinkMode)
    (end p q : ℕ) (word answer : ℕ) : Type 0
  where
    pub starter : RecordsAtEnd kind view cut until mode end p word answer
    pub other : RecordsAtEnd kind view cut until mode end q answer word

-- Player 0 or 1 starts a Normal transfer, and the other is waiting when it takes the start. Then both record the same
-- end, and each has the other's word.
abbrev pub AgreesNormal : {C : Type 0} → NodeKind C → UnitView C → Type 0
AgreesNormal {C} kind view =
    (cut : Cut C) (until p q k end m : ℕ) (s : Signal) (start : Start) (x : C) (u : SerialUnit)
    → AreLinked kind view cut → p + q ≡ 1 → StartsTransfer kind cut until p k s start → is_normal s.mode ≡ true
    → end ≡ normal_end (hop cut 0 1 + hop cut 1 0) s.mode start.speed s.clock
    → Meets kind view cut until p s q m x u → IsWaiting view s.mode x u
    → RecordBoth kind view cut until s.mode end p q start.word (own_word u)

-- the same as laws of a kind of console
abbrev pub UnitsAgreeInMulti : {C : Type 0} → NodeKind C → Type 0
UnitsAgreeInMulti {C} kind = (view : UnitView C) → HasUnit kind view → AgreesMulti kind view

abbrev pub UnitsAgreeInNormal : {C : Type 0} → NodeKind C → Type 0
UnitsAgreeInNormal {C} kind = (view : UnitView C) → HasUnit kind view → AgreesNormal kind view
