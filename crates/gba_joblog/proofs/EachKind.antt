-- One of something for each kind of output.
use Rattle.std.proofs.Common.{◌≡◌, List, [], ◌∷◌, refl}
use Rattle.gba_joblog.specs.Outputs.{EachKind, at_kind, per_kind, with_kind}
use Rattle.gba_joblog.specs.declared.outputs.OutKind.{OutKind}
use Rattle.gba_joblog.specs.declared.outputs.OutKind.TheVariants.{Frames, Samples, Words, State, Save}
use Rattle.gba_joblog.specs.declared.outputs.PerKind.{PerKind}

-- that of a kind is what the function gives for it
pub at-per_kind : {T : Type 0} (of : OutKind → T) (kind : OutKind) → at_kind (per_kind of) kind ≡ of kind
at-per_kind of Frames = refl
at-per_kind of Samples = refl
at-per_kind of Words = refl
at-per_kind of State = refl
at-per_kind of Save = refl

-- two that have the same for each kind are one
pub same-kinds : {T : Type 0} (a b : PerKind T) → ((kind : OutKind) → at_kind a kind ≡ at_kind b kind) → a ≡ b
same-kinds a b same = rw (same Frames, same Samples, same Words, same State, same Save) refl

-- what holds of each one holds of that of each kind
pub all-kinds : {T : Type 0} (P : T → Type 0) (each : PerKind T) → P each.frames → P each.samples → P each.words
    → P each.state → P each.save → EachKind P each
all-kinds P each frames samples words state save Frames = frames
all-kinds P each frames samples words state save Samples = samples
all-kinds P each frames samples words state save Words = words
all-kinds P each frames samples words state save State = state
all-kinds P each frames samples words state save Save = save

-- what holds of that of each kind holds still where one is put in that it holds of
pub put-holds : {T : Type 0} (P : T → Type 0) (put : OutKind) (one : T) (each : PerKind T) → P one → EachKind P each
    → EachKind P (with_kind put one each)
put-holds P Frames one each h all Frames = h
put-holds P Frames one each h all Samples = all Samples
put-holds P Frames one each h all Words = all Words
put-holds P Frames one each h all State = all State
put-holds P Frames one each h all Save = all Save
put-holds P Samples one each h all Frames = all Frames
put-holds P Samples one each h all Samples = h
put-holds P Samples one each h all Words = all Words
put-holds P Samples one each h all State = all State
put-holds P Samples one each h all Save = all Save
put-holds P Words one each h all Frames = all Frames
put-holds P Words one each h all Samples = all Samples
put-holds P Words one each h all Words = h
put-holds P Words one each h all State = all State
put-holds P Words one each h all Save = all Save
put-holds P State one each h all Frames = all Frames
put-holds P State one each h all Samples = all Samples
put-holds P State one each h all Words = all Words
put-holds P State one each h all State = h
put-holds P State one each h all Save = all Save
put-holds P Save one each h all Frames = all Frames
put-holds P Save one each h all Samples = all Samples
put-holds P Save one each h all Words = all Words
put-holds P Save one each h all State = all State
put-holds P Save one each h all Save = h

-- with those of these kinds taken from elsewhere, one after another
abbrev pub all_with : {T : Type 0} → List OutKind → PerKind T → PerKind T → PerKind T
all_with [] from each = each
all_with (kind ∷ kinds) from each = all_with kinds from (with_kind kind (at_kind from kind) each)
