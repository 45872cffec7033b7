-- The kinds of output of a console, and one of something for each of them. What is said of every kind is said by these:
-- a further kind is one more entry in each list here, and an own form where its bytes are defined.
use Rattle.std.specs.Prelude.{ℕ, Bool, List, [], ◌∷◌, codes, Option}
use Rattle.std.specs.List.{find}
use Rattle.std.specs.Str.{bytes_eq}
use Rattle.gba_joblog.specs.declared.outputs.OutKind.{OutKind}
use Rattle.gba_joblog.specs.declared.outputs.OutKind.TheVariants.{Frames, Samples, Words, State, Save}
use Rattle.gba_joblog.specs.declared.outputs.PerKind.{PerKind}

-- all kinds, in the order of the language's table
abbrev pub all_kinds : List OutKind
all_kinds = Frames ∷ Samples ∷ Words ∷ State ∷ Save ∷ []

-- the name of an output, in jobs and at the end of its file's name
abbrev pub out_name : OutKind → List ℕ
out_name Frames = codes "frames"
out_name Samples = codes "samples"
out_name Words = codes "words"
out_name State = codes "state"
out_name Save = codes "save"

abbrev pub is_named : List ℕ → OutKind → Bool
is_named word kind = bytes_eq word (out_name kind)

-- the kind of this name
abbrev pub kind_named : List ℕ → Option OutKind
kind_named word = find (is_named word) all_kinds

-- that of a kind
abbrev pub at_kind : {T : Type 0} → PerKind T → OutKind → T
at_kind each Frames = each.frames
at_kind each Samples = each.samples
at_kind each Words = each.words
at_kind each State = each.state
at_kind each Save = each.save

-- what a function gives for each kind
abbrev pub per_kind : {T : Type 0} → (OutKind → T) → PerKind T
per_kind of = record {
  frames = of Frames;
  samples = of Samples;
  words = of Words;
  state = of State;
  save = of Save;
}

-- the same with this in place of that of a kind
abbrev pub with_kind : {T : Type 0} → OutKind → T → PerKind T → PerKind T
with_kind Frames one each = record each { frames = one }
with_kind Samples one each = record each { samples = one }
with_kind Words one each = record each { words = one }
with_kind State one each = record each { state = one }
with_kind Save one each = record each { save = one }

-- what holds of that of each kind
abbrev pub EachKind : {T : Type 0} → (T → Type 0) → PerKind T → Type 0
EachKind {T} P each = (kind : OutKind) → P (at_kind each kind)
