use Rattle.std.specs.Prelude.{ℕ, zero, suc, ◌/◌, Bool, List, [], ◌∷◌, ◌++◌, if◌then◌else◌}
use Rattle.std.specs.List.{flat_map}
use Rattle.gba_command.specs.Writing.{Output}
use Rattle.gba_console.specs.Machine.{Machine}
use Rattle.gba_joblog.specs.Outputs.{at_kind}
use Rattle.gba_joblog.specs.declared.outputs.OutKind.{OutKind}
use Rattle.gba_joblog.specs.declared.outputs.OutKind.TheVariants.{Frames, Samples, Words, State, Save}
use Rattle.gba_joblog.specs.declared.outputs.PerKind.{PerKind}
use Rattle.gba_session.specs.Files.{output_bytes}
use Rattle.gba_session.specs.Session.{Consoles, advanced, is_over, segment_cut, segment_cycles, whole_cut}

-- The pieces that a run adds to its files, in their order: after each segment, for each console in the order of their
-- numbers, what it made of frames, samples and words; after the last one the state and the save of each; then the log.
-- What isn't asked for, or is empty, is no piece.

-- the kinds of which every segment makes more, and those that are made at the end, each in the order of all kinds
abbrev pub growing_kinds : List OutKind
growing_kinds = Frames ∷ Samples ∷ Words ∷ []

abbrev pub lasting_kinds : List OutKind
lasting_kinds = State ∷ Save ∷ []

abbrev pub piece_if : List ℕ → List ℕ → List Output
piece_if name [] = []
piece_if name (byte ∷ bytes) = record { name = name; bytes = byte ∷ bytes } ∷ []

abbrev pub kind_piece : PerKind (List ℕ) → PerKind Bool → Machine → OutKind → List Output
kind_piece names asks m kind =
    if at_kind asks kind then piece_if (at_kind names kind) (output_bytes kind m) else []

abbrev pub console_pieces : List OutKind → PerKind (List ℕ) → PerKind Bool → Machine → List Output
console_pieces kinds names asks m = flat_map (kind_piece names asks m) kinds

-- those of each console; there are as many of the one as of the other
unfoldable pub cut_pieces : List OutKind → List (PerKind (List ℕ)) → List (PerKind Bool) → List Machine → List Output
cut_pieces kinds [] asks machines = []
cut_pieces kinds (name ∷ names) [] machines = []
cut_pieces kinds (name ∷ names) (ask ∷ asks) [] = []
cut_pieces kinds (name ∷ names) (ask ∷ asks) (m ∷ machines) =
    console_pieces kinds name ask m ++ cut_pieces kinds names asks machines

-- those of the segments that are left, of which there are at most so many
unfoldable pub segment_pieces : ℕ → List (PerKind (List ℕ)) → Consoles → List Output
segment_pieces zero names s = []
segment_pieces (suc most) names s =
    if is_over s then []
    else cut_pieces growing_kinds names s.asks (segment_cut (advanced s)).consoles
    ++ segment_pieces most names (advanced s)

-- a run has at most so many segments behind its first
abbrev pub later_segments : Consoles → ℕ
later_segments s = s.until / segment_cycles

-- those of the segment that was run last, and of those that are left
abbrev pub left_pieces : List (PerKind (List ℕ)) → Consoles → List Output
left_pieces names s =
    cut_pieces growing_kinds names s.asks (segment_cut s).consoles ++ segment_pieces (later_segments s) names s

abbrev pub run_pieces : List (PerKind (List ℕ)) → Consoles → List Output
run_pieces names s =
    segment_pieces (suc (later_segments s)) names s ++ cut_pieces lasting_kinds names s.asks (whole_cut s).consoles
