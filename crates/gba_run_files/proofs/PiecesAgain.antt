-- The pieces of a run under another OUT.
use Rattle.std.proofs.Common.{if◌then◌else◌, ◌≡◌, ℕ, zero, suc, ◌+◌, ◌∙◌, Bool, true, false, List, [], ◌∷◌, ◌++◌, map, refl, ap, sym}
use Rattle.std.proofs.lemmas.List.{map-append}
use Rattle.gba_command.specs.Writing.{Output}
use Rattle.gba_console.specs.Machine.{Machine}
use Rattle.gba_joblog.specs.Clash.{output_file}
use Rattle.gba_joblog.specs.Job.{WholeJob}
use Rattle.gba_joblog.specs.Outputs.{at_kind}
use Rattle.gba_joblog.specs.declared.outputs.OutKind.{OutKind}
use Rattle.gba_joblog.specs.declared.outputs.PerKind.{PerKind}
use Rattle.gba_joblog.proofs.EachKind.{at-per_kind}
use Rattle.gba_session.specs.Files.{output_bytes}
use Rattle.gba_session.specs.Session.{Consoles, advanced, is_over, segment_cut, whole_cut}
use Rattle.gba_run_files.specs.Law.{under}
use Rattle.gba_run_files.specs.Names.{names_from, names_of, run_names}
use Rattle.gba_run_files.specs.Pieces.{console_pieces, cut_pieces, growing_kinds, kind_piece, lasting_kinds, later_segments, piece_if, run_pieces, segment_pieces}
use Rattle.gba_run_files.specs.Written.{log_of, log_output, written}

piece-under : (out name bytes : List ℕ) → piece_if (out ++ name) bytes ≡ map (under out) (piece_if name bytes)
piece-under out name [] = refl
piece-under out name (byte ∷ bytes) = refl

asked-under : (out name bytes : List ℕ) (asked : Bool)
    → (if asked then piece_if (out ++ name) bytes else []) ≡ map (under out) (if asked then piece_if name bytes else [])
asked-under out name bytes true = piece-under out name bytes
asked-under out name bytes false = refl

kind-under : (out : List ℕ) (player : ℕ) (asks : PerKind Bool) (m : Machine) (kind : OutKind)
    → kind_piece (names_of out player) asks m kind ≡ map (under out) (kind_piece (names_of [] player) asks m kind)
kind-under out player asks m kind =
    rw (at-per_kind (output_file out player) kind, at-per_kind (output_file [] player) kind)
    (asked-under out (output_file [] player kind) (output_bytes kind m) (at_kind asks kind))

console-under : (out : List ℕ) (player : ℕ) (asks : PerKind Bool) (m : Machine) (kinds : List OutKind)
    → console_pieces kinds (names_of out player) asks m
    ≡ map (under out) (console_pieces kinds (names_of [] player) asks m)
console-under out player asks m [] = refl
console-under out player asks m (kind ∷ kinds) =
    ap (λ pieces. pieces ++ console_pieces kinds (names_of out player) asks m) (kind-under out player asks m kind)
    ∙ ap (λ pieces. map (under out) (kind_piece (names_of [] player) asks m kind) ++ pieces)
    (console-under out player asks m kinds)
    ∙ sym (map-append (under out) (kind_piece (names_of [] player) asks m kind)
    (console_pieces kinds (names_of [] player) asks m))

cut-under : (out : List ℕ) (kinds : List OutKind) (player count : ℕ) (asks : List (PerKind Bool)) (ms : List Machine)
    → cut_pieces kinds (names_from out player count) asks ms
    ≡ map (under out) (cut_pieces kinds (names_from [] player count) asks ms)
unfolding cut_pieces names_from
cut-under out kinds player zero asks ms = refl
cut-under out kinds player (suc count) [] ms = refl
cut-under out kinds player (suc count) (a ∷ asks) [] = refl
cut-under out kinds player (suc count) (a ∷ asks) (m ∷ ms) =
    ap (λ pieces. pieces ++ cut_pieces kinds (names_from out (player + 1) count) asks ms)
    (console-under out player a m kinds)
    ∙ ap (λ pieces. map (under out) (console_pieces kinds (names_of [] player) a m) ++ pieces)
    (cut-under out kinds (player + 1) count asks ms)
    ∙ sym (map-append (under out) (console_pieces kinds (names_of [] player) a m)
    (cut_pieces kinds (names_from [] (player + 1) count) asks ms))

segments-under : (out : List ℕ) (most count : ℕ) (s : Consoles)
    → segment_pieces most (names_from out 0 count) s ≡ map (under out) (segment_pieces most (names_from [] 0 count) s)
unfolding segment_pieces
segments-under out zero count s = refl
segments-under out (suc most) count s = by (is_over s) refl (segments-under out most count (advanced s)) where
  by : (t : Bool) → is_over s ≡ t
      → segment_pieces most (names_from out 0 count) (advanced s)
      ≡ map (under out) (segment_pieces most (names_from [] 0 count) (advanced s))
      → segment_pieces (suc most) (names_from out 0 count) s
      ≡ map (under out) (segment_pieces (suc most) (names_from [] 0 count) s)
  by true is rest = rw is refl
  by false is rest =
      let here = cut_pieces growing_kinds (names_from [] 0 count) s.asks (segment_cut (advanced s)).consoles in
      rw is (ap (λ pieces. pieces ++ segment_pieces most (names_from out 0 count) (advanced s))
      (cut-under out growing_kinds 0 count s.asks (segment_cut (advanced s)).consoles)
      ∙ ap (λ pieces. map (under out) here ++ pieces) rest
      ∙ sym (map-append (under out) here (segment_pieces most (names_from [] 0 count) (advanced s))))

-- the names of a run's pieces go by OUT as those of its files do
pub pieces-under : (out : List ℕ) (count : ℕ) (s : Consoles)
    → run_pieces (names_from out 0 count) s ≡ map (under out) (run_pieces (names_from [] 0 count) s)
pieces-under out count s =
    let most = suc (later_segments s) in
    let last = (whole_cut s).consoles in
    ap (λ pieces. pieces ++ cut_pieces lasting_kinds (names_from out 0 count) s.asks last)
    (segments-under out most count s)
    ∙ ap (λ pieces. map (under out) (segment_pieces most (names_from [] 0 count) s) ++ pieces)
    (cut-under out lasting_kinds 0 count s.asks last)
    ∙ sym (map-append (under out) (segment_pieces most (names_from [] 0 count) s)
    (cut_pieces lasting_kinds (names_from [] 0 count) s.asks last))

pub written-pieces : (out : List ℕ) (count : ℕ) (job : WholeJob) (files : List (PerKind (List ℕ))) (lines : List ℕ)
    (s : Consoles) → (written (run_names out count) job files lines (run_pieces (names_from out 0 count) s)).pieces
    ≡ map (under out) (written (run_names [] count) job files lines (run_pieces (names_from [] 0 count) s)).pieces
written-pieces out count job files lines s =
    let log : Output = log_output (run_names [] count) (log_of job files) in
    ap (λ pieces. pieces ++ under out log ∷ []) (pieces-under out count s)
    ∙ sym (map-append (under out) (run_pieces (names_from [] 0 count) s) (log ∷ []))
