-- Names of outputs, and the bytes that pieces of these names add.
use Rattle.std.proofs.Common.{◌≡◌, ◌≢◌, ℕ, zero, suc, ◌+◌, ◌<◌, ◌≤◌, ◌∙◌, Bool, true, false, ◌||◌, List, [], ◌∷◌, ◌++◌, length, get_or, refl, sym, ap, arith, append_assoc}
use Rattle.std.specs.Prelude.{codes, decimal, if◌then◌else◌}
use Rattle.std.specs.Str.{bytes_eq}
use Rattle.std.proofs.lemmas.Fmt.{decimal_digit}
use Rattle.std.proofs.lemmas.Grind.{flat_map-append}
use Rattle.std.proofs.lemmas.List.{append-nil, append_cancel_left, length-append}
use Rattle.gba_command.proofs.LeftFiles.{names-apart, other-name, own-name}
use Rattle.gba_command.specs.LeftFiles.{added}
use Rattle.gba_command.specs.Writing.{Output}
use Rattle.gba_console.specs.Machine.{Machine}
use Rattle.gba_joblog.specs.Clash.{log_file, output_file}
use Rattle.gba_joblog.specs.Outputs.{at_kind, out_name}
use Rattle.gba_joblog.specs.declared.outputs.OutKind.{OutKind}
use Rattle.gba_joblog.specs.declared.outputs.OutKind.TheVariants.{Frames, Samples, Words, State, Save}
use Rattle.gba_joblog.specs.declared.outputs.PerKind.{PerKind}
use Rattle.gba_joblog.proofs.EachKind.{at-per_kind}
use Rattle.gba_session.specs.Files.{bytes_if, output_bytes}
use Rattle.gba_run_files.specs.Frozen.{frozen_name}
use Rattle.gba_run_files.specs.Names.{names_from, names_of}
use Rattle.gba_run_files.specs.Pieces.{console_pieces, cut_pieces, kind_piece, piece_if}

-- ---- names

-- whether a kind is one of these
unfoldable pub is_one_of : OutKind → List OutKind → Bool
is_one_of kind [] = false
is_one_of kind (other ∷ kinds) = bytes_eq (out_name other) (out_name kind) || is_one_of kind kinds

-- the name of a player's output tells both
number-told : (a b : ℕ) (x y : List ℕ) → a < 10 → b < 10
    → decimal a ++ (codes "." ++ x) ≡ decimal b ++ (codes "." ++ y) → (a ≡ b) × (x ≡ y)
number-told a b x y few less same =
    let told : (48 + a) ∷ (46 ∷ x) ≡ (48 + b) ∷ (46 ∷ y) =
    ap (λ (digits : List ℕ). digits ++ (codes "." ++ x)) (sym (decimal_digit a (omega (arith, few)))) ∙ same
    ∙ ap (λ (digits : List ℕ). digits ++ (codes "." ++ y)) (decimal_digit b (omega (arith, less))) in
    let first : 48 + a ≡ 48 + b = cc in
    let rest : x ≡ y = cc in
    (omega (arith, first), rest)

pub name-told : (out : List ℕ) (a b : ℕ) (x y : OutKind) → a < 10 → b < 10 → output_file out a x ≡ output_file out b y
    → (a ≡ b) × (out_name x ≡ out_name y)
name-told out a b x y few less same =
    let tail : codes "." ++ (decimal a ++ (codes "." ++ out_name x))
    ≡ codes "." ++ (decimal b ++ (codes "." ++ out_name y)) =
    append_cancel_left out _ _ same in
    number-told a b (out_name x) (out_name y) few less (append_cancel_left (codes ".") _ _ tail)

kind-letters : (kind : OutKind) → 4 ≤ length (out_name kind)
kind-letters Frames = omega arith
kind-letters Samples = omega arith
kind-letters Words = omega arith
kind-letters State = omega arith
kind-letters Save = omega arith

-- the log is no output
pub log-apart : (out : List ℕ) (player : ℕ) (kind : OutKind) → player < 10 → output_file out player kind ≢ log_file out
log-apart out player kind few same =
    let tail : codes "." ++ (decimal player ++ (codes "." ++ out_name kind)) ≡ codes ".log" =
    append_cancel_left out _ _ same in
    let digit : length (decimal player) ≡ 1 = ap length (decimal_digit player (omega (arith, few))) in
    let whole = length-append (decimal player) (codes "." ++ out_name kind) in
    let long : length (codes "." ++ (decimal player ++ (codes "." ++ out_name kind))) ≡ length (codes ".log") =
    ap length tail in
    absurd (omega (arith, digit, whole, long, kind-letters kind))

-- nor is the frozen file: its name has a letter where that of an output has its player
pub frozen-apart : (out : List ℕ) (player : ℕ) (kind : OutKind) → player < 10
    → output_file out player kind ≢ frozen_name out
frozen-apart out player kind few same =
    let tail : codes "." ++ (decimal player ++ (codes "." ++ out_name kind)) ≡ codes "." ++ codes "frozen" =
    append_cancel_left out _ _ same in
    let rest : (48 + player) ∷ (46 ∷ out_name kind) ≡ 102 ∷ codes "rozen" =
    ap (λ (digits : List ℕ). digits ++ (codes "." ++ out_name kind)) (sym (decimal_digit player (omega (arith, few))))
    ∙ append_cancel_left (codes ".") _ (codes "frozen") tail in
    let first : 48 + player ≡ 102 = cc in
    absurd (omega (arith, first, few))

-- ---- what pieces add

pub added-append : (name : List ℕ) (a b : List Output) → added name (a ++ b) ≡ added name a ++ added name b
unfolding added
added-append name [] b = refl
added-append name (piece ∷ a) b =
    let here : List ℕ = if bytes_eq piece.name name then piece.bytes else [] in
    ap (λ (bytes : List ℕ). here ++ bytes) (added-append name a b)
    ∙ sym (append_assoc here (added name a) (added name b))

piece-own : (name bytes : List ℕ) → added name (piece_if name bytes) ≡ bytes
unfolding added
piece-own name [] = refl
piece-own name (byte ∷ bytes) = rw (own-name name) (append-nil (byte ∷ bytes))

piece-other : (name other bytes : List ℕ) → other ≢ name → added name (piece_if other bytes) ≡ []
unfolding added
piece-other name other [] apart = refl
piece-other name other (byte ∷ bytes) apart = rw (names-apart other name apart) refl

asked-own : (name bytes : List ℕ) (asked : Bool)
    → added name (if asked then piece_if name bytes else []) ≡ (if asked then bytes else [])
unfolding added
asked-own name bytes true = piece-own name bytes
asked-own name bytes false = refl

asked-other : (name other bytes : List ℕ) (asked : Bool) → other ≢ name
    → added name (if asked then piece_if other bytes else []) ≡ []
unfolding added
asked-other name other bytes true apart = piece-other name other bytes apart
asked-other name other bytes false apart = refl

none-added : (name : List ℕ) → added name [] ≡ []
unfolding added
none-added name = refl

module _ (out : List ℕ) where
  kind-own : (player : ℕ) (asks : PerKind Bool) (m : Machine) (kind : OutKind)
      → added (output_file out player kind) (kind_piece (names_of out player) asks m kind) ≡ bytes_if asks m kind
  kind-own player asks m kind =
      rw (at-per_kind (output_file out player) kind)
      (asked-own (output_file out player kind) (output_bytes kind m) (at_kind asks kind))

  kind-other : (name : List ℕ) (player : ℕ) (asks : PerKind Bool) (m : Machine) (kind : OutKind)
      → output_file out player kind ≢ name → added name (kind_piece (names_of out player) asks m kind) ≡ []
  kind-other name player asks m kind apart =
      rw (at-per_kind (output_file out player) kind)
      (asked-other name (output_file out player kind) (output_bytes kind m) (at_kind asks kind) apart)

  -- a console that makes nothing of this name
  pub console-other : (name : List ℕ) (player : ℕ) (asks : PerKind Bool) (m : Machine) (kinds : List OutKind)
      → ((kind : OutKind) → output_file out player kind ≢ name)
      → added name (console_pieces kinds (names_of out player) asks m) ≡ []
  console-other name player asks m [] apart = none-added name
  console-other name player asks m (kind ∷ kinds) apart =
      added-append name (kind_piece (names_of out player) asks m kind)
      (console_pieces kinds (names_of out player) asks m)
      ∙ ap (λ (bytes : List ℕ). bytes ++ added name (console_pieces kinds (names_of out player) asks m))
      (kind-other name player asks m kind (apart kind))
      ∙ console-other name player asks m kinds apart

  module _ (player : ℕ) (asks : PerKind Bool) (m : Machine) (kind : OutKind) (few : player < 10) where
    abbrev name : List ℕ
    name = output_file out player kind

    abbrev of_kinds : List OutKind → List Output
    of_kinds kinds = console_pieces kinds (names_of out player) asks m

    split-or : (a b : Bool) → (a || b) ≡ false → (a ≡ false) × (b ≡ false)
    split-or true b h = absurd cc
    split-or false b h = (refl, h)

    -- kinds of which this is none
    pub kinds-none : (kinds : List OutKind) → is_one_of kind kinds ≡ false → added name (of_kinds kinds) ≡ []
    unfolding is_one_of
    kinds-none [] none = none-added name
    kinds-none (other ∷ kinds) none =
        let parts = split-or (bytes_eq (out_name other) (out_name kind)) (is_one_of kind kinds) none in
        let apart : output_file out player other ≢ name =
        λ same. other-name (out_name other) (out_name kind) parts.0
        (name-told out player player other kind few few same).1 in
        added-append name (kind_piece (names_of out player) asks m other) (of_kinds kinds)
        ∙ ap (λ (bytes : List ℕ). bytes ++ added name (of_kinds kinds)) (kind-other name player asks m other apart)
        ∙ kinds-none kinds parts.1

    -- kinds of which it is one, once
    pub kinds-once : (before after : List OutKind) → is_one_of kind before ≡ false → is_one_of kind after ≡ false
        → added name (of_kinds (before ++ kind ∷ after)) ≡ bytes_if asks m kind
    kinds-once before after none rest =
        ap (added name) (flat_map-append (kind_piece (names_of out player) asks m) before (kind ∷ after))
        ∙ added-append name (of_kinds before) (of_kinds (kind ∷ after))
        ∙ ap (λ (bytes : List ℕ). bytes ++ added name (of_kinds (kind ∷ after))) (kinds-none before none)
        ∙ added-append name (kind_piece (names_of out player) asks m kind) (of_kinds after)
        ∙ ap (λ (bytes : List ℕ). bytes ++ added name (of_kinds after)) (kind-own player asks m kind)
        ∙ ap (λ (bytes : List ℕ). bytes_if asks m kind ++ bytes) (kinds-none after rest)
        ∙ append-nil (bytes_if asks m kind)

  -- consoles that make nothing of this name
  pub cut-other : (name : List ℕ) (kinds : List OutKind) (player count : ℕ) (asks : List (PerKind Bool))
      (ms : List Machine) → ((k : ℕ) (kind : OutKind) → player ≤ k → k < player + count → output_file out k kind ≢ name)
      → added name (cut_pieces kinds (names_from out player count) asks ms) ≡ []
  unfolding cut_pieces names_from
  cut-other name kinds player zero asks ms apart = none-added name
  cut-other name kinds player (suc count) [] ms apart = none-added name
  cut-other name kinds player (suc count) (a ∷ asks) [] apart = none-added name
  cut-other name kinds player (suc count) (a ∷ asks) (m ∷ ms) apart =
      added-append name (console_pieces kinds (names_of out player) a m)
      (cut_pieces kinds (names_from out (player + 1) count) asks ms)
      ∙ ap (λ (bytes : List ℕ). bytes ++ added name (cut_pieces kinds (names_from out (player + 1) count) asks ms))
      (console-other name player a m kinds (λ kind. apart player kind (omega arith) (omega arith)))
      ∙ cut-other name kinds (player + 1) count asks ms
      (λ k kind past within. apart k kind (omega (arith, past)) (omega (arith, within)))

  -- of one player's name its own console alone makes something
  pub cut-own : (kind : OutKind) (kinds : List OutKind) (player count j k : ℕ) (asks : List (PerKind Bool))
      (ms : List Machine) (a : PerKind Bool) (m : Machine) → k ≡ player + j → j < count → player + count ≤ 10
      → j < length asks → j < length ms
      → added (output_file out k kind) (cut_pieces kinds (names_from out player count) asks ms)
      ≡ added (output_file out k kind) (console_pieces kinds (names_of out k) (get_or asks j a) (get_or ms j m))
  unfolding cut_pieces names_from
  cut-own kind kinds player zero j k asks ms a m is less few x y = absurd (omega (arith, less))
  cut-own kind kinds player (suc count) j k [] ms a m is less few x y = absurd (omega (arith, x))
  cut-own kind kinds player (suc count) j k (b ∷ asks) [] a m is less few x y = absurd (omega (arith, y))
  cut-own kind kinds player (suc count) zero k (b ∷ asks) (n ∷ ms) a m is less few x y =
      let name = output_file out k kind in
      let here : player ≡ k = omega (arith, is) in
      added-append name (console_pieces kinds (names_of out player) b n)
      (cut_pieces kinds (names_from out (player + 1) count) asks ms)
      ∙ ap (λ (bytes : List ℕ). added name (console_pieces kinds (names_of out player) b n) ++ bytes)
      (cut-other name kinds (player + 1) count asks ms (λ other one past within same.
      let told = (name-told out other k one kind (omega (arith, within, few)) (omega (arith, is, few)) same).0 in
      absurd (omega (arith, told, past, is))))
      ∙ append-nil (added name (console_pieces kinds (names_of out player) b n))
      ∙ ap (λ (p : ℕ). added name (console_pieces kinds (names_of out p) b n)) here
  cut-own kind kinds player (suc count) (suc j) k (b ∷ asks) (n ∷ ms) a m is less few x y =
      let name = output_file out k kind in
      added-append name (console_pieces kinds (names_of out player) b n)
      (cut_pieces kinds (names_from out (player + 1) count) asks ms)
      ∙ ap (λ (bytes : List ℕ). bytes ++ added name (cut_pieces kinds (names_from out (player + 1) count) asks ms))
      (console-other name player b n kinds (λ one same.
      let told = (name-told out player k one kind (omega (arith, few)) (omega (arith, is, less, few)) same).0 in
      absurd (omega (arith, told, is))))
      ∙ cut-own kind kinds (player + 1) count j k asks ms a m (omega (arith, is)) (omega (arith, less))
      (omega (arith, few)) (omega (arith, x)) (omega (arith, y))
