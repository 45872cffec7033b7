-- What a session gives of a player's outputs.
use Rattle.std.proofs.Common.{◌≡◌, ◌<◌, ◌≤◌, ◌∙◌, ℕ, Bool, true, false, not, nat_lt, List, length, get_or, map, Some, option_map, sym, ap, subst, arith}
use Rattle.std.specs.List.{flat_map}
use Rattle.std.specs.Prelude.{slice_get}
use Rattle.std.proofs.lemmas.List.{length-map}
use Rattle.std.proofs.lemmas.Option.{get_or_from_slice_get, slice_get-get_or, slice_get-map}
use Rattle.gba_console.specs.Machine.{Machine, forgotten, without_limit}
use Rattle.gba_console.specs.Segments.{LiveSegments}
use Rattle.gba_joblog.specs.Outputs.{at_kind}
use Rattle.gba_joblog.specs.declared.outputs.OutKind.{OutKind}
use Rattle.gba_joblog.specs.declared.outputs.OutKind.TheVariants.{Words, State, Save}
use Rattle.gba_joblog.specs.declared.outputs.PerKind.{PerKind}
use Rattle.gba_output.specs.StateFile.{summary_line}
use Rattle.gba_session.proofs.Advancing.{segment-many, until-many, whole-joined}
use Rattle.gba_session.proofs.Joining.{joined-forgotten, joined-lines}
use Rattle.gba_session.specs.Files.{grows, output_bytes}
use Rattle.gba_session.specs.Held.{HasPieces, IsSegmented, asks_in}
use Rattle.gba_session.specs.Session.{Consoles, is_over, segment_cut, whole_cut}
use Rattle.gba_session.specs.Start.{run_until}
use Rattle.gba_session.specs.declared.player.Player.{Player}
use Rattle.link_order.specs.Cut.{Cut}

-- once the run is over its end is that of the job
pub over-at : (to until : ℕ) → to ≤ until → not (nat_lt to until) ≡ true → to ≡ until
over-at to until within over = grind (arith, within, over)

module _ (v : Consoles) (cut : Cut Machine) (players : List Player) (held : IsSegmented v cut players)
    (asks : map asks_in players ≡ v.asks) where
  pub asks-many : length players ≡ length v.asks
  asks-many = sym (length-map players asks_in) ∙ ap length asks

  pub start-many : length v.start.consoles ≡ length v.asks
  start-many =
      sym (segment-many v) ∙ sym (ap (λ (c : Cut Machine). length c.consoles) held.is)
      ∙ length-map cut.consoles without_limit ∙ sym held.many ∙ asks-many

  pub whole-many : length (whole_cut v).consoles ≡ length v.asks
  whole-many = until-many v.until v.start ∙ start-many

  pub ends : is_over v ≡ true → run_until v.to v.start ≡ whole_cut v
  ends over = ap (λ (n : ℕ). run_until n v.start) (over-at v.to v.until held.within over)

  pub whole-lines : LiveSegments → is_over v ≡ true
      → flat_map summary_line (map without_limit cut.consoles) ≡ flat_map summary_line (whole_cut v).consoles
  whole-lines law over =
      ap (λ (c : Cut Machine). flat_map summary_line c.consoles) held.is
      ∙ sym (joined-lines (run_until v.from v.start) (segment_cut v))
      ∙ ap (λ (c : Cut Machine). flat_map summary_line c.consoles)
      (sym (whole-joined law v held.start held.begun) ∙ ends over)

  pub ends-forgotten : LiveSegments → is_over v ≡ true
      → map forgotten (segment_cut v).consoles ≡ map forgotten (whole_cut v).consoles
  ends-forgotten law over =
      sym (ap (λ (c : Cut Machine). c.consoles) (joined-forgotten (run_until v.from v.start) (segment_cut v)))
      ∙ ap (λ (c : Cut Machine). map forgotten c.consoles)
      (sym (whole-joined law v held.start held.begun) ∙ ends over)

  pub ends-sent : LiveSegments → is_over v ≡ true → (segment_cut v).sent ≡ (whole_cut v).sent
  ends-sent law over =
      ap (λ (c : Cut Machine). c.sent) (sym (whole-joined law v held.start held.begun) ∙ ends over)

  module _ (k : ℕ) (p : Player) (within : k < length v.asks) (here : p ≡ get_or players k p) where
    there : k < length players
    there = omega (arith, within, asks-many)

    asked-at : (kind : OutKind) → ((one : PerKind Bool) → slice_get v.asks k ≡ Some one → at_kind one kind ≡ true)
        → at_kind p.asks kind ≡ true
    asked-at kind asked =
        asked p.asks
        (ap (λ (all : List (PerKind Bool)). slice_get all k) (sym asks) ∙ slice_get-map asks_in players k
        ∙ ap (option_map asks_in) (slice_get-get_or players k p there)
        ∙ ap (λ (one : Player). Some one.asks) (sym here))

    pieces-at : (m : Machine) → slice_get (segment_cut v).consoles k ≡ Some m → HasPieces (is_over v) p m
    pieces-at m is =
        subst (HasPieces (is_over v) p) (get_or_from_slice_get (segment_cut v).consoles k m m is)
        (subst (λ (one : Player). HasPieces (is_over v) one (get_or (segment_cut v).consoles k m)) (sym here)
        (held.pieces k p m there))

    -- what is asked for of a kind is given
    module _ (kind : OutKind) (asked : (one : PerKind Bool) → slice_get v.asks k ≡ Some one → at_kind one kind ≡ true)
        (m : Machine) where
      asked-for : (named : OutKind) → kind ≡ named → at_kind p.asks named ≡ true
      asked-for named is = subst (λ (x : OutKind). at_kind p.asks x ≡ true) is (asked-at kind asked)

      module _ (bytes : List ℕ) (there_is : slice_get (segment_cut v).consoles k ≡ Some m) where
        pub gives-words : kind ≡ Words → bytes ≡ p.words.items → bytes ≡ output_bytes kind m
        gives-words is same =
            same ∙ (pieces-at m there_is).words (asked-for Words is) ∙ ap (λ (x : OutKind). output_bytes x m) (sym is)

        pub gives-state : (grows kind ≡ false → is_over v ≡ true) → kind ≡ State → bytes ≡ p.state.items
            → bytes ≡ output_bytes kind m
        gives-state over is same =
            same ∙ (pieces-at m there_is).state (over (ap grows is)) (asked-for State is)
            ∙ ap (λ (x : OutKind). output_bytes x m) (sym is)

        pub gives-save : (grows kind ≡ false → is_over v ≡ true) → kind ≡ Save → bytes ≡ p.save.items
            → bytes ≡ output_bytes kind m
        gives-save over is same =
            same ∙ (pieces-at m there_is).save (over (ap grows is)) (asked-for Save is)
            ∙ ap (λ (x : OutKind). output_bytes x m) (sym is)
