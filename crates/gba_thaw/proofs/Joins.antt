-- The consoles that are thawed, with the signals on their way.
use Rattle.std.proofs.Common.{◌≡◌, ℕ, ◌&&◌, Bool, true, false, List, length, map, Some, None, refl, ap, sym, ◌∙◌, subst, arith}
use Rattle.std.specs.Prelude.{IsTrue, nat_le, nat_lt, ◌↔◌}
use Rattle.std.proofs.lemmas.Bool.Decides.{nat_tests}
use Rattle.std.proofs.lemmas.List.{length-map, take_all}
use Rattle.gba_console.specs.Alone.{console_kind}
use Rattle.gba_console.specs.Machine.{Machine, without_limit}
use Rattle.gba_filling.specs.Signals.{AreSignals, LiveSignals, most_signals, sent_of}
use Rattle.gba_thaw.proofs.Thawed.{no-console}
use Rattle.gba_thaw.specs.Cut.{can_run, cut_if, joined}
use Rattle.link_core.proofs.Wholeness.{tested-whole, whole-tested}
use Rattle.link_core.specs.Whole.{IsWhole, is_whole}
use Rattle.link_node.specs.declared.delays.Delays.{Delays}
use Rattle.link_node.specs.declared.signal.Signal.{Signal}
use Rattle.link_core.specs.Kept.{Flight, cut_of}
use Rattle.link_order.specs.Cut.{Cut, IsCable, plain_cut}
use Rattle.link_order.specs.declared.sent.Sent.{Sent}

-- the test of a whole cut is the one of the definition
whole-by : (told test : Bool) (cut : Cut Machine) → is_whole console_kind cut ≡ test
    → (IsTrue told ↔ IsWhole console_kind cut) → told ≡ test
unfolding is_whole
whole-by true true cut e h = refl
whole-by true false cut e h = sym (whole-tested console_kind cut (h.0 refl)) ∙ e
whole-by false true cut e h = let both : false ≡ true = h.1 (tested-whole console_kind cut e) in absurd cc
whole-by false false cut e h = refl

pub whole-told : (told : Bool) (cut : Cut Machine) → (IsTrue told ↔ IsWhole console_kind cut)
    → told ≡ is_whole console_kind cut
whole-told told cut h = whole-by told (is_whole console_kind cut) cut refl h

-- a test of two that one fails
first-fails : (a b : Bool) → a ≡ false → (a && b) ≡ false
first-fails a b e = rw e refl

second-fails : (a b : Bool) → b ≡ false → (a && b) ≡ false
second-fails true b e = e
second-fails false b e = refl

module _ (delays : Delays) (all : List (ℕ × Signal)) (s : LiveSignals) (are : AreSignals all s)
    (ms : List Machine) where
  abbrev sent : List Sent
  sent = map sent_of all

  abbrev enough-room : Bool
  enough-room = nat_le (length sent) most_signals

  abbrev whole : Bool
  whole = is_whole console_kind (plain_cut without_limit (joined delays sent ms))

  pub too-many : s.more ≡ true → cut_if delays sent (Some ms) ≡ None
  too-many more =
      let many : nat_lt most_signals (length all) ≡ true = sym are.more ∙ more in
      let test : nat_le (length sent) most_signals ≡ false = grind (arith, nat_tests, many, length-map all sent_of) in
      no-console (can_run (joined delays sent ms)) (joined delays sent ms) (first-fails enough-room whole test)

  few : s.more ≡ false → nat_le (length sent) most_signals ≡ true
  few none =
      let not-many : nat_lt most_signals (length all) ≡ false = sym are.more ∙ none in
      grind (arith, nat_tests, not-many, length-map all sent_of)

  sent-is : s.more ≡ false → s.sent ≡ sent
  sent-is none =
      let not-many : nat_lt most_signals (length all) ≡ false = sym are.more ∙ none in
      are.sent ∙ take_all most_signals sent (grind (arith, nat_tests, not-many, length-map all sent_of))

  pub not-whole : s.more ≡ false → is_whole console_kind (plain_cut without_limit (joined delays s.sent ms)) ≡ false
      → cut_if delays sent (Some ms) ≡ None
  not-whole none un =
      let here : is_whole console_kind (plain_cut without_limit (joined delays sent ms)) ≡ false =
      subst (λ (one : List Sent). is_whole console_kind (plain_cut without_limit (joined delays one ms)) ≡ false)
      (sent-is none) un in
      no-console (can_run (joined delays sent ms)) (joined delays sent ms) (second-fails enough-room whole here)

  pub all-pass : s.more ≡ false → is_whole console_kind (plain_cut without_limit (joined delays s.sent ms)) ≡ true
      → Some (joined delays s.sent ms) ≡ cut_if delays sent (Some ms)
  all-pass none is-whole =
      let e = sent-is none in
      let whole-here : is_whole console_kind (plain_cut without_limit (joined delays sent ms)) ≡ true =
      subst (λ (one : List Sent). is_whole console_kind (plain_cut without_limit (joined delays one ms)) ≡ true) e
      is-whole in
      let f = few none in
      ap (λ (one : List Sent). Some (joined delays one ms)) e ∙ sym (rw (f, whole-here) refl)

-- consoles in place of as many others are on a cable too
pub cable-kept : (ms ns : List Machine) (flight : Flight) → length ns ≡ length ms
    → IsCable (plain_cut without_limit (cut_of ms flight)) → IsCable (plain_cut without_limit (cut_of ns flight))
cable-kept ms ns flight same is =
    let one = length-map ms without_limit in
    let other = length-map ns without_limit in
    record {
      some_console = omega (arith, is.some_console, same, one, other);
      at_most_four = omega (arith, is.at_most_four, same, one, other);
      some_delay =
          λ i j a b apart. is.some_delay i j (omega (arith, a, same, one, other))
          (omega (arith, b, same, one, other)) apart;
      short_delay =
          λ i j a b apart. is.short_delay i j (omega (arith, a, same, one, other))
          (omega (arith, b, same, one, other)) apart;
    }
