-- One live signal more.
use Rattle.std.proofs.Common.{◌≡◌, ◌<◌, ◌≤◌, ℕ, true, false, nat_lt, List, [], ◌∷◌, ◌++◌, length, take, refl, ap, sym, ◌∙◌, arith}
use Rattle.std.specs.Prelude.{map}
use Rattle.std.proofs.lemmas.Bool.Decides.{nat_tests}
use Rattle.std.proofs.lemmas.List.{length-append, length-map, length-take, map-append, take-append-le, take_all}
use Rattle.link_node.specs.declared.signal.Signal.{Signal}
use Rattle.link_order.specs.declared.sent.Sent.{Sent}
use Rattle.gba_filling.specs.Signals.{AreSignals, LiveSignals, most_signals, sent_of}

pub none-sent : AreSignals [] (record { sent = []; more = false })
none-sent = record { sent = refl; more = refl }

-- the first ones, up to a number of them
front-few : (most : ℕ) (front all : List Sent) → front ≡ take most all → length front < most → length all < most
front-few most front all e few = omega (arith, ap length e, length-take most all)

front-full : (most : ℕ) (front all : List Sent) → front ≡ take most all → most ≤ length front → most ≤ length all
front-full most front all e full = omega (arith, ap length e, length-take most all)

-- one more, where there is room
room-more : (most : ℕ) (front all : List Sent) (one : Sent) → front ≡ take most all → length front < most
    → front ++ one ∷ [] ≡ take most (all ++ one ∷ [])
room-more most front all one e few =
    let short : length all < most = front-few most front all e few in
    let longer : length (all ++ one ∷ []) ≤ most = omega (arith, length-append all (one ∷ [])) in
    ap (λ (xs : List Sent). xs ++ one ∷ []) (e ∙ take_all most all (omega arith))
    ∙ sym (take_all most (all ++ one ∷ []) longer)

-- there is room for it
pub one-more : (all : List (ℕ × Signal)) (one : ℕ × Signal) (s : LiveSignals) (sent : List Sent)
    → length s.sent < most_signals
    → sent ≡ s.sent ++ sent_of one ∷ [] → AreSignals all s
    → AreSignals (all ++ one ∷ []) (record { sent = sent; more = s.more })
one-more all one s sent room next h =
    let few : length (map sent_of all) < most_signals = front-few most_signals s.sent (map sent_of all) h.sent room in
    let short : length all < most_signals = omega (arith, length-map all sent_of) in
    let longer : length (all ++ one ∷ []) ≤ most_signals = omega (arith, length-append all (one ∷ [])) in
    let none : nat_lt most_signals (length all) ≡ false = grind (arith, nat_tests) in
    let none_yet : nat_lt most_signals (length (all ++ one ∷ [])) ≡ false = grind (arith, nat_tests) in
    record {
      sent = next ∙ room-more most_signals s.sent (map sent_of all) (sent_of one) h.sent room
          ∙ ap (take most_signals) (sym (map-append sent_of all (one ∷ [])));
      more = h.more ∙ none ∙ sym none_yet;
    }

-- there isn't
pub too-many : (all : List (ℕ × Signal)) (one : ℕ × Signal) (s : LiveSignals) → most_signals ≤ length s.sent
    → AreSignals all s → AreSignals (all ++ one ∷ []) (record { sent = s.sent; more = true })
too-many all one s full h =
    let enough : most_signals ≤ length (map sent_of all) =
    front-full most_signals s.sent (map sent_of all) h.sent full in
    let many : most_signals < length (all ++ one ∷ []) =
    omega (arith, length-map all sent_of, length-append all (one ∷ [])) in
    let yes : nat_lt most_signals (length (all ++ one ∷ [])) ≡ true = grind (arith, nat_tests) in
    record {
      sent = h.sent ∙ sym (take-append-le most_signals (map sent_of all) (sent_of one ∷ []) enough)
          ∙ ap (take most_signals) (sym (map-append sent_of all (one ∷ [])));
      more = sym yes;
    }
