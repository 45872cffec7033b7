use Rattle.std.specs.Prelude.{List, [], ◌∷◌, length, take, drop, All, AllPairs}
use Rattle.std.proofs.Common.{◌≡◌, ◌-◌, ◌≤◌, arith, ap, ◌∙◌, subst, get_or}
use Rattle.std.proofs.Math.Seq.{take-length}
use Rattle.link_node.specs.declared.signal.Incoming.{Incoming}
use Rattle.link_node.specs.Due.{Precedes}
use Rattle.link_order.proofs.Lists.{pairs_cons}
use Rattle.link_trials.proofs.checks.+is_in_order.Goals as goal

-- a list is in order where its rest is, and its first element stands before all of the rest
ordered_from : (R : Incoming → Incoming → Type 0) (xs : List Incoming) (d : Incoming) → 1 ≤ length xs
    → All (R (get_or xs 0 d)) (take (length xs - 1) (drop 1 xs)) → AllPairs R (take (length xs - 1) (drop 1 xs))
    → AllPairs R xs
ordered_from R [] d low here rest = absurd (omega arith)
ordered_from R (x ∷ xs) d low here rest =
    let few : length (x ∷ xs) - 1 ≡ length xs = omega arith in
    let whole : take (length (x ∷ xs) - 1) xs ≡ xs = ap (λ n. take n xs) few ∙ take-length xs in
    pairs_cons R x xs (subst (All (R x)) whole here) (subst (AllPairs R) whole rest)

pub returns-then-precedes_all : goal.returns-then-precedes_all
returns-then-precedes_all t c in_order =
    ordered_from Precedes c.args.due.now _ c.in-len1-up.len_at_least
    (c.precedes_all.ensures.0 (search (c.if-precedes_all.true))) (c.is_in_order.ensures in_order)
