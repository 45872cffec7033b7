-- No delay of a cable is longer than 1,024 cycles.
use Rattle.std.proofs.Common.{◌≡◌, ◌<◌, ◌≤◌, ℕ, Bool, true, false, nat_lt, arith, refl, if◌then◌else◌}
use Rattle.std.specs.Prelude.{◌&&◌, slice_index, slice_index_or, []}
use Rattle.std.proofs.lemmas.Bool.Decides.{nat_tests}
use Rattle.link_node.specs.declared.delays.Delays.{Delays}
use Rattle.link_node.specs.Delays.{AreDelays, hop_of}

within_if : (test : Bool) (most value : ℕ) → (test ≡ true → value ≤ most) → (if test then value else 0) ≤ most
within_if true most value small = small refl
within_if false most value small = omega arith

both : (a b : ℕ) → (nat_lt a 4 && nat_lt b 4) ≡ true → (a < 4) × (b < 4)
both a b = search (nat_tests, arith)

pub short_hop : (delays : Delays) (i j : ℕ) → AreDelays delays → hop_of delays i j ≤ 1024
unfolding hop_of
short_hop delays i j are =
    within_if (nat_lt i 4 && nat_lt j 4) 1024 (slice_index (slice_index_or delays.rows i []) j)
    (λ e. let p = both i j e in rw e at (are i j p.0 p.1).1)
