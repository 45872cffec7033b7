use Rattle.std.proofs.Common.{ℕ, ◌≡◌, arith, ap, inl, inr}
use Rattle.std.specs.Prelude.{map, slice_index}
use Rattle.link_node.specs.Delays.{hop_of}
use Rattle.link_order.proofs.Numbers.{same_or_apart}
use Rattle.link_core.proofs.burst.horizon_of.Goals as goal
use Rattle.link_core.proofs.burst.horizon_of.Goals.{then-j-i, else-j-i}

pub loop-j-preserved : goal.loop-j-preserved
loop-j-preserved g c =
    elim c.if-j-i.branch [
      | then-j-i w ↦
          let clock : ℕ → ℕ = slice_index (map g.N.Node.clock (map g.N.Node.plain c.args.nodes.now)) in
          let own : w.clock_of.result ≡ clock c.loop-j.j = w.clock_of.ensures.value in
          let end_is = w.end-is in
          record {
            most = omega (arith, c.loop-j.invariant.most);
            ahead = λ j below apart.
                elim (same_or_apart j c.loop-j.j) [
                  | inl same ↦
                      let e : clock j ≡ clock c.loop-j.j = ap clock same in
                      let f : hop_of c.args.delays.now j c.args.i ≡ hop_of c.args.delays.now c.loop-j.j c.args.i
                      = ap (λ k. hop_of c.args.delays.now k c.args.i) same in
                      omega (arith, own, e, f)
                  | inr other ↦ omega (arith, c.loop-j.invariant.ahead j (omega arith) apart)
                ];
            far = λ at early peers.
                let h = c.loop-j.invariant.far at early peers in
                let q = peers c.loop-j.j c.loop-j-test.true w.if-j-i.true in
                omega (arith, own, h, q);
          }
      | else-j-i w ↦ record {
        most = omega (arith, c.loop-j.invariant.most);
        ahead = λ j below apart.
            elim (same_or_apart j c.loop-j.j) [
              | inl same ↦ absurd (apart (omega arith))
              | inr other ↦ omega (arith, c.loop-j.invariant.ahead j (omega arith) apart)
            ];
        far = λ at early peers. omega (arith, c.loop-j.invariant.far at early peers);
      }
    ]
