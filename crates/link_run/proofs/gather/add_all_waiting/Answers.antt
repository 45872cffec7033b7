use Rattle.std.proofs.Common.{ℕ, ◌≡◌, ◌+◌, arith, ◌∙◌, refl}
use Rattle.std.specs.Prelude.{List, map, Some, slice_get}
use Rattle.std.proofs.lemmas.List.{length-map}
use Rattle.link_node.specs.declared.signal.Incoming.{Incoming}
use Rattle.link_order.specs.declared.sent.Sent.{Sent}
use Rattle.link_run.specs.Adding.{IsWaiting, WaitsIn}
use Rattle.link_run.proofs.Addings.{WaitsInFirst, adding_more, adding_same, may_after}
use Rattle.link_run.proofs.Rests.{list_waits, lists_one, lists_all}
use Rattle.link_run.proofs.gather.add_all_waiting.Goals as goal

pub add_waiting-requires : goal.add_waiting-requires
add_waiting-requires c =
    let all : List (List Incoming) = map (λ list. list.items) c.args.waits.now in
    let n : ℕ = c.loop-list.list-index in
    let stands : slice_get all n ≡ Some c.as_slice.result.now
    = list_waits (λ list. list.items) c.args.waits.now n c.list-item.result c.as_slice.result.now c.loop-list-test.true
    c.list-item.is c.as_slice.ensures.value in
    let here : (one : Sent) → IsWaiting c.as_slice.result.now one → WaitsIn all one
    = λ one h. record { place = n; waits = c.as_slice.result.now; stands = stands; waiting = h } in
    may_after (WaitsIn all) (WaitsInFirst all n) (IsWaiting c.as_slice.result.now) c.args.shell.now.sent
    c.loop-list.shell.sent c.requires c.loop-list.invariant.adding here

pub loop-list-preserved : goal.loop-list-preserved
loop-list-preserved c =
    let all : List (List Incoming) = map (λ list. list.items) c.args.waits.now in
    let n : ℕ = c.loop-list.list-index in
    let stands : slice_get all n ≡ Some c.as_slice.result.now
    = list_waits (λ list. list.items) c.args.waits.now n c.list-item.result c.as_slice.result.now c.loop-list-test.true
    c.list-item.is c.as_slice.ensures.value in
    let here : (one : Sent) → IsWaiting c.as_slice.result.now one → WaitsIn all one
    = λ one h. record { place = n; waits = c.as_slice.result.now; stands = stands; waiting = h } in
    record {
      delays = c.add_waiting.ensures.delays ∙ c.loop-list.invariant.delays;
      adding =
          adding_more (WaitsIn all) (WaitsInFirst all n) (WaitsInFirst all (n + 1)) (IsWaiting c.as_slice.result.now)
          c.args.shell.now.sent c.loop-list.shell.sent c.add_waiting.new.shell.sent c.loop-list.invariant.adding
          c.add_waiting.ensures.adds here (λ one h. lists_one all n c.as_slice.result.now one stands h);
    }

pub returns-clause-adds : goal.returns-clause-adds
returns-clause-adds c =
    let all : List (List Incoming) = map (λ list. list.items) c.args.waits.now in
    adding_same (WaitsIn all) (WaitsInFirst all c.loop-list.list-index) (WaitsIn all) c.args.shell.now.sent
    c.loop-list.shell.sent c.loop-list.shell.sent c.loop-list.invariant.adding refl
    (λ one h. lists_all all c.loop-list.list-index one
    (omega (arith, c.loop-list-test.false, length-map c.args.waits.now (λ list. list.items))) h)
