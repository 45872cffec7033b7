use Rattle.std.proofs.Common.{◌≡◌, ◌∙◌, Some, ap, sym}
use Rattle.gba_console.specs.Alone.{console_kind}
use Rattle.gba_console.specs.Machine.{Machine, without_limit}
use Rattle.gba_thaw.proofs.Joins.{all-pass, not-whole, whole-told}
use Rattle.gba_thaw.specs.Cut.{joined}
use Rattle.link_core.specs.Whole.{is_whole}
use Rattle.link_order.specs.Cut.{Cut, plain_cut}
use Rattle.gba_thaw.proofs.cut.join_all.Goals as goal

pub returns-then-not-is_whole : goal.returns-then-not-is_whole
returns-then-not-is_whole c all are =
    let s = c.args.signals.now in
    let delays = c.args.shell.delays in
    let ms = c.args.consoles.items in
    let whole = plain_cut without_limit (joined delays s.sent ms) in
    let told : c.is_whole.result ≡ is_whole console_kind whole =
    whole-told c.is_whole.result whole
    (rw (c.as_slice.ensures.value, c.delays.ensures.value, c.sent.ensures.value) at c.is_whole.ensures) in
    sym (not-whole delays all s are ms (sym c.has_more.ensures ∙ c.if-has_more.false)
    (sym told ∙ c.if-not-is_whole.true))

pub returns : goal.returns
returns c all are =
    let s = c.args.signals.now in
    let delays = c.args.shell.delays in
    let ms = c.args.consoles.items in
    let whole = plain_cut without_limit (joined delays s.sent ms) in
    let told : c.is_whole.result ≡ is_whole console_kind whole =
    whole-told c.is_whole.result whole
    (rw (c.as_slice.ensures.value, c.delays.ensures.value, c.sent.ensures.value) at c.is_whole.ensures) in
    let is : c.set_sent.new.self ≡ joined delays s.sent ms =
    rw (c.sent-2.ensures.value, c.join-cut.ensures, c.clear.ensures.delays) at c.set_sent.ensures in
    ap (λ (one : Cut Machine). Some one) is
    ∙ all-pass delays all s are ms (sym c.has_more.ensures ∙ c.if-has_more.false)
    (sym told ∙ c.if-not-is_whole.false)
