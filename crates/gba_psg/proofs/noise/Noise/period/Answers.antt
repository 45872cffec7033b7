use Rattle.std.proofs.Common.{◌≡◌, ◌+◌, ◌*◌, ◌%◌, ◌^◌, ◌<◌, arith, ap, ◌∙◌}
use Rattle.gba_terms.specs.Bits.{field}
use Rattle.gba_psg.proofs.Fields.{field-below, fits-32, some-period, with-ratio}
use Rattle.gba_psg.proofs.noise.Noise.period.Goals as goal

pub returns-else-ratio-eq0-clause-value : goal.returns-else-ratio-eq0-clause-value
returns-else-ratio-eq0-clause-value c =
    let control = c.args.self.now.control in
    let ratio : c.bits-ratio.result ≡ field control 0 3 =
    c.bits-ratio.ensures ∙ ap (λ n. field n 0 3) c.from-control.ensures in
    let shift : c.bits-shift.result ≡ field control 4 4 =
    c.bits-shift.ensures ∙ ap (λ n. field n 4 4) c.from-control.ensures in
    let some : field control 0 3 ≡ 0 → ⊥ = λ none. c.if-ratio-eq0.false (ratio ∙ none) in
    let fits = fits-32 (field control 0 3) (field control 4 4) (field-below control 0 3) (field-below control 4 4) in
    ap (λ n. n * 2 ^ (c.bits-shift.result + 6) % 2 ^ 32) ratio
    ∙ ap (λ n. field control 0 3 * 2 ^ (n + 6) % 2 ^ 32) shift
    ∙ fits
    ∙ with-ratio c.args.self.now some

pub returns-else-ratio-eq0-clause-some : goal.returns-else-ratio-eq0-clause-some
returns-else-ratio-eq0-clause-some c =
    let ratio : c.bits-ratio.result < 8 =
    (let below = field-below c.from-control.result 0 3 in omega (arith, below, c.bits-ratio.ensures)) in
    let shift : c.bits-shift.result < 16 =
    (let below = field-below c.from-control.result 4 4 in omega (arith, below, c.bits-shift.ensures)) in
    let fits = fits-32 c.bits-ratio.result c.bits-shift.result ratio shift in
    let some = some-period c.bits-ratio.result c.bits-shift.result (omega (arith, c.if-ratio-eq0.false)) in
    omega (arith, fits, some)
