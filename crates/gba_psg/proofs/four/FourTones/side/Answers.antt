use Rattle.std.proofs.Common.{◌+◌, ◌*◌, ◌<◌, ◌≤◌, ap, subst, ◌∙◌, arith, w32}
use Rattle.std.specs.Prelude.{pos}
use Rattle.std.proofs.lemmas.Int.{to_z_pos}
use Rattle.gba_psg.specs.Amount.{given_of, sum_of}
use Rattle.gba_psg.proofs.Amounts.{at-most}
use Rattle.gba_psg.proofs.four.FourTones.side.Goals as goal

pub returns-clause-value : goal.returns-clause-value
returns-clause-value c =
    let summed = c.sum.ensures.value ∙ ap (sum_of c.args.first c.args.self.now.mixer) c.requires.given in
    let most =
    at-most c.sum.result c.args.volume c.factor.result c.sum.ensures.most c.requires.volume c.factor.ensures.most in
    let small : c.sum.result * (c.args.volume + 1) * c.factor.result * 8 < 2147483648 = omega (arith, most) in
    to_z_pos w32 (c.sum.result * (c.args.volume + 1) * c.factor.result * 8) small
    ∙ ap (λ s. pos (s * (c.args.volume + 1) * c.factor.result * 8)) summed
    ∙ ap (λ f. pos (sum_of c.args.first c.args.self.now.mixer (given_of c.args.self.now) * (c.args.volume + 1) * f * 8))
    c.factor.ensures.value

pub returns-clause-most : goal.returns-clause-most
returns-clause-most c =
    let summed = c.sum.ensures.value ∙ ap (sum_of c.args.first c.args.self.now.mixer) c.requires.given in
    let most =
    at-most c.sum.result c.args.volume c.factor.result c.sum.ensures.most c.requires.volume c.factor.ensures.most in
    let same = ap (λ s. s * (c.args.volume + 1) * c.factor.result * 8) summed in
    let there =
    ap (λ f. sum_of c.args.first c.args.self.now.mixer (given_of c.args.self.now) * (c.args.volume + 1) * f * 8)
    c.factor.ensures.value in
    subst (λ n. n ≤ 15360) (same ∙ there) most
