use Rattle.std.proofs.Common.{◌+◌, ◌-◌, ◌*◌, ◌/◌, ◌%◌, ◌^◌, ◌∙◌, ap}
use Rattle.gba_ppu_obj.specs.Places.{turned_place}
use Rattle.gba_ppu_obj.proofs.Turning.{wrapped_sum, in_256ths}
use Rattle.gba_ppu_obj.proofs.draw.turned_place.Goals as goal

pub returns : goal.returns
unfolding turned_place
returns c =
    let p = c.args.p + (2 ^ 32 - c.args.box_wide / 2) in
    let q = c.args.q + (2 ^ 32 - c.args.box_high / 2) in
    in_256ths
    ((c.args.across * (p % 2 ^ 32)) % 2 ^ 32 + (c.args.down * (q % 2 ^ 32)) % 2 ^ 32)
    (c.args.side / 2)
    ∙ ap (λ n. (n / 2 ^ 8 + c.args.side / 2) % 2 ^ 24)
    (wrapped_sum c.args.across c.args.down p q)
