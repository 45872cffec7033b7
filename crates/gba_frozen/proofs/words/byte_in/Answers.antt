use Rattle.std.proofs.Common.{◌+◌, ◌-◌, ◌*◌, drop}
use Rattle.gba_frozen.proofs.Digits.{digits-take, digits-drop}
use Rattle.gba_frozen.proofs.words.byte_in.Goals as goal

pub hex_number-requires-clause-digits : goal.hex_number-requires-clause-digits
hex_number-requires-clause-digits c =
    digits-take (2 * c.args.place + 2 - 2 * c.args.place) (drop (2 * c.args.place) c.args.digits.now)
    (digits-drop (2 * c.args.place) c.args.digits.now c.requires.digits)
