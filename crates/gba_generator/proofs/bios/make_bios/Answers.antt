use Rattle.std.proofs.Common.{◌≡◌, length, ◌∙◌, rules}
use Rattle.std.specs.Prelude.{vec_len}
use Rattle.gba_generator.proofs.Assembled.{bios-passes, filled-is}
use Rattle.gba_generator.proofs.bios.make_bios.Goals as goal

pub unreachable-requires : goal.unreachable-requires
unreachable-requires c =
    let old = c.in_ok-bytes.bytes in
    let new = c.resize.new.self.items in
    let long : vec_len old ≡ length old.items = search rules in
    bios-passes c.args.number c.args.player new c.in-Err.field-0
    (filled-is c.args.number c.args.player (vec_len old) old.items new c.in_ok-bytes.ensures long
    c.in_ok-resize.ensures.items)
    c.in-Err.ensures

pub returns : goal.returns
returns c =
    let old = c.in_ok-bytes.bytes in
    let new = c.resize.new.self.items in
    let long : vec_len old ≡ length old.items = search rules in
    record {
      image = c.in-Ok.ensures.1
          ∙ filled-is c.args.number c.args.player (vec_len old) old.items new c.in_ok-bytes.ensures long
          c.in_ok-resize.ensures.items;
    }
