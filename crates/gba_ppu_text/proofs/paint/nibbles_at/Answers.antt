use Rattle.std.proofs.Common.{◌≡◌, ◌+◌, ◌∙◌, slice_index, ap, arith}
use Rattle.gba_ppu_text.proofs.Paints.{nibbles_of, no_nibbles}
use Rattle.gba_ppu_text.proofs.paint.nibbles_at.Goals as goal

pub returns-then-start-ge-TILES_END : goal.returns-then-start-ge-TILES_END
returns-then-start-ge-TILES_END c =
    λ column h. no_nibbles c.args.vram.now c.args.start column c.if-start-ge-TILES_END.true

pub returns : goal.returns
returns c = λ column h.
    let start = c.args.start in
    let fits = c.type_inv.vram in
    let first = fits start in
    let second = fits (start + 1) in
    let third = fits (start + 2) in
    let fourth = fits (start + 3) in
    let here : start ≡ start + 0 = omega arith in
    nibbles_of c.args.vram.now start c.from.result c.from-2.result c.from-3.result c.from-4.result column
    record {
      aligned = c.requires.aligned;
      within = c.if-start-ge-TILES_END.false;
      first = c.from.ensures ∙ ap (λ k. slice_index c.args.vram.now k) here;
      second = c.from-2.ensures;
      third = c.from-3.ensures;
      fourth = c.from-4.ensures;
      first_fits = omega (arith, c.from.ensures, first.fits);
      second_fits = omega (arith, c.from-2.ensures, second.fits);
      third_fits = omega (arith, c.from-3.ensures, third.fits);
      fourth_fits = omega (arith, c.from-4.ensures, fourth.fits);
    }
    h
