use Rattle.std.proofs.Common.{◌≡◌, ◌<◌, ◌+◌, ◌-◌, ◌*◌, ◌%◌, sym, ◌∙◌, arith}
use Rattle.std.proofs.lemmas.Simd.{get_or-chunk}
use Rattle.gba_terms.specs.Bits.{field}
use Rattle.gba_ppu_text.specs.Text.{mirrored}
use Rattle.gba_ppu_text.proofs.Paints.{bytes_seen, nibble_is, nibbles_seen}
use Rattle.gba_ppu_text.proofs.paint.paint_row.Goals as goal

pub returns-then-has_eight_bits-clause-drawn : goal.returns-then-has_eight_bits-clause-drawn
returns-then-has_eight_bits-clause-drawn c = λ palette are column h.
    c.paint_bytes.ensures.drawn palette are column h
    ∙ bytes_seen palette c.args.vram.now c.seen_row.result c.args.control.value c.args.entry column c.args.row h
    (sym c.has_eight_bits.ensures ∙ c.if-has_eight_bits.true) c.seen_row.ensures

pub returns-clause-drawn : goal.returns-clause-drawn
returns-clause-drawn c = λ palette are column h.
    let start = c.from-start.result in
    let number = field c.nibbles_at-numbers.result (4 * mirrored c.bit-mirror.result column) 4 in
    let is = c.from-start.ensures in
    let most = c.palette_of.ensures.most in
    let aligned = c.palette_of.ensures.aligned in
    let few : number < 16 = omega arith in
    let within : number < start + 16 - start = omega arith in
    let below : start + number < 256 = omega (arith, is, most) in
    let whole : start % 16 ≡ 0 = omega (arith, is, aligned) in
    c.paint_nibbles.ensures.drawn column h
    ∙ get_or-chunk start (start + 16 - start) c.args.colours.now.by_nibble number 0 within
    ∙ are.by_nibble (start + number) below
    ∙ nibble_is palette start number whole few
    ∙ nibbles_seen palette c.args.vram.now c.args.control.value c.args.entry column c.args.row
    c.nibbles_at-numbers.result
    start c.bit-mirror.result h (sym c.has_eight_bits.ensures ∙ c.if-has_eight_bits.false)
    (λ i k. cc (c.nibbles_at-numbers.ensures i k)) (is ∙ c.palette_of.ensures.value) (cc)
