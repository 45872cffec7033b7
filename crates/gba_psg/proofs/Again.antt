-- What the tones say of themselves makes them again.
use Rattle.std.proofs.Common.{◌≡◌, ℕ, ◌+◌, ◌≤◌, Bool, true, false, refl, arith}
use Rattle.std.specs.Prelude.{nat_eq}
use Rattle.gba_terms.specs.Bits.{bit}
use Rattle.gba_word.specs.Weights.{weight}
use Rattle.gba_psg.specs.declared.four.FourTones.{FourTones}
use Rattle.gba_psg.specs.Numbers.{MadeAgain, halves_of, numbers_of, tones_of}
use Rattle.gba_psg.specs.Tones.{channels_on}

on-again : (on : Bool) → nat_eq (weight 1 on) 1 ≡ on
on-again true = refl
on-again false = refl

on-most : (n : ℕ) (on : Bool) → weight n on ≤ n
on-most n true = omega arith
on-most n false = omega arith

master-by : (on : Bool) (rest : ℕ) → rest ≤ 15 → bit (weight 0x80 on + rest) 7 ≡ on
master-by true rest h = grind (arith, h)
master-by false rest h = grind (arith, h)

master-again : (ts : FourTones) → bit (weight 0x80 ts.is_on + channels_on ts) 7 ≡ ts.is_on
master-again ts =
    let a = on-most 1 ts.square1.tone.on in
    let b = on-most 2 ts.square2.tone.on in
    let c = on-most 4 ts.wave.tone.on in
    let d = on-most 8 ts.noise.tone.on in
    master-by ts.is_on (channels_on ts) (omega (arith, a, b, c, d))

pub made-again : MadeAgain
unfolding tones_of numbers_of halves_of
made-again ts =
    λ i. record ts {
      is_on = master-again ts i;
      square1 = record ts.square1 { tone = record ts.square1.tone { on = on-again ts.square1.tone.on i } };
      square2 = record ts.square2 { tone = record ts.square2.tone { on = on-again ts.square2.tone.on i } };
      wave = record ts.wave { tone = record ts.wave.tone { on = on-again ts.wave.tone.on i } };
      noise = record ts.noise { tone = record ts.noise.tone { on = on-again ts.noise.tone.on i } };
    }
