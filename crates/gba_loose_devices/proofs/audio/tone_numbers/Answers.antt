use Rattle.std.proofs.Common.{arith, refl, ap, ◌∙◌}
use Rattle.gba_numbers.specs.declared.fields.BoardField.{BoardField}
use Rattle.gba_loose_devices.specs.Sound.{tone_field}
use Rattle.gba_loose_devices.specs.Values.{number_cut}
use Rattle.gba_loose_devices.proofs.Filling.{filled-all, filled-more, filled-none}
use Rattle.gba_loose_devices.proofs.audio.tone_numbers.Goals as goal

pub loop-place-init : goal.loop-place-init
loop-place-init c = filled-none (λ place. number_cut 32 (tone_field place) c.args.numbers.now) 33 _ refl

pub loop-place-preserved : goal.loop-place-preserved
loop-place-preserved c =
    filled-more (λ place. number_cut 32 (tone_field place) c.args.numbers.now) 33 c.loop-place.place _
    c.loop-place.values (omega arith)
    (c.word_number.ensures ∙ ap (λ (f : BoardField). number_cut 32 f c.args.numbers.now) c.tone_field.ensures.field)
    c.loop-place.invariant

pub returns : goal.returns
returns c =
    filled-all (λ place. number_cut 32 (tone_field place) c.args.numbers.now) 33 c.loop-place.place c.loop-place.values
    (omega arith) c.loop-place.invariant
