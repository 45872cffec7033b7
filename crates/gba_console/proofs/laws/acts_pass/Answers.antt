use Rattle.gba_console.specs.StepLaws.{acts-pass}
use Rattle.gba_console.proofs.laws.acts_pass.Goals as goal

pub returns : goal.returns
returns c =
    acts-pass c.writes_keep_time.ensures c.writes_keep_ends.ensures c.cycles_of_a_word.ensures
    c.cycles_of_a_halfword.ensures c.words_keep.ensures c.halfwords_keep.ensures
