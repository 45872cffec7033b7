use Rattle.std.proofs.Common.{◌≡◌, ◌*◌, ◌≤◌, take, vec_len, vec_capacity}
use Rattle.gba_output.specs.TransferWords.{words_text}
use Rattle.gba_output.proofs.words.write_words.Given as goal

-- the lines so far are written
abbrev pub invariant-loop-transfer : goal.invariant-loop-transfer
invariant-loop-transfer l =
    (l.into.items ≡ words_text (take l.transfer-index l.transfers))
    × (vec_len l.into ≤ 49 * l.transfer-index) × (vec_capacity l.fn.into ≤ vec_capacity l.into)
