use Rattle.std.specs.Prelude.{ℕ, ◌+◌, Bool, false, Option, None, Some}
use Rattle.gba_serial.specs.SerialUnit.{SerialUnit, was_received}
use Rattle.gba_word.specs.Weights.{weight}
use Rattle.gba_serial.specs.declared.transfer.Running.{Running}

-- The numbers of the transfer that runs, for the state file (this project's profile): 0 where none runs

abbrev pub running_number : (Running → ℕ) → Option Running → ℕ
running_number number None = 0
running_number number (Some run) = number run

abbrev pub is_starter_of : Option Running → Bool
is_starter_of None = false
is_starter_of (Some run) = run.starter

-- bit j is set where the word of player j was received
abbrev pub received_mask : Running → ℕ
received_mask run =
    weight 1 (was_received run.got 0) + weight 2 (was_received run.got 1)
    + weight 4 (was_received run.got 2) + weight 8 (was_received run.got 3)

-- whether this console started it, its end, the players whose word was received, the word sent and the word received
abbrev pub is_starter : SerialUnit → Bool
is_starter u = is_starter_of u.run

abbrev pub end_number : SerialUnit → ℕ
end_number u = running_number (λ run. run.end) u.run

abbrev pub received_number : SerialUnit → ℕ
received_number u = running_number received_mask u.run

abbrev pub sent_number : SerialUnit → ℕ
sent_number u = running_number (λ run. run.sent) u.run

abbrev pub word_number : SerialUnit → ℕ
word_number u = running_number (λ run. run.word) u.run
