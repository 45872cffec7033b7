use Rattle.std.specs.Prelude.{ℤ, pos, ◌+ℤ◌}
use Rattle.gba_psg.specs.Amount.{left_amount, right_amount}
use Rattle.gba_sound.specs.Queues.{left_sample as left_queued, right_sample as right_queued}
use Rattle.gba_devices.specs.State.{Devices}

-- What a board sounds like: a side is the sum of what direct sound and the tone channels give to it, each of which is 0
-- while the sound is off (this project's profile).
abbrev pub left_sample : Devices → ℤ
left_sample d = left_queued d.sound +ℤ pos (left_amount d.tones)

abbrev pub right_sample : Devices → ℤ
right_sample d = right_queued d.sound +ℤ pos (right_amount d.tones)
