use Rattle.std.proofs.Common.{◌≡◌, take}
use Rattle.arrayvec.specs.ArrayVec.{array_vec_len}
use Rattle.gba_loose_devices.specs.Sound.{queue_in}
use Rattle.gba_loose_devices.specs.Values.{bytes_cut}
use Rattle.gba_loose_devices.proofs.audio.queue_bytes.Given as goal

abbrev pub invariant-loop-place : goal.invariant-loop-place
invariant-loop-place l = record {
  items : l.bytes.items ≡ bytes_cut (take l.place (queue_in l.queue l.numbers));
  len : array_vec_len l.bytes ≡ l.place;
}
