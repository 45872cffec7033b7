-- What a frozen file says of a console that keeps its rules.
use Rattle.gba_thaw_laws.specs.Laws.{SaysItself}
use Rattle.gba_thaw_laws.proofs.Halves.{halves-again}
use Rattle.gba_thaw_laws.proofs.Numbers.{bytes-are, numbers-are}
use Rattle.gba_thaw_laws.proofs.Ranges.{in-range}

pub says-itself : SaysItself
says-itself m holds = record {
  numbers = numbers-are m;
  range = in-range m.board.core holds.devices holds.serial;
  bytes = bytes-are m holds.devices;
  halves = halves-again m.board.core;
}
