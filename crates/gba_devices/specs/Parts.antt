use Rattle.gba_devices.specs.State.{Devices}
use Rattle.gba_devices.specs.declared.parts.DeviceParts.{DeviceParts}

-- The devices of their parts. The accesses of the next step take the prices of WAITCNT as it is.
abbrev pub devices_of : DeviceParts → Devices
devices_of parts = record {
  clock = parts.clock;
  timers = parts.timers;
  sound = parts.queues;
  tones = parts.tones;
  channels = parts.channels;
  place = parts.place;
  picture = parts.picture;
  interrupts = parts.interrupts;
  keys = parts.keypad;
  waits = parts.waits;
  priced = parts.waits;
  posted = parts.posted;
  halted = parts.halted;
}
