use Rattle.std.specs.Prelude.{ℕ, ℤ, Bool, ◌+◌, ◌&&◌, List, [], ◌++◌, if◌then◌else◌}
use Rattle.std.specs.Int.{w16, cast_unsigned, to_le_bytes}
use Rattle.gba_io.specs.Base.{at_reset}
use Rattle.gba_io.specs.declared.base.Base.{Base}
use Rattle.gba_io.specs.declared.made.Room.{Room}

-- What a console makes beside its state: whole frames of the picture, and pairs of samples. Their bytes are kept where
-- they are asked for, and both are counted anyway. `until` is the clock up to which there is room, and `base` is where
-- the bytes that are kept begin.
pub record Made : Type 0 where
  pub keeps_frames : Bool
  pub keeps_samples : Bool
  pub until : ℕ
  pub frames : List ℕ
  pub frame_count : ℕ
  pub samples : List ℕ
  pub pairs : ℕ
  pub base : Base

-- a sample as two bytes, the low one first, in two's complement
abbrev pub sample_bytes : ℤ → List ℕ
sample_bytes sample = to_le_bytes w16 (cast_unsigned w16 sample)

-- a pair, left and then right, is made, or none
abbrev pub with_pair : Bool → ℤ → ℤ → Made → Made
with_pair makes left right m = record m {
  samples = if makes && m.keeps_samples then m.samples ++ sample_bytes left ++ sample_bytes right else m.samples;
  pairs = if makes then m.pairs + 1 else m.pairs;
}

-- a frame is whole, which has these bytes, or none is
abbrev pub with_frame : Bool → List ℕ → Made → Made
with_frame ends frame m = record m {
  frames = if ends && m.keeps_frames then m.frames ++ frame else m.frames;
  frame_count = if ends then m.frame_count + 1 else m.frame_count;
}

-- nothing is made yet
abbrev pub none_made : Room → Made
none_made room = record {
  keeps_frames = room.frames;
  keeps_samples = room.samples;
  until = room.until;
  frames = [];
  frame_count = 0;
  samples = [];
  pairs = 0;
  base = at_reset;
}

-- none of it is kept any more, and all of it stays counted
abbrev pub made_emptied : Made → Made
made_emptied m = record m { frames = []; samples = [] }

-- what is kept begins at this base, and there is room up to this clock
abbrev pub made_from : Base → ℕ → Made → Made
made_from base until m = record m { base = base; until = until }

-- so much is counted
abbrev pub made_counted : ℕ → ℕ → Made → Made
made_counted frames pairs m = record m { frame_count = frames; pairs = pairs }
