use Rattle.std.proofs.Common.{◌≡◌, ℕ, Bool, Option, None, Some, true, false, ◌==◌, refl, ◌∙◌, arith, if◌then◌else◌}
use Rattle.gba_bus.specs.declared.width.Width.{Width}
use Rattle.gba_register.specs.Accesses.{merged}
use Rattle.gba_register.proofs.Accesses.{written-keeps}
use Rattle.gba_devices.specs.Keeping.{CalmHasBegun, WritesKeep}
use Rattle.gba_devices.specs.Registers.{half_kept, half_written, io_written, owner_of, queue_of, written_in, whole_written, with_key_control, written_of}
use Rattle.gba_devices.specs.State.{Devices, begun}
use Rattle.gba_devices.specs.declared.registers.Owner.{Owner}
use Rattle.gba_devices.specs.declared.registers.Owner.TheVariants.{PictureBlock, ToneBlock, SoundBlock, DmaBlock, TimerBlock, KeyBlock, InterruptBlock, WaitControl, PostFlag, Nobody}

-- What writes of registers keep.

-- what a write of a halfword keeps
record Keeps (d after : Devices) : Type 0 where
  clock : after.clock ≡ d.clock
  place : after.place ≡ d.place
  priced : after.priced ≡ d.priced

either-keeps : (test : Bool) (d one other : Devices) → Keeps d one → Keeps d other
    → Keeps d (if test then one else other)
either-keeps true d one other here there = here
either-keeps false d one other here there = there

owner-keeps : (owner : Owner) (offset value lanes : ℕ) (d : Devices) → Keeps d (written_of owner offset value lanes d)
owner-keeps PictureBlock offset value lanes d = record { clock = refl; place = refl; priced = refl }
owner-keeps ToneBlock offset value lanes d = record { clock = refl; place = refl; priced = refl }
owner-keeps SoundBlock offset value lanes d = record { clock = refl; place = refl; priced = refl }
owner-keeps DmaBlock offset value lanes d = record { clock = refl; place = refl; priced = refl }
owner-keeps TimerBlock offset value lanes d = record { clock = refl; place = refl; priced = refl }
owner-keeps KeyBlock offset value lanes d =
    either-keeps (offset == 0x132) d (with_key_control value d) d
    (record { clock = refl; place = refl; priced = refl }) (record { clock = refl; place = refl; priced = refl })
owner-keeps InterruptBlock offset value lanes d = record { clock = refl; place = refl; priced = refl }
owner-keeps WaitControl offset value lanes d = record { clock = refl; place = refl; priced = refl }
owner-keeps PostFlag offset value lanes d = record { clock = refl; place = refl; priced = refl }
owner-keeps Nobody offset value lanes d = record { clock = refl; place = refl; priced = refl }

whole-keeps : (offset value lanes : ℕ) (d : Devices) → Keeps d (whole_written offset value lanes d)
unfolding whole_written
whole-keeps offset value lanes d = owner-keeps (owner_of offset) offset value lanes d

half-keeps : (d : Devices) (offset value lanes : ℕ) (s : Devices) → Keeps d s
    → Keeps d (half_written offset value lanes s)
half-keeps d offset value lanes s before =
    let last = whole-keeps offset (merged (half_kept offset s) value lanes) lanes s in
    record {
      clock = last.clock ∙ before.clock;
      place = last.place ∙ before.place;
      priced = last.priced ∙ before.priced;
    }

into-keeps : (queue : Option ℕ) (offset : ℕ) (width : Width) (value : ℕ) (d : Devices)
    → Keeps d (written_in queue offset width value d)
into-keeps (Some queue) offset width value d = record { clock = refl; place = refl; priced = refl }
into-keeps None offset width value d =
    written-keeps (Keeps d) half_written (half-keeps d) offset width value d
    (record { clock = refl; place = refl; priced = refl })

access-keeps : (offset : ℕ) (width : Width) (value : ℕ) (d : Devices) → Keeps d (io_written offset width value d)
access-keeps offset width value d = into-keeps (queue_of offset width) offset width value d

pub writes-keep : WritesKeep
writes-keep = record {
  clock = λ offset width value d. (access-keeps offset width value d).clock;
  place = λ offset width value d. (access-keeps offset width value d).place;
  priced = λ offset width value d. (access-keeps offset width value d).priced;
}

same-begun : (d : Devices) → d.waits ≡ d.priced → begun d ≡ d
same-begun d same = rw same refl

pub calm-has-begun : CalmHasBegun
calm-has-begun = record { calm = λ d calm. same-begun d (grind arith); idle = λ d idle. same-begun d (grind arith) }
