-- What DMA channels keep.
use Rattle.std.proofs.Common.{◌≡◌, ◌≢◌, ℕ, ◌^◌, ◌<◌, ◌≤◌, ◌+◌, ◌==◌, Bool, true, false, ◌&&◌, refl, ap, sym, ◌∙◌, arith, mod-eq_of_lt, if◌then◌else◌}
use Rattle.std.specs.Prelude.{bit_and}
use Rattle.std.proofs.lemmas.Bool.Decides.{nat_tests}
use Rattle.std.proofs.lemmas.Nat.{and_assoc, and_comm, and_le_r, and_mask}
use Rattle.gba_terms.specs.Bits.{field}
use Rattle.gba_register.specs.Rows.{row_at}
use Rattle.gba_bus.specs.declared.width.Width.{Width}
use Rattle.gba_bus.specs.Widths.{size}
use Rattle.gba_dma.specs.Channel.{after_event, after_run, after_step, after_unit, after_unit_end, channel_at_reset, count_loaded, is_last, is_triggered, moved, serves_sound, source_step, starts, target_step, unit_width, waits_again, with_control, with_high, with_low}
use Rattle.gba_dma.specs.Channels.{FourChannels, after_trigger, after_unit_at, base, channels_at_reset, dma_kept, dma_rows, dma_written, channel_set_at}
use Rattle.gba_dma.specs.Consistency.{AreConsistent, StaysConsistent}
use Rattle.gba_dma.specs.declared.channel.Channel.{Channel}
use Rattle.gba_dma.specs.declared.event.DmaEvent.{DmaEvent}
use Rattle.gba_device_laws.specs.Holding.{ChannelHolds, ChannelsHold, HasStoredBits}
use Rattle.gba_device_laws.proofs.Masks.{and-twice, at-place, nothing-stored}

-- the written count and control of a channel by its number
record IsWritten (sources targets counts controls : ℕ) (c : Channel) : Type 0 where
  source : bit_and (field c.source 16 16) sources ≡ field c.source 16 16
  target : bit_and (field c.target 16 16) targets ≡ field c.target 16 16
  count : bit_and c.count counts ≡ c.count
  control : bit_and c.control controls ≡ c.control

abbrev IsWritten0 : Channel → Type 0
IsWritten0 = IsWritten 0x07ff 0x07ff 0x3fff 0xf7e0

abbrev IsWritten1 : Channel → Type 0
IsWritten1 = IsWritten 0x0fff 0x07ff 0x3fff 0xf7e0

abbrev IsWritten3 : Channel → Type 0
IsWritten3 = IsWritten 0x0fff 0x0fff 0xffff 0xffe0

record AreWritten (cs : FourChannels) : Type 0 where
  channel0 : IsWritten0 cs.channel0
  channel1 : IsWritten1 cs.channel1
  channel2 : IsWritten1 cs.channel2
  channel3 : IsWritten3 cs.channel3

are-written : (cs : FourChannels) → HasStoredBits dma_rows (λ at. dma_kept at cs) → AreWritten cs
unfolding dma_rows row_at
are-written cs stored = record {
  channel0 = record { source = stored 0x0b2; target = stored 0x0b6; count = stored 0x0b8; control = stored 0x0ba };
  channel1 = record { source = stored 0x0be; target = stored 0x0c2; count = stored 0x0c4; control = stored 0x0c6 };
  channel2 = record { source = stored 0x0ca; target = stored 0x0ce; count = stored 0x0d0; control = stored 0x0d2 };
  channel3 = record { source = stored 0x0d6; target = stored 0x0da; count = stored 0x0dc; control = stored 0x0de };
}

low-half : (word : ℕ) → bit_and (field word 0 16) 0xffff ≡ field word 0 16
low-half word = and_mask (field word 0 16) 16 ∙ mod-eq_of_lt (omega arith)

written-stored : (cs : FourChannels) → AreWritten cs → HasStoredBits dma_rows (λ at. dma_kept at cs)
unfolding dma_rows row_at
written-stored cs is at =
    let holds : ℕ → Type 0 = λ k. bit_and (dma_kept k cs) (row_at dma_rows k).write_mask ≡ dma_kept k cs in
    at-place holds 0x0b0 at (low-half cs.channel0.source) (λ n0. at-place holds 0x0b2 at is.channel0.source
    (λ n1. at-place holds 0x0b4 at (low-half cs.channel0.target) (λ n2. at-place holds 0x0b6 at is.channel0.target
    (λ n3. at-place holds 0x0b8 at is.channel0.count (λ n4. at-place holds 0x0ba at is.channel0.control
    (λ n5. at-place holds 0x0bc at (low-half cs.channel1.source) (λ n6. at-place holds 0x0be at is.channel1.source
    (λ n7. at-place holds 0x0c0 at (low-half cs.channel1.target) (λ n8. at-place holds 0x0c2 at is.channel1.target
    (λ n9. at-place holds 0x0c4 at is.channel1.count (λ n10. at-place holds 0x0c6 at is.channel1.control
    (λ n11. at-place holds 0x0c8 at (low-half cs.channel2.source) (λ n12. at-place holds 0x0ca at is.channel2.source
    (λ n13. at-place holds 0x0cc at (low-half cs.channel2.target) (λ n14. at-place holds 0x0ce at is.channel2.target
    (λ n15. at-place holds 0x0d0 at is.channel2.count (λ n16. at-place holds 0x0d2 at is.channel2.control
    (λ n17. at-place holds 0x0d4 at (low-half cs.channel3.source) (λ n18. at-place holds 0x0d6 at is.channel3.source
    (λ n19. at-place holds 0x0d8 at (low-half cs.channel3.target) (λ n20. at-place holds 0x0da at is.channel3.target
    (λ n21. at-place holds 0x0dc at is.channel3.count (λ n22. at-place holds 0x0de at is.channel3.control
    (λ n23. nothing-stored (dma_kept at cs) (row_at dma_rows at).write_mask
    (grind (
      arith,
      nat_tests,
      n0,
      n1,
      n2,
      n3,
      n4,
      n5,
      n6,
      n7,
      n8,
      n9,
      n10,
      n11,
      n12,
      n13,
      n14,
      n15,
      n16,
      n17,
      n18,
      n19,
      n20,
      n21,
      n22,
      n23,
    ))))))))))))))))))))))))))

-- a control whose enable is cleared
cleared-bit : (control mask : ℕ) → bit_and control mask ≡ control
    → bit_and (field control 0 15) mask ≡ field control 0 15
cleared-bit control mask small =
    ap (λ n. bit_and n mask) cut ∙ and_assoc mask control 0x7fff ∙ ap (bit_and control) (and_comm 0x7fff mask)
    ∙ sym (and_assoc 0x7fff control mask) ∙ ap (λ n. bit_and n 0x7fff) small ∙ sym cut
  where
    cut : field control 0 15 ≡ bit_and control 0x7fff
    cut = omega (arith, and_mask control 15)

moved-word : (step : ℕ) (width : Width) (address : ℕ) → address < 2 ^ 32 → moved step (size width) address < 2 ^ 32
moved-word step width address small = grind (arith, nat_tests, small)

-- what one channel keeps, whose high halves of addresses, count and control have these bits
module _ (sources targets counts controls : ℕ) (few : counts < 0x10000) where
  record Keeps (c : Channel) : Type 0 where
    holds : ChannelHolds c
    written : IsWritten sources targets counts controls c

  either-channel : (test : Bool) (one other : Channel) → Keeps one → Keeps other → Keeps (if test then one else other)
  either-channel true one other first second = first
  either-channel false one other first second = second

  most-count : (c : Channel) → Keeps c → c.count < 0x10000
  most-count c is = omega (arith, few, is.written.count, and_le_r c.count counts)

  loaded-count : (number : ℕ) (c : Channel) → Keeps c → count_loaded number c ≤ 0x10000
  loaded-count number c is = let most = most-count c is in grind (arith, nat_tests, most)

  event-keeps : (event : DmaEvent) (number : ℕ) (c : Channel) → Keeps c → Keeps (after_event event number c)
  event-keeps event number c is = record {
    holds = record {
      source = is.holds.source;
      target = is.holds.target;
      inner_source = is.holds.inner_source;
      inner_target = is.holds.inner_target;
      left = few-left (is_triggered event number c && serves_sound number c);
    };
    written = record {
      source = is.written.source;
      target = is.written.target;
      count = is.written.count;
      control = is.written.control;
    };
  }
    where
      few-left : (test : Bool) → (if test then 4 else c.left) ≤ 0x10000
      few-left true = omega arith
      few-left false = is.holds.left

  step-keeps : (number : ℕ) (c : Channel) → Keeps c → Keeps (after_step number c)
  step-keeps number c is = record {
    holds = record {
      source = is.holds.source;
      target = is.holds.target;
      inner_source = moved-word (source_step c) (unit_width number c) c.inner_source is.holds.inner_source;
      inner_target = stays (serves_sound number c);
      left = omega (arith, is.holds.left);
    };
    written = record {
      source = is.written.source;
      target = is.written.target;
      count = is.written.count;
      control = is.written.control;
    };
  }
    where
      stays : (test : Bool)
          → (if test then c.inner_target else moved (target_step c) (size (unit_width number c)) c.inner_target)
          < 2 ^ 32
      stays true = is.holds.inner_target
      stays false = moved-word (target_step c) (unit_width number c) c.inner_target is.holds.inner_target

  run-keeps : (number : ℕ) (c : Channel) → Keeps c → Keeps (after_run number c)
  run-keeps number c is = record {
    holds = record {
      source = is.holds.source;
      target = is.holds.target;
      inner_source = is.holds.inner_source;
      inner_target = target (waits_again c && (target_step c == 3));
      left = left (waits_again c);
    };
    written = record {
      source = is.written.source;
      target = is.written.target;
      count = is.written.count;
      control = control (waits_again c);
    };
  }
    where
      target : (test : Bool) → (if test then c.target else c.inner_target) < 2 ^ 32
      target true = is.holds.target
      target false = is.holds.inner_target

      left : (test : Bool) → (if test then count_loaded number c else c.left) ≤ 0x10000
      left true = loaded-count number c is
      left false = is.holds.left

      control : (test : Bool)
          → bit_and (if test then c.control else field c.control 0 15) controls
          ≡ (if test then c.control else field c.control 0 15)
      control true = is.written.control
      control false = cleared-bit c.control controls is.written.control

  unit-keeps : (number : ℕ) (c : Channel) → Keeps c → Keeps (after_unit_end number c)
  unit-keeps number c is =
      either-channel c.active (after_unit number c) c
      (either-channel (is_last c) (after_run number (after_step number c)) (after_step number c)
      (run-keeps number (after_step number c) (step-keeps number c is)) (step-keeps number c is)) is

  control-keeps : (number value : ℕ) (c : Channel) → Keeps c → Keeps (with_control number (bit_and value controls) c)
  control-keeps number value c is = record {
    holds = record {
      source = is.holds.source;
      target = is.holds.target;
      inner_source =
          either-word (starts (bit_and value controls) c) c.source c.inner_source is.holds.source is.holds.inner_source;
      inner_target =
          either-word (starts (bit_and value controls) c) c.target c.inner_target is.holds.target is.holds.inner_target;
      left = left (starts (bit_and value controls) c);
    };
    written = record {
      source = is.written.source;
      target = is.written.target;
      count = is.written.count;
      control = and-twice value controls;
    };
  }
    where
      either-word : (test : Bool) (one other : ℕ) → one < 2 ^ 32 → other < 2 ^ 32
          → (if test then one else other) < 2 ^ 32
      either-word true one other first second = first
      either-word false one other first second = second

      left : (test : Bool) → (if test then count_loaded number c else c.left) ≤ 0x10000
      left true = loaded-count number c is
      left false = is.holds.left

  source-low : (value : ℕ) (c : Channel) → Keeps c
      → Keeps (record c { source = with_low (bit_and value 0xffff) c.source })
  source-low value c is =
      let small : bit_and value 0xffff < 2 ^ 16 = omega (arith, and_mask value 16) in
      let same : field (with_low (bit_and value 0xffff) c.source) 16 16 ≡ field c.source 16 16 =
      omega (arith, small, is.holds.source) in
      record {
        holds = record {
          source = omega (arith, small, is.holds.source);
          target = is.holds.target;
          inner_source = is.holds.inner_source;
          inner_target = is.holds.inner_target;
          left = is.holds.left;
        };
        written = record {
          source = rw same is.written.source;
          target = is.written.target;
          count = is.written.count;
          control = is.written.control;
        };
      }

  target-low : (value : ℕ) (c : Channel) → Keeps c
      → Keeps (record c { target = with_low (bit_and value 0xffff) c.target })
  target-low value c is =
      let small : bit_and value 0xffff < 2 ^ 16 = omega (arith, and_mask value 16) in
      let same : field (with_low (bit_and value 0xffff) c.target) 16 16 ≡ field c.target 16 16 =
      omega (arith, small, is.holds.target) in
      record {
        holds = record {
          source = is.holds.source;
          target = omega (arith, small, is.holds.target);
          inner_source = is.holds.inner_source;
          inner_target = is.holds.inner_target;
          left = is.holds.left;
        };
        written = record {
          source = is.written.source;
          target = rw same is.written.target;
          count = is.written.count;
          control = is.written.control;
        };
      }

  source-high : (value : ℕ) (c : Channel) → sources < 2 ^ 16 → Keeps c
      → Keeps (record c { source = with_high (bit_and value sources) c.source })
  source-high value c small is =
      let half : bit_and value sources < 2 ^ 16 = omega (arith, small, and_le_r value sources) in
      let same : field (with_high (bit_and value sources) c.source) 16 16 ≡ bit_and value sources =
      omega (arith, half) in
      record {
        holds = record {
          source = omega (arith, half);
          target = is.holds.target;
          inner_source = is.holds.inner_source;
          inner_target = is.holds.inner_target;
          left = is.holds.left;
        };
        written = record {
          source = rw same (and-twice value sources);
          target = is.written.target;
          count = is.written.count;
          control = is.written.control;
        };
      }

  target-high : (value : ℕ) (c : Channel) → targets < 2 ^ 16 → Keeps c
      → Keeps (record c { target = with_high (bit_and value targets) c.target })
  target-high value c small is =
      let half : bit_and value targets < 2 ^ 16 = omega (arith, small, and_le_r value targets) in
      let same : field (with_high (bit_and value targets) c.target) 16 16 ≡ bit_and value targets =
      omega (arith, half) in
      record {
        holds = record {
          source = is.holds.source;
          target = omega (arith, half);
          inner_source = is.holds.inner_source;
          inner_target = is.holds.inner_target;
          left = is.holds.left;
        };
        written = record {
          source = is.written.source;
          target = rw same (and-twice value targets);
          count = is.written.count;
          control = is.written.control;
        };
      }

  count-keeps : (value : ℕ) (c : Channel) → Keeps c → Keeps (record c { count = bit_and value counts })
  count-keeps value c is = record {
    holds = record {
      source = is.holds.source;
      target = is.holds.target;
      inner_source = is.holds.inner_source;
      inner_target = is.holds.inner_target;
      left = is.holds.left;
    };
    written = record {
      source = is.written.source;
      target = is.written.target;
      count = and-twice value counts;
      control = is.written.control;
    };
  }

-- a write elsewhere
untouched : (number offset value : ℕ) (c : Channel) → offset ≢ base number → offset ≢ base number + 2
    → offset ≢ base number + 4 → offset ≢ base number + 6 → offset ≢ base number + 8 → offset ≢ base number + 10
    → channel_set_at number offset value c ≡ c
untouched number offset value c n0 n2 n4 n6 n8 n10 = grind (arith, nat_tests, n0, n2, n4, n6, n8, n10)

few14 : 0x3fff < 0x10000
few14 = omega arith

few16 : 0xffff < 0x10000
few16 = omega arith

abbrev Keeps0 : Channel → Type 0
Keeps0 = Keeps 0x07ff 0x07ff 0x3fff 0xf7e0 few14

abbrev Keeps1 : Channel → Type 0
Keeps1 = Keeps 0x0fff 0x07ff 0x3fff 0xf7e0 few14

abbrev Keeps3 : Channel → Type 0
Keeps3 = Keeps 0x0fff 0x0fff 0xffff 0xffe0 few16

module _ (value : ℕ) (c : Channel) where
  stored0 : (offset : ℕ) → Keeps0 c
      → Keeps0 (channel_set_at 0 offset (bit_and value (row_at dma_rows offset).write_mask) c)
  unfolding dma_rows row_at
  stored0 offset is =
      let after : ℕ → Type 0 = λ k. Keeps0 (channel_set_at 0 k (bit_and value (row_at dma_rows k).write_mask) c) in
      at-place after 0x0b0 offset (source-low 0x07ff 0x07ff 0x3fff 0xf7e0 few14 value c is)
      (λ n0. at-place after 0x0b2 offset (source-high 0x07ff 0x07ff 0x3fff 0xf7e0 few14 value c (omega arith) is)
      (λ n2. at-place after 0x0b4 offset (target-low 0x07ff 0x07ff 0x3fff 0xf7e0 few14 value c is)
      (λ n4. at-place after 0x0b6 offset (target-high 0x07ff 0x07ff 0x3fff 0xf7e0 few14 value c (omega arith) is)
      (λ n6. at-place after 0x0b8 offset (count-keeps 0x07ff 0x07ff 0x3fff 0xf7e0 few14 value c is)
      (λ n8. at-place after 0x0ba offset (control-keeps 0x07ff 0x07ff 0x3fff 0xf7e0 few14 0 value c is)
      (λ n10. rw (untouched 0 offset (bit_and value (row_at dma_rows offset).write_mask) c n0 n2 n4 n6 n8 n10) is))))))

  stored1 : (offset : ℕ) → Keeps1 c
      → Keeps1 (channel_set_at 1 offset (bit_and value (row_at dma_rows offset).write_mask) c)
  unfolding dma_rows row_at
  stored1 offset is =
      let after : ℕ → Type 0 = λ k. Keeps1 (channel_set_at 1 k (bit_and value (row_at dma_rows k).write_mask) c) in
      at-place after 0x0bc offset (source-low 0x0fff 0x07ff 0x3fff 0xf7e0 few14 value c is)
      (λ n0. at-place after 0x0be offset (source-high 0x0fff 0x07ff 0x3fff 0xf7e0 few14 value c (omega arith) is)
      (λ n2. at-place after 0x0c0 offset (target-low 0x0fff 0x07ff 0x3fff 0xf7e0 few14 value c is)
      (λ n4. at-place after 0x0c2 offset (target-high 0x0fff 0x07ff 0x3fff 0xf7e0 few14 value c (omega arith) is)
      (λ n6. at-place after 0x0c4 offset (count-keeps 0x0fff 0x07ff 0x3fff 0xf7e0 few14 value c is)
      (λ n8. at-place after 0x0c6 offset (control-keeps 0x0fff 0x07ff 0x3fff 0xf7e0 few14 1 value c is)
      (λ n10. rw (untouched 1 offset (bit_and value (row_at dma_rows offset).write_mask) c n0 n2 n4 n6 n8 n10) is))))))

  stored2 : (offset : ℕ) → Keeps1 c
      → Keeps1 (channel_set_at 2 offset (bit_and value (row_at dma_rows offset).write_mask) c)
  unfolding dma_rows row_at
  stored2 offset is =
      let after : ℕ → Type 0 = λ k. Keeps1 (channel_set_at 2 k (bit_and value (row_at dma_rows k).write_mask) c) in
      at-place after 0x0c8 offset (source-low 0x0fff 0x07ff 0x3fff 0xf7e0 few14 value c is)
      (λ n0. at-place after 0x0ca offset (source-high 0x0fff 0x07ff 0x3fff 0xf7e0 few14 value c (omega arith) is)
      (λ n2. at-place after 0x0cc offset (target-low 0x0fff 0x07ff 0x3fff 0xf7e0 few14 value c is)
      (λ n4. at-place after 0x0ce offset (target-high 0x0fff 0x07ff 0x3fff 0xf7e0 few14 value c (omega arith) is)
      (λ n6. at-place after 0x0d0 offset (count-keeps 0x0fff 0x07ff 0x3fff 0xf7e0 few14 value c is)
      (λ n8. at-place after 0x0d2 offset (control-keeps 0x0fff 0x07ff 0x3fff 0xf7e0 few14 2 value c is)
      (λ n10. rw (untouched 2 offset (bit_and value (row_at dma_rows offset).write_mask) c n0 n2 n4 n6 n8 n10) is))))))

  stored3 : (offset : ℕ) → Keeps3 c
      → Keeps3 (channel_set_at 3 offset (bit_and value (row_at dma_rows offset).write_mask) c)
  unfolding dma_rows row_at
  stored3 offset is =
      let after : ℕ → Type 0 = λ k. Keeps3 (channel_set_at 3 k (bit_and value (row_at dma_rows k).write_mask) c) in
      at-place after 0x0d4 offset (source-low 0x0fff 0x0fff 0xffff 0xffe0 few16 value c is)
      (λ n0. at-place after 0x0d6 offset (source-high 0x0fff 0x0fff 0xffff 0xffe0 few16 value c (omega arith) is)
      (λ n2. at-place after 0x0d8 offset (target-low 0x0fff 0x0fff 0xffff 0xffe0 few16 value c is)
      (λ n4. at-place after 0x0da offset (target-high 0x0fff 0x0fff 0xffff 0xffe0 few16 value c (omega arith) is)
      (λ n6. at-place after 0x0dc offset (count-keeps 0x0fff 0x0fff 0xffff 0xffe0 few16 value c is)
      (λ n8. at-place after 0x0de offset (control-keeps 0x0fff 0x0fff 0xffff 0xffe0 few16 3 value c is)
      (λ n10. rw (untouched 3 offset (bit_and value (row_at dma_rows offset).write_mask) c n0 n2 n4 n6 n8 n10) is))))))

-- all four
record KeepAll (cs : FourChannels) : Type 0 where
  channel0 : Keeps0 cs.channel0
  channel1 : Keeps1 cs.channel1
  channel2 : Keeps1 cs.channel2
  channel3 : Keeps3 cs.channel3

keep-all : (cs : FourChannels) → ChannelsHold cs → KeepAll cs
keep-all cs hold =
    let written = are-written cs hold.stored in
    record {
      channel0 = record { holds = hold.channel0; written = written.channel0 };
      channel1 = record { holds = hold.channel1; written = written.channel1 };
      channel2 = record { holds = hold.channel2; written = written.channel2 };
      channel3 = record { holds = hold.channel3; written = written.channel3 };
    }

all-hold : (cs : FourChannels) → AreConsistent cs → KeepAll cs → ChannelsHold cs
all-hold cs consistent keep = record {
  channel0 = keep.channel0.holds;
  channel1 = keep.channel1.holds;
  channel2 = keep.channel2.holds;
  channel3 = keep.channel3.holds;
  consistent = consistent;
  stored = written-stored cs (record {
    channel0 = keep.channel0.written;
    channel1 = keep.channel1.written;
    channel2 = keep.channel2.written;
    channel3 = keep.channel3.written;
  });
}

module _ (consistently : StaysConsistent) where
  pub channels-write : (offset value : ℕ) (cs : FourChannels) → ChannelsHold cs
      → ChannelsHold (dma_written offset value cs)
  channels-write offset value cs hold =
      let keep = keep-all cs hold in
      all-hold (dma_written offset value cs) (consistently.write offset value cs hold.consistent) (record {
        channel0 = stored0 value cs.channel0 offset keep.channel0;
        channel1 = stored1 value cs.channel1 offset keep.channel1;
        channel2 = stored2 value cs.channel2 offset keep.channel2;
        channel3 = stored3 value cs.channel3 offset keep.channel3;
      })

  pub channels-event : (event : DmaEvent) (cs : FourChannels) → ChannelsHold cs → ChannelsHold (after_trigger event cs)
  channels-event event cs hold =
      let keep = keep-all cs hold in
      all-hold (after_trigger event cs) (consistently.event event cs hold.consistent) (record {
        channel0 = event-keeps 0x07ff 0x07ff 0x3fff 0xf7e0 few14 event 0 cs.channel0 keep.channel0;
        channel1 = event-keeps 0x0fff 0x07ff 0x3fff 0xf7e0 few14 event 1 cs.channel1 keep.channel1;
        channel2 = event-keeps 0x0fff 0x07ff 0x3fff 0xf7e0 few14 event 2 cs.channel2 keep.channel2;
        channel3 = event-keeps 0x0fff 0x0fff 0xffff 0xffe0 few16 event 3 cs.channel3 keep.channel3;
      })

  pub channels-unit : (number : ℕ) (cs : FourChannels) → ChannelsHold cs → ChannelsHold (after_unit_at number cs)
  channels-unit number cs hold =
      let keep = keep-all cs hold in
      all-hold (after_unit_at number cs) (consistently.unit number cs hold.consistent) (record {
        channel0 =
            either-channel 0x07ff 0x07ff 0x3fff 0xf7e0 few14 (number == 0) (after_unit_end 0 cs.channel0) cs.channel0
            (unit-keeps 0x07ff 0x07ff 0x3fff 0xf7e0 few14 0 cs.channel0 keep.channel0) keep.channel0;
        channel1 =
            either-channel 0x0fff 0x07ff 0x3fff 0xf7e0 few14 (number == 1) (after_unit_end 1 cs.channel1) cs.channel1
            (unit-keeps 0x0fff 0x07ff 0x3fff 0xf7e0 few14 1 cs.channel1 keep.channel1) keep.channel1;
        channel2 =
            either-channel 0x0fff 0x07ff 0x3fff 0xf7e0 few14 (number == 2) (after_unit_end 2 cs.channel2) cs.channel2
            (unit-keeps 0x0fff 0x07ff 0x3fff 0xf7e0 few14 2 cs.channel2 keep.channel2) keep.channel2;
        channel3 =
            either-channel 0x0fff 0x0fff 0xffff 0xffe0 few16 (number == 3) (after_unit_end 3 cs.channel3) cs.channel3
            (unit-keeps 0x0fff 0x0fff 0xffff 0xffe0 few16 3 cs.channel3 keep.channel3) keep.channel3;
      })

  pub channels-reset : ChannelsHold channels_at_reset
  channels-reset =
      all-hold channels_at_reset consistently.reset
      (record {
        channel0 =
            record { holds = empty; written = record { source = refl; target = refl; count = refl; control = refl } };
        channel1 =
            record { holds = empty; written = record { source = refl; target = refl; count = refl; control = refl } };
        channel2 =
            record { holds = empty; written = record { source = refl; target = refl; count = refl; control = refl } };
        channel3 =
            record { holds = empty; written = record { source = refl; target = refl; count = refl; control = refl } };
      })
    where
      empty : ChannelHolds channel_at_reset
      empty = record {
        source = omega arith;
        target = omega arith;
        inner_source = omega arith;
        inner_target = omega arith;
        left = omega arith;
      }
