use Rattle.std.specs.Prelude.{◌≡◌, ℕ, ◌≤◌, true}
use Rattle.gba_dma.specs.declared.channel.Channel.{Channel}
use Rattle.gba_dma.specs.declared.event.DmaEvent.{DmaEvent}
use Rattle.gba_dma.specs.Channel.{is_enabled}
use Rattle.gba_dma.specs.Channels.{FourChannels, after_lowest_unit, after_trigger, after_unit_at, channels_at_reset, dma_written}

-- A channel's numbers agree: a run goes on only while the channel is enabled, and an enabled channel has units left.
pub record IsConsistent (c : Channel) : Type 0 where
  pub enabled : c.active ≡ true → is_enabled c ≡ true
  pub left : is_enabled c ≡ true → 1 ≤ c.left

pub record AreConsistent (cs : FourChannels) : Type 0 where
  pub channel0 : IsConsistent cs.channel0
  pub channel1 : IsConsistent cs.channel1
  pub channel2 : IsConsistent cs.channel2
  pub channel3 : IsConsistent cs.channel3

-- Of channels with any numbers, also with such as no program comes to, the first of these holds alone: an enabled
-- channel that waits may have no unit left. A run that then begins is one unit long.
abbrev pub IsEnabledRun : Channel → Type 0
IsEnabledRun c = c.active ≡ true → is_enabled c ≡ true

pub record RunsAreEnabled (cs : FourChannels) : Type 0 where
  pub channel0 : IsEnabledRun cs.channel0
  pub channel1 : IsEnabledRun cs.channel1
  pub channel2 : IsEnabledRun cs.channel2
  pub channel3 : IsEnabledRun cs.channel3

-- So they are at reset, and so they stay at each write, event and end of a unit.
pub record StaysConsistent : Type 0 where
  pub reset : AreConsistent channels_at_reset
  pub write : (offset value : ℕ) (cs : FourChannels) → AreConsistent cs → AreConsistent (dma_written offset value cs)
  pub event : (event : DmaEvent) (cs : FourChannels) → AreConsistent cs → AreConsistent (after_trigger event cs)
  pub unit : (number : ℕ) (cs : FourChannels) → AreConsistent cs → AreConsistent (after_unit_at number cs)
  pub lowest : (cs : FourChannels) → AreConsistent cs → AreConsistent (after_lowest_unit cs)

-- What a unit that is to be done next can rely on: its channel has a run that goes on, is enabled and has units left.
pub record HasRun (c : Channel) : Type 0 where
  pub active : c.active ≡ true
  pub enabled : is_enabled c ≡ true
  pub left : 1 ≤ c.left
