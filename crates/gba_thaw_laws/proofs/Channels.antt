-- The DMA channels.
use Rattle.std.proofs.Common.{◌≡◌, ℕ, ◌+◌, ◌*◌, ◌%◌, ◌^◌, ◌<◌, List, refl, lit<}
use Rattle.std.specs.List.{list_all}
use Rattle.std.specs.Prelude.{true}
use Rattle.gba_terms.specs.Bits.{field}
use Rattle.gba_devices.specs.Registers.{half_listed, owner_of}
use Rattle.gba_dma.specs.Channels.{FourChannels, dma_kept, dma_rows}
use Rattle.gba_dma.specs.declared.channel.Channel.{Channel}
use Rattle.gba_io.specs.Core.{Core, core_half_listed}
use Rattle.gba_loose.specs.Again.{IsSameRun}
use Rattle.gba_loose.proofs.Made.{made-again}
use Rattle.gba_loose_devices.specs.Devices.{channel_poured, channels_poured}
use Rattle.gba_loose_devices.specs.Values.{half_at}
use Rattle.gba_numbers.specs.Numbers.{ConsoleNumbers}
use Rattle.gba_device_laws.specs.Holding.{ChannelHolds, ChannelsHold}
use Rattle.gba_thaw_laws.specs.Laws.{ChannelsThawAgain}
use Rattle.gba_thaw_laws.specs.Said.{AreHalvesOf}
use Rattle.gba_thaw_laws.proofs.Bits.{is_half_row, stored-small, uncut, word-again}

-- the six halfwords of a channel
record IsSaid (number : ℕ) (c : Channel) (io : List ℕ) : Type 0 where
  source_low : half_at (0x0b0 + 12 * number) io ≡ field c.source 0 16 % 2 ^ 16
  source_high : half_at (0x0b0 + 12 * number + 2) io ≡ field c.source 16 16 % 2 ^ 16
  target_low : half_at (0x0b4 + 12 * number) io ≡ field c.target 0 16 % 2 ^ 16
  target_high : half_at (0x0b4 + 12 * number + 2) io ≡ field c.target 16 16 % 2 ^ 16
  count : half_at (0x0b8 + 12 * number) io ≡ c.count % 2 ^ 16
  control : half_at (0x0ba + 12 * number) io ≡ c.control % 2 ^ 16

channel-again : (number : ℕ) (c : Channel) (n : ConsoleNumbers) (io : List ℕ) → IsSaid number c io
    → IsSameRun (channel_poured number n io) c → ChannelHolds c → c.count < 2 ^ 16 → c.control < 2 ^ 16
    → channel_poured number n io ≡ c
channel-again number c n io said run holds count control =
    λ i. record {
      source = word-again c.source _ _ said.source_low said.source_high holds.source i;
      target = word-again c.target _ _ said.target_low said.target_high holds.target i;
      count = uncut _ c.count said.count count i;
      control = uncut _ c.control said.control control i;
      active = run.active i;
      first = run.first i;
      inner_source = run.source i;
      inner_target = run.target i;
      left = run.left i;
    }

rows-halves : list_all is_half_row dma_rows ≡ true
unfolding dma_rows
rows-halves = refl

pub dma-small : (cs : FourChannels) → ChannelsHold cs → (offset : ℕ) → dma_kept offset cs < 2 ^ 16
dma-small cs holds = stored-small dma_rows (λ offset. dma_kept offset cs) rows-halves holds.stored

module _ (b : Core) (io : List ℕ) (halves : AreHalvesOf b io) where
  said0 : IsSaid 0 b.devices.channels.channel0 io
  unfolding core_half_listed half_listed owner_of
  said0 = record {
    source_low = halves 0x58 (lit< tt);
    source_high = halves 0x59 (lit< tt);
    target_low = halves 0x5a (lit< tt);
    target_high = halves 0x5b (lit< tt);
    count = halves 0x5c (lit< tt);
    control = halves 0x5d (lit< tt);
  }

  said1 : IsSaid 1 b.devices.channels.channel1 io
  unfolding core_half_listed half_listed owner_of
  said1 = record {
    source_low = halves 0x5e (lit< tt);
    source_high = halves 0x5f (lit< tt);
    target_low = halves 0x60 (lit< tt);
    target_high = halves 0x61 (lit< tt);
    count = halves 0x62 (lit< tt);
    control = halves 0x63 (lit< tt);
  }

  said2 : IsSaid 2 b.devices.channels.channel2 io
  unfolding core_half_listed half_listed owner_of
  said2 = record {
    source_low = halves 0x64 (lit< tt);
    source_high = halves 0x65 (lit< tt);
    target_low = halves 0x66 (lit< tt);
    target_high = halves 0x67 (lit< tt);
    count = halves 0x68 (lit< tt);
    control = halves 0x69 (lit< tt);
  }

  said3 : IsSaid 3 b.devices.channels.channel3 io
  unfolding core_half_listed half_listed owner_of
  said3 = record {
    source_low = halves 0x6a (lit< tt);
    source_high = halves 0x6b (lit< tt);
    target_low = halves 0x6c (lit< tt);
    target_high = halves 0x6d (lit< tt);
    count = halves 0x6e (lit< tt);
    control = halves 0x6f (lit< tt);
  }

pub channels-again : ChannelsThawAgain
unfolding channels_poured
channels-again b n io says holds =
    let cs = b.devices.channels in
    let run = (made-again b n says.numbers says.range).runs in
    let small = dma-small cs holds in
    λ i. record {
      channel0 =
          channel-again 0 cs.channel0 n io (said0 b io says.halves) (run 0 io (lit< tt)) holds.channel0 (small 0x0b8)
          (small 0x0ba) i;
      channel1 =
          channel-again 1 cs.channel1 n io (said1 b io says.halves) (run 1 io (lit< tt)) holds.channel1 (small 0x0c4)
          (small 0x0c6) i;
      channel2 =
          channel-again 2 cs.channel2 n io (said2 b io says.halves) (run 2 io (lit< tt)) holds.channel2 (small 0x0d0)
          (small 0x0d2) i;
      channel3 =
          channel-again 3 cs.channel3 n io (said3 b io says.halves) (run 3 io (lit< tt)) holds.channel3 (small 0x0dc)
          (small 0x0de) i;
    }
