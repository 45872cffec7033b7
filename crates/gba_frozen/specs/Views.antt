use Rattle.gba_frozen.specs.Lines.{Said, Nothing, Values, QueueBytes, WaveBytes, MemoryBytes, Colours, Live}
use Rattle.gba_frozen.specs.declared.lines.FrozenLine.{FrozenLine}
use Rattle.gba_frozen.specs.declared.lines.FrozenLine.TheVariants as line

-- what a line says, as definitions see it
abbrev pub said_value : FrozenLine → Said
said_value line.Nothing = Nothing
said_value (line.Values which values) = Values which values.items
said_value (line.Queue queue current bytes) = QueueBytes queue current bytes.items
said_value (line.Wave bank bytes) = WaveBytes bank bytes.items
said_value (line.Memory place bytes) = MemoryBytes place bytes.items
said_value (line.Drawn number colours) = Colours number colours.items
said_value (line.Live sender signal) = Live sender signal
