-- The frozen file of consoles on their cable.
use Rattle.std.specs.Prelude.{ℕ, ◌+◌, List, [], ◌∷◌, ◌++◌}
use Rattle.gba_console.specs.Machine.{Machine}
use Rattle.gba_frozen_print.specs.Printed.{digest_text, end_text, ended, signal_text, version_text}
use Rattle.gba_snapshot.specs.Console.{console_text}
use Rattle.link_order.specs.Cut.{Cut}
use Rattle.link_order.specs.declared.sent.Sent.{Sent}

-- the lines of consoles, one behind another, of which this is the first one's number
unfoldable pub consoles_text : ℕ → List Machine → List ℕ
consoles_text player [] = []
consoles_text player (m ∷ machines) = console_text player m ++ consoles_text (player + 1) machines

-- those of the signals that are on their way, in their order
unfoldable pub signals_text : List Sent → List ℕ
signals_text [] = []
signals_text (one ∷ sent) = ended (signal_text one.sender one.signal) ++ signals_text sent

-- The frozen file of consoles on their cable, for the job of a digest: the version, the digest, the consoles by player
-- number, the signals that some other console can still take, and the last line.
unfoldable pub frozen_file : List ℕ → Cut Machine → List ℕ
frozen_file digest cut =
    ended version_text ++ (ended (digest_text digest) ++ (consoles_text 0 cut.consoles
    ++ (signals_text cut.sent ++ ended end_text)))
