-- What a step tells.
use Rattle.std.proofs.Common.{ℕ, ◌≡◌, ◌<◌, ◌^◌, Bool, true, false, Option, None, Some, if◌then◌else◌, refl, arith}
use Rattle.std.specs.Prelude.{IfSome, option_map}
use Rattle.gba_serial.specs.SerialUnit.{SerialUnit, mode_of}
use Rattle.gba_serial.specs.Timing.{is_same}
use Rattle.gba_serial.specs.Tell.{has_news, outgoing, reply_told, silent, start_told}
use Rattle.gba_serial.specs.Law.{TellsOnce}
use Rattle.link_node.specs.Due.{FitsWidths}
use Rattle.link_node.specs.declared.signal.LinkMode.{LinkMode}
use Rattle.link_node.specs.declared.signal.LinkMode.TheVariants.{Normal8, Normal32, Multi, Other}
use Rattle.link_node.specs.declared.signal.Signal.{Signal}
use Rattle.link_node.specs.declared.signal.Start.{Start}

pub start_told-fits : (start : Option Start)
    → IfSome (option_map start_told start) (λ told. (told.speed < 4) × (told.word < 2 ^ 32))
start_told-fits None = tt
start_told-fits (Some start) = (omega arith, omega arith)

pub reply_told-fits : (reply : Option ℕ) → IfSome (option_map reply_told reply) (λ word. word < 2 ^ 32)
reply_told-fits None = tt
reply_told-fits (Some word) = omega arith

-- what holds of a signal holds of it where it is told
told_where : (P : Signal → Type 0) (told : Bool) (signal : Signal) → P signal
    → IfSome (if told then Some signal else None) P
told_where P true signal holds = holds
told_where P false signal holds = tt

pub outgoing-bears : (clock : ℕ) (u : SerialUnit) → IfSome (outgoing clock u) (λ signal. signal.clock ≡ clock)
unfolding outgoing
outgoing-bears clock u = told_where (λ signal. signal.clock ≡ clock) (has_news u) _ refl

pub outgoing-fits : (clock : ℕ) (u : SerialUnit) → IfSome (outgoing clock u) FitsWidths
unfolding outgoing
outgoing-fits clock u = told_where FitsWidths (has_news u) _ (start_told-fits u.start, reply_told-fits u.reply)

pub is_same-self : (mode : LinkMode) → is_same mode mode ≡ true
is_same-self Normal8 = refl
is_same-self Normal32 = refl
is_same-self Multi = refl
is_same-self Other = refl

pub outgoing-silent : (clock : ℕ) (u : SerialUnit) → outgoing clock (silent u) ≡ None
unfolding outgoing
outgoing-silent clock u = rw (is_same-self (mode_of u)) refl

pub tells : TellsOnce
tells = record { bears = outgoing-bears; fits = outgoing-fits; once = outgoing-silent }
