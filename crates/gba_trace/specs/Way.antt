use Rattle.std.specs.Prelude.{◌≡◌, ◌≤◌, ℕ, map}
use Rattle.std.specs.List.{All}
use Rattle.gba_console.specs.Machine.{Machine, limit_of, without_limit}
use Rattle.gba_console.specs.Shorn.{shorn}
use Rattle.link_mapped.specs.Mapped.{mapped}
use Rattle.link_order.specs.Cut.{Cut, plain_cut}

-- How far a trace has come.

abbrev pub Machines : Type 0
Machines = Cut Machine

-- a cut but for what no step looks at
abbrev pub sheared : Cut Machine → Cut Machine
sheared cut = mapped (λ i. shorn) cut

-- the consoles are those of a cut, but for that
abbrev pub Shows : Cut Machine → Cut Machine → Type 0
Shows plain cut = sheared (plain_cut without_limit cut) ≡ sheared plain

-- each of them has room up to a clock at least
abbrev pub HaveRoom : ℕ → Cut Machine → Type 0
HaveRoom end cut = All (λ limit. end ≤ limit) (map limit_of cut.consoles)
