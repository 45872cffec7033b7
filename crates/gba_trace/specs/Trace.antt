use Rattle.std.specs.Prelude.{ℕ, zero, suc, ◌+◌, Bool, nat_lt, List, [], ◌++◌, option_map, slice_get, unwrap_or, if◌then◌else◌}
use Rattle.gba_console.specs.Alone.{console_kind}
use Rattle.gba_console.specs.Machine.{Machine}
use Rattle.gba_freeze.specs.StepLine.{step_line}
use Rattle.link_order.specs.Cut.{Cut, clock_at, live}
use Rattle.link_order.specs.GlobalOrder.{least, step}

-- The steps of the global order as lines, one for each (this project's profile).

-- whether the next step begins below a clock
abbrev pub goes_on : ℕ → Cut Machine → Bool
goes_on until cut = nat_lt (clock_at console_kind cut (least console_kind cut)) until

-- the cut after that step, of which only the signals are kept that can still be taken
abbrev pub stepped_cut : Cut Machine → Cut Machine
stepped_cut cut = live console_kind (step console_kind cut)

-- the cut after so many steps, or after all that begin below `until`
abbrev pub next_below : ℕ → Cut Machine → Cut Machine
next_below until cut = if goes_on until cut then stepped_cut cut else cut

unfoldable pub after_steps : ℕ → ℕ → Cut Machine → Cut Machine
after_steps zero until cut = cut
after_steps (suc count) until cut = next_below until (after_steps count until cut)

-- the line of the next step: that of the console that made it
abbrev pub next_line : Cut Machine → List ℕ
next_line cut =
    unwrap_or (option_map step_line (slice_get (step console_kind cut).consoles (least console_kind cut))) []

-- the lines of so many steps from a cut on, or of all that begin below `until`, and how many these are
unfoldable pub lines_from : ℕ → ℕ → Cut Machine → List ℕ
lines_from zero until cut = []
lines_from (suc count) until cut =
    let at = after_steps count until cut in
    lines_from count until cut ++ (if goes_on until at then next_line at else [])

unfoldable pub count_from : ℕ → ℕ → Cut Machine → ℕ
count_from zero until cut = 0
count_from (suc count) until cut =
    let at = after_steps count until cut in count_from count until cut + (if goes_on until at then 1 else 0)

-- the same from step `first` on, counted from 0
abbrev pub trace_text : ℕ → ℕ → ℕ → Cut Machine → List ℕ
trace_text first count until cut = lines_from count until (after_steps first until cut)

abbrev pub trace_count : ℕ → ℕ → ℕ → Cut Machine → ℕ
trace_count first count until cut = count_from count until (after_steps first until cut)
