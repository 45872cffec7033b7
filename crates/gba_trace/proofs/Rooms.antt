-- The room of consoles that are traced.
use Rattle.std.proofs.Common.{◌≡◌, ℕ, ◌+◌, ◌<◌, ◌≤◌, ◌∙◌, List, [], ◌∷◌, length, get_or, map, refl, ap, arith}
use Rattle.std.specs.List.{All}
use Rattle.std.proofs.lemmas.List.{get_or-map, length-map}
use Rattle.gba_console.specs.Alone.{console_kind}
use Rattle.gba_console.specs.Machine.{Machine, clock_of, forgotten, limit_of, without_limit}
use Rattle.gba_console.specs.Segments.{forgotten_cut}
use Rattle.gba_console.specs.Shorn.{shorn}
use Rattle.gba_session.specs.Session.{later_end}
use Rattle.link_mapped.specs.Mapped.{each_mapped}
use Rattle.link_order.proofs.Numbers.{least_is_least}
use Rattle.link_order.specs.Cut.{Cut, clock_at, count, plain_cut}
use Rattle.link_order.specs.GlobalOrder.{least}
use Rattle.gba_trace.specs.Way.{sheared}

-- no console is further behind than the one with the least clock
pub near : (cut : Cut Machine) (clock end until : ℕ)
    → clock ≡ clock_at console_kind (plain_cut without_limit cut) (least console_kind (plain_cut without_limit cut))
    → end ≡ later_end until clock → All (λ (m : Machine). end ≤ clock_of m + 16777216) cut.consoles
near cut clock end until is e k d within =
    let plain : Cut Machine = plain_cut without_limit cut in
    let long = length-map cut.consoles without_limit in
    let there : k < count plain = omega (arith, within, long) in
    let first = least_is_least (clock_at console_kind plain) (count plain) k there in
    let here : clock_at console_kind plain k ≡ clock_of (get_or cut.consoles k d) =
    get_or-map clock_of (map without_limit cut.consoles) k d 0 there
    ∙ ap clock_of (get_or-map without_limit cut.consoles k d d within) in
    omega (arith, is, e, first, here)

-- what is forgotten no step looks at
each-forgotten : (ms : List Machine) → each_mapped (λ i. shorn) (map forgotten ms) ≡ each_mapped (λ i. shorn) ms
each-forgotten [] = refl
each-forgotten (m ∷ ms) = ap (λ (all : List Machine). shorn m ∷ all) (each-forgotten ms)

pub forgotten-sheared : (cut : Cut Machine) → sheared (forgotten_cut cut) ≡ sheared cut
forgotten-sheared cut =
    ap (λ (ms : List Machine). let x : Cut Machine = record cut { consoles = ms } in x) (each-forgotten cut.consoles)

pub still-shown : (cut after : Cut Machine)
    → plain_cut without_limit after ≡ forgotten_cut (plain_cut without_limit cut)
    → sheared (plain_cut without_limit after) ≡ sheared (plain_cut without_limit cut)
still-shown cut after e = ap sheared e ∙ forgotten-sheared (plain_cut without_limit cut)

-- the room of one of them
pub room-of : (end i : ℕ) (consoles : List _) → All (λ limit. end ≤ limit) (map limit_of consoles) → i < length consoles
    → end ≤ get_or (map limit_of consoles) i 0
room-of end i consoles all within = all i 0 (omega (arith, within, length-map consoles limit_of))
