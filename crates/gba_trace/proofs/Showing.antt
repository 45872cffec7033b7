-- What a step of the consoles that are kept shows of the step that they stand for.
use Rattle.std.proofs.Common.{◌≡◌, ℕ, ◌<◌, ◌∙◌, List, [], length, get_or, map, Option, Some, refl, ap, sym, arith}
use Rattle.std.specs.Prelude.{option_map, slice_get, unwrap_or}
use Rattle.std.proofs.lemmas.List.{get_or-map, length-map}
use Rattle.std.proofs.lemmas.Option.{slice_get-get_or}
use Rattle.gba_console.specs.Alone.{console_kind}
use Rattle.gba_console.specs.Machine.{Machine, without_limit}
use Rattle.gba_console.specs.Shorn.{TellsAlike, seen, shorn}
use Rattle.gba_console.specs.Step.{stepped}
use Rattle.gba_freeze.specs.StepLine.{step_line}
use Rattle.link_mapped.specs.Law.{StepAlike, StepsAlike}
use Rattle.link_mapped.specs.Mapped.{IsUnseen}
use Rattle.link_node.specs.declared.signal.Incoming.{Incoming}
use Rattle.link_order.specs.Cut.{Cut, clock_at, plain_cut}
use Rattle.link_order.specs.GlobalOrder.{least, step}
use Rattle.gba_trace.specs.Trace.{next_line, stepped_cut}
use Rattle.gba_trace.specs.Way.{Shows, sheared}

-- a line looks at nothing that is left out
line-seen : (m : Machine) → step_line (seen m) ≡ step_line m
unfolding step_line
line-seen m = refl

line-plain : (m : Machine) → step_line (without_limit m) ≡ step_line m
unfolding step_line
line-plain m = refl

module _ (unseen : IsUnseen console_kind (λ i. shorn) (λ i. shorn)) (tells : TellsAlike) (law : StepsAlike console_kind)
    (plain cut : Cut Machine) (shows : Shows plain cut) where
  lines : (i : ℕ) (x y : Machine) (due : List Incoming) → shorn x ≡ shorn y
      → step_line (stepped due x) ≡ step_line (stepped due y)
  lines i x y due same =
      sym (line-seen (stepped due x)) ∙ ap step_line (tells due x y same) ∙ line-seen (stepped due y)

  alike : StepAlike console_kind (λ i. shorn) (λ i. shorn) (plain_cut without_limit cut) plain
  alike = law (λ i. shorn) (λ i. shorn) (plain_cut without_limit cut) plain unseen shows

  pub clock-shown : clock_at console_kind (plain_cut without_limit cut)
      (least console_kind (plain_cut without_limit cut))
      ≡ clock_at console_kind plain (least console_kind plain)
  clock-shown = alike.clock

  pub step-shown : (after : Cut Machine) → plain_cut without_limit after ≡ stepped_cut (plain_cut without_limit cut)
      → Shows (stepped_cut plain) after
  step-shown after e = ap sheared e ∙ alike.next

  pub line-shown : (after : Cut Machine) (player : ℕ) (m : Machine)
      → plain_cut without_limit after ≡ stepped_cut (plain_cut without_limit cut)
      → player ≡ least console_kind (plain_cut without_limit cut) → player < length after.consoles
      → m ≡ get_or after.consoles player m → step_line m ≡ next_line plain
  line-shown after player m e is within here =
      let stands : slice_get (map without_limit after.consoles) player ≡ Some (without_limit m) =
      slice_get-get_or (map without_limit after.consoles) player (without_limit m)
      (omega (arith, within, length-map after.consoles without_limit))
      ∙ ap Some (get_or-map without_limit after.consoles player m (without_limit m) within
      ∙ ap without_limit (sym here)) in
      let of : List Machine → Option (List ℕ) = λ ms. option_map step_line (slice_get ms player) in
      ap (λ (line : List ℕ). line) (sym (line-plain m))
      ∙ ap (λ (o : Option Machine). unwrap_or (option_map step_line o) []) (sym stands)
      ∙ ap (λ (c : Cut Machine). unwrap_or (of c.consoles) []) e
      ∙ ap (λ (i : ℕ). unwrap_or
      (option_map step_line (slice_get (step console_kind (plain_cut without_limit cut)).consoles i)) []) is
      ∙ ap (λ (o : Option (List ℕ)). unwrap_or o []) (alike.told step_line lines)
