use Rattle.std.proofs.Common.{ℕ, ◌≡◌, ◌-◌, ◌∙◌, List, ap, sym, subst, arith, drop}
use Rattle.gba_console.specs.Keys.{next_due}
use Rattle.gba_console.specs.Waiting.{IsKept}
use Rattle.gba_console.specs.declared.keys.KeyState.{KeyState}
use Rattle.gba_io.specs.Core.{Core}
use Rattle.gba_console.proofs.Images.{still-stand}
use Rattle.gba_console.proofs.Poured.{poured-core, poured-images, poured-kept}
use Rattle.gba_console.proofs.Console.pour.Goals as goal

pub invariant_of-self : goal.invariant_of-self
invariant_of-self c =
    let inside = c.self.inside in
    let b = inside.board in
    let parts = c.args.parts in
    let lines = c.args.lines.now in
    let after = c.pour_at.new.board in
    let applied = rw (← c.self.view_is) at c.requires.applied in
    let fit = c.requires.fit in
    let core = poured-core inside.off c.args.until parts.board lines b after c.pour_at.ensures in
    let clock : after.core.devices.clock ≡ c.clock-clock.result
    = ap (λ (x : Core). x.devices.clock) core ∙ sym c.clock-clock.ensures.value in
    let was : after.core.devices.clock - (c.clock-clock.result - parts.was) ≡ parts.was
    = omega (arith, clock, fit.begun, c.clock-clock.ensures.value) in (
      c.self.invariant.0,
      c.self.invariant.1,
      omega (arith, applied, inside.keys.ok.0),
      c.due_at-self-inside.ensures
          ∙ ap (λ (changes : List KeyState). next_due inside.off c.clock-clock.result (drop parts.applied changes))
          c.as_slice.ensures.value
          ∙ ap (λ (n : ℕ). next_due inside.off n (drop parts.applied inside.keys.items)) (sym clock),
      omega (arith, clock),
      subst (λ (n : ℕ). IsKept inside.off n after) (sym was)
          (subst (IsKept inside.off parts.was) (sym c.pour_at.ensures)
          (poured-kept inside.off parts.was c.args.until parts.board lines b c.self.invariant.5.most fit
          c.holds_of.ensures.place c.holds_of.ensures.seat)),
      still-stand b.core.memory after.core.memory inside.halves.items
          (poured-images parts.board.devices parts.board.serial lines b.core after.core core) c.self.invariant.6,
    )
