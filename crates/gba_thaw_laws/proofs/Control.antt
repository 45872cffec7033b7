-- Interrupts, the keypad, WAITCNT and POSTFLG.
use Rattle.std.proofs.Common.{◌≡◌, ℕ, ◌-◌, ◌%◌, ◌^◌, ◌∙◌, ap, Bool, true, false, List, bit_and, refl, lit<}
use Rattle.gba_word.specs.Sums.{flag_number}
use Rattle.gba_terms.specs.Bits.{bit, field}
use Rattle.gba_register.specs.Rows.{row_at}
use Rattle.gba_devices.specs.Registers.{half_listed, owner_of, system_rows}
use Rattle.gba_io.specs.Core.{Core, core_half_listed}
use Rattle.gba_irq.specs.Interrupts.{interrupt_rows}
use Rattle.gba_irq.specs.Keypad.{keypad_rows}
use Rattle.gba_loose_devices.specs.Values.{half_at}
use Rattle.gba_device_laws.specs.Holding.{DevicesHold}
use Rattle.gba_thaw_laws.specs.Laws.{ControlThawsAgain}
use Rattle.gba_thaw_laws.specs.Said.{AreHalvesOf}
use Rattle.gba_thaw_laws.proofs.Bits.{pressed-again, unmasked}

truth-again : (set : Bool) → bit (bit_and (flag_number set) 0x0001 % 2 ^ 16) 0 ≡ set
truth-again true = refl
truth-again false = refl

pub truth-stored : (set : Bool)
    → bit_and (bit_and (flag_number set) 0x0001 % 2 ^ 16) 0x0001 ≡ bit_and (flag_number set) 0x0001 % 2 ^ 16
truth-stored true = refl
truth-stored false = refl

module _ (b : Core) (io : List ℕ) (halves : AreHalvesOf b io) (holds : DevicesHold b.devices) where
  pub enabled-half : half_at 0x200 io ≡ b.devices.interrupts.enabled
  unfolding core_half_listed half_listed owner_of interrupt_rows row_at
  enabled-half =
      unmasked (half_at 0x200 io) b.devices.interrupts.enabled 0x3fff (halves 0x100 (lit< tt)) (holds.interrupts 0x200)
      (lit< tt)

  pub raised-half : half_at 0x202 io ≡ b.devices.interrupts.raised
  unfolding core_half_listed half_listed owner_of interrupt_rows row_at
  raised-half =
      unmasked (half_at 0x202 io) b.devices.interrupts.raised 0x3fff (halves 0x101 (lit< tt)) (holds.interrupts 0x202)
      (lit< tt)

  pub master-half : half_at 0x208 io ≡ bit_and (flag_number b.devices.interrupts.master) 0x0001 % 2 ^ 16
  unfolding core_half_listed half_listed owner_of interrupt_rows row_at
  master-half = halves 0x104 (lit< tt)

  keys-half : 2 ^ 10 - 1 - field (half_at 0x130 io) 0 10 ≡ b.devices.keys.pressed
  unfolding core_half_listed half_listed owner_of keypad_rows row_at
  keys-half = pressed-again (half_at 0x130 io) b.devices.keys.pressed (halves 0x98 (lit< tt)) holds.keys.pressed

  pub keys-control-half : half_at 0x132 io ≡ b.devices.keys.control
  unfolding core_half_listed half_listed owner_of keypad_rows row_at
  keys-control-half =
      unmasked (half_at 0x132 io) b.devices.keys.control 0xc3ff (halves 0x99 (lit< tt)) holds.keys.control (lit< tt)

  pub waits-half : half_at 0x204 io ≡ b.devices.waits
  unfolding core_half_listed half_listed owner_of system_rows row_at
  waits-half = unmasked (half_at 0x204 io) b.devices.waits 0x5fff (halves 0x102 (lit< tt)) holds.waits (lit< tt)

  pub posted-half : half_at 0x300 io ≡ bit_and (flag_number b.devices.posted) 0x0001 % 2 ^ 16
  unfolding core_half_listed half_listed owner_of system_rows row_at
  posted-half = halves 0x180 (lit< tt)

  pub posted-again : bit (half_at 0x300 io) 0 ≡ b.devices.posted
  posted-again = ap (λ (h : ℕ). bit h 0) posted-half ∙ truth-again b.devices.posted

pub control-thaws-again : ControlThawsAgain
control-thaws-again b io halves holds =
    let master = ap (λ (h : ℕ). bit h 0) (master-half b io halves holds) ∙ truth-again b.devices.interrupts.master in
    record {
      interrupts = λ i. record {
        enabled = enabled-half b io halves holds i;
        raised = raised-half b io halves holds i;
        master = master i;
      };
      keys = λ i. record {
        pressed = keys-half b io halves holds i;
        control = keys-control-half b io halves holds i;
      };
    }
