use Rattle.std.proofs.Common.{◌≡◌, ℕ, true, sym, ◌∙◌, ap, if◌then◌else◌}
use Rattle.gba_bus.specs.declared.width.Width.{Width}
use Rattle.gba_devices.specs.Registers.{io_loaded}
use Rattle.gba_io.specs.Bus.{register_loaded}
use Rattle.gba_io.specs.Core.{Core}
use Rattle.gba_io.specs.SerialRegisters.{is_serial, serial_loaded}
use Rattle.gba_io.proofs.parts.Core.load_register.Goals as goal

of-unit : (offset : ℕ) (width : Width) (b : Core) → is_serial offset ≡ true
    → serial_loaded offset width b.serial ≡ register_loaded offset width b
unfolding register_loaded
of-unit offset width b here =
    sym
    (ap (λ test. if test then serial_loaded offset width b.serial else io_loaded offset width b.devices) here)

pub returns-then-is_serial-clause-value : goal.returns-then-is_serial-clause-value
returns-then-is_serial-clause-value c =
    c.load.ensures
    ∙ ap (λ b. serial_loaded c.args.offset c.args.width b.serial) c.self.view_is
    ∙ of-unit c.args.offset c.args.width c.args.self.now (sym c.is_serial.ensures ∙ c.if-is_serial.true)
