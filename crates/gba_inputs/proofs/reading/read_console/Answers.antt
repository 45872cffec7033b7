use Rattle.std.proofs.Common.{refl}
use Rattle.std.specs.Prelude.{option_map}
use Rattle.std.proofs.lemmas.Result.{err_from_is_err_and}
use Rattle.gba_command.proofs.Each.{goes-done}
use Rattle.gba_command.proofs.Plans.{goes-stop, goes-then}
use Rattle.gba_joblog.specs.Views.{console_value}
use Rattle.gba_inputs.specs.InputsPlan.{after_bios, after_cart, after_keys, after_save, any_cart_plan, any_keys_plan, any_save_plan, bios_plan, inputs_of}
use Rattle.gba_inputs.specs.Views.{digested_value}
use Rattle.gba_inputs.proofs.reading.read_console.Goals as goal

pub returns-in_err-bios : goal.returns-in_err-bios
returns-in_err-bios g c =
    let gives = g.S.Store.gives in
    let console = console_value c.args.console.now in
    let p = err_from_is_err_and c.from_residual.result c.from_residual.ensures.1 in
    rw (p.1, p.2)
    (goes-stop gives (bios_plan console.bios) (after_bios console) _ _ _ c.in_err-bios.ensures)

pub returns-in_err-cart : goal.returns-in_err-cart
returns-in_err-cart g c =
    let gives = g.S.Store.gives in
    let console = console_value c.args.console.now in
    let bios = digested_value c.in_ok-bios.bios in
    let p = err_from_is_err_and c.from_residual-in_err-cart.result c.from_residual-in_err-cart.ensures.1 in
    rw (p.1, p.2)
    (goes-then gives (bios_plan console.bios) (after_bios console) _ _ _ bios _ c.in_ok-bios.ensures
    (goes-stop gives (any_cart_plan console.cart) (after_cart console bios) _ _ _ c.in_err-cart.ensures))

pub returns-in_err-save : goal.returns-in_err-save
returns-in_err-save g c =
    let gives = g.S.Store.gives in
    let console = console_value c.args.console.now in
    let bios = digested_value c.in_ok-bios.bios in
    let cart = option_map digested_value c.in_ok-cart.cart in
    let p = err_from_is_err_and c.from_residual-in_err-save.result c.from_residual-in_err-save.ensures.1 in
    rw (p.1, p.2)
    (goes-then gives (bios_plan console.bios) (after_bios console) _ _ _ bios _ c.in_ok-bios.ensures
    (goes-then gives (any_cart_plan console.cart) (after_cart console bios) _ _ _ cart _ c.in_ok-cart.ensures
    (goes-stop gives (any_save_plan console.backup console.save) (after_save console bios cart) _ _ _
    c.in_err-save.ensures)))

pub returns-in_err-changes : goal.returns-in_err-changes
returns-in_err-changes g c =
    let gives = g.S.Store.gives in
    let console = console_value c.args.console.now in
    let bios = digested_value c.in_ok-bios.bios in
    let cart = option_map digested_value c.in_ok-cart.cart in
    let save = option_map digested_value c.in_ok-save.save in
    let p = err_from_is_err_and c.from_residual-in_err-changes.result c.from_residual-in_err-changes.ensures.1 in
    rw (p.1, p.2)
    (goes-then gives (bios_plan console.bios) (after_bios console) _ _ _ bios _ c.in_ok-bios.ensures
    (goes-then gives (any_cart_plan console.cart) (after_cart console bios) _ _ _ cart _ c.in_ok-cart.ensures
    (goes-then gives (any_save_plan console.backup console.save) (after_save console bios cart) _ _ _ save _
    c.in_ok-save.ensures
    (goes-stop gives (any_keys_plan console.changes console.keys) (after_keys console.backup bios cart save) _ _ _
    (rw c.as_slice.ensures.value at c.in_err-changes.ensures)))))

pub returns : goal.returns
returns g c =
    let gives = g.S.Store.gives in
    let console = console_value c.args.console.now in
    let bios = digested_value c.in_ok-bios.bios in
    let cart = option_map digested_value c.in_ok-cart.cart in
    let save = option_map digested_value c.in_ok-save.save in
    let changes = c.in_ok-changes.changes.items in
    rw c.inputs_of.ensures
    (goes-then gives (bios_plan console.bios) (after_bios console) _ _ _ bios _ c.in_ok-bios.ensures
    (goes-then gives (any_cart_plan console.cart) (after_cart console bios) _ _ _ cart _ c.in_ok-cart.ensures
    (goes-then gives (any_save_plan console.backup console.save) (after_save console bios cart) _ _ _ save _
    c.in_ok-save.ensures
    (goes-then gives (any_keys_plan console.changes console.keys) (after_keys console.backup bios cart save) _ _ _
    changes _ (rw c.as_slice.ensures.value at c.in_ok-changes.ensures)
    (goes-done gives (inputs_of console.backup bios cart save changes) _ _ refl)))))
