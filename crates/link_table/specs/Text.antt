use Rattle.link_order.specs.NodeKind.{NodeKind}
use Rattle.link_order.specs.Cut.{plain_cut}
use Rattle.link_script.specs.Script.{Script, script}
use Rattle.link_table.specs.declared.key.Key.{Key}

-- this project's profile: the script of a table

-- the script of the key's cut to its limit, the nodes seen as plain records
unfoldable pub script_of : {N C : Type 0} → NodeKind C → (N → C) → Key N → Script
script_of kind plain key = script kind (plain_cut plain key.cut.value) key.limit
