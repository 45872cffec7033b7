use Rattle.gba_exec_transfers.proofs.Scanning.{first_below, first_small}
use Rattle.gba_exec_transfers.proofs.blocks.first_of.Goals as goal

pub returns-clause-most : goal.returns-clause-most
returns-clause-most c = first_small c.args.list c.requires.some c.requires.list

pub returns-clause-below : goal.returns-clause-below
returns-clause-below c = λ small. first_below c.args.list c.requires.some small
