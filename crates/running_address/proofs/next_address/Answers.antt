-- `next_address` meets its contract. The table has a place for each count of zeros that a number can end in. Assumes nothing.
use Rattle.running_address.proofs.Address.{next_by_table}
use Rattle.running_address.proofs.next_address.Goals as goal

pub returns : goal.returns
returns c = next_by_table _ _ _ c.requires.1
