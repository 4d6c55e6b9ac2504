-- `next_row` meets its contract: to the row's end, and one index on. Assumes nothing.
use Rattle.running_address.proofs.Address.{row_end_by_table, row_then}
use Rattle.running_address.proofs.next_row.Goals as goal

pub returns : goal.returns
returns c = row_then _ _ _ _ _ (row_end_by_table _ _ _ c.requires.2) c.next_address.ensures
