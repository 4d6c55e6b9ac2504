-- `gather_table` meets its contract. Assumes nothing.
use Rattle.std.proofs.Common.{rules}
use Rattle.byte_tables.proofs.Tables.{gather-joined}
use Rattle.byte_tables.proofs.gather_table.Goals as goal

pub returns : goal.returns
returns c = c.table_of.ensures _ (gather-joined _ _ _) (λ k r l e. search rules)
