-- `put_data` meets its contract. The loop's invariant: the data bytes passed are laid over the chip's. Assumes nothing.
use mathlib.Core.Path.{◌≡◌}
use Prim.Native.Nat.{◌≤◌}
use lib.ListN.{length}
use Rattle.lists.specs.Tab.{tab}
use Rattle.laid_bytes.specs.Laid.{laid}
use Rattle.hex_record.specs.Record.{data_byte}
use Rattle.hex_read.proofs.store.put_data.Given as goal

abbrev pub invariant-loop-k : goal.invariant-loop-k
invariant-loop-k l = (l.k ≤ l.n) × (length l.chip ≡ length l.initial.chip) × (l.chip ≡ laid l.initial.chip l.at (tab l.k (data_byte l.line)))
