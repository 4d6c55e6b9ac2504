-- `put_chip` meets its contract. The loop's invariant: the records passed are laid over the text's bytes. Assumes nothing.
use mathlib.Core.Path.{◌≡◌}
use Prim.Native.Nat.{◌≤◌}
use lib.ListN.{length}
use Rattle.hex_write.proofs.Chips.{Passed}
use Rattle.hex_write.proofs.put_chip.Given as goal

abbrev pub invariant-loop-k : goal.invariant-loop-k
invariant-loop-k l = (l.k ≤ l.count) × (length l.text ≡ length l.initial.text) × Passed l.chip l.initial.text l.text l.at l.k
