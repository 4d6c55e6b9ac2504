-- `named_count` meets its contract. The loop's invariant: `count` is the number of named lines passed, which is at most
-- the number of lines passed. Assumes nothing.
use mathlib.Core.Path.{◌≡◌}
use Prim.Native.Nat.{◌≤◌}
use Rattle.lists.specs.Each.{tally}
use Rattle.slot.specs.Description.{kind_at}
use Rattle.multi_select.specs.MultiCsConfig.{named}
use Rattle.multi_select.proofs.named_count.Given as goal

abbrev pub invariant-loop-k : goal.invariant-loop-k
invariant-loop-k l = (l.k ≤ l.n) × (l.count ≤ l.k) × (l.count ≡ tally l.k (λ j. named (kind_at l.lines j)))
