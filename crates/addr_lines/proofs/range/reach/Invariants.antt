-- `reach` meets its contract. The loop's invariant: `entries` is 2 ^ k, and `lines` counts those passed that the limit holds. Assumes nothing.
use mathlib.Core.Path.{◌≡◌}
use Prim.Native.Nat.{◌+◌, ◌^◌, ◌≤◌}
use lib.Dec.{leb}
use Rattle.lists.specs.Each.{tally}
use Rattle.addr_lines.proofs.range.reach.Given as goal

abbrev pub invariant-loop-k : goal.invariant-loop-k
invariant-loop-k l =
    (l.k ≤ 20) × (l.lines ≤ l.k) × (l.entries ≡ 2 ^ l.k) × (l.lines ≡ tally l.k (λ j. leb (2 ^ (j + 1)) l.limit))
