-- `first_fault` meets its contract. The loop's invariant: the pins passed have no fault. Assumes nothing.
use Rattle.std.specs.Prelude.{None}
use mathlib.Core.Path.{◌≡◌}
use mathlib.Core.List.{map}
use Prim.Native.Nat.{◌≤◌}
use lib.ListN.{length, take}
use Rattle.listing.specs.Listing.{first_fault}
use Rattle.listing.specs.Design.Packed.{listed_by}
use Rattle.listing.proofs.first_fault.Given as goal

abbrev pub invariant-loop-k : goal.invariant-loop-k
invariant-loop-k l = (l.k ≤ l.n) × (l.n ≤ 30) × (length l.l.pins ≡ 30) × (first_fault (take l.k (map listed_by l.l.pins)) ≡ None)
