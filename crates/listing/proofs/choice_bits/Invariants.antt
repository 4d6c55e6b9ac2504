-- `choice_bits` meets its contract. The loop's invariant: `sum` counts the two-candidate pins passed. Assumes nothing.
use mathlib.Core.Path.{◌≡◌}
use mathlib.Core.List.{map}
use Prim.Native.Nat.{◌≤◌}
use lib.ListN.{length, take}
use Rattle.listing.specs.Listing.{twos}
use Rattle.listing.specs.Design.Packed.{listed_by}
use Rattle.listing.proofs.choice_bits.Given as goal

abbrev pub invariant-loop-k : goal.invariant-loop-k
invariant-loop-k l = (l.k ≤ l.n) × (l.n ≤ 30) × (l.sum ≤ l.k) × (length l.l.pins ≡ 30) × (l.sum ≡ twos (take l.k (map listed_by l.l.pins)))
