-- `push_commoned` meets its contract. The loop's invariant: the commoned lines passed are listed. Assumes nothing.
use mathlib.Core.List.{map}
use Prim.Native.Nat.{◌+◌, ◌≤◌}
use lib.ListN.{take, get_or}
use Rattle.listing.specs.Design.Packed.{listed_by}
use Rattle.listing.proofs.Pushed.{Behind}
use Rattle.cs_pins.specs.Pins.{kind_listed}
use Rattle.cs_pins.proofs.push_commoned.Given as goal

abbrev pub invariant-loop-k : goal.invariant-loop-k
invariant-loop-k l =
    (l.k ≤ l.count) × (l.count ≤ 6) × (l.at ≤ 24) × Behind (take l.at (map listed_by l.initial.pins)) (λ j. kind_listed l.d (get_or l.d.multi.commoned j 0)) l.pins (l.at + l.k) l.k
