-- `list_data` meets its contract. The loop's invariant: the data pins passed are listed. Assumes nothing.
use mathlib.Core.Path.{◌≡◌}
use mathlib.Core.List.{[]}
use Prim.Native.Nat.{◌≤◌}
use lib.ListN.{get_or}
use Rattle.slot.specs.Description.{chip0}
use Rattle.listing.proofs.Pushed.{Behind}
use Rattle.cs_pins.specs.Pins.{pin_listed}
use Rattle.cs_pins.proofs.list_data.Given as goal

abbrev pub invariant-loop-k : goal.invariant-loop-k
invariant-loop-k l =
    (l.k ≤ l.count) × (l.count ≤ 16) × (l.count ≡ (chip0 l.d).num_data_pins) × Behind [] (λ j. pin_listed l.d (get_or (chip0 l.d).data_pins j 0)) l.pins l.k l.k
