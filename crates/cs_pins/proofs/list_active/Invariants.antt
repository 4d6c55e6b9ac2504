-- `list_active` meets its contract. The loop's invariant: the active ones of the lines passed are listed. Assumes nothing.
use mathlib.Core.Path.{◌≡◌}
use mathlib.Core.List.{◌++◌, map}
use Prim.Native.Nat.{◌+◌, ◌≤◌}
use lib.ListN.{length, take}
use Rattle.slot.specs.Description.{chip0}
use Rattle.listing.specs.Design.Packed.{listed_by}
use Rattle.cs_pins.specs.Pins.{active_listed}
use Rattle.cs_pins.proofs.list_active.Given as goal

abbrev pub invariant-loop-k : goal.invariant-loop-k
invariant-loop-k l =
    (l.k ≤ l.count) × (l.count ≤ 8) × (l.count ≡ (chip0 l.d).control.count) × (l.lines ≡ (chip0 l.d).control) × (l.initial.n ≤ 16) × (l.n ≤ l.initial.n + l.k)
    × (length l.pins ≡ 30) × (take l.n (map listed_by l.pins) ≡ take l.initial.n (map listed_by l.initial.pins) ++ active_listed l.d l.k)
