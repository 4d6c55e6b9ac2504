-- `map_within` meets its contract. The invariant: `ok` says whether the GPIOs passed are in. Assumes nothing.
use mathlib.Core.Path.{◌≡◌}
use lib.ListN.{get_or}
use Rattle.lists.specs.Each.{each}
use Rattle.stored_slot.specs.Stored.{within}
use Rattle.stored_slot.proofs.roms.map_within.Given as goal

abbrev pub invariant-loop-k : goal.invariant-loop-k
invariant-loop-k l = l.ok ≡ each l.k (λ j. within l.base l.n (get_or l.map j 0))
