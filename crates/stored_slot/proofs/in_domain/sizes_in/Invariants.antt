-- `sizes_in` meets its contract. The invariant: `ok` says whether the ROMs passed keep to the domain. Assumes nothing.
use mathlib.Core.Path.{◌≡◌}
use Prim.Native.Nat.{◌^◌}
use lib.Dec.{leb}
use Rattle.lists.specs.Each.{each}
use Rattle.stored_slot.specs.Stored.{rom_at}
use Rattle.stored_slot.proofs.in_domain.sizes_in.Given as goal

abbrev pub invariant-loop-k : goal.invariant-loop-k
invariant-loop-k l = l.ok ≡ each l.k (λ j. leb (rom_at l.s j).chip_size (2 ^ 24))
