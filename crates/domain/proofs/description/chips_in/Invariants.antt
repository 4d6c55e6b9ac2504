-- `chips_in` meets its contract. The loop's invariant: `ok` says whether the chips passed are in the domain or past the count. Assumes nothing.
use mathlib.Core.Path.{◌≡◌}
use Rattle.lists.specs.Each.{each}
use mathlib.Core.Bool.{◌||◌}
use lib.Dec.{leb}
use lib.ListN.{get_or}
use Rattle.slot.specs.Description.{no_chip}
use Rattle.domain.specs.Domain.{chip_in}
use Rattle.domain.proofs.description.chips_in.Given as goal

abbrev pub invariant-loop-k : goal.invariant-loop-k
invariant-loop-k l = l.ok ≡ each l.k (λ j. leb l.n j || chip_in (get_or l.chips j no_chip) l.word_bytes)
