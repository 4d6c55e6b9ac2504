-- `positions_in` meets its contract. The invariant: `ok` says whether the GPIOs passed have positions. Assumes nothing.
use mathlib.Core.Path.{◌≡◌}
use lib.ListN.{get_or}
use Rattle.lists.specs.Each.{each}
use Rattle.picks.specs.Positions.{position_in}
use Rattle.picks.proofs.positions.positions_in.Given as goal

abbrev pub invariant-loop-k : goal.invariant-loop-k
invariant-loop-k l = l.ok ≡ each l.k (λ j. position_in l.base (get_or l.gpios j 0))
