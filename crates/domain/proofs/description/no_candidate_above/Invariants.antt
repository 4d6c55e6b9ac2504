-- `no_candidate_above` meets its contract. The loop's invariant: `ok` says whether the pins passed have no candidate above `last`.
-- Assumes nothing.
use mathlib.Core.Path.{◌≡◌}
use Rattle.lists.specs.Each.{each}
use lib.ListN.{get_or}
use Rattle.gpio.specs.Candidates.{none_above}
use Rattle.slot.specs.Description.{no_pin}
use Rattle.domain.proofs.description.no_candidate_above.Given as goal

abbrev pub invariant-loop-k : goal.invariant-loop-k
invariant-loop-k l = l.ok ≡ each l.k (λ j. none_above l.last (get_or l.socket j no_pin).gpios)
