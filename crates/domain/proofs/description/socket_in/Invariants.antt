-- `socket_in` meets its contract. The loop's invariant: `ok` says whether the pins passed are in the domain. Assumes nothing.
use mathlib.Core.Path.{◌≡◌}
use Rattle.lists.specs.Each.{each}
use lib.ListN.{get_or}
use Rattle.gpio.specs.Candidates.{candidates_in}
use Rattle.slot.specs.Description.{no_pin}
use Rattle.domain.proofs.description.socket_in.Given as goal

abbrev pub invariant-loop-k : goal.invariant-loop-k
invariant-loop-k l = l.ok ≡ each l.k (λ j. candidates_in (get_or l.socket j no_pin).gpios)
