-- `alone_at` meets its contract. The invariant: `ok` says whether the pin shares no candidate with the pins passed. Assumes nothing.
use mathlib.Core.Path.{◌≡◌}
use mathlib.Core.Bool.{◌||◌}
use lib.Dec.{eqb}
use Rattle.lists.specs.Each.{each}
use Rattle.premises.specs.Wired.{board_pin, disjoint}
use Rattle.wired.proofs.board.alone_at.Given as goal

abbrev pub invariant-loop-j : goal.invariant-loop-j
invariant-loop-j l = l.ok ≡ each l.j (λ k. eqb l.i k || disjoint l.pin (board_pin l.n l.b k))
