-- `unshared` meets its contract. The invariant: `ok` says whether the pins passed share no candidate. Assumes nothing.
use mathlib.Core.Path.{◌≡◌}
use Rattle.lists.specs.Each.{each}
use Rattle.premises.specs.Wired.{alone_at}
use Rattle.wired.proofs.board.unshared.Given as goal

abbrev pub invariant-loop-i : goal.invariant-loop-i
invariant-loop-i l = l.ok ≡ each l.i (λ k. alone_at l.n l.b k)
