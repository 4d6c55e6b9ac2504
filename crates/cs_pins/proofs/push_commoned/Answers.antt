-- `push_commoned` meets its contract. The loop's invariant: the commoned lines passed are listed. Assumes nothing.
use mathlib.Core.Path.{refl, ◌∙◌}
use native.Mathlib.Nat.{add-zero}
use native.Mathlib.Omega.{arith}
use Rattle.lists.proofs.Lists.{mapped_length}
use Rattle.listing.proofs.Pushed.{behind-none, behind-turn}
use borrow.Author.Rules.{rules}
use Rattle.cs_pins.proofs.push_commoned.Goals as goal

pub loop-k-init : goal.loop-k-init
loop-k-init c = (omega arith, omega arith, omega arith, behind-none (search (mapped_length, rules)) (add-zero _) refl)

pub loop-k-preserved : goal.loop-k-preserved
loop-k-preserved c =
    let v = c.loop-k in
    (omega arith, v.invariant.1, v.invariant.2, behind-turn _ v.invariant.3 (omega arith) (omega arith) (c.kind_listed.ensures ∙ rw c.commoned_kind.ensures))
