-- `with_free` meets its contract. The loop's invariant: the lines that there were stand first. Assumes nothing.
use Rattle.index_order.specs.Design.Order.{Extends}
use Rattle.index_order.proofs.with_free.Given as goal

abbrev pub invariant-loop-p : goal.invariant-loop-p
invariant-loop-p l = Extends l.initial.out l.out
