-- `turned` meets its contract. The loop's invariant: the lines passed are in place. Assumes nothing.
use lib.ListN.{get_or}
use Rattle.lists.proofs.Tab.{Filled}
use Rattle.dump_lines.specs.Design.Lines.{other_byte}
use Rattle.dump_lines.proofs.turned.Given as goal

abbrev pub invariant-loop-k : goal.invariant-loop-k
invariant-loop-k l = Filled 32 (λ j. get_or l.positions (other_byte j) 0) l.out l.k
