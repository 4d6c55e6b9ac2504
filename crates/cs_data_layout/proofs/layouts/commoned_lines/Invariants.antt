-- `commoned_lines` meets its contract. The loop's invariant: the lines passed are in place. Assumes nothing.
use Prim.Native.Nat.{◌+◌, ◌≤◌}
use lib.ListN.{get_or}
use Rattle.lists.proofs.Tab.{Filled}
use Rattle.cs_data_layout.specs.Choices.{commoned_line}
use Rattle.cs_data_layout.proofs.layouts.commoned_lines.Given as goal

abbrev pub invariant-loop-k : goal.invariant-loop-k
invariant-loop-k l = Filled 6 (λ k. commoned_line l.d (λ j. get_or l.gpios (l.at + j) 0) k) l.out l.k × (l.at ≤ 64)
