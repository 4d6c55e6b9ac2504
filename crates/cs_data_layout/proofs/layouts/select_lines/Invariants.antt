-- `select_lines` meets its contract. The loop's invariant: the lines passed are in place. Assumes nothing.
use Prim.Native.Nat.{◌+◌, ◌≤◌}
use lib.ListN.{get_or, take}
use Rattle.lists.proofs.Tab.{Begun}
use Rattle.cs_data_layout.specs.Layout.{line}
use Rattle.cs_data_layout.specs.Choices.{select_line}
use Rattle.cs_data_layout.proofs.layouts.select_lines.Given as goal

abbrev pub invariant-loop-k : goal.invariant-loop-k
invariant-loop-k l =
    Begun 30 (λ k. select_line (take l.r.count l.r.roles) l.h (λ j. get_or l.gpios (l.at + j) 0) k) (line 0 0) l.out l.k × (l.k ≤ l.count) × (l.count ≤ 30) × (l.r.count ≤ 8) × (l.at ≤ 64)
