-- `list_lines` meets its contract. The loop's invariant: the lines passed are listed. Assumes nothing.
use mathlib.Core.Path.{◌≡◌}
use mathlib.Core.List.{[]}
use Prim.Native.Nat.{◌≤◌}
use Rattle.listing.proofs.Pushed.{Behind}
use Rattle.addr_lines.specs.Lines.{lines, line_listed}
use Rattle.addr_lines.proofs.list_lines.Given as goal

abbrev pub invariant-loop-n : goal.invariant-loop-n
invariant-loop-n l = (l.n ≤ l.count) × (l.count ≤ 24) × (l.count ≡ lines l.d) × Behind [] (λ k. line_listed l.d k) l.pins l.n l.n
