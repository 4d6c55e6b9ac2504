-- `off_before` meets its contract. The loop's invariant: `passed` counts the lines passed that overhang. Assumes nothing.
use mathlib.Core.Path.{◌≡◌}
use Prim.Native.Nat.{◌≤◌}
use Rattle.lists.specs.Each.{tally}
use Rattle.addr_lines.specs.Lines.{is_off, line_socket}
use Rattle.addr_lines.proofs.off_before.Given as goal

abbrev pub invariant-loop-k : goal.invariant-loop-k
invariant-loop-k l = (l.passed ≤ l.k) × (l.passed ≡ tally l.k (λ j. is_off (line_socket l.d j)))
