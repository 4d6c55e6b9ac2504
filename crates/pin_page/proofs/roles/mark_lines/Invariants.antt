-- `mark_lines` meets its contract. The loop's invariant: the lines passed are marked. Assumes nothing.
use mathlib.Core.Path.{◌≡◌}
use Prim.Native.Nat.{◌≤◌}
use lib.ListN.{length}
use Rattle.pin_page.specs.Roles.{select_lines}
use Rattle.pin_page.specs.Design.Marks.{marked_all}
use Rattle.pin_page.proofs.roles.mark_lines.Given as goal

abbrev pub invariant-loop-k : goal.invariant-loop-k
invariant-loop-k l =
    (l.k ≤ l.count) × (length l.roles ≡ length l.initial.roles) × (l.roles ≡ marked_all l.initial.roles (select_lines l.c l.commoned l.k))
