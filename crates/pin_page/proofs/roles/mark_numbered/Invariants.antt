-- `mark_numbered` meets its contract. The loop's invariant: the lines passed are marked. Assumes nothing.
use mathlib.Core.Path.{◌≡◌}
use Prim.Native.Nat.{◌+◌, ◌≤◌}
use lib.ListN.{length, get_or}
use Rattle.lists.specs.Tab.{tab}
use Rattle.pin_page.specs.Roles.{page_line}
use Rattle.pin_page.specs.Design.Marks.{marked_all}
use Rattle.pin_page.proofs.roles.mark_numbered.Given as goal

abbrev pub invariant-loop-k : goal.invariant-loop-k
invariant-loop-k l =
    (l.k ≤ l.n) × (length l.roles ≡ length l.initial.roles) × (l.roles ≡ marked_all l.initial.roles (tab l.k (λ j. page_line (l.first + j) (get_or l.gpios j 0))))
