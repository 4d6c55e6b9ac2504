-- `put_rows` meets its contract. The loop's invariant: the rows passed are laid over the page. Assumes nothing.
use mathlib.Core.Path.{◌≡◌}
use Prim.Native.Nat.{◌≤◌}
use lib.ListN.{length, get_or}
use Rattle.lists.specs.Tab.{joined}
use Rattle.laid_bytes.specs.Laid.{laid}
use Rattle.page_rows.specs.Rows.{row_text}
use Rattle.page_rows.proofs.put_rows.Given as goal

abbrev pub invariant-loop-gpio : goal.invariant-loop-gpio
invariant-loop-gpio l =
    (l.gpio ≤ 48) × (length l.page ≡ length l.initial.page) × (l.page ≡ laid l.initial.page 0 (joined l.gpio (λ g. row_text g (get_or l.roles g 0))))
