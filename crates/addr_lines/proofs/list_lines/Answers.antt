-- `list_lines` meets its contract. The loop's invariant: the lines passed are listed. Assumes nothing.
use mathlib.Core.Path.{refl}
use native.Mathlib.Omega.{arith}
use Rattle.lists.proofs.Lists.{mapped_length}
use Rattle.listing.proofs.Pushed.{behind-none, behind-turn}
use borrow.Author.Rules.{rules}
use Rattle.addr_lines.proofs.list_lines.Goals as goal

pub loop-n-init : goal.loop-n-init
loop-n-init c =
    let e = c.num_lines-count.ensures in
    (omega arith, omega arith, e, behind-none (search (mapped_length, rules)) refl refl)

pub loop-n-preserved : goal.loop-n-preserved
loop-n-preserved c =
    let v = c.loop-n in
    (omega arith, v.invariant.1, v.invariant.2, behind-turn _ v.invariant.3 (omega arith) refl c.line_listed.ensures)
