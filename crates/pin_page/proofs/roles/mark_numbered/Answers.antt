-- `mark_numbered` meets its contract. The loop's invariant: the lines passed are marked. Assumes nothing.
use mathlib.Core.Path.{refl, ◌∙◌, ap}
use native.Mathlib.Omega.{arith}
use Rattle.pin_page.specs.Roles.{page_line}
use Rattle.pin_page.proofs.Marks.{marks-none, marks-turn}
use Rattle.pin_page.proofs.roles.mark_numbered.Goals as goal

pub loop-k-init : goal.loop-k-init
loop-k-init c = (omega arith, refl, marks-none _ _)

pub loop-k-preserved : goal.loop-k-preserved
loop-k-preserved c =
    let v = c.loop-k in
    let m = c.mark in
    (omega arith, m.auto.roles ∙ v.invariant.1, marks-turn _ _ _ _ _ _ v.invariant.2 m.ensures (ap (page_line _) c.entry.ensures))
