-- `lines_at` meets its contract. The loop's invariant: the lines passed are each at their position. Assumes nothing.
use mathlib.Core.Path.{◌∙◌, ap}
use Prim.Native.Nat.{ℕ, min}
use Rattle.running_address.proofs.Tables.{listed-none, listed-turn}
use Rattle.running_address.proofs.lines_at.Goals as goal

pub loop-k-init : goal.loop-k-init
loop-k-init c = listed-none _ _

pub loop-k-preserved : goal.loop-k-preserved
loop-k-preserved c =
    let v = c.loop-k in
    listed-turn _ _ _ _ _ v.invariant c.loop-k-test.true c.requires (c.place-at.ensures ∙ ap (λ (q : ℕ). min q 32) c.entry.ensures)
