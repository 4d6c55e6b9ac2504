-- `off_before` meets its contract. The loop's invariant: `passed` counts the lines passed that overhang. Assumes nothing.
use native.Mathlib.Omega.{arith}
use Rattle.lists.proofs.Each.{tally-none, tally-turn}
use Rattle.addr_lines.proofs.off_before.Goals as goal

pub loop-k-init : goal.loop-k-init
loop-k-init c = (omega arith, tally-none _)

pub loop-k-preserved : goal.loop-k-preserved
loop-k-preserved c =
    (omega arith, rw (c.off-passed.ensures.value, c.line_socket.ensures) (tally-turn _ _ _ c.loop-k.invariant.1))
