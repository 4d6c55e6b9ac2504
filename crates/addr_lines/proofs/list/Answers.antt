-- `list` meets its contract. Assumes nothing.
use native.Mathlib.Omega.{arith}
use Rattle.addr_lines.specs.Lines.{addr_listed}
use Rattle.addr_lines.proofs.list.Goals as goal

pub returns : goal.returns
unfolding addr_listed
returns c = (
  rw (c.push_x.ensures.0, c.list_lines.ensures.0, c.is_single.ensures),
  omega (arith, c.push_x.ensures.1, c.list_lines.ensures.1),
)
