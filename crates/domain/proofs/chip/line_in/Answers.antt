-- `line_in` meets its contract. Assumes nothing.
use Rattle.domain.specs.Domain.{line_in}
use Rattle.domain.proofs.chip.line_in.Goals as goal

pub returns : goal.returns
unfolding line_in
returns c = rw (c.kind_new.ensures, c.control_line-line.ensures)
