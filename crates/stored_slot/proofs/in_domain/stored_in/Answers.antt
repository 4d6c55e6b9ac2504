-- `stored_in` meets its contract. Assumes nothing.
use Rattle.stored_slot.specs.Stored.{stored_in}
use Rattle.stored_slot.proofs.in_domain.stored_in.Goals as goal

pub returns : goal.returns
unfolding stored_in
returns c = rw (c.sizes_in.ensures, c.in_domain-2.ensures, c.in_domain.ensures)
