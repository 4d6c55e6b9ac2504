-- `address_in` meets its contract. Assumes nothing.
use Rattle.build_args.specs.Faults.{address_in}
use Rattle.build_faults.proofs.address_in.Goals as goal

pub returns : goal.returns
unfolding address_in
returns c = c.positions_in.ensures
