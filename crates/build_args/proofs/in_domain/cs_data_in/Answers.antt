-- `cs_data_in` meets its contract: each number is looked at. Assumes nothing.
use Rattle.build_args.specs.Domain.{cs_data_in}
use Rattle.build_args.proofs.in_domain.cs_data_in.Goals as goal

pub returns : goal.returns
unfolding cs_data_in
returns c = cc
