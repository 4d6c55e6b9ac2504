-- `bytes_lent` meets its contract. Assumes nothing.
use native.Mathlib.Omega.{arith}
use lib.ListN.{length-take, length-drop}
use Rattle.build_args.specs.Images.{chip_bytes}
use Rattle.build_args.proofs.images.bytes_lent.Goals as goal

pub returns : goal.returns
unfolding chip_bytes
returns c = simp (length-take, length-drop) (omega arith)
