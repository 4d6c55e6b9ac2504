-- The tests before the table are past. Assumes nothing.
use Rattle.std.specs.Prelude.{◌≡◌, true, List, ℕ, None}
use Rattle.build_args.specs.Domain.{build_in}
use Rattle.build_args.specs.Faults.{build_fault}
use Rattle.build_args.specs.declared.BuildArgs.{BuildArgs}

-- what is handed in is in the domain, and no test finds a fault in it, for a buffer of so many bytes
pub record PastTests (b : BuildArgs) (images : List ℕ) (room : ℕ) : Type 0 where
  pub domain : build_in b ≡ true
  pub no_fault : build_fault b images room ≡ None
