-- `missing` meets its contract. The invariant: `fault` is that of the chips passed. Assumes nothing.
use mathlib.Core.Path.{◌≡◌}
use Prim.Native.Nat.{◌≤◌}
use Rattle.build_args.specs.Faults.{missing_at}
use Rattle.refusal.specs.First.{first_of}
use Rattle.build_faults.proofs.missing.Given as goal

abbrev pub invariant-loop-k : goal.invariant-loop-k
invariant-loop-k l = (l.k ≤ l.chips) × (l.fault ≡ first_of l.k (missing_at l.spans))
