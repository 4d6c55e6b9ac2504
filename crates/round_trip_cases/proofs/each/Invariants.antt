-- The loop ends. Assumes nothing.
use Rattle.std.proofs.Common.{◌-◌}
use Rattle.round_trip_cases.proofs.each.Given as goal
