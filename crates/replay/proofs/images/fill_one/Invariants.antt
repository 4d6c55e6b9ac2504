-- The loop ends. Assumes nothing.
use Rattle.std.proofs.Common.{◌-◌}
use Rattle.replay.proofs.images.fill_one.Given as goal
