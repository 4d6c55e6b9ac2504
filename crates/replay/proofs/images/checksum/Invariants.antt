-- The loop ends. Assumes nothing.
use Rattle.std.proofs.Common.{length, ◌-◌}
use Rattle.replay.proofs.images.checksum.Given as goal
