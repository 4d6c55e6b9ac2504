-- The loop ends. Assumes nothing.
use Rattle.std.proofs.Common.{◌-◌}
use Rattle.replay.proofs.layouts.select_bytes.Given as goal
