-- The loop ends. Assumes nothing.
use Rattle.std.proofs.Common.{◌-◌}
use Rattle.replay.proofs.layouts.put_addr_layout.Given as goal
