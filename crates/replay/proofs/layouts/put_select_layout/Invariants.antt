-- The loop ends. Assumes nothing.
use Rattle.std.proofs.Common.{◌-◌}
use Rattle.replay.proofs.layouts.put_select_layout.Given as goal
