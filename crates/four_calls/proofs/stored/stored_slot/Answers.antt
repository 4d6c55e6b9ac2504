-- `stored_slot` meets its contract. Assumes nothing.
use Rattle.round_trip.specs.Stored.{stored_of}
use Rattle.four_calls.proofs.stored.stored_slot.Goals as goal

pub returns : goal.returns
unfolding stored_of
returns c = cc
