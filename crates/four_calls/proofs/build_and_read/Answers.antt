-- `build_and_read` meets its contract. Assumes nothing.
use Rattle.std.proofs.lemmas.Result.{err_from_is_err_and}
use Rattle.round_trip.proofs.Chained.{build_stops, build_goes, readable_table}
use Rattle.four_calls.proofs.build_and_read.Goals as goal

pub read_table-requires : goal.read_table-requires
read_table-requires c = readable_table c.args.order c.args.b c.args.images.now c.args.table.now c.args.output.now c.args.marks.now _ _ c.build_rom_image.ensures c.in_ok-build_rom_image.was c.build_rom_image.auto.table
