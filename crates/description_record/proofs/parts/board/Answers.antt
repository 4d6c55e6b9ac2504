-- `board` meets its contract: each part is what its place has. Assumes nothing.
use Rattle.description_record.specs.Record.{board_at}
use Rattle.description_record.proofs.parts.board.Goals as goal

pub returns : goal.returns
unfolding board_at
returns c = rw (c.pair_at-2.ensures, c.pair_at.ensures, c.entry.ensures, c.socket.ensures)
