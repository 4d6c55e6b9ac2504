-- `line_socket` meets its contract. Assumes nothing.
use Rattle.addr_lines.specs.Lines.{line_socket}
use Rattle.addr_lines.proofs.line_socket.Goals as goal

pub returns : goal.returns
unfolding line_socket
returns c = rw (c.pin_socket.ensures, c.entry-pin.ensures, c.first_pin.ensures.value, c.chip0-chip.ensures)
