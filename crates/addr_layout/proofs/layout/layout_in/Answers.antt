-- `layout_in` meets its contract. Assumes nothing.
use Rattle.addr_layout.specs.Layout.{layout_in}
use Rattle.addr_layout.proofs.layout.layout_in.Goals as goal

pub returns : goal.returns
unfolding layout_in
returns c = rw (c.line_gpio_in.ensures, c.line_gpio_in-2.ensures, c.lines_in.ensures)
