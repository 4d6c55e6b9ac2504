-- `high_first` meets its contract. Assumes nothing.
use borrow.Author.Tests.{eq-eqb, ne_eqb}
use Rattle.dump_lines.specs.Design.Lines.{ordered_map}
use Rattle.dump_lines.proofs.high_first.Goals as goal

pub returns-then-map-eq16 : goal.returns-then-map-eq16
unfolding ordered_map
returns-then-map-eq16 c = rw (eq-eqb _ _ c.if-map-eq16.true, c.turned.ensures)

pub returns : goal.returns
unfolding ordered_map
returns c = rw (ne_eqb _ _ c.if-map-eq16.false)
