-- `well_wired` meets its contract: each sentence is asked. Assumes nothing.
use Rattle.premises.specs.Wired.{wired}
use Rattle.wired.proofs.well_wired.Goals as goal

pub returns : goal.returns
unfolding wired
returns c = rw (c.one_inside-x2_in.ensures, c.one_inside-x1_in.ensures, c.select_one.ensures, c.data_lines.ensures, c.data_apart.ensures, c.select_apart.ensures, c.lines_apart.ensures, c.unshared.ensures, c.is_multi-multi.ensures, c.is_single-single.ensures)
