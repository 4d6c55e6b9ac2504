-- `cs_config_in` meets its contract: each branch is one of the forms. Assumes nothing.
use borrow.Author.Tests.{eq-eqb, ne_eqb}
use Rattle.description_record.specs.Record.{cs_config_in}
use Rattle.description_record.proofs.shape.cs_config_in.Goals as goal

pub returns-then-form-eq0 : goal.returns-then-form-eq0
unfolding cs_config_in
returns-then-form-eq0 c = rw (← c.entry-form.ensures, eq-eqb _ _ c.if-form-eq0.true, c.setting_in-then-form-eq0-2.ensures, c.setting_in-then-form-eq0.ensures, c.setting_in.ensures, c.logic_in.ensures, c.entry-cs4.ensures, c.entry-cs3.ensures, c.entry-cs2.ensures, c.entry-cs1.ensures, c.entry-oe.ensures, c.entry-ce.ensures)

pub returns-then-form-eq1 : goal.returns-then-form-eq1
unfolding cs_config_in
returns-then-form-eq1 c = rw (← c.entry-form.ensures, ne_eqb _ _ c.if-form-eq0.false, eq-eqb _ _ c.if-form-eq1.true, c.entry-cs4.ensures, c.entry-cs3.ensures, c.entry-cs2.ensures, c.entry-cs1.ensures, c.entry-oe.ensures, c.entry-ce.ensures)

pub returns : goal.returns
unfolding cs_config_in
returns c = rw (← c.entry-form.ensures, ne_eqb _ _ c.if-form-eq0.false, ne_eqb _ _ c.if-form-eq1.false, c.logic_in-3.ensures, c.logic_in-2.ensures, c.entry-cs4.ensures, c.entry-cs3.ensures, c.entry-cs2.ensures, c.entry-cs1.ensures, c.entry-oe.ensures, c.entry-ce.ensures)
