-- `layout_fault` meets its contract. Assumes nothing.
use Rattle.stored_slot.specs.Faults.{layout_fault}
use Rattle.stored_slot.proofs.Whole.{two_faults}
use Rattle.stored_slot.proofs.window.layout_fault.Goals as goal

pub returns : goal.returns
unfolding layout_fault
returns c =
    rw (
      c.or-6.ensures,
      c.or-5.ensures,
      c.or-4.ensures,
      c.or-3.ensures,
      c.or-2.ensures,
      c.or.ensures,
      c.then_some-table.ensures,
      c.table_whole.ensures,
      c.then_some-dma_alg.ensures,
      c.then_some-data_sum.ensures,
      c.data_base.ensures,
      c.then_some-data_alg.ensures,
      c.then_some-addr_sum.ensures,
      c.addr_base.ensures,
      c.then_some-addr_alg.ensures,
      c.then_some-missing.ensures,
      two_faults,
    )
