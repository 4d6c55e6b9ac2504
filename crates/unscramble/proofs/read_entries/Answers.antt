-- `read_entries` meets its contract. Assumes nothing.
use mathlib.Core.Path.{◌∙◌, ap}
use lib.ListN.{length}
use Rattle.refusal.specs.First.{answered}
use Rattle.unscramble.proofs.Unrefused.{readable}
use Rattle.unscramble.proofs.Finished.{collectable, finishes}
use Rattle.unscramble.proofs.read_entries.Goals as goal

-- nothing refuses it
pub reading-requires : goal.reading-requires
reading-requires c =
    let a = c.args in
    readable a.s a.set_type a.stored.now (length a.output.now) (length a.marks.now) c.requires

pub entries-requires : goal.entries-requires
entries-requires c =
    let a = c.args in
    (readable a.s a.set_type a.stored.now (length a.output.now) (length a.marks.now) c.requires).pins

pub collect-outcome-requires : goal.collect-outcome-requires
collect-outcome-requires c =
    let a = c.args in
    collectable a.order a.s a.set_type a.stored.now a.output.now a.marks.now c.requires _ _ c.reading.ensures c.entries.ensures

pub returns : goal.returns
returns c =
    let a = c.args in
    finishes a.order a.s a.set_type a.stored.now a.output.now a.marks.now c.requires _ _ c.reading.ensures c.entries.ensures _ _ _ _ (c.answered.ensures ∙ ap answered c.fault_of.ensures) c.collect-outcome.ensures
