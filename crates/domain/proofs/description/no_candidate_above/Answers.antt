-- `no_candidate_above` meets its contract. The loop's invariant: `ok` says whether the pins passed have no candidate above `last`.
-- Assumes nothing.
use native.Mathlib.Omega.{arith}
use Rattle.lists.specs.Each.{each}
use Rattle.lists.proofs.Each.{each_none, each_turn}
use Rattle.lists.proofs.Loops.{at-count_of}
use Rattle.domain.specs.Domain.{no_candidate_above}
use Rattle.domain.proofs.description.no_candidate_above.Goals as goal

pub loop-k-init : goal.loop-k-init
loop-k-init c = each_none _

pub loop-k-preserved : goal.loop-k-preserved
loop-k-preserved c = rw c.none_above-ok.ensures (each_turn _ _ _ c.loop-k.invariant)

pub returns : goal.returns
unfolding no_candidate_above
returns c =
    let end = c.loop-k in
    rw (c.none_above-2.ensures, c.none_above.ensures, at-count_of each _ end.k 40 _ (omega arith) end.invariant)
