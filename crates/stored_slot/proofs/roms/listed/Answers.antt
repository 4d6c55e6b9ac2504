-- `listed` meets its contract. The invariant: `n` is how many of the entries passed are listed. Assumes nothing.
use mathlib.Core.Path.{◌≡◌}
use native.Mathlib.Omega.{arith}
use lib.ListN.{length}
use borrow.Author.Rules.{rules}
use Rattle.lists.proofs.Loops.{at-count_of}
use Rattle.stored_slot.specs.Stored.{map_lines}
use Rattle.stored_slot.proofs.Listed.{get_d_any, listed-none, listed-turn, listed-most}
use Rattle.stored_slot.proofs.roms.listed.Goals as goal

pub loop-k-init : goal.loop-k-init
loop-k-init c = (omega arith, listed-none _)

pub loop-k-preserved : goal.loop-k-preserved
loop-k-preserved c =
    let v = c.loop-k in
    let map = c.args.map in
    let e : length map ≡ 32 = search rules in
    (omega arith, listed-turn map v.k v.n _ _ v.invariant.1 (get_d_any map v.k 0 255 (omega arith)) c.next-n.ensures)

pub returns : goal.returns
returns c =
    let v = c.loop-k in
    let map = c.args.map in
    let e = at-count_of map_lines map v.k 32 v.n (omega arith) v.invariant.1 in
    record { value = e; upper_bound = omega (arith, listed-most 32 map) }
