-- A record has its length. Assumes nothing.
use mathlib.Core.Path.{◌≡◌}
use mathlib.Core.Bool.{Bool, true, false, ◌||◌}
use mathlib.Core.List.{List}
use Prim.Native.Nat.{ℕ, ◌≤◌}
use native.Mathlib.Omega.{arith}
use lib.Dec.{eqb}
use lib.ListN.{length}
use borrow.Author.Tests.{eqb-true}
use Rattle.lists.proofs.Bools.{and_left}
use Rattle.addr_record.specs.AddrRecord.{addr_size, layout_formed, given_formed}

pub formed-long : (b : List ℕ) → layout_formed b ≡ true → addr_size ≤ length b
unfolding layout_formed
formed-long b e =
    let h : length b ≡ addr_size = eqb-true (length b) addr_size (and_left _ _ (and_left _ _ (and_left _ _ e))) in
    omega (arith, h)

given_so : (none formed : Bool) → none || formed ≡ true → none ≡ false → formed ≡ true
given_so true formed e n = cc
given_so false formed e n = e

-- a layout that is given is a record
pub given_long : (b : List ℕ) → given_formed b ≡ true → eqb (length b) 0 ≡ false → addr_size ≤ length b
given_long b e n = formed-long b (given_so (eqb (length b) 0) (layout_formed b) e n)
