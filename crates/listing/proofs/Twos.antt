-- The two-candidate pins of lists put together. Assumes nothing.
use mathlib.Core.Path.{◌≡◌}
use mathlib.Core.List.{List, [], ◌∷◌, ◌++◌}
use Prim.Native.Nat.{◌+◌}
use native.Mathlib.Omega.{arith}
use native.Mathlib.Nat.{add-zero, zero-add}
use Rattle.listing.specs.declared.Listed.{Listed}
use Rattle.listing.specs.Listing.{twos, two_listed, count}

pub twos-append : (a b : List Listed) → twos (a ++ b) ≡ twos a + twos b
unfolding twos
twos-append [] b = rw zero-add
twos-append (l ∷ a) b = omega (arith, twos-append a b)

pub twos-one : (l : Listed) → twos (l ∷ []) ≡ count (two_listed l)
unfolding twos
twos-one l = rw add-zero
