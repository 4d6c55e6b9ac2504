-- How many lines pick, and that they pick a chip of the slot. Assumes nothing.
use Rattle.std.specs.Prelude.{Option, Some, None}
use mathlib.Core.Path.{◌≡◌, refl}
use mathlib.Core.Bool.{Bool, true, false, cond}
use Prim.Native.Nat.{ℕ, ◌+◌, ◌^◌, ◌≤◌, ◌<◌}
use native.Mathlib.Omega.{arith}
use lib.Dec.{leb, ltb, eqb}
use borrow.Author.Tests.{ltb-true, leb-true, eqb-true}
use Rattle.lists.proofs.Bools.{and_left}
use Rattle.lists.proofs.Loops.{zero_one}
use Rattle.slot.specs.declared.description.ChipSetType.{ChipSetType}
use Rattle.slot.specs.declared.description.ChipSetType.TheVariants.{Single, Banked, Multi}
use Rattle.picks.specs.Picks.{picks_of, picked_by, chips_fit}

x_two : (t : Bool) → cond t 2 1 ≤ 2
x_two true = omega arith
x_two false = omega arith

pub picks_three : (t : ChipSetType) (n : ℕ) → picks_of t n ≤ 3
picks_three Single n = omega arith
picks_three Banked n = omega (arith, x_two (leb 3 n))
picks_three Multi n = omega (arith, x_two (leb 3 n))

-- a chip that is picked by a test, or by the next
below_if : (t : Bool) (j k n : ℕ) (next : Option ℕ) → (t ≡ true → j < n) → (next ≡ Some k → k < n) → cond t (Some j) next ≡ Some k → k < n
below_if true j k n next h r p = let same : j ≡ k = cc in omega (arith, h refl)
below_if false j k n next h r p = r p

below_none : (k n : ℕ) → None ≡ Some k → k < n
below_none k n p = absurd (zero_one cc)

-- with two chips X2 does not pick
third : (n bits : ℕ) (t : Bool) → leb 3 n ≡ t → bits < 2 ^ (1 + cond t 2 1) → bits ≡ 4 → 2 < n
third n bits true e l q = leb-true 3 n e
third n bits false e l q = omega arith

pub picked-below : (t : ChipSetType) (n bits k : ℕ) → chips_fit t n ≡ true → bits < 2 ^ picks_of t n → picked_by t n bits ≡ Some k → k < n
picked-below Single n bits k f l p = let same : 0 ≡ k = cc in omega (arith, eqb-true n 1 f)
picked-below Banked n bits k f l p = below_if (ltb bits n) bits k n None (ltb-true bits n) (below_none k n) p
picked-below Multi n bits k f l p =
    let two = leb-true 2 n (and_left (leb 2 n) (leb n 3) f) in
    below_if (eqb bits 1) 0 k n _ (λ e. omega arith)
    (below_if (eqb bits 2) 1 k n _ (λ e. omega arith)
    (below_if (eqb bits 4) 2 k n None (λ e. third n bits (leb 3 n) refl l (eqb-true bits 4 e)) (below_none k n)))
    p
