-- `choice_bits` meets its contract. The loop's invariant: `sum` counts the two-candidate pins passed. Assumes nothing.
use mathlib.Core.Path.{◌≡◌, refl}
use mathlib.Core.List.{List, map}
use Prim.Native.Nat.{ℕ, ◌+◌, ◌<◌}
use native.Mathlib.Omega.{arith}
use lib.ListN.{length, take, get_or}
use Rattle.lists.proofs.Lists.{mapped_length}
use Rattle.listing.specs.declared.Listed.{Listed}
use Rattle.listing.specs.Listing.{twos, two_listed, count}
use Rattle.listing.specs.Design.Packed.{blank, listed_by}
use Rattle.listing.specs.declared.packed.Packed.{Packed}
use Rattle.listing.proofs.Pushed.{taken}
use Rattle.listing.proofs.Twos.{twos-append, twos-one}
use borrow.Author.Rules.{rules}
use Rattle.listing.proofs.choice_bits.Goals as goal

turn : (ps : List Packed) (k n m : ℕ) (l : Listed) → k < length ps → n ≡ twos (take k (map listed_by ps)) → l ≡ listed_by (get_or ps k blank) → m ≡ count (two_listed l)
    → n + m ≡ twos (take (k + 1) (map listed_by ps))
turn ps k n m l h e g f = rw (taken ps k l h g, twos-append, twos-one, e, f)

pub loop-k-init : goal.loop-k-init
unfolding twos
loop-k-init c = (omega arith, omega arith, omega arith, search (mapped_length, rules), refl)

pub loop-k-preserved : goal.loop-k-preserved
loop-k-preserved c =
    let v = c.loop-k in
    (omega arith, omega arith, omega arith, v.invariant.3, turn c.args.l.pins v.k _ _ _ (omega arith) v.invariant.4 c.listed.ensures c.bits-sum.ensures.value)
