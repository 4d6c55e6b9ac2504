-- `resolve` meets its contract. The loop's invariant: the GPIOs of the pins passed are in place, and `rest` is what they left of the choice. Assumes nothing.
use mathlib.Core.Path.{refl}
use Prim.Native.Nat.{◌<◌}
use native.Mathlib.Omega.{arith}
use lib.ListN.{length-take, length-map}
use Rattle.lists.proofs.Lists.{mapped_length}
use Rattle.lists.proofs.Tab.{begun_none, begun_turn, begun_all}
use Rattle.listing.specs.Design.Packed.{list_of}
use Rattle.listing.specs.Choice.{rest_at}
use Rattle.listing.proofs.Walked.{pin_taken, gpio-past, gpio_taken, rest_left}
use borrow.Author.Rules.{rules}
use Rattle.listing.proofs.choice.resolve.Goals as goal

pub loop-k-init : goal.loop-k-init
unfolding rest_at
loop-k-init c = (omega arith, omega arith, refl, search (mapped_length, rules), begun_none, refl)

pub loop-k-preserved : goal.loop-k-preserved
loop-k-preserved c =
    let v = c.loop-k in
    let l = c.args.l in
    let h : v.k < l.count = omega arith in
    let g = pin_taken l.pins l.count v.k _ h c.listed-pin.ensures in (
      omega arith,
      omega arith,
      v.invariant.2,
      v.invariant.3,
      begun_turn v.invariant.4 (omega arith) (gpio_taken _ _ _ _ _ _ v.invariant.5 g c.pick-picked.ensures),
      rest_left _ _ _ _ _ _ v.invariant.5 g c.pick-picked.ensures,
    )

pub returns : goal.returns
returns c =
    let v = c.loop-k in
    let l = c.args.l in
    begun_all v.invariant.4 (λ j h. gpio-past (list_of l) _ j (simp (length-take, length-map) (omega arith)))
