-- `part` meets its contract. The loop's invariant: `rest` is what the pins passed left of the choice, `bit` the next pin's bit, and `s` has the GPIOs of those that count. Assumes nothing.
use mathlib.Core.Path.{◌≡◌, refl}
use mathlib.Core.Bool.{Bool, ◌&&◌, cond}
use mathlib.Core.List.{List}
use Prim.Native.Nat.{ℕ, ◌+◌, ◌<◌}
use native.Mathlib.Numerals.{add-one}
use native.Mathlib.Omega.{arith}
use lib.Dec.{leb}
use Rattle.gpio.specs.Set.{with}
use Rattle.lists.proofs.Each.{tally-none}
use Rattle.lists.proofs.Lists.{mapped_length}
use Rattle.listing.specs.Design.Packed.{list_of}
use Rattle.listing.specs.Choice.{rest_at, gpio_at, bit_of, GpiosIn}
use Rattle.listing.specs.Design.Parts.{in_part}
use Rattle.listing.specs.declared.Listed.{Listed}
use Rattle.listing.proofs.InDomain.{gpio_in_lem}
use Rattle.listing.proofs.Walked.{pin_taken, gpio_taken, rest_left, bit_served}
use Rattle.cs_choices.specs.Design.Parts.{set_part_at}
use borrow.Author.Rules.{rules}
use Rattle.cs_choices.proofs.choices.part.Goals as goal

more : (ls : List Listed) (from split c k t g : ℕ) (low b : Bool) (s s' : ℕ) → g ≡ gpio_at ls c k → t ≡ bit_of ls k → b ≡ in_part low split t
    → s ≡ set_part_at ls from low split c k → s' ≡ cond (leb from k && b) (with s g) s → s' ≡ set_part_at ls from low split c (k + 1)
unfolding set_part_at
more ls from split c k t g low b s s' e f h i j = rw (j, h, f, e, i, add-one)

-- a GPIO has a bit of 64
gpio-small : (ls : List Listed) → GpiosIn ls → (c k g : ℕ) → g ≡ gpio_at ls c k → g < 64
gpio-small ls i c k g e = omega (arith, gpio_in_lem ls i c k, e)

pub loop-k-init : goal.loop-k-init
unfolding rest_at set_part_at
loop-k-init c = (omega arith, c.requires, omega arith, search (mapped_length, rules), refl, tally-none _, refl)

pub with_if-s-requires : goal.with_if-s-requires
with_if-s-requires c =
    let v = c.loop-k in
    let l = c.args.l in
    let h : v.k < l.count = omega arith in
    gpio-small _ v.invariant.1.gpios _ _ _ (gpio_taken _ _ _ _ _ _ v.invariant.4 (pin_taken l.pins l.count v.k _ h c.listed-pin.ensures) c.pick-picked.ensures)

pub loop-k-preserved : goal.loop-k-preserved
loop-k-preserved c =
    let v = c.loop-k in
    let l = c.args.l in
    let h : v.k < l.count = omega arith in
    let pick = c.pick-picked.ensures in
    let g = pin_taken l.pins l.count v.k _ h c.listed-pin.ensures in (
      omega arith,
      v.invariant.1,
      omega arith,
      v.invariant.3,
      rest_left _ _ _ _ _ _ v.invariant.4 g pick,
      bit_served (list_of l) v.k _ _ _ v.invariant.5 g c.bits-bit.ensures.value,
      more _ _ _ _ _ _ _ _ _ _ _ (gpio_taken _ _ _ _ _ _ v.invariant.4 g pick) v.invariant.5 c.in_part.ensures v.invariant.6 c.with_if-s.ensures,
    )
