-- `part_span` meets its contract. The loop's invariant: `rest` is what the pins passed left of the choice, `bit` the next pin's bit, and `s` spans those that count. Assumes nothing.
use mathlib.Core.Path.{◌≡◌, refl}
use mathlib.Core.Bool.{Bool, ◌&&◌, cond}
use mathlib.Core.List.{List}
use Prim.Native.Nat.{ℕ, ◌+◌, ◌<◌}
use native.Mathlib.Numerals.{add-one}
use native.Mathlib.Omega.{arith}
use Rattle.gpio.specs.Span.{widened}
use Rattle.gpio.specs.declared.candidates.Candidates.{Candidates}
use Rattle.gpio.specs.declared.span.Span.{Span}
use Rattle.lists.proofs.Lists.{mapped_length}
use Rattle.listing.specs.Design.Packed.{list_of}
use Rattle.listing.specs.Choice.{chosen, left_by, pin_at, rest_at, gpio_at, bit_of}
use Rattle.listing.specs.Design.Parts.{in_part}
use Rattle.lists.proofs.Each.{tally-none}
use Rattle.listing.proofs.Walked.{pin_taken, rest_left, bit_served}
use Rattle.listing.specs.declared.Listed.{Listed}
use Rattle.listing.specs.declared.choice.Picked.{Picked}
use Rattle.addr_choices.specs.Choices.{spanned}
use Rattle.addr_choices.specs.declared.Spanning.{Spanning}
use Rattle.addr_choices.specs.Design.Parts.{span_part_at}
use borrow.Author.Rules.{rules}
use Rattle.addr_choices.proofs.part_span.Goals as goal

wider : (ls : List Listed) (f : Spanning) (split c k r t : ℕ) (low : Bool) (s s' : Span) (g : Candidates) (p : Picked) (b : Bool) → r ≡ rest_at ls c k → t ≡ bit_of ls k → g ≡ pin_at ls k
    → p ≡ record { gpio = chosen g r; rest = left_by g r } → b ≡ in_part low split t → s ≡ span_part_at ls f low split c k → s' ≡ cond (spanned f k && b) (widened s p.gpio) s
    → s' ≡ span_part_at ls f low split c (k + 1)
unfolding span_part_at gpio_at
wider ls f split c k r t low s s' g p b e y h i j m o = rw (o, j, i, h, e, y, m, add-one)

pub loop-k-init : goal.loop-k-init
unfolding rest_at span_part_at
loop-k-init c = (omega arith, omega arith, refl, omega arith, search (mapped_length, rules), refl, tally-none _, refl)

pub loop-k-preserved : goal.loop-k-preserved
loop-k-preserved c =
    let l = c.args.l in
    let v = c.loop-k in
    let pick = c.pick-picked.ensures in
    let h : v.k < l.count = omega arith in
    let g = pin_taken l.pins l.count v.k _ h c.listed-pin.ensures in (
      omega arith,
      omega arith,
      v.invariant.2,
      omega arith,
      v.invariant.4,
      rest_left _ _ _ _ _ _ v.invariant.5 g pick,
      bit_served (list_of l) v.k _ _ _ v.invariant.6 g c.bits-bit.ensures.value,
      wider _ _ _ _ _ _ _ _ _ _ _ _ _ v.invariant.5 v.invariant.6 g pick c.in_part.ensures v.invariant.7 c.widen_if-s.ensures,
    )
