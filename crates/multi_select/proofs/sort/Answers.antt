-- `sort` meets its contract. The loop's invariant: the lines passed are sorted as the rule sorts them. So few lines are
-- commoned or ignored that each has its place in the array. Assumes nothing.
use mathlib.Core.Path.{◌≡◌}
use Prim.Native.Nat.{ℕ, zero, suc, ◌+◌, ◌≤◌}
use native.Mathlib.Numerals.{add-one}
use native.Mathlib.Omega.{arith}
use lib.Dec.{eqb}
use Rattle.slot.specs.declared.description.ControlLines.{ControlLines}
use Rattle.slot.specs.declared.description.CsConfig.{CsConfig}
use Rattle.slot.specs.Description.{kind_at}
use Rattle.multi_select.specs.declared.Part.{Part}
use Rattle.multi_select.specs.declared.Part.TheVariants.{Dropped, Select, Commoned, Ignored}
use Rattle.multi_select.specs.declared.Sorted.{Sorted}
use Rattle.multi_select.specs.MultiCsConfig.{named_count}
use Rattle.multi_select.specs.Design.Sorted.{line_part, sorted_with, sorted}
use Rattle.multi_select.proofs.sort.Goals as goal

-- at most n lines commoned, and at most n ignored
abbrev Few : ℕ → Sorted → Type 0
Few n s = (s.config.num_commoned ≤ n) × (s.config.num_ignored ≤ n)

placed-few : (part : Part) (kind n : ℕ) (s : Sorted) → Few n s → Few (suc n) (sorted_with part kind s)
placed-few Dropped kind n s h = (omega arith, omega arith)
placed-few Select kind n s h = (omega arith, omega arith)
placed-few Commoned kind n s h = (omega arith, omega arith)
placed-few Ignored kind n s h = (omega arith, omega arith)

abbrev part_at : ControlLines → CsConfig → CsConfig → ℕ → Part
part_at lines chip0 secondary k = line_part (eqb (named_count lines) 1) chip0 secondary (kind_at lines k)

module _ (lines : ControlLines) (chip0 secondary : CsConfig) where
  sorted-few : (k : ℕ) → Few k (sorted lines chip0 secondary k)
  unfolding sorted
  sorted-few zero = (omega arith, omega arith)
  sorted-few (suc k) =
      placed-few (part_at lines chip0 secondary k) (kind_at lines k) k (sorted lines chip0 secondary k) (sorted-few k)

  few : (k : ℕ) (s : Sorted) → s ≡ sorted lines chip0 secondary k → Few k s
  few k s e = rw e (sorted-few k)

  -- one turn: the lines so far, and line k
  turn : (k : ℕ) (s r : Sorted)
      → s ≡ sorted lines chip0 secondary k
      → r ≡ sorted_with (part_at lines chip0 secondary k) (kind_at lines k) s
      → r ≡ sorted lines chip0 secondary (k + 1)
  unfolding sorted
  turn k s r e h = rw (h, e, add-one)

  -- at the count
  done : (k n : ℕ) (s : Sorted) → k ≡ n → s ≡ sorted lines chip0 secondary k → s ≡ sorted lines chip0 secondary n
  done k n s e h = rw e at h

pub loop-k-init : goal.loop-k-init
unfolding sorted
loop-k-init c = (omega arith, rw c.nothing-config.ensures)

pub place-s-requires : goal.place-s-requires
place-s-requires c =
    let f = few _ _ _ c.loop-k.k c.loop-k.s c.loop-k.invariant.1 in
    (omega arith, omega arith)

pub loop-k-preserved : goal.loop-k-preserved
loop-k-preserved c =
    let l = c.before.before.before.before in
    let e = l.named_count-single.ensures in (
      omega arith,
      turn _ _ _ _ _ _ c.loop-k.invariant.1
          (rw (c.place-s.ensures, c.part_of-part.ensures, c.kind_at-kind.ensures, e)),
    )
