-- `excess_set` meets its contract. The loop's invariant: `s` has the GPIOs of the lines passed. Assumes nothing.
use mathlib.Core.Path.{◌≡◌, refl}
use mathlib.Core.Bool.{true}
use Prim.Native.Nat.{ℕ, ◌<◌}
use native.Mathlib.Omega.{arith}
use Rattle.gpio.specs.Set.{set_of}
use Rattle.gpio.proofs.Sets.{set-turn}
use Rattle.addr_layout.specs.Layout.{layout_in}
use Rattle.addr_layout.specs.declared.layout.AddrLayout.{AddrLayout}
use Rattle.cs_data_layout.specs.Choices.{excess_gpio}
use Rattle.cs_data_layout.proofs.Bounds.{few-lines, excess_in}
use Rattle.cs_data_layout.proofs.sets.excess_set.Goals as goal

small : (h : AddrLayout) (k g : ℕ) → layout_in h ≡ true → k < h.num_excess → g ≡ excess_gpio h k → g < 64
small h k g e l i = omega (arith, excess_in h e k l, i)

pub loop-k-init : goal.loop-k-init
unfolding set_of
loop-k-init c = (omega arith, refl, omega (arith, few-lines c.args.h c.requires), c.requires, refl)

pub with-s-requires : goal.with-s-requires
with-s-requires c = let i = c.loop-k.invariant in small _ _ _ i.3 (omega arith) c.excess_gpio.ensures

pub loop-k-preserved : goal.loop-k-preserved
loop-k-preserved c =
    let i = c.loop-k.invariant in
    (omega arith, i.1, i.2, i.3, set-turn _ _ _ _ _ i.4 c.excess_gpio.ensures c.with-s.ensures)
