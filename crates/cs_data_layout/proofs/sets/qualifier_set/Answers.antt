-- `qualifier_set` meets its contract. The loop's invariant: `s` has the GPIOs of the qualifiers passed, and those still to come are GPIOs. Assumes nothing.
use mathlib.Core.Path.{refl}
use native.Mathlib.Omega.{arith}
use Rattle.gpio.specs.Set.{set_of}
use Rattle.gpio.proofs.Sets.{set-turn}
use Rattle.cs_data_layout.proofs.Bounds.{qualifier_line_in}
use Rattle.cs_data_layout.proofs.sets.qualifier_set.Goals as goal

pub loop-k-init : goal.loop-k-init
unfolding set_of
loop-k-init c = (omega arith, omega arith, qualifier_line_in c.args.h c.requires.layout c.args.d c.requires.qualifiers, refl)

pub loop-k-preserved : goal.loop-k-preserved
loop-k-preserved c =
    let i = c.loop-k.invariant in
    (omega arith, i.1, i.2, set-turn _ _ _ _ _ i.3 c.qualifier_gpio.ensures c.with-s.ensures)
