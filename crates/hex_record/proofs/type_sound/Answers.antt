-- `type_sound` meets its contract: a case a type. Assumes nothing.
use Rattle.hex_record.proofs.Shapes.{of_type-zero, of_type-one, of_type_four}
use Rattle.hex_record.proofs.type_sound.Goals as goal

pub returns-then-kind-eq0 : goal.returns-then-kind-eq0
returns-then-kind-eq0 c = of_type-zero _ _ _ c.if-kind-eq0.true

pub returns-then-kind-eq1 : goal.returns-then-kind-eq1
returns-then-kind-eq1 c = of_type-one _ _ _ c.if-kind-eq0.false c.if-kind-eq1.true

pub returns : goal.returns
returns c = of_type_four _ _ _ c.if-kind-eq0.false c.if-kind-eq1.false
