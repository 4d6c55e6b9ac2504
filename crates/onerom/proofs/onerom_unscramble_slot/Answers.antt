-- `onerom_unscramble_slot` meets its contract. Assumes nothing.
use mathlib.Core.Bool.{not}
use mathlib.Core.Path.{ap, ◌∙◌}
use Prim.Native.Nat.{ℕ}
use Rattle.refusal.specs.declared.Refusal.TheVariants.{OutOfDomain}
use Rattle.unscramble.specs.Recovered.{read_refused}
use Rattle.calls.specs.Order.{order_at}
use Rattle.calls.specs.Calls.{read_returned, read_from, read_back_call, read_result}
use Rattle.onerom.proofs.Records.{formed, not-formed}
use Rattle.onerom.proofs.onerom_unscramble_slot.Goals as goal

pub returns-then-not-formed : goal.returns-then-not-formed
unfolding read_back_call
returns-then-not-formed c =
    ap (λ (r : ℕ). read_returned r c.args.output.now c.args.marks.now) c.packed.ensures
    ∙ ap read_result
    (not-formed _ (read_refused OutOfDomain c.args.output.now c.args.marks.now) _ _ c.formed.ensures (ap not c.if-not-formed.true))

pub returns : goal.returns
unfolding read_back_call
returns c =
    c.hand_over.ensures
    ∙ ap read_result
    (formed (read_from (order_at c.args.order) c.args.slot.now c.args.stored.now c.args.output.now c.args.marks.now) _ _ _ c.formed.ensures (ap not c.if-not-formed.false))
