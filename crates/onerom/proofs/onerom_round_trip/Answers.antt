-- `onerom_round_trip` meets its contract. Assumes nothing.
use Rattle.std.specs.Prelude.{Ok, Err, Result}
use mathlib.Core.Path.{◌≡◌, sym, ap, ◌∙◌}
use mathlib.Core.Bool.{Bool, true, not}
use Rattle.lists.proofs.Loops.{zero_one}
use Rattle.description_record.specs.declared.Decoded.{Decoded}
use Prim.Native.Nat.{ℕ}
use Rattle.slot.specs.declared.description.Description.{Description}
use Rattle.refusal.specs.declared.Refusal.{Refusal}
use Rattle.refusal.specs.declared.Refusal.TheVariants.{OutOfDomain}
use Rattle.round_trip.specs.Chain.{stopped}
use Rattle.calls.specs.Order.{order_at}
use Rattle.onerom.specs.Trip.{trip_returned, trip_from, trip_call, trip_result}
use Rattle.onerom.proofs.Records.{taken, no_record, formed, not-formed}
use Rattle.onerom.proofs.onerom_round_trip.Goals as goal

neither : {t : Bool} → t ≡ true → not t ≡ true → ⊥
neither {t} e n = zero_one cc

not_done : (why : Refusal) → ◌≡◌ {A = Result (Unit {0}) Refusal} (Err why) (Ok tt) → ⊥
not_done why e = zero_one cc

pub returns-then-not-formed : goal.returns-then-not-formed
unfolding trip_call
returns-then-not-formed c = record { marks_after = ap ((λ (r : ℕ). trip_returned r c.args.table.now c.args.output.now c.args.marks.now)) c.packed.ensures ∙ ap trip_result (not-formed _ ((λ (why : Refusal). stopped why c.args.table.now c.args.output.now c.args.marks.now) OutOfDomain) _ _ c.formed.ensures (ap not c.if-not-formed.true)); call_demanded = λ is_record formed-so. absurd (neither (c.formed.ensures ∙ formed-so) (ap not c.if-not-formed.true)) }

pub returns-in-Ok : goal.returns-in-Ok
unfolding trip_call
returns-in-Ok c = record {
  marks_after = c.hand_over.ensures.marks_after
      ∙ ap trip_result
      (taken ((λ (d : Description). trip_from (order_at c.args.order) d c.args.spans.now c.args.images.now c.args.table.now c.args.output.now c.args.marks.now)) ((λ (why : Refusal). stopped why c.args.table.now c.args.output.now c.args.marks.now)) c.args.description.now _ c.decode-decoded.ensures c.in-Ok.is
      ∙ formed _ _ _ _ c.formed.ensures (ap not c.if-not-formed.false));
  call_demanded = λ is_record formed-so. rw c.decode-decoded.ensures at c.hand_over.ensures.trip_demanded;
}

pub returns-in-Err : goal.returns-in-Err
unfolding trip_call
returns-in-Err c = record {
  marks_after = ap ((λ (r : ℕ). trip_returned r c.args.table.now c.args.output.now c.args.marks.now)) c.packed-in-Err.ensures
      ∙ ap trip_result
      (no_record ((λ (d : Description). trip_from (order_at c.args.order) d c.args.spans.now c.args.images.now c.args.table.now c.args.output.now c.args.marks.now)) ((λ (why : Refusal). stopped why c.args.table.now c.args.output.now c.args.marks.now)) c.args.description.now _ c.decode-decoded.ensures _ c.in-Err.is
      ∙ formed _ _ _ _ c.formed.ensures (ap not c.if-not-formed.false));
  call_demanded = λ is_record formed-so. absurd (not_done _ (sym c.in-Err.is ∙ ap (λ (y : Decoded). y.answer) c.decode-decoded.ensures ∙ is_record));
}
