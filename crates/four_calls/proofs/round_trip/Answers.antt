-- `round_trip` meets its contract: the four calls in turn, and demand 3. Assumes nothing.
use native.Mathlib.Omega.{arith}
use Rattle.std.proofs.lemmas.Result.{err_from_is_err_and}
use Rattle.round_trip.proofs.Chained.{address_stops, address_goes, demanded}
use Rattle.four_calls.proofs.round_trip.Goals as goal

pub returns-in_err-a-clause-marks_after : goal.returns-in_err-a-clause-marks_after
returns-in_err-a-clause-marks_after c =
    let passed = err_from_is_err_and c.from_residual.result c.from_residual.ensures.1 in
    rw (passed.1, passed.2)
    (address_stops c.args.order c.args.d c.args.images.now c.args.spans c.args.table.now c.args.output.now c.args.marks.now _ c.derive_addr_layout.ensures _ c.in_err-a.was)

pub returns : goal.returns
returns c =
    let e = address_goes c.args.order c.args.d c.args.images.now c.args.spans c.args.table.now c.args.output.now c.args.marks.now _ c.derive_addr_layout.ensures _ _ c.in_ok-a.was c.select_and_build.ensures in
    record { marks_after = e; as_demanded = demanded c.args.order c.args.d c.args.images.now c.args.spans c.args.table.now c.args.output.now c.args.marks.now (λ i. omega (arith, c.type_inv.images i)) _ _ _ _ e }
