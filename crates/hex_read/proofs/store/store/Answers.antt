-- `store` meets its contract. The loop's invariant: what is left of the text, stored from here, makes what the whole of it does. Assumes nothing.
use mathlib.Core.Path.{refl}
use native.Mathlib.Omega.{arith}
use Rattle.hex_read.proofs.Stored.{stored-length, rest-sound, line-stored, all-stored}
use Rattle.hex_read.proofs.store.store.Goals as goal

pub loop-rest-preserved : goal.loop-rest-preserved
loop-rest-preserved c =
    let s = c.before.before.before.before in
    let m = s.before.before.before in
    let v = m.loop-rest in
    let f = s.first_line-first.ensures in (
      stored-length _ _ _ _ _ c.store_line.ensures v.invariant.0,
      rest-sound _ _ _ _ _ _ _ f refl c.upper_after-upper.ensures v.invariant.1,
      line-stored _ _ _ _ _ _ _ _ _ f refl c.upper_after-upper.ensures c.store_line.ensures v.invariant.2,
    )

pub returns : goal.returns
returns c = let v = c.loop-rest in all-stored v.rest.now _ _ _ (omega arith) v.invariant.2
