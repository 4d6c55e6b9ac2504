-- `same_words` meets its contract. The loop's invariant: the rows passed are the same. Assumes nothing.
use mathlib.Core.Path.{◌≡◌, refl}
use Prim.Native.Nat.{◌+◌, ◌*◌, ◌<◌, min}
use native.Mathlib.Omega.{arith}
use Rattle.rom_turns.proofs.Turns.{row_in, row_compared}
use Rattle.rom_turns.proofs.same_words.Goals as goal

pub overflow_add-e : goal.overflow_add-e
overflow_add-e c =
    let some : 256 * c.loop-k.k < c.args.rom.words = omega (arith, c.loop-k-test.true, c.div_ceil-k-end.ensures) in
    record { fits = omega (arith, c.requires.turn.few (256 * c.loop-k.k) some) }

pub same_row-ok-requires : goal.same_row-ok-requires
same_row-ok-requires c =
    let t = c.requires in
    let l = c.loop-k in
    let some : 256 * l.k < c.args.rom.words = omega (arith, c.loop-k-test.true, c.div_ceil-k-end.ensures) in
    (t.rom_in.width, row_in t (256 * l.k) _ _ (omega arith) c.min-count.ensures c.index_of-from.ensures _ some refl)

-- but for the last row, it has 256
pub loop-k-preserved : goal.loop-k-preserved
loop-k-preserved c =
    let l = c.loop-k in
    let n = c.args.rom.words in
    let some : 256 * l.k < n = omega (arith, c.loop-k-test.true, c.div_ceil-k-end.ensures) in
    let here : min (256 * l.k) n ≡ 256 * l.k = omega arith in
    let there : min (256 * (l.k + 1)) n ≡ 256 * l.k + c.min-count.result = omega (arith, c.min-count.ensures, some) in
    rw there (row_compared c.requires (256 * l.k) _ _ (omega arith) c.min-count.ensures c.index_of-from.ensures _ _ (rw here at l.invariant) c.same_row-ok.ensures)
