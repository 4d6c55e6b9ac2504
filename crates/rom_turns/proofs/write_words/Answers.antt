-- `write_words` meets its contract. The loop's invariant: the rows passed are written. Assumes nothing.
use mathlib.Core.Path.{◌≡◌, ◌∙◌}
use Prim.Native.Nat.{◌+◌, ◌*◌, ◌<◌, min}
use native.Mathlib.Omega.{arith}
use Rattle.rom_turns.proofs.Turns.{row_in, row_wrote}
use Rattle.rom_turns.proofs.write_words.Goals as goal

pub write_row-requires : goal.write_row-requires
write_row-requires c =
    let t = c.requires in
    let l = c.loop-k in
    let some : 256 * l.k < c.args.rom.words = omega (arith, c.loop-k-test.true, c.div_ceil-k-end.ensures) in
    (t.rom_in.width, row_in t (256 * l.k) _ _ (omega arith) c.min-count.ensures c.index_of-from.ensures _ some l.invariant.0)

-- but for the last row, it has 256
pub loop-k-preserved : goal.loop-k-preserved
loop-k-preserved c =
    let l = c.loop-k in
    let n = c.args.rom.words in
    let some : 256 * l.k < n = omega (arith, c.loop-k-test.true, c.div_ceil-k-end.ensures) in
    let here : min (256 * l.k) n ≡ 256 * l.k = omega arith in
    let there : min (256 * (l.k + 1)) n ≡ 256 * l.k + c.min-count.result = omega (arith, c.min-count.ensures, some) in (
      c.write_row.auto.output ∙ l.invariant.0,
      rw there (row_wrote c.requires (256 * l.k) _ _ (omega arith) c.min-count.ensures c.index_of-from.ensures _ _ _ (rw here at l.invariant.1) c.write_row.ensures),
    )
