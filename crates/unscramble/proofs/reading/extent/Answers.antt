-- `extent` meets its contract: the words before a ROM, and with it, are among all. Assumes nothing.
use native.Mathlib.Omega.{arith}
use Rattle.unscramble.proofs.Flat.{before_le}
use Rattle.unscramble.proofs.reading.extent.Goals as goal

pub overflow_cast-result : goal.overflow_cast-result
overflow_cast-result c =
    let s = c.args.s in
    record { fits = omega (arith, c.requires, before_le s c.args.k s.num_roms (omega (arith, c.if-k-s.true)), c.words_before.ensures.value) }
