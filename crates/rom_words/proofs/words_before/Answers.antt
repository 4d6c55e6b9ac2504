-- `words_before` meets its contract. The invariant: `words` is those of the ROMs passed. Assumes nothing.
use native.Mathlib.Omega.{arith}
use Rattle.rom_words.proofs.Counted.{words-none, words-turn}
use Rattle.rom_words.proofs.words_before.Goals as goal

pub loop-k-init : goal.loop-k-init
loop-k-init c = (omega arith, words-none _, omega arith)

pub loop-k-preserved : goal.loop-k-preserved
loop-k-preserved c =
    let v = c.loop-k in
    (omega arith, words-turn _ v.k _ _ v.invariant.1 c.rom_words-words.ensures.value, omega arith)
