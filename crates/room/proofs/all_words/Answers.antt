-- `all_words` meets its contract. The invariant: `words` is those of the chips passed. Assumes nothing.
use native.Mathlib.Omega.{arith}
use Rattle.room.proofs.Words.{words-none, words-turn}
use Rattle.room.proofs.all_words.Goals as goal

pub loop-k-init : goal.loop-k-init
loop-k-init c = (omega arith, words-none _ _, omega arith)

pub loop-k-preserved : goal.loop-k-preserved
loop-k-preserved c =
    let v = c.loop-k in
    (omega arith, words-turn _ _ v.k _ _ v.invariant.1 c.chip_words-words.ensures.value, omega arith)
