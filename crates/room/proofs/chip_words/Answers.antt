-- `chip_words` meets its contract. Assumes nothing.
use native.Mathlib.Omega.{arith}
use Rattle.room.proofs.Words.{reached-all}
use Rattle.room.proofs.chip_words.Goals as goal

pub returns : goal.returns
returns c =
    let words = c.word_count in
    let s = c.args in
    let all = reached-all words.result s.a.num_lines words.ensures.upper_bound in
    record { value = rw (← words.ensures.value, ← all, ← c.reached.ensures) c.min.ensures; upper_bound = omega (arith, c.min.ensures, words.ensures.upper_bound) }
