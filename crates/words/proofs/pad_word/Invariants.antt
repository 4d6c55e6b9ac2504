-- `pad_word` meets its contract. The loop's invariant: the pad word of k bytes. Assumes nothing.
use mathlib.Core.Path.{◌≡◌}
use Rattle.words.specs.Words.{pad_word}
use Rattle.words.proofs.pad_word.Given as goal

abbrev pub invariant-loop-k : goal.invariant-loop-k
invariant-loop-k l = l.whole ≡ pad_word l.k l.pad
