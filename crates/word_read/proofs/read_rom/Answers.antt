-- `read_rom` meets its contract. Assumes nothing.
use mathlib.Core.Path.{refl}
use Rattle.word_read.proofs.Words.{read-empty}
use Rattle.word_read.proofs.read_rom.Goals as goal

pub returns-then-extent-eq0 : goal.returns-then-extent-eq0
returns-then-extent-eq0 c = record { output_unchanged = refl; words_read = λ z. read-empty _ _ _ _ _ _ _ c.if-extent-eq0.true c.requires.before }
