-- `chip_word_at` meets its contract. Assumes nothing.
use native.Mathlib.Omega.{arith}
use Rattle.words.proofs.Chip.{chip-low}
use Rattle.words.proofs.chip_word_at.Goals as goal

pub returns-in-LowFirst : goal.returns-in-LowFirst
returns-in-LowFirst c = record { value = cc (chip-low c.args.w c.args.b.now c.args.at); upper_bound = omega arith }
