-- `collect` meets its contract. What is read word by word is what all entries come to; else what it left does not matter. Assumes nothing.
use mathlib.Core.Path.{◌∙◌}
use Rattle.table_read.proofs.Collected.{collected_from, collected_words}
use Rattle.table_read.proofs.collect.Goals as goal

pub returns-then-read_words : goal.returns-then-read_words
returns-then-read_words c =
    let all = c.read_words.ensures.all_read c.if-read_words.true in
    collected_words _ _ _ _ _ _ _ _ _ all.whole all.written c.fill.ensures

pub returns : goal.returns
returns c = c.collect_all.ensures ∙ collected_from _ _ _ _ _ _ _ _ c.read_words.ensures.output_unchanged
