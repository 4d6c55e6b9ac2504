-- `read_hex` meets its contract: the text's verdict, and what is stored over hex FF where it is sound. Assumes nothing.
use mathlib.Core.Path.{sym, ◌∙◌}
use Rattle.hex_read.proofs.Verdicts.{left_ok}
use Rattle.hex_read.proofs.Answers.{too_long-read, fault-read, sound-all, sound-read}
use Rattle.hex_read.proofs.read_hex.Goals as goal

pub returns-then-too_long : goal.returns-then-too_long
returns-then-too_long c = too_long-read _ _ (sym c.too_long.ensures ∙ c.if-too_long.true)

pub returns-in-Err : goal.returns-in-Err
returns-in-Err c = fault-read _ _ _ _ (sym c.too_long.ensures ∙ c.if-too_long.false) c.judge.ensures c.in-Err.is

pub returns : goal.returns
returns c = sound-read _ _ _ _ _ (sym c.too_long.ensures ∙ c.if-too_long.false) c.judge.ensures (left_ok _ c.in_default.not-Err) (c.fill.ensures.after (λ y e. e)) c.store.ensures

pub store-requires : goal.store-requires
store-requires c = sound-all _ c.args.chip.now _ _ c.judge.ensures (left_ok _ c.in_default.not-Err) (c.fill.ensures.after (λ y e. e))
