-- `put_ahead` meets its contract. Assumes nothing.
use mathlib.Core.Path.{◌≡◌}
use Prim.Native.Nat.{◌/◌}
use native.Mathlib.Omega.{arith}
use borrow.Author.Rules.{rules}
use Rattle.hex_write.specs.Text.{ahead, block_bytes, record_text}
use Rattle.hex_write.proofs.Pieces.{ahead-first, ahead_within, block_ahead}
use Rattle.hex_write.proofs.Records.{record-room, record_put}
use Rattle.lists.proofs.Clauses.{with_text}
use Rattle.hex_write.proofs.put_ahead.Goals as goal

pub put_record-requires : goal.put_record-requires
put_record-requires c = record-room _ _ (let h : let k = c.args.k in record_text (block_bytes (k / 4096)) ≡ ahead k = block_ahead c.args.k (omega arith) c.if-k-eq0.true in h) _ _ (search rules)

pub returns-then-k-eq0 : goal.returns-then-k-eq0
returns-then-k-eq0 c = with_text (let k = c.put_record in
    record_put _ _ (let h : let k = c.args.k in record_text (block_bytes (k / 4096)) ≡ ahead k = block_ahead c.args.k (omega arith) c.if-k-eq0.true in h) _ _ _ _ k.ensures.value k.ensures.text_after)

pub returns-else-k-eq0 : goal.returns-else-k-eq0
returns-else-k-eq0 c = with_text (ahead_within _ _ c.args.k (omega arith) c.if-k-eq0.false)

pub returns-else-k-gt0 : goal.returns-else-k-gt0
returns-else-k-gt0 c = with_text (ahead-first _ _ c.args.k (omega arith))
