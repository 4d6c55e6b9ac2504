-- `put_data` meets its contract. Assumes nothing.
use mathlib.Core.Path.{◌≡◌, ap}
use lib.ListN.{length, take}
use borrow.Author.Rules.{rules}
use Rattle.hex_write.specs.Text.{data_bytes, record_text}
use Rattle.hex_write.proofs.Records.{record-room, record_put}
use Rattle.hex_write.proofs.Pieces.{data-read}
use Rattle.lists.proofs.Clauses.{with_text}
use Rattle.hex_write.proofs.put_data.Goals.{After-bytes-3-1}
use Rattle.hex_write.proofs.put_data.Goals as goal

-- what stands in the array is the record's bytes, up to where they end
shown : (c : After-bytes-3-1)
    → let a = c.args in
    let k = c.put-end in
    (take k.result k.new.buffer ≡ data_bytes a.chip.now a.k) × (k.result ≡ length (data_bytes a.chip.now a.k))
shown c =
    let k = c.put-end in
    data-read _ _ _ _ _ c.chunk_end.ensures k.ensures.value k.ensures.buffer_after

pub put_record-requires : goal.put_record-requires
put_record-requires c = record-room _ _ (ap record_text (shown c).0) _ _ (search rules)

pub returns : goal.returns
returns c = with_text (let k = c.put_record in record_put _ _ (ap record_text (let h : let a = c.args in let k = c.put-end in (take k.result k.new.buffer ≡ data_bytes a.chip.now a.k) × (k.result ≡ length (data_bytes a.chip.now a.k)) = let k = c.put-end in data-read _ _ _ _ _ c.chunk_end.ensures k.ensures.value k.ensures.buffer_after in h).0) _ _ _ _ k.ensures.value k.ensures.text_after)
