-- `read_next` meets its contract. The tests say that the ROM's entries are in order; the turns then give its words. Assumes nothing.
use Rattle.word_read.proofs.Entries.{Placed}
use Rattle.word_read.proofs.Placed.{in_order}
use Rattle.word_read.proofs.Words.{rom-rest, rom-read}
use Rattle.word_read.proofs.read_next.Goals as goal

pub read_ordered-requires : goal.read_ordered-requires
read_ordered-requires c =
    let p : Placed c.args.r c.args.k c.bits_for-b.result c.args.m c.args.pins c.order-ordered.result = record { ordered = c.order-ordered.ensures; suited = c.suits.ensures c.if-not-suits.false } in
    let s = c.requires in
    rw c.rom_of-rom.ensures (in_order p s.0.read_in s.0.place s.1)

pub returns : goal.returns
returns c =
    let p : Placed c.args.r c.args.k c.bits_for-b.result c.args.m c.args.pins c.order-ordered.result = record { ordered = c.order-ordered.ensures; suited = c.suits.ensures c.if-not-suits.false } in
    let s = c.requires in
    let wrote = rw c.rom_of-rom.ensures at c.read_ordered.ensures.wrote in
    record { output_unchanged = rom-rest s.0.read_in.reading p s.0.before wrote s.0.place; words_read = λ z. rom-read s.0.read_in.reading p s.0.before wrote s.0.place (rw c.rom_of-rom.ensures at (c.read_ordered.ensures.same_turn z)) }
