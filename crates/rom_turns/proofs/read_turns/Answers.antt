-- `read_turns` meets its contract. Assumes nothing.
use Rattle.rom_turns.proofs.Turns.{turn-first, turn-long}
use Rattle.rom_turns.proofs.read_turns.Goals as goal

pub write_words-requires : goal.write_words-requires
write_words-requires c = let p = c.requires in turn-first (p.1 0 p.0)

pub others_same-requires : goal.others_same-requires
others_same-requires c d l = turn-long _ (c.requires.1 d l) c.write_words.auto.output
