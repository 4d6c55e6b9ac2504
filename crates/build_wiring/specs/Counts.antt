-- rom_image.rs: how many words a chip has. Assumes nothing.
use Rattle.std.specs.Prelude.{ℕ, ◌/◌, Bool, eqb, get_or}
use Rattle.std.specs.Int.Count.{ones}
use Rattle.slot.specs.Description.{no_chip}
use Rattle.slot.specs.declared.description.Description.{Description}

-- a chip's words: its size in bytes by the bytes of a word
abbrev pub word_count : Description → ℕ → ℕ
word_count d k = (get_or d.chips k no_chip).size / d.word_bytes

-- a power of two has one bit
abbrev pub power_of_two : ℕ → Bool
power_of_two n = eqb (ones n) 1
