-- The word that each entry is for, counted through all ROMs, and what it says of it. Assumes nothing.
use Rattle.std.specs.Prelude.{Option, Some, None}
use Prim.Native.Nat.{ℕ, ◌+◌}
use mathlib.Core.Bool.{cond}
use mathlib.Core.List.{List}
use lib.Dec.{ltb}
use Rattle.slot.specs.declared.description.ChipSetType.{ChipSetType}
use Rattle.stored_slot.specs.Stored.{free}
use Rattle.unscramble.specs.Words.{rom_picked, address_at, value_at}
use Rattle.stored_slot.specs.Words.{rom_words, words_before, all_words}
use Rattle.stored_slot.specs.declared.stored.StoredSlot.{StoredSlot}

-- the word that an entry is for; the number of all words where it is for none
abbrev pub word_of : StoredSlot → Option ℕ → ℕ → ℕ
word_of s None i = all_words s
word_of s (Some rom) i = cond (ltb (address_at s rom i) (rom_words s rom)) (words_before s rom + address_at s rom i) (all_words s)

unfoldable pub word_at : StoredSlot → ChipSetType → ℕ → ℕ
word_at s set i = cond (free s i) (word_of s (rom_picked s set i) i) (all_words s)

-- what it says
abbrev pub said_of : StoredSlot → List ℕ → Option ℕ → ℕ → ℕ
said_of s stored None i = 0
said_of s stored (Some rom) i = value_at s stored rom i

unfoldable pub said_at : StoredSlot → ChipSetType → List ℕ → ℕ → ℕ
said_at s set stored i = said_of s stored (rom_picked s set i) i
