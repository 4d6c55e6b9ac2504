-- The data lines of a word, in the order of a dump's bytes. That what they say is the word in that order is proved. Assumes nothing.
use Rattle.std.specs.Prelude.{ℕ, ◌+◌, ◌-◌, cond, ltb, eqb, get_or}
use Rattle.lists.specs.Tab.{tab}
use Rattle.words.specs.declared.ByteOrder.{ByteOrder}
use Rattle.words.specs.declared.ByteOrder.TheVariants.{LowFirst, HighFirst}
use Rattle.entry_words.specs.declared.Map.{Map}

-- of the sixteen lines of a word, the one that carries the same bit of the other byte
abbrev pub other_byte : ℕ → ℕ
other_byte k = cond (ltb k 8) (k + 8) (k - 8)

-- the lines of the two bytes, exchanged
abbrev pub turned_map : Map → Map
turned_map m = record { positions = tab 32 (λ k. get_or m.positions (other_byte k) 0); lines = m.lines }

unfoldable pub ordered_map : ByteOrder → Map → Map
ordered_map LowFirst m = m
ordered_map HighFirst m = cond (eqb m.lines 16) (turned_map m) m
