-- Where the first line of a text ends, and what the store asks of a line. Assumes nothing.
use Rattle.std.specs.Prelude.{ℕ, zero, suc, ◌+◌, ◌<◌, ◌≤◌, ◌≡◌, cond, List, [], ◌∷◌, eqb, length, get_or, take, drop, None}
use Rattle.hex_record.specs.Record.{line_fault, upper_after}
use Rattle.hex_record.specs.Design.There.{ByteThere}
use Rattle.hex_read.specs.Lines.{lines_of}

-- where a byte first stands in a text; the text's length where it stands nowhere
unfoldable pub index_of : ℕ → List ℕ → ℕ
index_of b [] = 0
index_of b (x ∷ xs) = cond (eqb x b) 0 (suc (index_of b xs))

-- of a line whose LF stands at a place: its own end, ahead of a CR that is part of the line end
unfoldable pub bare_end : List ℕ → ℕ → ℕ
bare_end text zero = 0
bare_end text (suc at) = cond (eqb (get_or text at 0) 13) at (suc at)

-- a text's first line ends at a place, and the next one begins at another
pub record FirstLine (text : List ℕ) (end next : ℕ) : Type 0 where
  pub ends : end ≤ length text
  pub forward : 0 < next
  pub inside : next ≤ length text
  pub lines : lines_of text ≡ take end text ∷ lines_of (drop next text)

-- the first n data bytes of a line are there, and there is room for them
pub record DataFits (line chip : List ℕ) (at n : ℕ) : Type 0 where
  pub bytes : (k : ℕ) → k < n → ByteThere line (k + 4)
  pub room : (k : ℕ) → k < n → at + k < length chip

-- no line has a fault
abbrev pub AllSound : ℕ → ℕ → List (List ℕ) → Type 0
AllSound size upper [] = Unit
AllSound size upper (line ∷ lines) = (line_fault size upper line ≡ None) × AllSound size (upper_after upper line) lines
