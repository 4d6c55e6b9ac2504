-- How many words read-back returns of each chip, and the room that they need. Assumes nothing.
use Rattle.std.specs.Prelude.{List, ℕ, zero, suc, ◌+◌, ◌*◌, ◌^◌, ◌≤◌, min, length}
use Rattle.slot.specs.declared.description.Description.{Description}
use Rattle.addr_layout.specs.declared.layout.AddrLayout.{AddrLayout}
use Rattle.build_wiring.specs.Counts.{word_count}

-- 00 Demand 3: a chip's words are the whole ones of its size, but at most 2^lines; excess lines are not counted in
abbrev pub chip_words : Description → AddrLayout → ℕ → ℕ
chip_words d a k = min (word_count d k) (2 ^ a.num_lines)

unfoldable pub words_to : Description → AddrLayout → ℕ → ℕ
words_to d a zero = 0
words_to d a (suc n) = words_to d a n + chip_words d a n

abbrev pub words : Description → AddrLayout → ℕ
words d a = words_to d a d.num_chips

-- 01 Well wired 11: the output has w bytes for each word of all chips, and the marks have one
pub record Room (d : Description) (a : AddrLayout) (output marks : List ℕ) : Type 0 where
  pub for-output : words d a * d.word_bytes ≤ length output
  pub for-marks : words d a ≤ length marks
