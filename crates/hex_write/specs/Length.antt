-- How long a chip's text is, by its formula. Assumes nothing.
use Rattle.std.specs.Prelude.{ℕ, ◌+◌, ◌-◌, ◌*◌, ◌/◌, ◌≡◌, List, length}
use Rattle.hex_write.specs.Text.{hex_text, records}

-- how many blocks of 64 KiB a chip reaches into after the first
abbrev pub later_blocks : ℕ → ℕ
later_blocks size = (size + 65535) / 65536 - 1

-- 12 characters a record beside its data, two a data byte, 16 a type 04 record, and the end
abbrev pub text_length : ℕ → ℕ
text_length size = 12 * records size + 2 * size + 16 * later_blocks size + 12

abbrev pub LengthLaw : Type 0
LengthLaw = (chip : List ℕ) → length (hex_text chip) ≡ text_length (length chip)
