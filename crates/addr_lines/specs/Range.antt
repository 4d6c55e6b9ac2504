-- addr_layout.rs: the address lines that the largest table has an index for. Assumes nothing.
use Rattle.std.specs.Prelude.{ℕ, ◌+◌, ◌/◌, ◌^◌, cond, leb, ltb, eqb}
use Rattle.lists.specs.Each.{tally}
use Rattle.slot.specs.declared.description.Description.{Description}
use Rattle.addr_lines.specs.Lines.{lines}

-- L / w, w being 1 or 2
-- 01 Shape 8: L is read from the description
abbrev pub most_entries : Description → ℕ
most_entries d = cond (eqb d.word_bytes 2) (d.max_image_size / 2) d.max_image_size

-- 01 addr_layout 2: floor(log2(L / w)), got as how many of 2^1, 2^2, .. are at most L / w, L being at most 2^20
unfoldable pub reach : Description → ℕ
reach d = tally 20 (λ k. leb (2 ^ (k + 1)) (most_entries d))

-- 01 addr_layout 2: floor(log2(L / w)) lines, counted from the first, are in range, or all if there are fewer
abbrev pub in_range : Description → ℕ
in_range d = cond (ltb (lines d) (reach d)) (lines d) (reach d)
