-- How the code writes the lines: the select lines, then the commoned lines, each array by itself. No answer is defined by it:
-- `lines_bytes` has both. Assumes nothing.
use Rattle.std.specs.Prelude.{ℕ, ◌/◌, ◌%◌, List, get_or}
use Rattle.lists.specs.Tab.{tab}
use Rattle.cs_data_layout.specs.Layout.{line}
use Rattle.cs_data_layout.specs.declared.layout.SelectLine.{SelectLine}
use Rattle.cs_data_record.specs.CsDataRecord.{line_byte}

-- the first n bytes of lines, two a line
abbrev pub pairs_of : ℕ → List SelectLine → List ℕ
pairs_of n lines = tab n (λ j. line_byte (get_or lines (j / 2) (line 0 0)) (j % 2))
