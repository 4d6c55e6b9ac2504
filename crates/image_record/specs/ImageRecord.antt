-- The image spans record of docs/INTERFACE.md, place by place: where in the lent bytes each chip's stand. Assumes nothing.
use Rattle.std.specs.Prelude.{ℕ, ◌+◌, ◌*◌, Bool, ◌&&◌, List, eqb, length}
use Rattle.lists.specs.Each.{each}
use Rattle.lists.specs.Tab.{tab}
use Rattle.fields.specs.Fields.{byte_at, four_at, flag_formed}
use Rattle.build_args.specs.declared.images.ImageSpan.{ImageSpan}

-- "48 bytes"
abbrev pub spans_size : ℕ
spans_size = 48

-- "1 yes"; the start, and the number of bytes
abbrev pub span_from : List ℕ → ℕ → ImageSpan
span_from b p = record { present = eqb (byte_at b p) 1; start = four_at b (p + 4); length = four_at b (p + 8) }

-- "chips 0 to 3, 12 bytes a chip"
abbrev pub spans_at : List ℕ → List ImageSpan
spans_at b = tab 4 (λ k. span_from b (12 * k))

-- the length, and whether each chip has bytes
unfoldable pub spans_formed : List ℕ → Bool
spans_formed b = eqb (length b) spans_size && each 4 (λ k. flag_formed b (12 * k))
