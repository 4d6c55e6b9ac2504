-- The bytes that are lent for the chips: one slice, and for each chip where its bytes stand in it. Assumes nothing.
use Rattle.std.specs.Prelude.{ℕ, false, List, take, drop, get_or}
use Rattle.build_args.specs.declared.images.ImageSpan.{ImageSpan}

abbrev pub no_span : ImageSpan
no_span = record { present = false; start = 0; length = 0 }

abbrev pub chip_span : List ImageSpan → ℕ → ImageSpan
chip_span spans k = get_or spans k no_span

-- a chip's bytes: those of its span that the slice has
unfoldable pub chip_bytes : List ℕ → ImageSpan → List ℕ
chip_bytes images s = take s.length (drop s.start images)
