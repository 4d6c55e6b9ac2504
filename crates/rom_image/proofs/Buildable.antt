-- What the tests before it leave to a build. Assumes nothing.
use mathlib.Core.Path.{◌≡◌}
use mathlib.Core.Bool.{true}
use mathlib.Core.List.{List}
use Prim.Native.Nat.{ℕ, ◌≤◌, ◌<◌}
use lib.ListN.{length, get_or}
use Rattle.slot.specs.Description.{no_chip}
use Rattle.slot.specs.declared.description.Description.{Description}
use Rattle.addr_layout.specs.declared.layout.AddrLayout.{AddrLayout}
use Rattle.cs_data_layout.specs.declared.layout.CsDataLayout.{CsDataLayout}
use Rattle.picks.specs.Picks.{chips_fit}
use Rattle.build_args.specs.Images.{chip_span, chip_bytes}
use Rattle.build_args.specs.declared.images.ImageSpan.{ImageSpan}

pub record Buildable (d : Description) (a : AddrLayout) (c : CsDataLayout) (images : List ℕ) (spans : List ImageSpan) : Type 0 where
  pub lines : a.num_lines ≤ 24
  pub data-lines : c.num_data_pins ≤ 16
  pub some_bytes : 1 ≤ d.word_bytes
  pub bytes : d.word_bytes ≤ 2
  pub chips : chips_fit d.set_type d.num_chips ≡ true
  pub lent : (k : ℕ) → k < d.num_chips → (get_or d.chips k no_chip).size ≤ length (chip_bytes images (chip_span spans k))
