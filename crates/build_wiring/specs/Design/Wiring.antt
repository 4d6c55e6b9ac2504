-- How the build goes about it: the lines' positions and where the chips' words stand, found once. No answer is defined by it: `entry_at`
-- says what an entry holds. Assumes nothing.
use Rattle.std.specs.Prelude.{List, Option, Some, None, ℕ}
use Rattle.lists.specs.Tab.{tab}
use Rattle.slot.specs.declared.description.Description.{Description}
use Rattle.addr_layout.specs.declared.layout.AddrLayout.{AddrLayout}
use Rattle.cs_data_layout.specs.declared.layout.CsDataLayout.{CsDataLayout}
use Rattle.build_args.specs.Images.{chip_span}
use Rattle.build_args.specs.Positions.{line_position, data_position}
use Rattle.build_args.specs.Picks.{num_picks, pick_position, picked}
use Rattle.build_args.specs.declared.images.ImageSpan.{ImageSpan}
use Rattle.build_wiring.specs.Counts.{word_count, power_of_two}
use Rattle.table_fill.specs.Design.Entries.{no_source}
use Rattle.table_fill.specs.declared.wiring.Wiring.{Wiring}
use Rattle.table_fill.specs.declared.sources.Source.{Source}

-- the positions of all lines
unfoldable pub wiring_of : Description → AddrLayout → CsDataLayout → Wiring
wiring_of d a c = record {
  address = tab 24 (line_position a);
  num_lines = a.num_lines;
  picks = tab 3 (pick_position d a c);
  num_picks = num_picks d;
  data_lines = tab 16 (data_position c);
  num_data = c.num_data_pins;
  word_bytes = d.word_bytes;
}

-- where the words stand of the chip that is picked
abbrev pub source_of : Description → List ImageSpan → Option ℕ → Source
source_of d spans None = no_source
source_of d spans (Some k) = record {
  start = (chip_span spans k).start;
  count = word_count d k;
  mirrored = power_of_two (word_count d k);
}

abbrev pub sources_of : Description → List ImageSpan → List Source
sources_of d spans = tab 8 (λ bits. source_of d spans (picked d bits))
