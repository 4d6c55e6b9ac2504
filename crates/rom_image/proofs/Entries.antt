-- The entries by positions and sources are those of the table. Assumes nothing.
use mathlib.Core.Path.{◌≡◌}
use mathlib.Core.List.{List, ◌++◌}
use Prim.Native.Nat.{ℕ, ◌^◌, ◌≤◌, ◌<◌}
use native.Mathlib.Nat.{lt_of_lt_of_le}
use native.Mathlib.Omega.{arith}
use lib.ListN.{drop, get_or}
use lib.Pow.{pow_mono}
use Rattle.lists.proofs.Tab.{get_or-tab}
use Rattle.bits.specs.Bits.{gather}
use Rattle.bits.proofs.Gathered.{gather_lt, gather_cong}
use Rattle.bits.proofs.Scattered.{scatter_cong}
use Rattle.words.specs.declared.ByteOrder.{ByteOrder}
use Rattle.words.proofs.Words.{words_cong}
use Rattle.table_fill.specs.Design.Entries.{WiringIn, SourcesIn, part_of, scrambled_by, no_source, entry_by, table_by}
use Rattle.slot.specs.declared.description.Description.{Description}
use Rattle.addr_layout.specs.declared.layout.AddrLayout.{AddrLayout}
use Rattle.cs_data_layout.specs.declared.layout.CsDataLayout.{CsDataLayout}
use Rattle.build_args.specs.Args.{args_of}
use Rattle.build_args.specs.Positions.{line_position, data_position}
use Rattle.build_args.specs.Picks.{num_picks, pick_position, picked}
use Rattle.build_args.specs.Faults.{entries_of, table_size}
use Rattle.build_args.specs.declared.images.ImageSpan.{ImageSpan}
use Rattle.picks.proofs.Picking.{picks_three, picked-below}
use Rattle.rom_image.specs.Entry.{chip_address, chip_picked, pad_of, scrambled, entry_at, table_of}
use Rattle.build_wiring.specs.Design.Wiring.{wiring_of, source_of, sources_of}
use Rattle.rom_image.proofs.Buildable.{Buildable}
use Rattle.rom_image.proofs.Chips.{Lent, raw_word, source_in}

module _ (d : Description) (a : AddrLayout) (c : CsDataLayout) (images : List ℕ) (spans : List ImageSpan) (b : Buildable d a c images spans) where
  picks-few : num_picks d ≤ 3
  picks-few = picks_three d.set_type d.num_chips

  pub wiring_in : WiringIn (wiring_of d a c)
  unfolding wiring_of
  wiring_in = record {
    lines = b.lines;
    picks = picks-few;
    data-lines = b.data-lines;
    bytes = b.bytes;
  }

  -- what an index says, and what a word comes to, by the tables of positions
  address_is : (i : ℕ) → (part_of (wiring_of d a c) i).address ≡ chip_address a i
  unfolding wiring_of chip_address
  address_is i = gather_cong a.num_lines _ _ i (λ k l. get_or-tab (line_position a) 24 k 0 (omega (arith, b.lines)))

  picks_are : (i : ℕ) → (part_of (wiring_of d a c) i).picks ≡ gather (num_picks d) (pick_position d a c) i
  unfolding wiring_of
  picks_are i = gather_cong (num_picks d) _ _ i (λ k l. get_or-tab (pick_position d a c) 3 k 0 (omega (arith, picks-few)))

  scrambled_is : (v : ℕ) → scrambled_by (wiring_of d a c) v ≡ scrambled d c v
  unfolding wiring_of scrambled
  scrambled_is v = scatter_cong c.num_data_pins _ _ _ v (λ k l. get_or-tab (data_position c) 16 k 0 (omega (arith, b.data-lines)))

  -- the bits of the picking lines: the source of the chip that they pick, which has its bytes
  module _ (bits : ℕ) (few : bits < 2 ^ num_picks d) where
    source_at : get_or (sources_of d spans) bits no_source ≡ source_of d spans (picked d bits)
    source_at = get_or-tab _ 8 bits no_source (lt_of_lt_of_le few (pow_mono {j = 3} picks-few))

    picked-lent : Lent d images spans (picked d bits)
    picked-lent k e = b.lent k (picked-below d.set_type d.num_chips bits k b.chips few e)

  pub sources_in : SourcesIn images (wiring_of d a c) (sources_of d spans)
  unfolding wiring_of
  sources_in bits few = rw (source_at bits few) (source_in d images spans (picked d bits) b.some_bytes (picked-lent bits few))

  -- the entry at an index, and the table
  pub entry_is : (order : ByteOrder) (pad i : ℕ) → entry_by order (wiring_of d a c) (sources_of d spans) (pad_of pad d) images i ≡ entry_at pad order (args_of d a c spans) images i
  unfolding wiring_of entry_by entry_at chip_picked
  entry_is order pad i =
      let few = gather_lt (num_picks d) (pick_position d a c) i in
      rw (picks_are i, address_is i, source_at _ few, raw_word d images spans order pad _ (chip_address a i) (picked-lent _ few)) (scrambled_is _)

  pub table_is : (order : ByteOrder) (pad : ℕ) (lent : List ℕ) → table_by order (wiring_of d a c) (sources_of d spans) (pad_of pad d) images (entries_of a) lent ≡ table_of pad order (args_of d a c spans) images ++ drop (table_size d a) lent
  unfolding wiring_of table_of
  table_is order pad lent = rw (words_cong d.word_bytes (entry_by order (wiring_of d a c) (sources_of d spans) (pad_of pad d) images) (entry_at pad order (args_of d a c spans) images) (entries_of a) (λ i l. entry_is order pad i))
