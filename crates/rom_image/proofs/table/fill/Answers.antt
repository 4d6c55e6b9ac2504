-- `fill` meets its contract: the entries by positions and sources are the table. Assumes nothing.
use mathlib.Core.Path.{◌≡◌}
use mathlib.Core.List.{List, ◌++◌}
use Prim.Native.Nat.{ℕ, ◌*◌, ◌%◌, ◌^◌, ◌<◌, ◌≤◌}
use native.Mathlib.Omega.{arith}
use lib.ListN.{length, drop}
use Rattle.lists.proofs.Shifts.{shifted_one}
use Rattle.words.specs.declared.ByteOrder.{ByteOrder}
use Rattle.words.proofs.Words.{pad_lt}
use Rattle.table_fill.specs.Design.Entries.{Filling, table_by}
use Rattle.table_fill.specs.declared.wiring.Wiring.{Wiring}
use Rattle.table_fill.specs.declared.sources.Source.{Source}
use Rattle.slot.specs.declared.description.Description.{Description}
use Rattle.addr_layout.specs.declared.layout.AddrLayout.{AddrLayout}
use Rattle.cs_data_layout.specs.declared.layout.CsDataLayout.{CsDataLayout}
use Rattle.build_args.specs.Args.{args_of}
use Rattle.build_args.proofs.Facts.{selected, data-base}
use Rattle.build_args.specs.Faults.{entries_of, table_size}
use Rattle.build_args.specs.declared.images.ImageSpan.{ImageSpan}
use Rattle.rom_image.specs.Entry.{pad_of, table_of}
use Rattle.rom_image.specs.Build.{pad_byte}
use Rattle.build_wiring.specs.Design.Wiring.{wiring_of, sources_of}
use Rattle.rom_image.proofs.Buildable.{Buildable}
use Rattle.rom_image.proofs.Entries.{wiring_in, sources_in, table_is}
use Rattle.rom_image.proofs.Past.{entries-few, pins-few, table_fits, buildable}
use Rattle.rom_image.proofs.table.fill.Goals as goal

entries : (pins : ℕ) → pins < 32 → (1 * 2 ^ pins) % 2 ^ 32 ≡ 2 ^ pins
entries pins h = shifted_one pins 32 (omega arith)

-- what is handed on, by what it is
module _ (d : Description) (a : AddrLayout) (l : CsDataLayout) (images : List ℕ) (spans : List ImageSpan) (b : Buildable d a l images spans)
    (w : Wiring) (ss : List Source) (pad n : ℕ) (ew : w ≡ wiring_of d a l) (es : ss ≡ sources_of d spans) (ep : pad ≡ pad_of pad_byte d) (en : n ≡ entries_of a) where
  ready : (table : List ℕ) → entries_of a ≤ 2 ^ 20 → table_size d a ≤ length table → Filling w ss pad images n table
  unfolding wiring_of
  ready table f r =
      rw (ew, es, ep, en)
      (record { wiring_in = wiring_in d a l images spans b; sources_in = sources_in d a l images spans b; pad_short = pad_lt d.word_bytes pad_byte (omega arith); few = f; room = r })

  done : (order : ByteOrder) (old new : List ℕ) → new ≡ table_by order w ss pad images n old → new ≡ table_of pad_byte order (args_of d a l spans) images ++ drop (table_size d a) old
  done order old new e = rw (ew, es, ep, en, table_is d a l images spans b order pad_byte old) at e

pub pad_word-pad-requires : goal.pad_word-pad-requires
pad_word-pad-requires c = (let h : Buildable c.args.b.description c.args.b.addr c.args.b.cs_data c.args.images.now c.args.b.spans = buildable c.args.b.description c.args.b.addr c.args.b.cs_data c.args.images.now c.args.b.spans _ c.requires in h).bytes

pub wiring-requires : goal.wiring-requires
wiring-requires c =
    omega (arith, data-base c.args.b.cs_data (selected c.args.b c.requires.domain))

pub sources-requires : goal.sources-requires
sources-requires c = (let h : Buildable c.args.b.description c.args.b.addr c.args.b.cs_data c.args.images.now c.args.b.spans = buildable c.args.b.description c.args.b.addr c.args.b.cs_data c.args.images.now c.args.b.spans _ c.requires in h).some_bytes

pub overflow_shl-a : goal.overflow_shl-a
overflow_shl-a c = (let h : c.args.b.addr.num_addr_pins < 32 = pins-few c.args.b.description c.args.b.addr c.args.b.cs_data c.args.images.now c.args.b.spans _ c.requires in h)

pub fill_by-requires : goal.fill_by-requires
fill_by-requires c =
    ready c.args.b.description c.args.b.addr c.args.b.cs_data c.args.images.now c.args.b.spans (let h : Buildable c.args.b.description c.args.b.addr c.args.b.cs_data c.args.images.now c.args.b.spans = buildable c.args.b.description c.args.b.addr c.args.b.cs_data c.args.images.now c.args.b.spans _ c.requires in h) _ _ _ _ c.wiring.ensures c.sources.ensures c.pad_word-pad.ensures.value
    (entries c.args.b.addr.num_addr_pins (let h : c.args.b.addr.num_addr_pins < 32 = pins-few c.args.b.description c.args.b.addr c.args.b.cs_data c.args.images.now c.args.b.spans _ c.requires in h)) _
    (entries-few c.args.b.description c.args.b.addr c.args.b.cs_data c.args.images.now c.args.b.spans _ c.requires)
    (table_fits c.args.b.description c.args.b.addr c.args.b.cs_data c.args.images.now c.args.b.spans _ c.requires)

pub returns : goal.returns
returns c =
    done c.args.b.description c.args.b.addr c.args.b.cs_data c.args.images.now c.args.b.spans (let h : Buildable c.args.b.description c.args.b.addr c.args.b.cs_data c.args.images.now c.args.b.spans = buildable c.args.b.description c.args.b.addr c.args.b.cs_data c.args.images.now c.args.b.spans _ c.requires in h) _ _ _ _ c.wiring.ensures c.sources.ensures c.pad_word-pad.ensures.value
    (entries c.args.b.addr.num_addr_pins (let h : c.args.b.addr.num_addr_pins < 32 = pins-few c.args.b.description c.args.b.addr c.args.b.cs_data c.args.images.now c.args.b.spans _ c.requires in h)) c.args.order _ _ c.fill_by.ensures
