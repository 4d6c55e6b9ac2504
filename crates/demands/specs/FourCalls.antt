-- Demand 3 for a bench that makes the four calls itself: each record goes on to the next call as the call before wrote it. Assumes nothing.
use Rattle.std.specs.Prelude.{◌≡◌, true, List, ℕ, ◌<◌, get_or, take}
use Rattle.slot.specs.declared.description.Description.{Description}
use Rattle.addr_layout.specs.declared.layout.AddrLayout.{AddrLayout}
use Rattle.cs_data_layout.specs.declared.layout.CsDataLayout.{CsDataLayout}
use Rattle.build_args.specs.Args.{args_of}
use Rattle.build_args.specs.Faults.{table_size}
use Rattle.build_args.specs.declared.BuildArgs.{BuildArgs}
use Rattle.description_record.specs.Record.{decoded_of}
use Rattle.addr_record.specs.AddrRecord.{addr_size, layout_at}
use Rattle.cs_data_record.specs.CsDataRecord.{cs_data_size, cs_data_at}
use Rattle.image_record.specs.ImageRecord.{spans_at}
use Rattle.stored_record.specs.StoredRecord.{stored_at, stored_formed}
use Rattle.premises.specs.WellWired.{WellWired, StoredAs, Unforced}
use Rattle.premises.specs.Room.{Room}
use Rattle.round_trip.specs.RoundTrip.{returned_whole}
use Rattle.calls.specs.Calls.{addr_call, cs_data_call, build_call, read_back_call, Returned, search_result, build_result, read_returned, read_result}

-- what the bench hands in and lends
pub record Bench : Type 0 where
  pub description : List ℕ
  pub spans : List ℕ
  pub images : List ℕ
  -- the number of the byte order, for the build and for read-back alike
  pub order : ℕ
  -- lent to the searches and to the build
  pub addr-buffer : List ℕ
  pub cs_data_buffer : List ℕ
  pub table : List ℕ

-- what the calls return, in turn
abbrev pub addressed : Bench → Returned
addressed b = search_result (addr_call b.description b.addr-buffer)

-- the record of the layout found: the front of the buffer
abbrev pub addr_record : Bench → List ℕ
addr_record b = take addr_size (addressed b).buffer

abbrev pub selected : Bench → Returned
selected b = search_result (cs_data_call b.description (addr_record b) b.cs_data_buffer)

abbrev pub cs_data_record : Bench → List ℕ
cs_data_record b = take cs_data_size (selected b).buffer

abbrev pub built : Bench → Returned
built b = build_result (build_call b.description (addr_record b) (cs_data_record b) b.spans b.images b.order b.table)

-- 00 Demand 3: both searches and the build accept
pub record Accepted (b : Bench) : Type 0 where
  pub address : (addressed b).result ≡ 0
  pub select : (selected b).result ≡ 0
  pub build : (built b).result ≡ 0

-- the slot by its records
abbrev pub slot_args : Bench → BuildArgs
slot_args b =
    args_of (decoded_of b.description).description (layout_at (addr_record b)) (cs_data_at (cs_data_record b)) (spans_at b.spans)

-- 01 Well wired 9: read-back is given the table as the build left it
abbrev pub stored : Bench → List ℕ
stored b = take (table_size (slot_args b).description (slot_args b).addr) (built b).buffer

-- a stored slot's record that says of the slot what 01 lists, and forces nothing
pub record SlotRecord (b : Bench) (slot : List ℕ) : Type 0 where
  pub formed : stored_formed slot ≡ true
  pub says : StoredAs (slot_args b).description (slot_args b).addr (slot_args b).cs_data (stored_at slot)
  pub unforced : Unforced (slot_args b).addr (stored_at slot)

-- 00 Demand 3: of a well wired slot that is accepted, read-back returns 0, each chip's words and a mark for each, whatever the chips hold
-- and whatever stood in the five buffers
-- 02 Slip 5 4: under either byte order, the words match the dump
abbrev pub FourCalls : Type 0
FourCalls =
    (b : Bench) (slot output marks : List ℕ) → ((k : ℕ) → get_or b.images k 0 < 256)
    → Accepted b → WellWired (slot_args b).description (slot_args b).addr → SlotRecord b slot
    → Room (slot_args b).description (slot_args b).addr output marks
    → read_result (read_back_call slot (stored b) b.order output marks)
    ≡ read_returned 0 (returned_whole (slot_args b) b.images output marks).output (returned_whole (slot_args b) b.images output marks).marks
