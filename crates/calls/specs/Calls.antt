-- What each call answers, and what the buffers lent to it hold then; and what its caller gets of that. Assumes nothing.
use Rattle.std.specs.Prelude.{ℕ, Bool, ◌&&◌, cond, List, ◌++◌, ltb, length, drop, Result, Ok, Err}
use Rattle.slot.specs.declared.description.Description.{Description}
use Rattle.refusal.specs.declared.Refusal.{Refusal}
use Rattle.refusal.specs.declared.Refusal.TheVariants.{OutOfDomain, ShortBuffer}
use Rattle.description_record.specs.Record.{decoded_of}
use Rattle.description_record.specs.declared.Decoded.{Decoded}
use Rattle.addr_layout.specs.Search.{addr_answer}
use Rattle.addr_layout.specs.declared.layout.AddrLayout.{AddrLayout}
use Rattle.cs_data_layout.specs.Search.{cs_data_answer}
use Rattle.cs_data_layout.specs.declared.layout.CsDataLayout.{CsDataLayout}
use Rattle.words.specs.declared.ByteOrder.{ByteOrder}
use Rattle.build_args.specs.Args.{args_of}
use Rattle.rom_image.specs.Build.{Built, built, build_of}
use Rattle.addr_record.specs.AddrRecord.{addr_size, layout_bytes, layout_at, layout_formed, given_at, given_formed}
use Rattle.cs_data_record.specs.CsDataRecord.{cs_data_size, cs_data_bytes, cs_data_at, cs_data_formed}
use Rattle.image_record.specs.ImageRecord.{spans_at, spans_formed}
use Rattle.stored_record.specs.StoredRecord.{stored_at, stored_formed}
use Rattle.unscramble.specs.Recovered.{ReadBack, read_refused, unscrambled}
use Rattle.calls.specs.Packed.{result_of}
use Rattle.calls.specs.Order.{order_formed, order_at}

-- a search's call is lent one buffer
pub record Answered : Type 0 where
  pub answer : Result (Unit {0}) Refusal
  pub buffer : List ℕ

abbrev pub answered : Result (Unit {0}) Refusal → List ℕ → Answered
answered a b = record { answer = a; buffer = b }

-- 01 Numbers 5: a refused call leaves its buffer as it was lent
abbrev pub call_refused : Refusal → List ℕ → Answered
call_refused why buffer = answered (Err why) buffer

-- 01 Number 16: the buffer has fewer bytes than the record
-- 01 Numbers 7: the buffer's bytes behind the record stay
abbrev pub written : ℕ → List ℕ → List ℕ → Answered
written size bytes buffer = cond (ltb (length buffer) size) (call_refused ShortBuffer buffer) (answered (Ok tt) (bytes ++ drop size buffer))

-- 01 Number 1: the bytes are no description record
-- 01 Numbers 2: such bytes are refused before anything is done with a description
abbrev pub if_described : {A : Type 0} → (Description → A) → (Refusal → A) → Result (Unit {0}) Refusal → Description → A
if_described f refuse (Ok tt) d = f d
if_described f refuse (Err why) d = refuse why

abbrev pub if_record : {A : Type 0} → (Description → A) → (Refusal → A) → Decoded → A
if_record f refuse x = if_described f refuse x.answer x.description

-- the search's own refusals come before the buffer's
abbrev pub addr_found : Result AddrLayout Refusal → List ℕ → Answered
addr_found (Ok l) buffer = written addr_size (layout_bytes l) buffer
addr_found (Err why) buffer = call_refused why buffer

-- `onerom_derive_addr_layout` of a record's bytes and a lent buffer
unfoldable pub addr_call : List ℕ → List ℕ → Answered
addr_call description buffer = if_record (λ d. addr_found (addr_answer d) buffer) (λ why. call_refused why buffer) (decoded_of description)

abbrev pub cs_data_found : Result CsDataLayout Refusal → List ℕ → Answered
cs_data_found (Ok l) buffer = written cs_data_size (cs_data_bytes l) buffer
cs_data_found (Err why) buffer = call_refused why buffer

-- `onerom_derive_cs_data_layout` of a description's bytes, an address layout's, and a lent buffer
unfoldable pub cs_data_call : List ℕ → List ℕ → List ℕ → Answered
cs_data_call description layout buffer =
    cond (given_formed layout)
    (if_record (λ d. cs_data_found (cs_data_answer d (given_at layout)) buffer) (λ why. call_refused why buffer) (decoded_of description))
    (call_refused OutOfDomain buffer)

-- both layouts and the spans: here each has to be a record
-- 02 Slip 5 2: beside them stands the number of the byte order, one for all chips
abbrev pub build_formed : List ℕ → List ℕ → List ℕ → ℕ → Bool
build_formed addr csData spans order = layout_formed addr && cs_data_formed csData && spans_formed spans && order_formed order

-- a build says itself what its table holds
abbrev pub build_from : ByteOrder → Description → List ℕ → List ℕ → List ℕ → List ℕ → List ℕ → Built
build_from order d addr csData spans images table = build_of order (args_of d (layout_at addr) (cs_data_at csData) (spans_at spans)) images table

abbrev pub build_refused : Refusal → List ℕ → Built
build_refused why table = built (Err why) table

-- `onerom_build_rom_image` of the bytes of a description, of both layouts and of the spans, of the chips' bytes, of the number of their
-- order, and of a lent table
unfoldable pub build_call : List ℕ → List ℕ → List ℕ → List ℕ → List ℕ → ℕ → List ℕ → Built
build_call description addr csData spans images order table =
    cond (build_formed addr csData spans order)
    (if_record (λ d. build_from (order_at order) d addr csData spans images table) (λ why. build_refused why table) (decoded_of description))
    (build_refused OutOfDomain table)

-- 01 Numbers 5: read-back says itself what its buffers hold, since 23 and 24 do write
abbrev pub read_from : ByteOrder → List ℕ → List ℕ → List ℕ → List ℕ → ReadBack
read_from order slot stored output marks = unscrambled order (stored_at slot) stored output marks

-- the stored slot has to be a record, and the number a byte order's
abbrev pub read_formed : List ℕ → ℕ → Bool
read_formed slot order = stored_formed slot && order_formed order

-- `onerom_unscramble_slot` of a stored slot's bytes, of its table, of the number of a byte order, and of two lent buffers
-- 01 Number 1: the bytes are no stored slot record
-- 02 Slip 5 2: or the number is no order's, which is looked at before the slot, and so for a plugin too
-- 01 Numbers 2: such bytes are refused before anything is done with a slot
unfoldable pub read_back_call : List ℕ → List ℕ → ℕ → List ℕ → List ℕ → ReadBack
read_back_call slot stored order output marks =
    cond (read_formed slot order)
    (read_from (order_at order) slot stored output marks)
    (read_refused OutOfDomain output marks)

-- what a caller gets: the answer as one number, and the buffers
pub record Returned : Type 0 where
  pub result : ℕ
  pub buffer : List ℕ

abbrev pub returned : ℕ → List ℕ → Returned
returned r b = record { result = r; buffer = b }

abbrev pub search_result : Answered → Returned
search_result x = returned (result_of x.answer) x.buffer

abbrev pub build_result : Built → Returned
build_result x = returned (result_of x.answer) x.table

-- 01 Shape 2: read-back is lent two buffers, an output for all chips and the marks of their words
pub record ReadReturned : Type 0 where
  pub result : ℕ
  pub output : List ℕ
  pub marks : List ℕ

abbrev pub read_returned : ℕ → List ℕ → List ℕ → ReadReturned
read_returned r o m = record { result = r; output = o; marks = m }

abbrev pub read_result : ReadBack → ReadReturned
read_result x = read_returned (result_of x.answer) x.output x.marks
