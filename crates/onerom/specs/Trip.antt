-- What the call of the round trip answers, and what the buffers lent to it hold then; and demand 3 of it. Assumes nothing.
use Rattle.std.specs.Prelude.{ℕ, ◌≡◌, Bool, true, cond, ◌&&◌, List, Ok}
use Rattle.slot.specs.declared.description.Description.{Description}
use Rattle.refusal.specs.declared.Refusal.TheVariants.{OutOfDomain}
use Rattle.description_record.specs.Record.{decoded_of}
use Rattle.addr_layout.specs.declared.layout.AddrLayout.{AddrLayout}
use Rattle.cs_data_layout.specs.declared.layout.CsDataLayout.{CsDataLayout}
use Rattle.words.specs.declared.ByteOrder.{ByteOrder}
use Rattle.build_args.specs.Args.{args_of}
use Rattle.image_record.specs.ImageRecord.{spans_at, spans_formed}
use Rattle.premises.specs.WellWired.{WellWired}
use Rattle.premises.specs.Room.{Room}
use Rattle.round_trip.specs.RoundTrip.{Accepted, returned_whole}
use Rattle.round_trip.specs.Chain.{Trip, stopped, round_trip_of}
use Rattle.calls.specs.Packed.{result_of}
use Rattle.calls.specs.Order.{order_formed, order_at}
use Rattle.calls.specs.Calls.{if_record, ReadReturned, read_result}
use Rattle.calls.specs.Law.{Unpacks}

-- both searches, the build and read-back in turn, on three buffers
abbrev pub trip_from : ByteOrder → Description → List ℕ → List ℕ → List ℕ → List ℕ → List ℕ → Trip
trip_from order d spans images table output marks = round_trip_of order d images (spans_at spans) table output marks

-- the spans have to be a record, and the number a byte order's
-- 02 Slip 5 2: one order is passed on to the build and to read-back
abbrev pub trip_formed : List ℕ → ℕ → Bool
trip_formed spans order = spans_formed spans && order_formed order

-- `onerom_round_trip` of the bytes of a description and of the spans, of the chips' bytes, of the number of their order, and of the lent
-- table, output and marks
unfoldable pub trip_call : List ℕ → List ℕ → List ℕ → ℕ → List ℕ → List ℕ → List ℕ → Trip
trip_call description spans images order table output marks =
    cond (trip_formed spans order)
    (if_record (λ d. trip_from (order_at order) d spans images table output marks) (λ why. stopped why table output marks) (decoded_of description))
    (stopped OutOfDomain table output marks)

pub record TripReturned : Type 0 where
  pub result : ℕ
  pub table : List ℕ
  pub output : List ℕ
  pub marks : List ℕ

abbrev pub trip_returned : ℕ → List ℕ → List ℕ → List ℕ → TripReturned
trip_returned r t o m = record { result = r; table = t; output = o; marks = m }

abbrev pub trip_result : Trip → TripReturned
trip_result x = trip_returned (result_of x.answer) x.table x.output x.marks

-- of what a round trip returns and leaves in output and marks
-- 00 Demand 3: where searches and build accept a well wired slot and the buffers have room, it is done, and they hold the chips' words
abbrev pub TripDemanded : ByteOrder → Description → List ℕ → List ℕ → List ℕ → List ℕ → List ℕ → ReadReturned → Type 0
TripDemanded order d spans images table output marks r =
    (a : AddrLayout) (c : CsDataLayout) → Accepted order (args_of d a c (spans_at spans)) images table → WellWired d a → Room d a output marks
    → r ≡ read_result (returned_whole (args_of d a c (spans_at spans)) images output marks)

-- 00 Demand 3: the same over bytes, where description and spans are records, and the number is a byte order's
abbrev pub CallDemanded : List ℕ → List ℕ → List ℕ → ℕ → List ℕ → List ℕ → List ℕ → ReadReturned → Type 0
CallDemanded description spans images order table output marks r =
    (decoded_of description).answer ≡ Ok tt → trip_formed spans order ≡ true
    → TripDemanded (order_at order) (decoded_of description).description spans images table output marks r

-- its number and its place come out of its result too
abbrev pub TripUnpacks : Type 0
TripUnpacks = (description spans images : List ℕ) (order : ℕ) (table output marks : List ℕ)
    → Unpacks (trip_call description spans images order table output marks).answer
