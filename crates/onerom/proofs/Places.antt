-- Every refusal of a round trip is one of document 01's rows, with a place below 2^48, so that its result unpacks. Assumes nothing.
use Rattle.std.specs.Prelude.{Result, Ok, Err, Some}
use mathlib.Core.List.{List}
use Prim.Native.Nat.{ℕ}
use native.Mathlib.Omega.{arith}
use lib.ListN.{take}
use Rattle.slot.specs.declared.description.Description.{Description}
use Rattle.refusal.specs.declared.Refusal.{Refusal}
use Rattle.refusal.specs.declared.Refusal.TheVariants.{OutOfDomain}
use Rattle.refusal.proofs.Places.{FirstRows}
use Rattle.addr_layout.specs.Layout.{addr_code}
use Rattle.addr_layout.specs.Search.{addr_answer}
use Rattle.addr_layout.specs.declared.layout.AddrLayout.{AddrLayout}
use Rattle.addr_layout.proofs.Places.{addr-place}
use Rattle.cs_data_layout.specs.Layout.{cs_data_code}
use Rattle.cs_data_layout.specs.Search.{cs_data_answer}
use Rattle.cs_data_layout.specs.declared.layout.CsDataLayout.{CsDataLayout}
use Rattle.cs_data_layout.proofs.Places.{cs_data_place}
use Rattle.words.specs.declared.ByteOrder.{ByteOrder}
use Rattle.build_args.specs.Args.{args_of}
use Rattle.build_args.specs.Faults.{table_size}
use Rattle.build_args.specs.declared.BuildArgs.{BuildArgs}
use Rattle.build_args.specs.declared.images.ImageSpan.{ImageSpan}
use Rattle.rom_image.specs.Build.{build_of}
use Rattle.rom_image.proofs.Places.{build-place}
use Rattle.unscramble.proofs.Places.{read-place}
use Rattle.round_trip.specs.Chain.{Trip, stopped, after_build, select_trip, address_trip, round_trip_of}
use Rattle.round_trip.specs.Stored.{stored_of}
use Rattle.description_record.specs.Record.{decoded_of}
use Rattle.image_record.specs.ImageRecord.{spans_at}
use Rattle.calls.specs.Order.{order_at}
use Rattle.calls.specs.Calls.{if_record}
use Rattle.calls.proofs.Places.{Placed, if_place, record-place}
use Rattle.calls.proofs.Law.{unpacks}
use Rattle.onerom.specs.Trip.{trip_formed, trip_from, trip_call, TripUnpacks}

-- the round trip, the first of the four that refuses
module _ (order : ByteOrder) (d : Description) (images : List ℕ) (spans : List ImageSpan) (table output marks : List ℕ) where
  after_build_lem : (b : BuildArgs) (x : Result (Unit {0}) Refusal) (t : List ℕ) → Placed x → Placed (after_build order b output marks x t).answer
  after_build_lem b (Ok tt) t h =
      read-place order (stored_of b.description b.addr b.cs_data) (take (table_size b.description b.addr) t) output marks
  after_build_lem b (Err why) t h = h

  after_select_lem : (a : AddrLayout) (x : Result CsDataLayout Refusal) → FirstRows (cs_data_code x)
      → Placed (select_trip order d a images spans table output marks x).answer
  after_select_lem a (Ok c) h =
      let b = args_of d a c spans in
      after_build_lem b (build_of order b images table).answer (build_of order b images table).table (build-place order b images table)
  after_select_lem a (Err why) h = h

  after_address_lem : (x : Result AddrLayout Refusal) → FirstRows (addr_code x) → Placed (address_trip order d images spans table output marks x).answer
  after_address_lem (Ok a) h = after_select_lem a (cs_data_answer d (Some a)) (cs_data_place d (Some a))
  after_address_lem (Err why) h = h

  trip-place : Placed (round_trip_of order d images spans table output marks).answer
  unfolding round_trip_of
  trip-place = after_address_lem (addr_answer d) (addr-place d)

module _ (description spans images : List ℕ) (order : ℕ) (table output marks : List ℕ) where
  abbrev trips : Description → Trip
  trips d = trip_from (order_at order) d spans images table output marks

  abbrev trip_stops : Refusal → Trip
  trip_stops why = stopped why table output marks

  pub trip-placed : Placed (trip_call description spans images order table output marks).answer
  unfolding trip_call
  trip-placed =
      if_place (λ (x : Trip). x.answer) (trip_formed spans order) (if_record trips trip_stops (decoded_of description)) (trip_stops OutOfDomain)
      (record-place (λ (x : Trip). x.answer) trips trip_stops description (λ d. trip-place (order_at order) d images (spans_at spans) table output marks) (omega arith))
      (omega arith)

pub trip_unpacks : TripUnpacks
trip_unpacks description spans images order table output marks = unpacks _ (trip-placed description spans images order table output marks)
