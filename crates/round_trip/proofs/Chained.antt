-- The four calls in turn, step by step: what the code's answers make of the definition. Assumes nothing.
use Rattle.std.specs.Prelude.{Result, Ok, Err, Some}
use mathlib.Core.Path.{◌≡◌, sym, ◌∙◌, ap}
use mathlib.Core.Bool.{true}
use mathlib.Core.List.{List}
use Prim.Native.Nat.{ℕ, ◌≤◌, ◌<◌}
use native.Mathlib.Omega.{arith}
use lib.ListN.{length, get_or}
use Rattle.slot.specs.declared.description.Description.{Description}
use Rattle.refusal.specs.declared.Refusal.{Refusal}
use Rattle.words.specs.declared.ByteOrder.{ByteOrder}
use Rattle.addr_layout.specs.Search.{addr_answer}
use Rattle.addr_layout.specs.declared.layout.AddrLayout.{AddrLayout}
use Rattle.cs_data_layout.specs.Search.{cs_data_answer}
use Rattle.cs_data_layout.specs.declared.layout.CsDataLayout.{CsDataLayout}
use Rattle.build_args.specs.Args.{args_of}
use Rattle.build_args.specs.declared.BuildArgs.{BuildArgs}
use Rattle.round_trip.specs.Design.Readable.{Readable}
use Rattle.build_args.specs.Faults.{table_size}
use Rattle.build_args.specs.declared.images.ImageSpan.{ImageSpan}
use Rattle.rom_image.specs.Build.{Built, built, build_of}
use Rattle.unscramble.specs.Recovered.{ReadBack, read_back}
use Rattle.round_trip.specs.RoundTrip.{Accepted}
use Rattle.round_trip.specs.Chain.{Trip, trip, stopped, read_of, after_build, build_trip, select_trip, address_trip, round_trip_of, AsDemanded}
use Rattle.round_trip.proofs.StoredOf.{callable}
use Rattle.round_trip.proofs.Whole.{reads_back}

-- the build's answer
module _ (order : ByteOrder) (b : BuildArgs) (images lent output marks : List ℕ) (x : Result (Unit {0}) Refusal) (table : List ℕ) (e : built x table ≡ build_of order b images lent) where
  abbrev then : Result (Unit {0}) Refusal → Trip
  then y = after_build order b output marks y table

  pub build_stops : (why : Refusal) → x ≡ Err why → stopped why table output marks ≡ build_trip order b output marks (build_of order b images lent)
  build_stops why q = ap then (sym q) ∙ ap (build_trip order b output marks) e

  pub build_goes : (r : Result (Unit {0}) Refusal) (o m : List ℕ) → x ≡ Ok tt → trip r table o m ≡ read_of order b table output marks
      → trip r table o m ≡ build_trip order b output marks (build_of order b images lent)
  build_goes r o m q h = h ∙ ap then (sym q) ∙ ap (build_trip order b output marks) e

  pub readable_table : x ≡ Ok tt → length table ≡ length lent → Readable b × (table_size b.description b.addr ≤ length table)
  readable_table q h =
      let can = callable order b images lent (sym (ap (λ (y : Built). y.answer) e) ∙ q) in
      (can.0, omega (arith, can.1, h))

-- the select search's answer
module _ (order : ByteOrder) (d : Description) (a : AddrLayout) (images : List ℕ) (spans : List ImageSpan) (table output marks : List ℕ)
    (x : Result CsDataLayout Refusal) (e : x ≡ cs_data_answer d (Some a)) where
  abbrev select_then : Result CsDataLayout Refusal → Trip
  select_then = select_trip order d a images spans table output marks

  pub select_stops : (why : Refusal) → x ≡ Err why → stopped why table output marks ≡ select_then (cs_data_answer d (Some a))
  select_stops why q = ap select_then (sym q ∙ e)

  pub select_goes : (c : CsDataLayout) (t : Trip) → x ≡ Ok c → t ≡ build_trip order (args_of d a c spans) output marks (build_of order (args_of d a c spans) images table)
      → t ≡ select_then (cs_data_answer d (Some a))
  select_goes c t q h = h ∙ ap select_then (sym q ∙ e)

-- the address search's answer
module _ (order : ByteOrder) (d : Description) (images : List ℕ) (spans : List ImageSpan) (table output marks : List ℕ) (x : Result AddrLayout Refusal) (e : x ≡ addr_answer d) where
  abbrev address_then : Result AddrLayout Refusal → Trip
  address_then = address_trip order d images spans table output marks

  pub address_stops : (why : Refusal) → x ≡ Err why → stopped why table output marks ≡ round_trip_of order d images spans table output marks
  unfolding round_trip_of
  address_stops why q = ap address_then (sym q ∙ e)

  pub address_goes : (a : AddrLayout) (t : Trip) → x ≡ Ok a
      → t ≡ select_trip order d a images spans table output marks (cs_data_answer d (Some a))
      → t ≡ round_trip_of order d images spans table output marks
  unfolding round_trip_of
  address_goes a t q h = h ∙ ap address_then (sym q ∙ e)

-- demand 3, of the definition and so of whatever is equal to it
module _ (order : ByteOrder) (d : Description) (images : List ℕ) (spans : List ImageSpan) (table output marks : List ℕ) (bytes : (k : ℕ) → get_or images k 0 < 256) where
  accepted : (a : AddrLayout) (c : CsDataLayout) → Accepted order (args_of d a c spans) images table
      → round_trip_of order d images spans table output marks ≡ read_of order (args_of d a c spans) (build_of order (args_of d a c spans) images table).table output marks
  unfolding round_trip_of
  accepted a c ok =
      ap (address_trip order d images spans table output marks) ok.address
      ∙ ap (select_trip order d a images spans table output marks) ok.select
      ∙ ap (λ (y : Result (Unit {0}) Refusal). after_build order (args_of d a c spans) output marks y (build_of order (args_of d a c spans) images table).table) ok.build

  abbrev what_is_read : Trip → ReadBack
  what_is_read t = read_back t.answer t.output t.marks

  pub demanded : (r : Result (Unit {0}) Refusal) (t o m : List ℕ) → trip r t o m ≡ round_trip_of order d images spans table output marks → AsDemanded order d images spans table output marks (read_back r o m)
  demanded r t o m e a c ok wired room =
      ap what_is_read (e ∙ accepted a c ok) ∙ reads_back order d a c images spans table output marks bytes ok wired room
