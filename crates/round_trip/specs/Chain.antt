-- Both searches, the build and read-back in turn: what they answer, and what the lent buffers hold then. Assumes nothing.
use Rattle.std.specs.Prelude.{true, List, ℕ, take, Result, Ok, Err, Some}
use Rattle.slot.specs.declared.description.Description.{Description}
use Rattle.refusal.specs.declared.Refusal.{Refusal}
use Rattle.words.specs.declared.ByteOrder.{ByteOrder}
use Rattle.addr_layout.specs.Search.{addr_answer}
use Rattle.addr_layout.specs.declared.layout.AddrLayout.{AddrLayout}
use Rattle.cs_data_layout.specs.Search.{cs_data_answer}
use Rattle.cs_data_layout.specs.declared.layout.CsDataLayout.{CsDataLayout}
use Rattle.build_args.specs.Args.{args_of}
use Rattle.build_args.specs.Faults.{table_size}
use Rattle.build_args.specs.declared.images.ImageSpan.{ImageSpan}
use Rattle.rom_image.specs.Build.{Built, build_of}
use Rattle.unscramble.specs.Recovered.{ReadBack, unscrambled}
use Rattle.round_trip.specs.RoundTrip.{ReadsBack}
use Rattle.round_trip.specs.Stored.{stored_of}
use Rattle.build_args.specs.declared.BuildArgs.{BuildArgs}

-- the answer, and the three lent buffers
pub record Trip : Type 0 where
  pub answer : Result (Unit {0}) Refusal
  pub table : List ℕ
  pub output : List ℕ
  pub marks : List ℕ

abbrev pub trip : Result (Unit {0}) Refusal → List ℕ → List ℕ → List ℕ → Trip
trip a t o m = record { answer = a; table = t; output = o; marks = m }

-- the first of the four that refuses answers; until the build has accepted nothing is written
abbrev pub stopped : Refusal → List ℕ → List ℕ → List ℕ → Trip
stopped why table output marks = trip (Err why) table output marks

-- the table beside what read-back answers
abbrev pub trip_read : List ℕ → ReadBack → Trip
trip_read table r = trip r.answer table r.output r.marks

-- 01 Well wired 9: read-back is handed the built table itself, cut to the size of a table
abbrev pub read_of : ByteOrder → BuildArgs → List ℕ → List ℕ → List ℕ → Trip
read_of order b table output marks =
    trip_read table
    (unscrambled order (stored_of b.description b.addr b.cs_data) (take (table_size b.description b.addr) table) output marks)

abbrev pub after_build : ByteOrder → BuildArgs → List ℕ → List ℕ → Result (Unit {0}) Refusal → List ℕ → Trip
after_build order b output marks (Ok tt) table = read_of order b table output marks
after_build order b output marks (Err why) table = stopped why table output marks

abbrev pub build_trip : ByteOrder → BuildArgs → List ℕ → List ℕ → Built → Trip
build_trip order b output marks x = after_build order b output marks x.answer x.table

-- 01 Well wired 8: the build gets the description that the searches got, and the two layouts that they found
abbrev pub select_trip : ByteOrder → Description → AddrLayout → List ℕ → List ImageSpan → List ℕ → List ℕ → List ℕ → Result CsDataLayout Refusal → Trip
select_trip order d a images spans table output marks (Ok c) =
    build_trip order (args_of d a c spans) output marks (build_of order (args_of d a c spans) images table)
select_trip order d a images spans table output marks (Err why) = stopped why table output marks

-- 01 Well wired 8: the select search gets the description that the address search got
abbrev pub address_trip : ByteOrder → Description → List ℕ → List ImageSpan → List ℕ → List ℕ → List ℕ → Result AddrLayout Refusal → Trip
address_trip order d images spans table output marks (Ok a) =
    select_trip order d a images spans table output marks (cs_data_answer d (Some a))
address_trip order d images spans table output marks (Err why) = stopped why table output marks

unfoldable pub round_trip_of : ByteOrder → Description → List ℕ → List ImageSpan → List ℕ → List ℕ → List ℕ → Trip
round_trip_of order d images spans table output marks = address_trip order d images spans table output marks (addr_answer d)

-- 00 Demand 3: the four calls in turn come to what ReadsBack says, whichever layouts the searches find
abbrev pub AsDemanded : ByteOrder → Description → List ℕ → List ImageSpan → List ℕ → List ℕ → List ℕ → ReadBack → Type 0
AsDemanded order d images spans table output marks r =
    (a : AddrLayout) (c : CsDataLayout) → ReadsBack order (args_of d a c spans) images table output marks r
