-- What each call that is given a description answered before a description named its package: its definition as it was, by which document
-- 01's sentences alone are the domain. None of them looks at the package. Assumes nothing.
use Rattle.std.specs.Prelude.{ℕ, Bool, true, ◌&&◌, cond, List, leb, length, Err, Some, Ok, Option, Result}
use Rattle.slot.specs.declared.description.Description.{Description}
use Rattle.refusal.specs.declared.Refusal.{Refusal}
use Rattle.refusal.specs.declared.Refusal.TheVariants.{OutOfDomain}
use Rattle.domain.specs.Domain.{slot_in, qualifiers_in}
use Rattle.listing.specs.Listing.{twos, first_fault}
use Rattle.addr_lines.specs.Lines.{addr_listed}
use Rattle.addr_layout.specs.Layout.{layout_in}
use Rattle.addr_layout.specs.Search.{after_faults}
use Rattle.addr_layout.specs.declared.layout.AddrLayout.{AddrLayout}
use Rattle.cs_pins.specs.Pins.{numbered}
use Rattle.cs_data_layout.specs.Layout.{handed}
use Rattle.cs_data_layout.specs.Search.{given_in, earlier, after_earlier}
use Rattle.cs_data_layout.specs.declared.layout.CsDataLayout.{CsDataLayout}
use Rattle.words.specs.declared.ByteOrder.{ByteOrder}
use Rattle.build_args.specs.Args.{args_of}
use Rattle.build_args.specs.Domain.{cs_data_in}
use Rattle.build_args.specs.Faults.{build_fault}
use Rattle.build_args.specs.declared.images.ImageSpan.{ImageSpan}
use Rattle.build_args.specs.declared.BuildArgs.{BuildArgs}
use Rattle.rom_image.specs.Build.{Built, built, build_after}
use Rattle.round_trip.specs.Chain.{Trip, stopped, build_trip}

-- the address search
abbrev pub addr_in_before : Description → Bool
addr_in_before d = slot_in d && leb (twos (addr_listed d)) 16

abbrev pub addr_before : Description → Result AddrLayout Refusal
addr_before d = cond (addr_in_before d) (after_faults d (first_fault (addr_listed d))) (Err OutOfDomain)

-- the select search
abbrev pub cs_data_in_before : Description → Option AddrLayout → Bool
cs_data_in_before d a = slot_in d && leb (twos (numbered d)) 16 && given_in d a

abbrev pub cs_data_before : Description → Option AddrLayout → Result CsDataLayout Refusal
cs_data_before d a = cond (cs_data_in_before d a) (after_earlier d (handed a) (earlier d a)) (Err OutOfDomain)

-- the build
abbrev pub build_in_before : BuildArgs → Bool
build_in_before b =
    slot_in b.description && layout_in b.addr
    && qualifiers_in b.description.qualifiers b.description.num_qualifiers b.addr.gpios b.addr.num_lines
    && cs_data_in b.cs_data

abbrev pub build_before : ByteOrder → BuildArgs → List ℕ → List ℕ → Built
build_before order b images lent =
    cond (build_in_before b) (build_after order b images lent (build_fault b images (length lent))) (built (Err OutOfDomain) lent)

-- the round trip, by these three in turn and the read-back
abbrev pub select_trip_before : ByteOrder → Description → AddrLayout → List ℕ → List ImageSpan → List ℕ → List ℕ → List ℕ → Result CsDataLayout Refusal → Trip
select_trip_before order d a images spans table output marks (Ok c) =
    build_trip order (args_of d a c spans) output marks (build_before order (args_of d a c spans) images table)
select_trip_before order d a images spans table output marks (Err why) = stopped why table output marks

abbrev pub address_trip_before : ByteOrder → Description → List ℕ → List ImageSpan → List ℕ → List ℕ → List ℕ → Result AddrLayout Refusal → Trip
address_trip_before order d images spans table output marks (Ok a) =
    select_trip_before order d a images spans table output marks (cs_data_before d (Some a))
address_trip_before order d images spans table output marks (Err why) = stopped why table output marks

abbrev pub trip_before : ByteOrder → Description → List ℕ → List ImageSpan → List ℕ → List ℕ → List ℕ → Trip
trip_before order d images spans table output marks =
    address_trip_before order d images spans table output marks (addr_before d)
