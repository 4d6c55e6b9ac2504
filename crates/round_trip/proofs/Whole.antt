-- Demand 3 whole: what both searches and the build accept of a well wired slot reads back, given what `stored_of` says. Assumes nothing.
use Prim.Native.Nat.{ℕ, ◌<◌}
use mathlib.Core.List.{List}
use lib.ListN.{get_or}
use Rattle.words.specs.declared.ByteOrder.{ByteOrder}
use Rattle.build_args.specs.Args.{args_of}
use Rattle.slot.specs.declared.description.Description.{Description}
use Rattle.addr_layout.specs.declared.layout.AddrLayout.{AddrLayout}
use Rattle.cs_data_layout.specs.declared.layout.CsDataLayout.{CsDataLayout}
use Rattle.build_args.specs.declared.images.ImageSpan.{ImageSpan}
use Rattle.unscramble.specs.Recovered.{unscrambled}
use Rattle.round_trip.specs.RoundTrip.{table_built, ReadsBack}
use Rattle.round_trip.specs.Stored.{stored_of}
use Rattle.round_trip.proofs.StoredOf.{stored_as, unforced-stored}
use Rattle.round_trip.proofs.RoundTrip.{round_trip}

pub reads_back : (order : ByteOrder) (d : Description) (a : AddrLayout) (c : CsDataLayout) (images : List ℕ) (spans : List ImageSpan) (lent output marks : List ℕ)
    → ((k : ℕ) → get_or images k 0 < 256)
    → ReadsBack order (args_of d a c spans) images lent output marks (unscrambled order (stored_of d a c) (table_built order (args_of d a c spans) images lent) output marks)
reads_back order d a c images spans lent output marks bytes ok =
    round_trip order (args_of d a c spans) images lent (stored_of d a c) output marks bytes (stored_as order d a c images spans lent ok) (unforced-stored d a c) ok
