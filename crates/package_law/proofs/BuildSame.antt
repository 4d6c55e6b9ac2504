-- What the build, the round trip and the wiring's test answered before does not hang on the package either. Assumes nothing.
use Rattle.std.specs.Prelude.{Option, Some, None, Result, Ok, Err}
use Rattle.refusal.specs.declared.Refusal.{Refusal}
use mathlib.Core.Path.{◌≡◌, refl, ap, ◌∙◌}
use mathlib.Core.Bool.{true, cond}
use mathlib.Core.List.{List, ◌++◌}
use Prim.Native.Nat.{ℕ}
use lib.ListN.{length, drop}
use Rattle.words.specs.Words.{entries_bytes}
use Rattle.slot.specs.declared.description.Package.{Package}
use Rattle.slot.specs.declared.description.Description.{Description}
use Rattle.domain.specs.Domain.{slot_in}
use Rattle.refusal.specs.declared.Refusal.TheVariants.{OutOfDomain}
use Rattle.listing.specs.Lines.{pin_candidates}
use Rattle.addr_lines.specs.Range.{reach}
use Rattle.addr_layout.specs.declared.layout.AddrLayout.{AddrLayout}
use Rattle.cs_data_layout.specs.declared.layout.CsDataLayout.{CsDataLayout}
use Rattle.words.specs.declared.ByteOrder.{ByteOrder}
use Rattle.build_args.specs.Args.{args_of}
use Rattle.build_args.specs.Faults.{entries_of, table_size, picks_in, build_fault}
use Rattle.build_args.specs.declared.images.ImageSpan.{ImageSpan}
use Rattle.rom_image.specs.Entry.{chip_address, chip_picked, word_of, scrambled, entry_at, table_of}
use Rattle.rom_image.specs.Build.{Built, built, pad_byte, build_after}
use Rattle.premises.specs.Wired.{wired}
use Rattle.round_trip.specs.Stored.{stored_of}
use Rattle.round_trip.specs.Chain.{after_build, build_trip}
use Rattle.onerom.specs.Wired.{wired_as}
use Rattle.package_law.specs.Before.{addr_before, cs_data_before, build_in_before, build_before, select_trip_before, address_trip_before, trip_before}
use Rattle.package_law.specs.Law.{on}
use Rattle.package_law.proofs.AddrSame.{addr_same}
use Rattle.package_law.proofs.SelectSame.{cs_data_same}

module _ (order : ByteOrder) (p : Package) (d : Description) where
  -- the build

  module _ (a : AddrLayout) (c : CsDataLayout) (spans : List ImageSpan) (images : List ℕ) where
    word_same : (pad : ℕ) (x : Option ℕ) (n : ℕ) → word_of pad order (on p d) images spans x n ≡ word_of pad order d images spans x n
    word_same pad None n = refl
    word_same pad (Some k) n = refl

    entry-same : (pad n : ℕ) → entry_at pad order (args_of (on p d) a c spans) images n ≡ entry_at pad order (args_of d a c spans) images n
    unfolding entry_at scrambled chip_picked
    entry-same pad n = ap (scrambled d c) (word_same pad (chip_picked d a c n) (chip_address a n))

    table_same : (pad : ℕ) → table_of pad order (args_of (on p d) a c spans) images ≡ table_of pad order (args_of d a c spans) images
    unfolding table_of
    table_same pad = λ i. entries_bytes d.word_bytes (λ n. entry-same pad n i) (entries_of a)

    after_same : (lent : List ℕ) (f : Option Refusal) → build_after order (args_of (on p d) a c spans) images lent f ≡ build_after order (args_of d a c spans) images lent f
    after_same lent (Some why) = refl
    after_same lent None = λ i. built (Ok tt) (table_same pad_byte i ++ drop (table_size d a) lent)

    fault-same : (n : ℕ) → build_fault (args_of (on p d) a c spans) images n ≡ build_fault (args_of d a c spans) images n
    unfolding build_fault picks_in
    fault-same n = refl

    pub build-same : (lent : List ℕ) → build_before order (args_of (on p d) a c spans) images lent ≡ build_before order (args_of d a c spans) images lent
    unfolding slot_in
    build-same lent =
        let b = args_of d a c spans in
        rw (fault-same (length lent))
        (ap (λ (x : Built). cond (build_in_before b) x (built (Err OutOfDomain) lent)) (after_same lent (build_fault b images (length lent))))

  -- the round trip

  module _ (images : List ℕ) (spans : List ImageSpan) (table output marks : List ℕ) where
    read_same : (a : AddrLayout) (c : CsDataLayout) (x : Result (Unit {0}) Refusal) (t : List ℕ)
        → after_build order (args_of (on p d) a c spans) output marks x t ≡ after_build order (args_of d a c spans) output marks x t
    unfolding stored_of
    read_same a c (Ok tt) t = refl
    read_same a c (Err why) t = refl

    select-same : (a : AddrLayout) (x : Result CsDataLayout Refusal)
        → select_trip_before order (on p d) a images spans table output marks x ≡ select_trip_before order d a images spans table output marks x
    select-same a (Ok c) =
        let b = build_before order (args_of d a c spans) images table in
        ap (build_trip order (args_of (on p d) a c spans) output marks) (build-same a c spans images table) ∙ read_same a c b.answer b.table
    select-same a (Err why) = refl

    address_same : (x : Result AddrLayout Refusal)
        → address_trip_before order (on p d) images spans table output marks x ≡ address_trip_before order d images spans table output marks x
    address_same (Ok a) =
        ap (select_trip_before order (on p d) a images spans table output marks) (cs_data_same p d (Some a)) ∙ select-same a (cs_data_before d (Some a))
    address_same (Err why) = refl

    pub trip-same : trip_before order (on p d) images spans table output marks ≡ trip_before order d images spans table output marks
    trip-same =
        ap (address_trip_before order (on p d) images spans table output marks) (addr_same p d)
        ∙ address_same (addr_before d)

-- the wiring's test

pub wired-same : (p : Package) (d : Description) (layout : List ℕ) → wired_as (on p d) layout ≡ wired_as d layout
unfolding wired reach pin_candidates
wired-same p d layout = refl
