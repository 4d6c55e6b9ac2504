-- What each call answers now is what it answered before, where the board keeps to its package, and refusal 1 where it does not. Assumes
-- nothing.
use Rattle.std.specs.Prelude.{Err, Some, Ok, Option, Result}
use mathlib.Core.Path.{◌≡◌, refl, ap, ◌∙◌}
use mathlib.Core.Bool.{Bool, true, false, ◌&&◌, cond}
use mathlib.Core.List.{List}
use Prim.Native.Nat.{ℕ}
use lib.Dec.{leb}
use lib.ListN.{length}
use Rattle.slot.specs.declared.description.Description.{Description}
use Rattle.domain.specs.Domain.{slot_in, package_in, description_in, qualifiers_in}
use Rattle.refusal.specs.declared.Refusal.{Refusal}
use Rattle.refusal.specs.declared.Refusal.TheVariants.{OutOfDomain}
use Rattle.listing.specs.Listing.{twos, first_fault}
use Rattle.addr_lines.specs.Lines.{addr_listed}
use Rattle.addr_layout.specs.Layout.{layout_in}
use Rattle.addr_layout.specs.Search.{after_faults, addr_answer}
use Rattle.addr_layout.specs.declared.layout.AddrLayout.{AddrLayout}
use Rattle.cs_pins.specs.Pins.{numbered, cs_search_in}
use Rattle.cs_data_layout.specs.Layout.{handed}
use Rattle.cs_data_layout.specs.Search.{given_in, earlier, after_earlier, cs_data_answer}
use Rattle.cs_data_layout.specs.declared.layout.CsDataLayout.{CsDataLayout}
use Rattle.words.specs.declared.ByteOrder.{ByteOrder}
use Rattle.build_args.specs.Args.{args_of}
use Rattle.build_args.specs.Domain.{cs_data_in, build_in}
use Rattle.build_args.specs.Faults.{build_fault}
use Rattle.build_args.specs.declared.images.ImageSpan.{ImageSpan}
use Rattle.build_args.specs.declared.BuildArgs.{BuildArgs}
use Rattle.rom_image.specs.Build.{built, build_after, build_of}
use Rattle.round_trip.specs.Chain.{stopped, build_trip, select_trip, address_trip, round_trip_of}
use Rattle.package_law.specs.Before.{addr_before, cs_data_before, build_before, select_trip_before, address_trip_before, trip_before}

-- a test of the package beside another, before what the rest of the tests make of both
tested : {R : Type 0} (s p : Bool) (rest : Bool → Bool) (x r : R) → rest false ≡ false
    → cond (rest (s && p)) x r ≡ cond p (cond (rest s) x r) r
tested true true rest x r none = refl
tested true false rest x r none = rw none
tested false true rest x r none = refl
tested false false rest x r none = rw none

-- whether the board keeps to its package
abbrev pub keeps : Description → Bool
keeps d = package_in d.«package» d.board

pub addr-kept : (d : Description) → addr_answer d ≡ cond (keeps d) (addr_before d) (Err OutOfDomain)
unfolding description_in
addr-kept d =
    tested (slot_in d) (keeps d) (λ b. b && leb (twos (addr_listed d)) 16) (after_faults d (first_fault (addr_listed d))) (Err OutOfDomain)
    refl

pub cs_data_kept : (d : Description) (a : Option AddrLayout) → cs_data_answer d a ≡ cond (keeps d) (cs_data_before d a) (Err OutOfDomain)
unfolding cs_search_in description_in
cs_data_kept d a =
    tested (slot_in d) (keeps d) (λ b. b && leb (twos (numbered d)) 16 && given_in d a) (after_earlier d (handed a) (earlier d a))
    (Err OutOfDomain) refl

pub build-kept : (order : ByteOrder) (b : BuildArgs) (images lent : List ℕ)
    → build_of order b images lent ≡ cond (keeps b.description) (build_before order b images lent) (built (Err OutOfDomain) lent)
unfolding build_of build_in description_in
build-kept order b images lent =
    let qualified = qualifiers_in b.description.qualifiers b.description.num_qualifiers b.addr.gpios b.addr.num_lines in
    tested (slot_in b.description) (keeps b.description) (λ t. t && layout_in b.addr && qualified && cs_data_in b.cs_data)
    (build_after order b images lent (build_fault b images (length lent))) (built (Err OutOfDomain) lent) refl

module _ (order : ByteOrder) (d : Description) (images : List ℕ) (spans : List ImageSpan) (table output marks : List ℕ) where
  select_kept : keeps d ≡ true → (a : AddrLayout) (x : Result CsDataLayout Refusal)
      → select_trip order d a images spans table output marks x ≡ select_trip_before order d a images spans table output marks x
  select_kept k a (Ok c) =
      ap (build_trip order (args_of d a c spans) output marks) (rw k at (build-kept order (args_of d a c spans) images table))
  select_kept k a (Err why) = refl

  address_kept : keeps d ≡ true → (x : Result AddrLayout Refusal)
      → address_trip order d images spans table output marks x ≡ address_trip_before order d images spans table output marks x
  address_kept k (Ok a) =
      ap (select_trip order d a images spans table output marks) (rw k at (cs_data_kept d (Some a))) ∙ select_kept k a (cs_data_before d (Some a))
  address_kept k (Err why) = refl

  by_test : (t : Bool) → keeps d ≡ t
      → round_trip_of order d images spans table output marks ≡ cond t (trip_before order d images spans table output marks) (stopped OutOfDomain table output marks)
  unfolding round_trip_of
  by_test true k =
      ap (address_trip order d images spans table output marks) (rw k at (addr-kept d))
      ∙ address_kept k (addr_before d)
  by_test false k = ap (address_trip order d images spans table output marks) (rw k at (addr-kept d))

  pub trip-kept : round_trip_of order d images spans table output marks
      ≡ cond (keeps d) (trip_before order d images spans table output marks) (stopped OutOfDomain table output marks)
  trip-kept = by_test (keeps d) refl
