-- The laws of the package over the exported calls: what they make of place 1 of a description's record. Assumes nothing.
use Rattle.std.specs.Prelude.{Result, Ok, Err}
use mathlib.Core.Path.{◌≡◌, refl, sym, ap, subst, ◌∙◌}
use mathlib.Core.Bool.{Bool, true, false, ◌&&◌, cond}
use mathlib.Core.List.{List, ◌∷◌}
use Prim.Native.Nat.{ℕ, zero, suc, ◌≤◌, ◌<◌}
use native.Mathlib.Omega.{arith}
use lib.Dec.{eqb}
use lib.ListN.{length}
use borrow.Author.Tests.{lt-leb}
use Rattle.lists.specs.Each.{each}
use Rattle.lists.specs.Tab.{tab}
use Rattle.slot.specs.declared.description.Board.{Board}
use Rattle.slot.specs.declared.description.Package.TheVariants.{A, B}
use Rattle.slot.specs.declared.description.Description.{Description}
use Rattle.refusal.specs.declared.Refusal.{Refusal}
use Rattle.cs_data_layout.specs.declared.layout.CsDataLayout.{CsDataLayout}
use Rattle.addr_layout.specs.declared.layout.AddrLayout.{AddrLayout}
use Rattle.refusal.specs.declared.Refusal.TheVariants.{OutOfDomain}
use Rattle.description_record.specs.Record.{record_size, board_at, cs_config_at, multi_at, chip_at, described, head_in, cs_config_in, pairs_in, chip_places_in, well_formed, decoded_of}
use Rattle.addr_record.specs.AddrRecord.{layout_at, layout_formed, given_at, given_formed}
use Rattle.cs_data_record.specs.CsDataRecord.{cs_data_at}
use Rattle.image_record.specs.ImageRecord.{spans_at}
use Rattle.round_trip.specs.Chain.{stopped}
use Rattle.calls.specs.Packed.{packed}
use Rattle.calls.specs.Order.{order_at}
use Rattle.calls.specs.Calls.{if_described, if_record, call_refused, addr_found, addr_call, cs_data_found, cs_data_call, build_formed, build_refused, build_call}
use Rattle.onerom.specs.Trip.{trip_formed, trip_call}
use Rattle.onerom.specs.Wired.{wired_call}
use Rattle.package_law.specs.Law.{on, CandidateOn, PackageLaw}
use Rattle.package_law.specs.Calls.{board_of, PlaceLaw, formed_before, called_before, PlaceLaws, OneCall}
use Rattle.package_law.proofs.Candidates.{either_way}
use Rattle.package_law.proofs.Law.{package_laws}

-- what is made of an answer keeps the law
through : {R S : Type 0} {now before : Description → R} {refused : R} (f : R → S) → PackageLaw now before refused
    → PackageLaw (λ d. f (now d)) (λ d. f (before d)) (f refused)
through f law = record {
  on_b = λ d. ap f (law.on_b d);
  on_a = λ d h. ap f (law.on_a d h);
  above = λ d g e l. ap f (law.above d g e l);
}

-- a record that fails the second of its tests
second_fails : (a b c d e : Bool) → b ≡ false → a && b && c && d && e ≡ false
second_fails true b c d e q = rw q
second_fails false b c d e q = refl

-- one answer either way
either : {R : Type 0} (t : Bool) (x r : R) → x ≡ r → cond t x r ≡ r
either true x r e = e
either false x r e = refl

module _ (pins : ℕ) (rest : List ℕ) where
  -- the two records differ in the package alone

  described_a : described (pins ∷ 1 ∷ rest) ≡ on A (described (pins ∷ 0 ∷ rest))
  unfolding described board_at cs_config_at multi_at chip_at tab
  described_a = refl

  described_b : described (pins ∷ 0 ∷ rest) ≡ on B (described (pins ∷ 0 ∷ rest))
  unfolding described
  described_b = refl

  board_a : board_of (pins ∷ 1 ∷ rest) ≡ board_of (pins ∷ 0 ∷ rest)
  board_a = ap (λ (d : Description). d.board) described_a

  formed_b : well_formed (pins ∷ 0 ∷ rest) ≡ formed_before (pins ∷ 0 ∷ rest)
  unfolding well_formed head_in
  formed_b = refl

  formed_a : well_formed (pins ∷ 1 ∷ rest) ≡ well_formed (pins ∷ 0 ∷ rest)
  unfolding well_formed head_in cs_config_in each
  formed_a = refl

  head_fails : (x : ℕ) → 1 < x → head_in (pins ∷ x ∷ rest) ≡ false
  unfolding head_in
  head_fails x l = rw (lt-leb x 1 l)

  not-formed : (x : ℕ) → 1 < x → well_formed (pins ∷ x ∷ rest) ≡ false
  unfolding well_formed
  not-formed x l =
      let b = pins ∷ x ∷ rest in
      second_fails (eqb (length b) record_size) (head_in b) (cs_config_in b) (pairs_in b) (chip_places_in b) (head_fails x l)

abbrev answer_of : Bool → Result (Unit {0}) Refusal
answer_of formed = cond formed (Ok tt) (Err OutOfDomain)

-- what a call makes of bytes, by what it answers to a description
abbrev called_by : {R : Type 0} → Bool → (Description → R) → (Refusal → R) → List ℕ → R
called_by formed now refuse description = cond formed (if_record now refuse (decoded_of description)) (refuse OutOfDomain)

module _ {R : Type 0} (formed : Bool) (now before : Description → R) (refuse : Refusal → R) (law : PackageLaw now before (refuse OutOfDomain)) where
  abbrev by : Result (Unit {0}) Refusal → Description → R
  by x d = if_described now refuse x d

  -- the board keeps to its package, or it does not

  b_same : (t : Bool) (d : Description) → by (answer_of t) (on B d) ≡ cond t (before d) (refuse OutOfDomain)
  b_same true d = law.on_b d
  b_same false d = refl

  a_same : (x : Result (Unit {0}) Refusal) (d : Description) → ((g : ℕ) → CandidateOn d.board g → g ≤ 29) → by x (on A d) ≡ by x (on B d)
  a_same (Ok tt) d h = law.on_a d h
  a_same (Err why) d h = refl

  a_above : (t : Bool) (d : Description) (g : ℕ) → CandidateOn d.board g → 29 < g → by (answer_of t) (on A d) ≡ refuse OutOfDomain
  a_above true d g e l = law.above d g e l
  a_above false d g e l = refl

  zero_b : (pins : ℕ) (rest : List ℕ) → called_by formed now refuse (pins ∷ 0 ∷ rest) ≡ called_before formed before refuse (pins ∷ 0 ∷ rest)
  zero_b pins rest =
      let d = described (pins ∷ 0 ∷ rest) in
      ap (λ (x : R). cond formed x (refuse OutOfDomain))
      (rw (formed_b pins rest) (ap (by (answer_of (formed_before (pins ∷ 0 ∷ rest)))) (described_b pins rest) ∙ b_same (formed_before (pins ∷ 0 ∷ rest)) d))

  one_a : (pins : ℕ) (rest : List ℕ) → ((g : ℕ) → CandidateOn (board_of (pins ∷ 1 ∷ rest)) g → g ≤ 29)
      → called_by formed now refuse (pins ∷ 1 ∷ rest) ≡ called_by formed now refuse (pins ∷ 0 ∷ rest)
  one_a pins rest h =
      let x = answer_of (well_formed (pins ∷ 0 ∷ rest)) in
      let d = described (pins ∷ 0 ∷ rest) in
      let within = subst (λ (b : Board). (g : ℕ) → CandidateOn b g → g ≤ 29) (board_a pins rest) h in
      ap (λ (y : R). cond formed y (refuse OutOfDomain))
      (rw (formed_a pins rest, described_a pins rest) (a_same x d within ∙ ap (by x) (sym (described_b pins rest))))

  above : (pins : ℕ) (rest : List ℕ) (g : ℕ) → CandidateOn (board_of (pins ∷ 1 ∷ rest)) g → 29 < g
      → called_by formed now refuse (pins ∷ 1 ∷ rest) ≡ refuse OutOfDomain
  above pins rest g e l =
      let d = described (pins ∷ 0 ∷ rest) in
      either formed _ _
      (rw (described_a pins rest)
      (a_above (well_formed (pins ∷ 1 ∷ rest)) d g (subst (λ (b : Board). CandidateOn b g) (board_a pins rest) e) l))

  neither : (pins x : ℕ) (rest : List ℕ) → 1 < x → called_by formed now refuse (pins ∷ x ∷ rest) ≡ refuse OutOfDomain
  neither pins x rest l = either formed _ _ (rw (not-formed pins rest x l))

  place_law : PlaceLaw (called_by formed now refuse) (called_before formed before refuse) (refuse OutOfDomain)
  place_law = record { zero_b = zero_b; one_a = one_a; above = above; neither = λ pins x rest l. neither pins x rest (omega arith) }

pub place_laws : PlaceLaws
unfolding addr_call cs_data_call build_call trip_call wired_call
place_laws = record {
  address = λ buffer.
      place_law true _ _ (λ why. call_refused why buffer) (through (λ (x : Result AddrLayout Refusal). addr_found x buffer) package_laws.address);
  select = λ layout buffer.
      place_law (given_formed layout) _ _ (λ why. call_refused why buffer)
      (through (λ (x : Result CsDataLayout Refusal). cs_data_found x buffer) (package_laws.select (given_at layout)));
  build = λ addr csData spans images order table.
      place_law (build_formed addr csData spans order) _ _ (λ why. build_refused why table)
      (package_laws.build (order_at order) (layout_at addr) (cs_data_at csData) (spans_at spans) images table);
  trip = λ spans images order table output marks.
      place_law (trip_formed spans order) _ _ (λ why. stopped why table output marks) (package_laws.trip (order_at order) images (spans_at spans) table output marks);
  wiring = λ layout. place_law (layout_formed layout) _ _ (λ why. packed why) (package_laws.wiring layout);
}

module _ {R : Type 0} (call other before : List ℕ → R) (refused : R) (law : PlaceLaw call before refused) (also : PlaceLaw other before refused)
    (pins : ℕ) (rest : List ℕ) where
  as_b : call (pins ∷ 0 ∷ rest) ≡ other (pins ∷ 0 ∷ rest)
  as_b = law.zero_b pins rest ∙ sym (also.zero_b pins rest)

  at_place : (x : ℕ) → call (pins ∷ x ∷ rest) ≡ other (pins ∷ x ∷ rest)
  at_place zero = as_b
  at_place (suc zero) =
      either_way (board_of (pins ∷ 1 ∷ rest)) 29 (λ h. law.one_a pins rest h ∙ as_b ∙ sym (also.one_a pins rest h))
      (λ g e l. law.above pins rest g e l ∙ sym (also.above pins rest g e l))
  at_place (suc (suc x)) =
      law.neither pins (suc (suc x)) rest (omega arith) ∙ sym (also.neither pins (suc (suc x)) rest (omega arith))

pub one_call : OneCall
one_call R call other before refused law also pins x rest = at_place call other before refused law also pins rest x
