-- The four calls in turn, on records, are the four definitions in turn. Assumes nothing.
use Rattle.std.specs.Prelude.{Result, Ok, Err, None, Some, Option}
use mathlib.Core.Path.{◌≡◌, refl, sym, ◌∙◌, ap, subst}
use mathlib.Core.Bool.{Bool, true, false, not, ◌&&◌, cond}
use mathlib.Core.List.{List, ◌++◌}
use Prim.Native.Nat.{ℕ, ◌<◌}
use native.Mathlib.Omega.{arith}
use lib.Dec.{ltb, eqb}
use lib.ListN.{length, get_or, take, drop}
use lib.Seq.{take_at}
use borrow.Author.Tests.{eqb-true}
use Rattle.lists.proofs.Bools.{and_left, and_right, both}
use Rattle.lists.proofs.Loops.{zero_one}
use Rattle.slot.specs.declared.description.Description.{Description}
use Rattle.refusal.specs.declared.Refusal.{Refusal}
use Rattle.refusal.specs.declared.Refusal.TheVariants.{ShortBuffer, OutOfDomain}
use Rattle.domain.specs.Domain.{description_in}
use Rattle.listing.specs.Listing.{first_fault}
use Rattle.addr_lines.specs.Lines.{addr_listed}
use Rattle.addr_layout.specs.Search.{addr_search_in, after_faults, addr_answer}
use Rattle.addr_layout.specs.declared.layout.AddrLayout.{AddrLayout}
use Rattle.cs_data_layout.specs.Search.{cs_data_answer}
use Rattle.cs_data_layout.specs.declared.layout.CsDataLayout.{CsDataLayout}
use Rattle.description_record.specs.Record.{decoded_of}
use Rattle.addr_record.specs.AddrRecord.{addr_size, layout_bytes, layout_at, layout_formed, none_given, given_at, given_formed, ValuedAddr}
use Rattle.addr_record.proofs.Back.{layout-formed, layout-back}
use Rattle.cs_data_record.specs.CsDataRecord.{cs_data_size, cs_data_bytes, cs_data_at, cs_data_formed, ValuedCsData}
use Rattle.cs_data_record.proofs.Back.{cs_data_formed_lem, cs_data_back}
use Rattle.calls.specs.Packed.{packed_code}
use Rattle.calls.proofs.Law.{done_alone}
use Rattle.calls.specs.Order.{order_formed, order_at}
use Rattle.calls.specs.Calls.{Answered, answered, call_refused, written, if_described, addr_found, addr_call, cs_data_found, cs_data_call, build_formed, build_refused, build_call, read_back_call, read_result}
use Rattle.build_args.specs.Faults.{table_size}
use Rattle.rom_image.specs.Build.{Built, build_of}
use Rattle.unscramble.specs.Recovered.{unscrambled}
use Rattle.image_record.specs.ImageRecord.{spans_formed}
use Rattle.stored_record.specs.StoredRecord.{stored_at}
use Rattle.round_trip.specs.RoundTrip.{Accepted, table_built}
use Rattle.round_trip.proofs.RoundTrip.{round_trip}
use Rattle.round_trip.proofs.Laid as layouts
use Rattle.demands.specs.FourCalls as FourCalls
use Rattle.demands.specs.FourCalls.{Bench, addressed, addr_record, selected, cs_data_record, built, slot_args, stored}
use Rattle.demands.proofs.Found.{addr-valued, cs_data_valued}

refused-done : (why : Refusal) → ◌≡◌ {A = Result (Unit {0}) Refusal} (Err why) (Ok tt) → ⊥
refused-done why e = zero_one cc

-- so its description is one, and so are its other records
described : {A : Type 0} (says : A → Result (Unit {0}) Refusal) (f : Description → A) (refuse : Refusal → A) → ((why : Refusal) → says (refuse why) ≡ Err why)
    → (x : Result (Unit {0}) Refusal) (d : Description) → says (if_described f refuse x d) ≡ Ok tt → x ≡ Ok tt
described says f refuse h (Ok tt) d e = refl
described says f refuse h (Err why) d e = absurd (refused-done why (sym (h why) ∙ e))

formed : {A : Type 0} (says : A → Result (Unit {0}) Refusal) (good bad : A) (why : Refusal) → says bad ≡ Err why → (t : Bool) → says (cond t good bad) ≡ Ok tt → t ≡ true
formed says good bad why h true e = refl
formed says good bad why h false e = absurd (refused-done why (sym h ∙ e))

-- a record that is written stands at the front of its buffer
front : (bytes buffer : List ℕ) (size : ℕ) (t : Bool) → length bytes ≡ size
    → (cond t (call_refused ShortBuffer buffer) (answered (Ok tt) (bytes ++ drop size buffer))).answer ≡ Ok tt
    → take size (cond t (call_refused ShortBuffer buffer) (answered (Ok tt) (bytes ++ drop size buffer))).buffer ≡ bytes
front bytes buffer size true l e = absurd (refused-done ShortBuffer e)
front bytes buffer size false l e = take_at bytes (drop size buffer) size l

addr-long : (l : AddrLayout) → length (layout_bytes l) ≡ addr_size
unfolding layout_formed
addr-long l = eqb-true (length (layout_bytes l)) addr_size (and_left _ _ (and_left _ _ (and_left _ _ (layout-formed l))))

cs_data_long : (l : CsDataLayout) → length (cs_data_bytes l) ≡ cs_data_size
unfolding cs_data_formed
cs_data_long l = eqb-true (length (cs_data_bytes l)) cs_data_size (and_left _ _ (cs_data_formed_lem l))

-- a search that is done has found a layout, and its record is the buffer's front
pub addr-found : (x : Result AddrLayout Refusal) (buffer : List ℕ) → (addr_found x buffer).answer ≡ Ok tt
    → (l : AddrLayout) × (x ≡ Ok l) × (take addr_size (addr_found x buffer).buffer ≡ layout_bytes l)
addr-found (Ok l) buffer e = (l, refl, front (layout_bytes l) buffer addr_size (ltb (length buffer) addr_size) (addr-long l) e)
addr-found (Err why) buffer e = absurd (refused-done why e)

pub cs_data_found_lem : (x : Result CsDataLayout Refusal) (buffer : List ℕ) → (cs_data_found x buffer).answer ≡ Ok tt
    → (l : CsDataLayout) × (x ≡ Ok l) × (take cs_data_size (cs_data_found x buffer).buffer ≡ cs_data_bytes l)
cs_data_found_lem (Ok l) buffer e = (l, refl, front (cs_data_bytes l) buffer cs_data_size (ltb (length buffer) cs_data_size) (cs_data_long l) e)
cs_data_found_lem (Err why) buffer e = absurd (refused-done why e)

-- a search that found a layout had a description in the domain
pub searched : (d : Description) (l : AddrLayout) (t : Bool) → addr_search_in d ≡ t
    → cond t (after_faults d (first_fault (addr_listed d))) (Err OutOfDomain) ≡ Ok l → description_in d ≡ true
searched d l true q e = and_left (description_in d) _ q
searched d l false q e = absurd (layouts.refused_not_laid OutOfDomain l e)

-- what the calls found, by their records
module _ (b : Bench) (ok : FourCalls.Accepted b) where
  abbrev d : Description
  d = (decoded_of b.description).description

  abbrev searched_addr : Answered
  searched_addr = addr_call b.description b.addr-buffer

  addressed_is : ((decoded_of b.description).answer ≡ Ok tt) × (searched_addr ≡ addr_found (addr_answer d) b.addr-buffer)
  unfolding addr_call
  addressed_is =
      let is-done = done_alone searched_addr.answer ok.address in
      let record_is = described (λ (x : Answered). x.answer) (λ d. addr_found (addr_answer d) b.addr-buffer) (λ why. call_refused why b.addr-buffer) (λ why. refl) (decoded_of b.description).answer d is-done in
      (record_is, rw record_is)

  abbrev done : (decoded_of b.description).answer ≡ Ok tt
  done = addressed_is.0

  found_addr : (l : AddrLayout) × (addr_answer d ≡ Ok l) × (addr_record b ≡ layout_bytes l)
  found_addr =
      let is = addressed_is.1 in
      let is-done = ap (λ (x : Answered). x.answer) (sym is) ∙ done_alone searched_addr.answer ok.address in
      let (l, laid, at_front) = addr-found (addr_answer d) b.addr-buffer is-done in
      (l, laid, ap (λ (x : Answered). take addr_size x.buffer) is ∙ at_front)

  abbrev a : AddrLayout
  a = found_addr.0

  address : (addr_answer d ≡ Ok a) × (addr_record b ≡ layout_bytes a)
  address = (found_addr.1, found_addr.2)

  addr_back : layout_at (addr_record b) ≡ a
  addr_back =
      let (c, best) = layouts.addr-found d a address.0 in
      let valued = addr-valued d c (searched d a (addr_search_in d) refl address.0) in
      ap layout_at address.1 ∙ layout-back a (subst ValuedAddr (sym best.layout) valued)

  -- the select search is given that layout
  given : given_at (addr_record b) ≡ Some a
  given =
      let some : none_given (addr_record b) ≡ false = ap none_given address.1 ∙ rw (addr-long a) in
      ap (λ (t : Bool). cond t None (Some (layout_at (addr_record b)))) some ∙ ap Some addr_back

  abbrev searched_cs : Answered
  searched_cs = cs_data_call b.description (addr_record b) b.cs_data_buffer

  selected_is : searched_cs ≡ cs_data_found (cs_data_answer d (given_at (addr_record b))) b.cs_data_buffer
  unfolding cs_data_call
  selected_is =
      let is_record = formed (λ (x : Answered). x.answer) _ (call_refused OutOfDomain b.cs_data_buffer) OutOfDomain refl (given_formed (addr_record b)) (done_alone searched_cs.answer ok.select) in
      rw (is_record, done)

  found_select : (l : CsDataLayout) × (cs_data_answer d (Some a) ≡ Ok l) × (cs_data_record b ≡ cs_data_bytes l)
  found_select =
      let is = selected_is ∙ ap (λ (g : Option AddrLayout). cs_data_found (cs_data_answer d g) b.cs_data_buffer) given in
      let (l, laid, at_front) = cs_data_found_lem (cs_data_answer d (Some a)) b.cs_data_buffer (ap (λ (x : Answered). x.answer) (sym is) ∙ done_alone searched_cs.answer ok.select) in
      (l, laid, ap (λ (x : Answered). take cs_data_size x.buffer) is ∙ at_front)

  abbrev c : CsDataLayout
  c = found_select.0

  select : (cs_data_answer d (Some a) ≡ Ok c) × (cs_data_record b ≡ cs_data_bytes c)
  select = (found_select.1, found_select.2)

  cs_data_back_at : cs_data_at (cs_data_record b) ≡ c
  cs_data_back_at =
      let (k, best) = layouts.cs_found d (Some a) c select.0 in
      ap cs_data_at select.1 ∙ cs_data_back c (subst ValuedCsData (sym best.layout) (cs_data_valued d a k))

  -- the build is given both
  abbrev made : Built
  made = build_call b.description (addr_record b) (cs_data_record b) b.spans b.images b.order b.table

  is_record : build_formed (addr_record b) (cs_data_record b) b.spans b.order ≡ true
  unfolding build_call
  is_record =
      formed (λ (x : Built). x.answer) _ (build_refused OutOfDomain b.table) OutOfDomain refl (build_formed (addr_record b) (cs_data_record b) b.spans b.order)
      (done_alone made.answer ok.build)

  built_is : made ≡ build_of (order_at b.order) (slot_args b) b.images b.table
  unfolding build_call
  built_is = rw (is_record, done)

  -- and a number that is an order's
  pub in_order : order_formed b.order ≡ true
  in_order = and_right (layout_formed (addr_record b) && cs_data_formed (cs_data_record b) && spans_formed b.spans) (order_formed b.order) is_record

  accepted : Accepted (order_at b.order) (slot_args b) b.images b.table
  accepted = record {
    address = address.0 ∙ ap Ok (sym addr_back);
    select =
        ap (λ (l : AddrLayout). cs_data_answer d (Some l)) addr_back ∙ select.0 ∙ ap Ok (sym cs_data_back_at);
    build = ap (λ (x : Built). x.answer) (sym built_is) ∙ done_alone made.answer ok.build;
  }

  table_is : stored b ≡ table_built (order_at b.order) (slot_args b) b.images b.table
  table_is = ap (λ (x : Built). take (table_size (slot_args b).description (slot_args b).addr) x.table) built_is

pub four_calls : FourCalls.FourCalls
unfolding read_back_call packed_code
four_calls b slot output marks bytes ok wired given room =
    let read = round_trip (order_at b.order) (slot_args b) b.images b.table (stored_at slot) output marks bytes given.says given.unforced (accepted b ok) wired room in
    rw (given.formed, in_order b ok)
    (ap (λ (t : List ℕ). read_result (unscrambled (order_at b.order) (stored_at slot) t output marks)) (table_is b ok) ∙ ap read_result read)
