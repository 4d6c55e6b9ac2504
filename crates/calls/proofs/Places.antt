-- Each call's answer is success or one of document 01's rows, with a place of 48 bits. Assumes nothing.
use Rattle.std.specs.Prelude.{Result, Ok, Err}
use mathlib.Core.Bool.{Bool, true, false, cond}
use mathlib.Core.List.{List, ◌++◌}
use Prim.Native.Nat.{ℕ}
use native.Mathlib.Omega.{arith}
use lib.Dec.{ltb}
use lib.ListN.{length, drop}
use Rattle.slot.specs.declared.description.Description.{Description}
use Rattle.refusal.specs.Refusal.{answer_code}
use Rattle.refusal.specs.declared.Refusal.{Refusal}
use Rattle.refusal.specs.declared.Refusal.TheVariants.{OutOfDomain, ShortBuffer}
use Rattle.refusal.proofs.Places.{FirstRows}
use Rattle.addr_layout.specs.Layout.{addr_code}
use Rattle.addr_layout.specs.Search.{addr_answer}
use Rattle.addr_layout.specs.declared.layout.AddrLayout.{AddrLayout}
use Rattle.addr_layout.proofs.Places.{addr-place}
use Rattle.cs_data_layout.specs.Layout.{cs_data_code}
use Rattle.cs_data_layout.specs.Search.{cs_data_answer}
use Rattle.cs_data_layout.specs.declared.layout.CsDataLayout.{CsDataLayout}
use Rattle.cs_data_layout.proofs.Places.{cs_data_place}
use Rattle.build_args.specs.Args.{args_of}
use Rattle.rom_image.specs.Build.{Built}
use Rattle.rom_image.proofs.Places.{build-place}
use Rattle.stored_record.specs.StoredRecord.{stored_at}
use Rattle.unscramble.specs.Recovered.{ReadBack, read_refused}
use Rattle.unscramble.proofs.Places.{read-place}
use Rattle.description_record.specs.Record.{well_formed, described, decoded_of}
use Rattle.addr_record.specs.AddrRecord.{addr_size, layout_bytes, layout_at, given_at, given_formed}
use Rattle.cs_data_record.specs.CsDataRecord.{cs_data_size, cs_data_bytes, cs_data_at}
use Rattle.image_record.specs.ImageRecord.{spans_at}
use Rattle.calls.specs.Order.{order_at}
use Rattle.calls.specs.Calls.{
  Answered,
  answered,
  call_refused,
  written,
  if_described,
  if_record,
  addr_found,
  addr_call,
  cs_data_found,
  cs_data_call,
  build_formed,
  build_from,
  build_refused,
  build_call,
  read_formed,
  read_from,
  read_back_call,
}

abbrev pub Placed : Result (Unit {0}) Refusal → Type 0
Placed a = FirstRows (answer_code a)

-- answers by a test, and by a description's record
module _ {A : Type 0} (says : A → Result (Unit {0}) Refusal) where
  pub if_place : (t : Bool) (x y : A) → Placed (says x) → Placed (says y) → Placed (says (cond t x y))
  if_place true x y p q = p
  if_place false x y p q = q

  pub record-place : (f : Description → A) (refuse : Refusal → A) (b : List ℕ) → ((d : Description) → Placed (says (f d)))
      → Placed (says (refuse OutOfDomain)) → Placed (says (if_record f refuse (decoded_of b)))
  record-place f refuse b h r = by (well_formed b)
    where
      by : (t : Bool) → Placed (says (if_described f refuse (cond t (Ok tt) (Err OutOfDomain)) (described b)))
      by true = h (described b)
      by false = r

abbrev answer_of : Answered → Result (Unit {0}) Refusal
answer_of x = x.answer

-- the searches
written-place : (size : ℕ) (bytes buffer : List ℕ) → Placed (written size bytes buffer).answer
written-place size bytes buffer =
    if_place answer_of (ltb (length buffer) size) (call_refused ShortBuffer buffer) (answered (Ok tt) (bytes ++ drop size buffer)) (omega arith) (omega arith)

addr-found : (x : Result AddrLayout Refusal) (buffer : List ℕ) → FirstRows (addr_code x) → Placed (addr_found x buffer).answer
addr-found (Ok l) buffer h = written-place addr_size (layout_bytes l) buffer
addr-found (Err why) buffer h = h

cs_data_found_lem : (x : Result CsDataLayout Refusal) (buffer : List ℕ) → FirstRows (cs_data_code x) → Placed (cs_data_found x buffer).answer
cs_data_found_lem (Ok l) buffer h = written-place cs_data_size (cs_data_bytes l) buffer
cs_data_found_lem (Err why) buffer h = h

pub addr-placed : (description buffer : List ℕ) → Placed (addr_call description buffer).answer
unfolding addr_call
addr-placed description buffer =
    record-place answer_of (λ d. addr_found (addr_answer d) buffer) (λ why. call_refused why buffer) description
    (λ d. addr-found (addr_answer d) buffer (addr-place d)) (omega arith)

pub cs_data_placed : (description layout buffer : List ℕ) → Placed (cs_data_call description layout buffer).answer
unfolding cs_data_call
cs_data_placed description layout buffer =
    let a = given_at layout in
    if_place answer_of (given_formed layout) (if_record (λ d. cs_data_found (cs_data_answer d a) buffer) (λ why. call_refused why buffer) (decoded_of description)) (call_refused OutOfDomain buffer)
    (record-place answer_of (λ d. cs_data_found (cs_data_answer d a) buffer) (λ why. call_refused why buffer) description
    (λ d. cs_data_found_lem (cs_data_answer d a) buffer (cs_data_place d a)) (omega arith))
    (omega arith)

module _ (description addr csData spans images : List ℕ) (order : ℕ) (table : List ℕ) where
  abbrev builds : Description → Built
  builds d = build_from (order_at order) d addr csData spans images table

  abbrev build_stops : Refusal → Built
  build_stops why = build_refused why table

  pub build-placed : Placed (build_call description addr csData spans images order table).answer
  unfolding build_call
  build-placed =
      if_place (λ (x : Built). x.answer) (build_formed addr csData spans order) (if_record builds build_stops (decoded_of description)) (build_stops OutOfDomain)
      (record-place (λ (x : Built). x.answer) builds build_stops description (λ d. build-place (order_at order) (args_of d (layout_at addr) (cs_data_at csData) (spans_at spans)) images table) (omega arith))
      (omega arith)

pub read_back-placed : (slot stored : List ℕ) (order : ℕ) (output marks : List ℕ) → Placed (read_back_call slot stored order output marks).answer
unfolding read_back_call
read_back-placed slot stored order output marks =
    if_place (λ (x : ReadBack). x.answer) (read_formed slot order) (read_from (order_at order) slot stored output marks) (read_refused OutOfDomain output marks)
    (read-place (order_at order) (stored_at slot) stored output marks) (omega arith)
