-- How each exported call ends. Assumes nothing.
use Rattle.std.specs.Prelude.{Option, Some, None, Result, Ok, Err}
use mathlib.Core.Path.{◌≡◌, refl, sym, ◌∙◌, ap}
use mathlib.Core.Bool.{Bool, true, false, not, ◌&&◌, cond}
use mathlib.Core.List.{List, ◌++◌}
use mathlib.Core.Logic.{◌⊎◌, inl, inr}
use Prim.Native.Nat.{ℕ, zero, suc, ◌^◌, ◌/◌, ◌≤◌}
use native.Mathlib.Omega.{arith}
use lib.Dec.{ltb, eqb}
use lib.ListN.{length, drop}
use Rattle.slot.specs.declared.description.ChipSetType.{ChipSetType}
use Rattle.slot.specs.declared.description.Description.{Description}
use Rattle.refusal.specs.First.{or_else, fault_if, first_of}
use Rattle.refusal.specs.Refusal.{number_of, refusal_code, answer_code}
use Rattle.refusal.specs.declared.Refusal.{Refusal}
use Rattle.refusal.specs.declared.Refusal.TheVariants.{OutOfDomain, ShortBuffer, WrongSize, UnknownSlotType, Inconsistent, Unserved}
use Rattle.refusal.proofs.Law.{number_law}
use Rattle.addr_layout.specs.Search.{addr_answer}
use Rattle.addr_layout.specs.declared.layout.AddrLayout.{AddrLayout}
use Rattle.cs_data_layout.specs.Search.{cs_data_answer}
use Rattle.cs_data_layout.specs.declared.layout.CsDataLayout.{CsDataLayout}
use Rattle.image_record.specs.ImageRecord.{spans_at}
use Rattle.words.specs.declared.ByteOrder.{ByteOrder}
use Rattle.build_args.specs.Args.{args_of}
use Rattle.build_args.specs.Domain.{build_in}
use Rattle.build_args.specs.Faults.{build_fault}
use Rattle.build_args.specs.declared.BuildArgs.{BuildArgs}
use Rattle.rom_image.specs.Build.{build_after, built, build_of}
use Rattle.description_record.specs.Record.{decoded_of}
use Rattle.addr_record.specs.AddrRecord.{addr_size, layout_bytes, layout_at, given_at, given_formed}
use Rattle.cs_data_record.specs.CsDataRecord.{cs_data_size, cs_data_bytes, cs_data_at}
use Rattle.stored_record.specs.StoredRecord.{stored_at}
use Rattle.stored_slot.specs.Stored.{stored_in, stored_pins}
use Rattle.stored_slot.specs.Words.{rom_words}
use Rattle.unscramble.specs.Words.{rom_picked, address_at, serves, value_at}
use Rattle.stored_slot.specs.Faults.{roms_fault, wrong_size}
use Rattle.stored_slot.specs.declared.stored.StoredSlot.{StoredSlot}
use Rattle.stored_slot.specs.declared.stored.SlotType.{SlotType}
use Rattle.stored_slot.specs.declared.stored.SlotType.TheVariants.{Unknown, Plugin, Roms}
use Rattle.unscramble.specs.Recovered.{first_for, kept_value, disagrees_for, inconsistent, unserved, read_back, read_refused, front, after_entries, read_after, of_type, unscrambled}
use Rattle.calls.specs.Packed.{packed, packed_code, result_of}
use Rattle.calls.specs.Order.{order_at}
use Rattle.calls.specs.Calls.{Answered, answered, call_refused, written, if_described, if_record, addr_found, addr_call, cs_data_found, cs_data_call, build_from, build_formed, build_refused, build_call, read_formed, read_back_call, Returned, ReadReturned, search_result, build_result, read_result}
use Rattle.calls.proofs.Law.{rows_law}
use Rattle.demands.specs.Refused.{number_in, FromTable, Ends, ReadEnds, FirstDemand}
use Rattle.demands.specs.Refused as ends

pub number_of_lem : (why : Refusal) → number_in (packed why) ≡ number_of why
unfolding packed_code
number_of_lem why = omega arith

-- the number of an answer is that of its result
few : (a : Result (Unit {0}) Refusal) → (answer_code a).number ≤ 25 → number_in (result_of a) ≤ 25
unfolding packed_code
few a h = omega arith

from_table : (why : Refusal) → number_in (packed why) ≤ 25 → FromTable (packed why)
from_table why h = (rw (number_of_lem why) (number_law why).some, h)

-- each call ends so if its number is one of document 01's rows; that it is comes last, by the law of the calls
abbrev EndsSo : List ℕ → Returned → Type 0
EndsSo lent r = number_in r.result ≤ 25 → Ends lent r

abbrev ReadEndsSo : StoredSlot → List ℕ → List ℕ → ReadReturned → Type 0
ReadEndsSo s output marks r = number_in r.result ≤ 25 → ReadEnds s output marks r

-- a refusal leaves the buffer
stays : (why : Refusal) (buffer : List ℕ) → EndsSo buffer (search_result (call_refused why buffer))
stays why buffer h = ends.Ends.refused (from_table why h) refl

written-ends : (bytes buffer : List ℕ) (size : ℕ) (t : Bool) → EndsSo buffer (search_result (cond t (call_refused ShortBuffer buffer) (answered (Ok tt) (bytes ++ drop size buffer))))
unfolding packed_code
written-ends bytes buffer size true = stays ShortBuffer buffer
written-ends bytes buffer size false = λ h. ends.Ends.done refl

-- what is tested before ends so, and what it is tested for
formed-ends : {A : Type 0} (Fine : A → Type 0) (t : Bool) (good bad : A) → Fine good → Fine bad → Fine (cond t good bad)
formed-ends Fine true good bad g b = g
formed-ends Fine false good bad g b = b

described-ends : {A : Type 0} (Fine : A → Type 0) (f : Description → A) (refuse : Refusal → A) → ((d : Description) → Fine (f d)) → ((why : Refusal) → Fine (refuse why))
    → (description : List ℕ) → Fine (if_record f refuse (decoded_of description))
described-ends Fine f refuse h r description = by (decoded_of description).answer
  where
    by : (x : Result (Unit {0}) Refusal) → Fine (if_described f refuse x (decoded_of description).description)
    by (Ok tt) = h (decoded_of description).description
    by (Err why) = r why

-- the searches
addr-ends : (x : Result AddrLayout Refusal) (buffer : List ℕ) → EndsSo buffer (search_result (addr_found x buffer))
addr-ends (Ok l) buffer = written-ends (layout_bytes l) buffer addr_size (ltb (length buffer) addr_size)
addr-ends (Err why) buffer = stays why buffer

cs_data_ends : (x : Result CsDataLayout Refusal) (buffer : List ℕ) → EndsSo buffer (search_result (cs_data_found x buffer))
cs_data_ends (Ok l) buffer = written-ends (cs_data_bytes l) buffer cs_data_size (ltb (length buffer) cs_data_size)
cs_data_ends (Err why) buffer = stays why buffer

-- the build
after_ends : (order : ByteOrder) (b : BuildArgs) (images table : List ℕ) (f : Option Refusal) → EndsSo table (build_result (build_after order b images table f))
unfolding packed_code
after_ends order b images table (Some why) = stays why table
after_ends order b images table None = λ h. ends.Ends.done refl

build_ends : (order : ByteOrder) (b : BuildArgs) (images table : List ℕ) → EndsSo table (build_result (build_of order b images table))
unfolding build_of
build_ends order b images table = by (build_in b)
  where
    by : (t : Bool) → EndsSo table (build_result (cond t (build_after order b images table (build_fault b images (length table))) (built (Err OutOfDomain) table)))
    by true = after_ends order b images table (build_fault b images (length table))
    by false = stays OutOfDomain table

-- what the entries come to: 23 or 24
abbrev Told : Option Refusal → Type 0
Told None = Unit
Told (Some why) = (number_of why ≡ 23) ⊎ (number_of why ≡ 24)

told_or : (f g : Option Refusal) → Told f → Told g → Told (or_else f g)
told_or None g p q = q
told_or (Some why) g p q = p

told_if : (t : Bool) (why : Refusal) → (number_of why ≡ 23) ⊎ (number_of why ≡ 24) → Told (fault_if t why)
told_if true why p = p
told_if false why p = tt

told-first : (n : ℕ) (f : ℕ → Option Refusal) → ((k : ℕ) → Told (f k)) → Told (first_of n f)
unfolding first_of
told-first zero f h = tt
told-first (suc n) f h = told_or (first_of n f) (f n) (told-first n f h) (h n)

module _ (order : ByteOrder) (s : StoredSlot) (stored output marks : List ℕ) where
  read_stays : (why : Refusal) → ReadEndsSo s output marks (read_result (read_refused why output marks))
  read_stays why h = ends.ReadEnds.refused (from_table why h) refl refl

  told_entries : (set : ChipSetType) → Told (or_else (inconsistent s set stored) (unserved s set))
  told_entries set =
      told_or (inconsistent s set stored) (unserved s set)
      (told-first (2 ^ stored_pins s) _ (λ i. disagreed i (rom_picked s set i)))
      (told-first s.num_roms _ (λ rom. told-first (rom_words s rom) _ (λ n. told_if (eqb (first_for s set rom n (2 ^ stored_pins s)) (2 ^ stored_pins s)) (Unserved rom n) (inr refl))))
    where
      disagreed : (i : ℕ) (p : Option ℕ) → Told (disagrees_for s set stored i p)
      disagreed i None = tt
      disagreed i (Some rom) =
          let n = address_at s rom i in
          told_if (serves s set rom n i && not (eqb (value_at s stored rom i) (kept_value s set stored rom n))) (Inconsistent rom n) (inl refl)

  entries-end : (set : ChipSetType) (f : Option Refusal) → Told f → ReadEndsSo s output marks (read_result (after_entries order s set stored output marks f))
  unfolding packed_code
  entries-end set None t h = ends.ReadEnds.done refl
  entries-end set (Some why) (inl e) h = ends.ReadEnds.cleared (inl (number_of_lem why ∙ e)) refl refl
  entries-end set (Some why) (inr e) h = ends.ReadEnds.cleared (inr (number_of_lem why ∙ e)) refl refl

  roms-end : (set : ChipSetType) (f : Option Refusal) → ReadEndsSo s output marks (read_result (read_after order s set stored output marks f))
  roms-end set (Some why) = read_stays why
  roms-end set None = entries-end set (or_else (inconsistent s set stored) (unserved s set)) (told_entries set)

  plugin-end : (t : Bool) → ReadEndsSo s output marks (read_result (cond t (read_refused ShortBuffer output marks) (read_back (Ok tt) (front stored output) marks)))
  unfolding packed_code
  plugin-end true = read_stays ShortBuffer
  plugin-end false = λ h. ends.ReadEnds.done refl

  type_end : (t : SlotType) → ReadEndsSo s output marks (read_result (of_type order s stored output marks t))
  type_end Unknown = read_stays UnknownSlotType
  type_end Plugin = plugin-end (ltb (length output) (length stored))
  type_end (Roms set) = roms-end set (roms_fault s set stored (length output) (length marks))

  tested_end : (in_domain wrong : Bool)
      → ReadEndsSo s output marks (read_result (cond in_domain (cond wrong (read_refused WrongSize output marks) (of_type order s stored output marks s.slot_type)) (read_refused OutOfDomain output marks)))
  tested_end false wrong = read_stays OutOfDomain
  tested_end true true = read_stays WrongSize
  tested_end true false = type_end s.slot_type

  read-end : ReadEndsSo s output marks (read_result (unscrambled order s stored output marks))
  unfolding unscrambled
  read-end = tested_end (stored_in s) (wrong_size s stored)

formed-end : (t : Bool) (order : ByteOrder) (s : StoredSlot) (stored output marks : List ℕ)
    → ReadEndsSo s output marks (read_result (cond t (unscrambled order s stored output marks) (read_refused OutOfDomain output marks)))
formed-end true order s stored output marks = read-end order s stored output marks
formed-end false order s stored output marks = read_stays order s stored output marks OutOfDomain

pub first_demand : FirstDemand
unfolding addr_call cs_data_call build_call read_back_call
first_demand = record {
  address = λ description layout.
      described-ends (λ x. EndsSo layout (search_result x)) (λ d. addr_found (addr_answer d) layout) (λ why. call_refused why layout)
      (λ d. addr-ends (addr_answer d) layout) (λ why. stays why layout) description
      (few (addr_call description layout).answer (rows_law.addr description layout));
  select = λ description addr-layout layout.
      let given = given_at addr-layout in
      formed-ends (λ x. EndsSo layout (search_result x)) (given_formed addr-layout) _ _
      (described-ends (λ x. EndsSo layout (search_result x)) (λ d. cs_data_found (cs_data_answer d given) layout) (λ why. call_refused why layout)
      (λ d. cs_data_ends (cs_data_answer d given) layout) (λ why. stays why layout) description)
      (stays OutOfDomain layout)
      (few (cs_data_call description addr-layout layout).answer (rows_law.cs_data description addr-layout layout));
  build = λ description addr-layout cs-data-layout spans images order table.
      formed-ends (λ x. EndsSo table (build_result x)) (build_formed addr-layout cs-data-layout spans order) _ _
      (described-ends (λ x. EndsSo table (build_result x)) (λ d. build_from (order_at order) d addr-layout cs-data-layout spans images table) (λ why. build_refused why table)
      (λ d. build_ends (order_at order) (args_of d (layout_at addr-layout) (cs_data_at cs-data-layout) (spans_at spans)) images table) (λ why. stays why table) description)
      (stays OutOfDomain table)
      (few (build_call description addr-layout cs-data-layout spans images order table).answer
      (rows_law.build description addr-layout cs-data-layout spans images order table));
  read_back = λ slot stored order output marks.
      formed-end (read_formed slot order) (order_at order) (stored_at slot) stored output marks
      (few (read_back_call slot stored order output marks).answer (rows_law.read_back slot stored order output marks));
}
