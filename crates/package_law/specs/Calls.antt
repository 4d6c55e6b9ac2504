-- Slip 3 of document 02 over the exported calls: what they make of place 1 of a description's record. Assumes nothing.
use Rattle.std.specs.Prelude.{ℕ, ◌≤◌, ◌<◌, ◌≡◌, Bool, true, ◌&&◌, cond, List, ◌∷◌, leb, eqb, length}
use Rattle.fields.specs.Fields.{byte_at, four_at}
use Rattle.slot.specs.declared.description.Board.{Board}
use Rattle.slot.specs.declared.description.Description.{Description}
use Rattle.refusal.specs.declared.Refusal.{Refusal}
use Rattle.refusal.specs.declared.Refusal.TheVariants.{OutOfDomain}
use Rattle.description_record.specs.Record.{record_size, offset_in, cs_config_in, pairs_in, chip_places_in, described, decoded_of}
use Rattle.build_args.specs.Args.{args_of}
use Rattle.addr_record.specs.AddrRecord.{layout_at, layout_formed, given_at, given_formed}
use Rattle.cs_data_record.specs.CsDataRecord.{cs_data_at}
use Rattle.image_record.specs.ImageRecord.{spans_at}
use Rattle.round_trip.specs.Chain.{stopped}
use Rattle.calls.specs.Packed.{packed}
use Rattle.calls.specs.Order.{order_at}
use Rattle.calls.specs.Calls.{call_refused, addr_found, addr_call, cs_data_found, cs_data_call, build_formed, build_refused, build_call}
use Rattle.onerom.specs.Trip.{trip_formed, trip_call}
use Rattle.onerom.specs.Wired.{wired_as, wired_call}
use Rattle.package_law.specs.Before.{addr_before, cs_data_before, build_before, trip_before}
use Rattle.package_law.specs.Law.{CandidateOn}

-- the board that a record describes
abbrev pub board_of : List ℕ → Board
board_of description = (decoded_of description).description.board

-- of a call as a function of the description's bytes, as it is now and as it was, with its refusal 1
pub record PlaceLaw {R : Type 0} (call before : List ℕ → R) (refused : R) : Type 0 where
  -- 02 Slip 3 5: 0 is B, and so a record that has 0 there is answered as it was
  pub zero_b : (pins : ℕ) (rest : List ℕ) → call (pins ∷ 0 ∷ rest) ≡ before (pins ∷ 0 ∷ rest)
  -- 02 Slip 3 5: 1 is A, which answers as B if no candidate is above 29
  pub one_a : (pins : ℕ) (rest : List ℕ) → ((g : ℕ) → CandidateOn (board_of (pins ∷ 1 ∷ rest)) g → g ≤ 29)
      → call (pins ∷ 1 ∷ rest) ≡ call (pins ∷ 0 ∷ rest)
  -- 02 Slip 3 2: on A a candidate above 29 is refusal 1, whatever else the record has
  pub above : (pins : ℕ) (rest : List ℕ) (g : ℕ) → CandidateOn (board_of (pins ∷ 1 ∷ rest)) g → 29 < g → call (pins ∷ 1 ∷ rest) ≡ refused
  -- 02 Slip 3 3: a number that is neither is refusal 1
  pub neither : (pins x : ℕ) (rest : List ℕ) → 1 < x → call (pins ∷ x ∷ rest) ≡ refused

-- whether bytes were a description's record before: place 1 was kept at 0
abbrev pub head_before : List ℕ → Bool
head_before b =
    eqb (byte_at b 1) 0 && leb (byte_at b 2) 2 && offset_in (byte_at b 4) && leb (byte_at b 7) 1 && eqb (four_at b 12) 0
    && eqb (byte_at b 26) 0 && eqb (byte_at b 27) 0

abbrev pub formed_before : List ℕ → Bool
formed_before b = eqb (length b) record_size && head_before b && cs_config_in b && pairs_in b && chip_places_in b

-- what a call made of bytes before, by what it answered to a description; `formed` says whether its other bytes are records
abbrev pub called_before : {R : Type 0} → Bool → (Description → R) → (Refusal → R) → List ℕ → R
called_before formed before refuse description =
    cond formed (cond (formed_before description) (before (described description)) (refuse OutOfDomain)) (refuse OutOfDomain)

-- 02 Slip 3 2: each exported call that is given a description, whatever other bytes and buffers it has
pub record PlaceLaws : Type 0 where
  pub address : (buffer : List ℕ)
      → PlaceLaw (λ b. addr_call b buffer) (called_before true (λ d. addr_found (addr_before d) buffer) (λ why. call_refused why buffer))
      (call_refused OutOfDomain buffer)
  pub select : (layout buffer : List ℕ)
      → PlaceLaw (λ b. cs_data_call b layout buffer)
      (called_before (given_formed layout) (λ d. cs_data_found (cs_data_before d (given_at layout)) buffer) (λ why. call_refused why buffer))
      (call_refused OutOfDomain buffer)
  pub build : (addr csData spans images : List ℕ) (order : ℕ) (table : List ℕ)
      → PlaceLaw (λ b. build_call b addr csData spans images order table)
      (called_before (build_formed addr csData spans order)
      (λ d. build_before (order_at order) (args_of d (layout_at addr) (cs_data_at csData) (spans_at spans)) images table)
      (λ why. build_refused why table))
      (build_refused OutOfDomain table)
  pub trip : (spans images : List ℕ) (order : ℕ) (table output marks : List ℕ)
      → PlaceLaw (λ b. trip_call b spans images order table output marks)
      (called_before (trip_formed spans order) (λ d. trip_before (order_at order) d images (spans_at spans) table output marks)
      (λ why. stopped why table output marks))
      (stopped OutOfDomain table output marks)
  pub wiring : (layout : List ℕ)
      → PlaceLaw (λ b. wired_call b layout) (called_before (layout_formed layout) (λ d. wired_as d layout) (λ why. packed why)) (packed OutOfDomain)

-- two calls that keep the law by the same earlier answers answer the same to every record, whatever its place 1, so that a law which said
-- less would not do
abbrev pub OneCall : Type 1
OneCall =
    (R : Type 0) (call other before : List ℕ → R) (refused : R) → PlaceLaw call before refused → PlaceLaw other before refused
    → (pins x : ℕ) (rest : List ℕ) → call (pins ∷ x ∷ rest) ≡ other (pins ∷ x ∷ rest)
