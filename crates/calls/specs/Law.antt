-- Number and place of every answer come out of the one number that a call returns, and its number is one of document 01's rows. Assumes
-- nothing.
use Rattle.refusal.specs.declared.Refusal.{Refusal}
use Rattle.std.specs.Prelude.{ℕ, ◌/◌, ◌%◌, ◌^◌, ◌≤◌, ◌≡◌, List, Result, Ok}
use Rattle.refusal.specs.Refusal.{answer_code}
use Rattle.calls.specs.Packed.{result_of}
use Rattle.calls.specs.Calls.{addr_call, cs_data_call, build_call, read_back_call}

pub record Unpacks (a : Result (Unit {0}) Refusal) : Type 0 where
  -- 01 Numbers 1: the number is what stands in a result above its low 48 bits
  pub number : result_of a / 2 ^ 48 ≡ (answer_code a).number
  -- 01 Numbers 1: the place is the low 48 bits of a result, and no refusal's place needs more
  pub place : result_of a % 2 ^ 48 ≡ (answer_code a).place
  -- no refused call returns 0
  pub done : result_of a ≡ 0 → a ≡ Ok tt

-- the answer of each call, whatever bytes it is handed
pub record UnpackLaw : Type 0 where
  pub addr : (description buffer : List ℕ) → Unpacks (addr_call description buffer).answer
  pub cs_data : (description layout buffer : List ℕ) → Unpacks (cs_data_call description layout buffer).answer
  pub build : (description addr csData spans images : List ℕ) (order : ℕ) (table : List ℕ)
      → Unpacks (build_call description addr csData spans images order table).answer
  pub read_back : (slot stored : List ℕ) (order : ℕ) (output marks : List ℕ) → Unpacks (read_back_call slot stored order output marks).answer

-- the calls of document 01 refuse by its own rows, the first 25 of the table
pub record RowsLaw : Type 0 where
  pub addr : (description buffer : List ℕ) → (answer_code (addr_call description buffer).answer).number ≤ 25
  pub cs_data : (description layout buffer : List ℕ) → (answer_code (cs_data_call description layout buffer).answer).number ≤ 25
  pub build : (description addr csData spans images : List ℕ) (order : ℕ) (table : List ℕ)
      → (answer_code (build_call description addr csData spans images order table).answer).number ≤ 25
  pub read_back : (slot stored : List ℕ) (order : ℕ) (output marks : List ℕ)
      → (answer_code (read_back_call slot stored order output marks).answer).number ≤ 25
