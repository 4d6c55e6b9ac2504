-- Demand 1 of the exported calls: each returns 0 or a refusal of the table, and after a refusal the lent buffers hold what 01 lists. That a
-- call ends and stays inside its buffers is the checker's own proof of every function. Assumes nothing.
use Rattle.std.specs.Prelude.{◌≡◌, List, ◌⊎◌, ℕ, ◌*◌, ◌/◌, ◌^◌, ◌≤◌, replicate}
use Rattle.stored_slot.specs.Stored.{word_bytes}
use Rattle.stored_slot.specs.Words.{all_words}
use Rattle.stored_slot.specs.declared.stored.StoredSlot.{StoredSlot}
use Rattle.stored_record.specs.StoredRecord.{stored_at}
use Rattle.unscramble.specs.Recovered.{front}
use Rattle.calls.specs.Calls.{addr_call, cs_data_call, build_call, read_back_call, Returned, ReadReturned, search_result, build_result, read_result}

-- 01 Numbers 1: the number of a refusal, in the result
abbrev pub number_in : ℕ → ℕ
number_in result = result / 2 ^ 48

-- 00 Demand 1: a refusal from the table, whose rows are 1 to 25
abbrev pub FromTable : ℕ → Type 0
FromTable result = (1 ≤ number_in result) × (number_in result ≤ 25)

-- how a call with one lent buffer ends
pub data Ends (lent : List ℕ) (r : Returned) : Type 0 where
  done : r.result ≡ 0 → Ends lent r
  -- 01 Numbers 5: a refusal leaves the buffer as it was
  refused : FromTable r.result → r.buffer ≡ lent → Ends lent r

-- how a read-back of slot s ends
pub data ReadEnds (s : StoredSlot) (output marks : List ℕ) (r : ReadReturned) : Type 0 where
  done : r.result ≡ 0 → ReadEnds s output marks r
  -- 01 Numbers 5: so does every refusal of a read-back but 23 and 24
  refused : FromTable r.result → r.output ≡ output → r.marks ≡ marks → ReadEnds s output marks r
  -- 01 Numbers 5: 23 and 24 leave 0 over the words of all ROMs and over their marks, and what stands behind them
  cleared : (number_in r.result ≡ 23) ⊎ (number_in r.result ≡ 24) → r.output ≡ front (replicate (all_words s * word_bytes s) 0) output
      → r.marks ≡ front (replicate (all_words s) 0) marks → ReadEnds s output marks r

-- 00 Demand 1: for all bytes handed in and all buffers
pub record FirstDemand : Type 0 where
  pub address : (description layout : List ℕ) → Ends layout (search_result (addr_call description layout))
  pub select : (description addr-layout layout : List ℕ) → Ends layout (search_result (cs_data_call description addr-layout layout))
  pub build : (description addr-layout cs-data-layout spans images : List ℕ) (order : ℕ) (table : List ℕ)
      → Ends table (build_result (build_call description addr-layout cs-data-layout spans images order table))
  pub read_back : (slot stored : List ℕ) (order : ℕ) (output marks : List ℕ)
      → ReadEnds (stored_at slot) output marks (read_result (read_back_call slot stored order output marks))
