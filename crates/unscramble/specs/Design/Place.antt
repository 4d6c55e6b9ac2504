-- A word counted through all ROMs by its ROM and address, as 23 and 24 name it: the code counts through, Recovered goes ROM by ROM,
-- and that both come to the same is proved. Assumes nothing.
use Rattle.refusal.specs.declared.Refusal.{Refusal}
use Rattle.std.specs.Prelude.{ℕ, suc, ◌-◌, leb, Option, Some, None}
use Rattle.lists.specs.Each.{tally}
use Rattle.refusal.specs.declared.Refusal.TheVariants.{Inconsistent, Unserved}
use Rattle.entry_words.specs.declared.Outcome.{Outcome}
use Rattle.entry_words.specs.declared.Outcome.TheVariants.{Whole, Disagrees, Missing}
use Rattle.stored_slot.specs.Words.{words_before}
use Rattle.stored_slot.specs.declared.stored.StoredSlot.{StoredSlot}

-- the ROM of a word: as many ROMs end before it
abbrev pub word_rom : StoredSlot → ℕ → ℕ
word_rom s f = tally s.num_roms (λ k. leb (words_before s (suc k)) f)

abbrev pub word_address : StoredSlot → ℕ → ℕ
word_address s f = f - words_before s (word_rom s f)

-- the place is the ROM of the word that an entry disagrees on, and its address there
-- the place is the ROM of the word that is missing, and its address there
abbrev pub outcome_fault : StoredSlot → Outcome → Option Refusal
outcome_fault s Whole = None
outcome_fault s (Disagrees f) = Some (Inconsistent (word_rom s f) (word_address s f))
outcome_fault s (Missing f) = Some (Unserved (word_rom s f) (word_address s f))
