-- `unscramble_slot`: what it answers, and what the lent buffers hold then. Assumes nothing.
use Rattle.std.specs.Prelude.{ℕ, ◌*◌, ◌^◌, cond, not, ◌&&◌, List, ◌++◌, ltb, eqb, length, drop, replicate, Option, Some, None, Result, Ok, Err}
use Rattle.lists.specs.Tab.{joined}
use Rattle.words.specs.Words.{chip_words_bytes}
use Rattle.words.specs.declared.ByteOrder.{ByteOrder}
use Rattle.lists.specs.First.{first_where}
use Rattle.slot.specs.declared.description.ChipSetType.{ChipSetType}
use Rattle.refusal.specs.declared.Refusal.{Refusal}
use Rattle.refusal.specs.declared.Refusal.TheVariants.{OutOfDomain, WrongSize, UnknownSlotType, ShortBuffer, Inconsistent, Unserved}
use Rattle.refusal.specs.First.{or_else, fault_if, first_of}
use Rattle.stored_slot.specs.Stored.{stored_in, word_bytes, stored_pins}
use Rattle.stored_slot.specs.Faults.{wrong_size, roms_fault}
use Rattle.unscramble.specs.Words.{rom_picked, address_at, value_at, serves}
use Rattle.stored_slot.specs.Words.{rom_words, all_words}
use Rattle.stored_slot.specs.declared.stored.SlotType.{SlotType}
use Rattle.stored_slot.specs.declared.stored.SlotType.TheVariants.{Unknown, Plugin, Roms}
use Rattle.stored_slot.specs.declared.stored.StoredSlot.{StoredSlot}

-- the first of the entries before m that is for word n of a ROM; m where none is
abbrev pub first_for : StoredSlot → ChipSetType → ℕ → ℕ → ℕ → ℕ
first_for s set rom n m = first_where m (serves s set rom n)

-- 01 unscramble 8: a word has the value of the lowest index whose entry is for it
abbrev pub kept_value : StoredSlot → ChipSetType → List ℕ → ℕ → ℕ → ℕ
kept_value s set stored rom n = value_at s stored rom (first_for s set rom n (2 ^ stored_pins s))

-- 01 Number 23: the entry at index i is for word n of a ROM and says another value than that word has; the place is ROM and n
abbrev pub disagrees_in : StoredSlot → ChipSetType → List ℕ → ℕ → ℕ → ℕ → Option Refusal
disagrees_in s set stored i rom n =
    fault_if (serves s set rom n i && not (eqb (value_at s stored rom i) (kept_value s set stored rom n))) (Inconsistent rom n)

abbrev pub disagrees_for : StoredSlot → ChipSetType → List ℕ → ℕ → Option ℕ → Option Refusal
disagrees_for s set stored i None = None
disagrees_for s set stored i (Some rom) = disagrees_in s set stored i rom (address_at s rom i)

-- 01 Number 23: of several entries that disagree the one of lowest index answers
abbrev pub inconsistent : StoredSlot → ChipSetType → List ℕ → Option Refusal
inconsistent s set stored = first_of (2 ^ stored_pins s) (λ i. disagrees_for s set stored i (rom_picked s set i))

-- 01 Number 24: no entry is for word n of a ROM; the place is ROM and n
abbrev pub unserved_in : StoredSlot → ChipSetType → ℕ → ℕ → Option Refusal
unserved_in s set rom n = fault_if (eqb (first_for s set rom n (2 ^ stored_pins s)) (2 ^ stored_pins s)) (Unserved rom n)

-- 01 Number 24: the lowest ROM that misses a word answers, with the lowest word that it misses
abbrev pub unserved : StoredSlot → ChipSetType → Option Refusal
unserved s set = first_of s.num_roms (λ rom. first_of (rom_words s rom) (unserved_in s set rom))

-- the bytes of a ROM's words
-- 02 Slip 5 2: the bytes of each word that is read back are in the byte order of the call
abbrev pub rom_bytes : ByteOrder → StoredSlot → ChipSetType → List ℕ → ℕ → List ℕ
rom_bytes order s set stored rom = chip_words_bytes order (word_bytes s) (kept_value s set stored rom) (rom_words s rom)

-- 01 Shape 2: one output has the bytes of all ROMs, each behind the one before
unfoldable pub recovered : ByteOrder → StoredSlot → ChipSetType → List ℕ → List ℕ
recovered order s set stored = joined s.num_roms (rom_bytes order s set stored)

-- 01 Shape 2: beside the answer stand two lent buffers, an output for all ROMs and the marks
pub record ReadBack : Type 0 where
  pub answer : Result (Unit {0}) Refusal
  pub output : List ℕ
  pub marks : List ℕ

abbrev pub read_back : Result (Unit {0}) Refusal → List ℕ → List ℕ → ReadBack
read_back a o m = record { answer = a; output = o; marks = m }

-- 01 Numbers 5: a refusal before the entries leaves output and marks as they were lent
abbrev pub read_refused : Refusal → List ℕ → List ℕ → ReadBack
read_refused why output marks = read_back (Err why) output marks

-- 01 Numbers 7: new bytes stand at the front of a buffer, and those behind them stay
abbrev pub front : List ℕ → List ℕ → List ℕ
front new old = new ++ drop (length new) old

-- 01 Numbers 5: after 23 or 24 the bytes and the mark of every word are 0
-- 01 Numbers 6: on success the mark of every word is 1
abbrev pub after_entries : ByteOrder → StoredSlot → ChipSetType → List ℕ → List ℕ → List ℕ → Option Refusal → ReadBack
after_entries order s set stored output marks None =
    read_back (Ok tt) (front (recovered order s set stored) output) (front (replicate (all_words s) 1) marks)
after_entries order s set stored output marks (Some why) =
    read_back (Err why) (front (replicate (all_words s * word_bytes s) 0) output) (front (replicate (all_words s) 0) marks)

-- 01 Numbers 4: entries count only where no earlier test refuses
abbrev pub read_after : ByteOrder → StoredSlot → ChipSetType → List ℕ → List ℕ → List ℕ → Option Refusal → ReadBack
read_after order s set stored output marks (Some why) = read_refused why output marks
read_after order s set stored output marks None =
    after_entries order s set stored output marks (or_else (inconsistent s set stored) (unserved s set))

-- 01 Number 16: the output has fewer bytes than the plugin
-- 01 Numbers 6: a plugin leaves all marks as they were
-- 01 unscramble 1: the output gets every byte of a plugin
abbrev pub plugin_read : List ℕ → List ℕ → List ℕ → ReadBack
plugin_read stored output marks =
    cond (ltb (length output) (length stored)) (read_refused ShortBuffer output marks) (read_back (Ok tt) (front stored output) marks)

-- 01 Number 18: the slot is neither a plugin nor of a known set kind
abbrev pub of_type : ByteOrder → StoredSlot → List ℕ → List ℕ → List ℕ → SlotType → ReadBack
of_type order s stored output marks Unknown = read_refused UnknownSlotType output marks
of_type order s stored output marks Plugin = plugin_read stored output marks
of_type order s stored output marks (Roms set) =
    read_after order s set stored output marks (roms_fault s set stored (length output) (length marks))

-- 01 Number 1: the slot is outside of the domain
-- 01 Numbers 2: the domain is tested before all else
-- 01 Numbers 4: the length (17) is tested next, before the kind is looked at, so that a plugin's 16 comes after it
-- 02 Slip 5 2: a read-back takes one byte order, for all ROMs; no refusal depends on it, and no plugin
unfoldable pub unscrambled : ByteOrder → StoredSlot → List ℕ → List ℕ → List ℕ → ReadBack
unscrambled order s stored output marks =
    cond (stored_in s)
    (cond (wrong_size s stored) (read_refused WrongSize output marks) (of_type order s stored output marks s.slot_type))
    (read_refused OutOfDomain output marks)
