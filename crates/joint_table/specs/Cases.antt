-- The joint table of document 01's bench cases that are marked P, in its order. A case is what the definitions answer, and what the
-- document says; proofs/Right.antt has the statement that each is answered so. Assumes nothing.
use Rattle.std.specs.Prelude.{◌+◌, ◌^◌, List, [], ◌∷◌, pos, negsuc}
use Rattle.gpio.specs.declared.candidates.Candidates.TheVariants.{One, Two}
use Rattle.joint_table.specs.Slots.{lines_at, selects_at, sized, in_order, reversed}
use Rattle.joint_table.specs.Answers.{Told, Fits, DoesNotFit, Offset, Number, Taken, IgnoreAt, Entry, window, offset_for, address_search, select_search, entry_of}

pub record Case : Type 0 where
  pub answered : Told
  pub told : Told

abbrev pub case : Told → Told → Case
case answered told = record { answered = answered; told = told }

-- `negsuc 3` is -4; the place of number 7 is the set of 18 and 21
-- 01 Bench 1: four windows, two that fit and two that do not
-- 01 Bench 2: two pairs of pin counts with their offsets
-- 01 Bench 3: two address searches, one refused and one that takes GPIO 9
-- 01 Bench 4: two select searches in Single, one with an ignore index and one refused
-- 01 Bench 5: an entry whose data lines are reversed
-- 01 Bench 6: an entry past the words of a chip, a pad for three words and word 1 for two
unfoldable pub cases : List Case
cases =
    case (window 0 32) Fits
    ∷ case (window 1 32) DoesNotFit
    ∷ case (window 16 32) Fits
    ∷ case (window 41 8) DoesNotFit
    ∷ case (offset_for 24 32) (Offset (pos 4))
    ∷ case (offset_for 32 24) (Offset (negsuc 3))
    ∷ case (address_search (lines_at (One 45) (One 46) (One 47))) (Number 9 0)
    ∷ case (address_search (lines_at (One 8) (One 15) (Two 9 10))) (Taken 9 8008)
    ∷ case (select_search (selects_at 18 20)) (IgnoreAt 1)
    ∷ case (select_search (selects_at 18 21)) (Number 7 (2 ^ 18 + 2 ^ 21))
    ∷ case (entry_of (sized 1) reversed (0xAA ∷ []) 0) (Entry 0x55)
    ∷ case (entry_of (sized 3) in_order (0x10 ∷ 0x11 ∷ 0x12 ∷ []) 3) (Entry 0xAA)
    ∷ case (entry_of (sized 2) in_order (0x10 ∷ 0x11 ∷ 0x12 ∷ []) 3) (Entry 0x11)
    ∷ []
