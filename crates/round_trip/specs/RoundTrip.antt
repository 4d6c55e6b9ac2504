-- Demand 3 over the definitions of both searches, the build and read-back: what it is given, what it concludes, and the whole of it
-- as one statement, `RoundTrip`. Assumes nothing.
use Rattle.std.specs.Prelude.{◌≡◌, true, List, ℕ, ◌*◌, ◌<◌, take, replicate, get_or, Ok, Some}
use Rattle.lists.specs.Tab.{joined}
use Rattle.words.specs.declared.ByteOrder.{ByteOrder}
use Rattle.addr_layout.specs.Search.{addr_answer}
use Rattle.cs_data_layout.specs.Search.{cs_data_answer}
use Rattle.build_args.specs.Images.{chip_span, chip_bytes}
use Rattle.build_args.specs.Faults.{table_size}
use Rattle.build_args.specs.declared.BuildArgs.{BuildArgs}
use Rattle.rom_image.specs.Build.{build_of}
use Rattle.unscramble.specs.Recovered.{ReadBack, read_back, front, unscrambled}
use Rattle.stored_slot.specs.declared.stored.StoredSlot.{StoredSlot}
use Rattle.premises.specs.WellWired.{WellWired, StoredAs, Unforced}
use Rattle.premises.specs.Room.{chip_words, words, Room}

-- 00 Demand 3: the searches find the two layouts, and the build by them is not refused
-- 01 Well wired 8: the searches and the build share the description, and the build works by the layouts found
pub record Accepted (order : ByteOrder) (b : BuildArgs) (images lent : List ℕ) : Type 0 where
  pub address : addr_answer b.description ≡ Ok b.addr
  pub select : cs_data_answer b.description (Some b.addr) ≡ Ok b.cs_data
  pub build : (build_of order b images lent).answer ≡ Ok tt

-- 00 Demand 3: the table that this build left
-- 01 Well wired 9: read-back is given the front of the lent table just as the build left it
abbrev pub table_built : ByteOrder → BuildArgs → List ℕ → List ℕ → List ℕ
table_built order b images lent = take (table_size b.description b.addr) (build_of order b images lent).table

-- 00 Demand 3: of the bytes that the build had for chip k, those of its words
abbrev pub first_bytes : BuildArgs → List ℕ → ℕ → List ℕ
first_bytes b images k =
    take (chip_words b.description b.addr k * b.description.word_bytes) (chip_bytes images (chip_span b.spans k))

-- 00 Demand 3: no refusal; in the output the words of the chips, one chip behind the other; in the marks a 1 for each of these
-- words; all that stands behind them is unchanged
abbrev pub returned_whole : BuildArgs → List ℕ → List ℕ → List ℕ → ReadBack
returned_whole b images output marks =
    read_back (Ok tt) (front (joined b.description.num_chips (first_bytes b images)) output)
    (front (replicate (words b.description b.addr) 1) marks)

-- of an answer and of what output and marks hold then
-- 00 Demand 3: if searches and build refuse nothing, the slot is well wired and the buffers have room, it is what returned_whole says
abbrev pub ReadsBack : ByteOrder → BuildArgs → List ℕ → List ℕ → List ℕ → List ℕ → ReadBack → Type 0
ReadsBack order b images lent output marks r =
    Accepted order b images lent → WellWired b.description b.addr → Room b.description b.addr output marks
    → r ≡ returned_whole b images output marks

-- 00 Demand 3: whatever bytes the images hold and whatever stood in table, output and marks before, read-back of the table built
-- comes to what ReadsBack says
-- 02 Slip 5 4: under either byte order, where read-back has the one that the build had: the words are then the dump's, byte for byte
-- 01 Well wired 10: the slot that is read back may have overrides, if they are Unforced
-- 01 Well wired 11: the slot that is read back is any that StoredAs allows
abbrev pub RoundTrip : Type 0
RoundTrip =
    (order : ByteOrder) (b : BuildArgs) (images lent : List ℕ) (s : StoredSlot) (output marks : List ℕ) → ((k : ℕ) → get_or images k 0 < 256)
    → StoredAs b.description b.addr b.cs_data s → Unforced b.addr s
    → ReadsBack order b images lent output marks (unscrambled order s (table_built order b images lent) output marks)
