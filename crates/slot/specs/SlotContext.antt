-- slot_context.rs: where a chip's pins come to lie in the board's socket. Assumes nothing.
use Rattle.refusal.specs.declared.Refusal.{Refusal}
use Rattle.std.specs.Prelude.{ℕ, ◌+◌, ◌-◌, Bool, ◌&&◌, ◌||◌, cond, List, [], ◌∷◌, leb, eqb, ℤ, pos, negsuc, Result, Ok, Err, Option, Some, None}
use Rattle.refusal.specs.Refusal.{Code, success, refusal_code}
use Rattle.refusal.specs.declared.Refusal.TheVariants.{OutOfDomain, IncompatiblePinCount}
use Rattle.slot.specs.declared.slot_context.KnownPair.{KnownPair}

-- 01 Domain 1: a board's socket comes in four sizes: 24, 28, 32 and 40 pins
abbrev pub board_pins_in : ℕ → Bool
board_pins_in n = eqb n 24 || eqb n 28 || eqb n 32 || eqb n 40

abbrev pub pair : ℕ → ℕ → ℤ → KnownPair
pair chip board o = record { chip_pins = chip; board_pins = board; offset = o }

-- 01 slot_context 1: ten rows of chip pins, board pins and the offset for the two
unfoldable pub known_pairs : List KnownPair
known_pairs =
    pair 24 24 (pos 0)
    ∷ pair 28 28 (pos 0)
    ∷ pair 32 32 (pos 0)
    ∷ pair 40 40 (pos 0)
    ∷ pair 24 28 (pos 2)
    ∷ pair 28 32 (pos 2)
    ∷ pair 24 32 (pos 4)
    ∷ pair 28 24 (negsuc 1)
    ∷ pair 32 28 (negsuc 1)
    ∷ pair 32 24 (negsuc 3)
    ∷ []

abbrev pub is_for : KnownPair → ℕ → ℕ → Bool
is_for p chip board = eqb p.chip_pins chip && eqb p.board_pins board

-- 01 slot_context 1: the offset in the first row that has both pin counts
-- 01 Number 10: no row has this chip's and this board's pin count
unfoldable pub offset_from : List KnownPair → ℕ → ℕ → Result ℤ Refusal
offset_from [] chip board = Err IncompatiblePinCount
offset_from (p ∷ ps) chip board = cond (is_for p chip board) (Ok p.offset) (offset_from ps chip board)

-- 01 slot_context 1: a chip's pin count is looked up whatever it is
-- 01 Number 1: the board's pin count is none of the four
-- 01 Numbers 2: the board's pin count is tested before the rows are searched
abbrev pub offset_answer : ℕ → ℕ → Result ℤ Refusal
offset_answer chip board = cond (board_pins_in board) (offset_from known_pairs chip board) (Err OutOfDomain)

-- 01 Numbers 1: the code of an offset; what is found is the offset itself
abbrev pub offset_code : Result ℤ Refusal → Code
offset_code (Ok o) = success
offset_code (Err why) = refusal_code why

-- 01 Domain 5: an offset lies from -4 to 4. Four more than that, 0 to 8, so that no number is below 0; 255 for any other
abbrev pub raised_of : ℤ → ℕ
raised_of (pos n) = cond (leb n 4) (n + 4) 255
raised_of (negsuc n) = cond (leb n 3) (3 - n) 255

-- the socket pin is the chip pin plus the offset; off the socket below 1 and above the board's pins
abbrev pub on_socket : ℕ → ℕ → Option ℕ
on_socket place board = cond (leb 1 place && leb place board) (Some place) None

abbrev pub socket_of : ℕ → ℕ → ℕ → Option ℕ
socket_of pin raised board = on_socket (pin + raised - 4) board
