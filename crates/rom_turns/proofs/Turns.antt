-- The rows of a turn. Assumes nothing.
use mathlib.Core.Path.{◌≡◌, sym, ◌∙◌, ap, subst}
use mathlib.Core.Logic.{◌⊎◌, inl, inr}
use mathlib.Core.Bool.{Bool, true, ◌&&◌}
use mathlib.Core.List.{List}
use Prim.Native.Nat.{ℕ, ◌+◌, ◌-◌, ◌*◌, ◌%◌, ◌^◌, ◌≤◌, ◌<◌, min}
use native.Mathlib.Nat.{zero-mul, le_trans, mul-le-mul_right, le_of_suc-le-suc, eq-or-lt_of_le}
use native.Mathlib.Numerals.{add-one}
use native.Mathlib.Decide.{dec_lt}
use native.Mathlib.Omega.{arith}
use lib.Bits.{bit_or, or_lt}
use lib.ListN.{length, get_or}
use Rattle.lists.proofs.Bools.{both}
use Rattle.bits.proofs.Scattered.{scatter_lt}
use Rattle.words.specs.Words.{word, entry_word}
use Rattle.words.proofs.Words.{words-room}
use Rattle.word_rows.specs.Design.Wrote.{RowIn, SameRow, Wrote, row_says, said_by}
use Rattle.word_rows.proofs.Rows.{wrote_more, wrote_same}
use Rattle.rom_turns.specs.Design.Rom.{RomIn, Turn, SameTurn, rom_index, says, turn_start}
use Rattle.rom_turns.specs.declared.Rom.{Rom}

-- one turn more that is compared
pub turn_compared : (P : ℕ → Type 0) (c : ℕ) (ok same : Bool) → (ok ≡ true → (d : ℕ) → 1 ≤ d → d < c → P d) → (same ≡ true → P c)
    → ok && same ≡ true → (d : ℕ) → 1 ≤ d → d < c + 1 → P d
turn_compared P c ok same i h z d l b =
    let (before, here) = both ok same z in
    elim (eq-or-lt_of_le (le_of_suc-le-suc (rw add-one at b))) [ inl e ↦ subst P (sym e) (h here) | inr q ↦ i before d l q ]

-- an index is one of the table
pub index_lt : {rom : Rom} {stored : List ℕ} → RomIn rom stored → (positions : List ℕ) (e : ℕ) → rom_index rom positions e < 2 ^ rom.pins
index_lt {rom} h positions e = or_lt rom.pins rom.high _ h.high (scatter_lt rom.lines (λ k. get_or positions k 0) rom.pins e)

module _ {rom : Rom} {positions lows low-bytes high-bytes stored output : List ℕ} {e : ℕ} (t : Turn rom positions lows low-bytes high-bytes stored output e) where
  -- what the turn says of a word
  abbrev said : ℕ → ℕ
  said a = says rom positions low-bytes high-bytes stored (e + a)

  -- a row of it
  module _ (f count from : ℕ) (first : f % 256 ≡ 0) (long : count ≡ min 256 (rom.words - f)) (there : from ≡ rom_index rom positions (e + f)) where
    row_index : (q : ℕ) → q < count → bit_or from (get_or lows q 0) ≡ rom_index rom positions (e + (f + q))
    row_index q l = ap (λ (x : ℕ). bit_or x (get_or lows q 0)) there ∙ sym (t.turn.joins f q first (omega arith) (omega arith))

    row-stored : (q : ℕ) → q < count → bit_or from (get_or lows q 0) * rom.word_bytes + rom.word_bytes ≤ length stored
    row-stored q l =
        rw (row_index q l)
        (words-room (rom_index rom positions (e + (f + q))) (2 ^ rom.pins) rom.word_bytes (length stored) (index_lt t.rom_in positions (e + (f + q))) t.rom_in.stored_in)

    row_room : f < rom.words → (rom.start + f + count) * rom.word_bytes ≤ length output
    row_room l = let most : rom.start + f + count ≤ rom.start + rom.words = omega arith in le_trans (mul-le-mul_right rom.word_bytes most) t.room

    pub row_in : (o : List ℕ) → f < rom.words → length o ≡ length output → RowIn rom.word_bytes lows low-bytes high-bytes from stored o (rom.start + f) count
    row_in o l k = record { tables = t.tables; short = omega arith; stored_in = row-stored; room = rw k (row_room l) }

    row-says : (q : ℕ) → q < count → said (f + q) ≡ row_says rom.word_bytes lows low-bytes high-bytes stored from q
    row-says q l = ap (λ (i : ℕ). said_by low-bytes high-bytes (entry_word rom.word_bytes stored i)) (sym (row_index q l))

    pub row_wrote : (o now new : List ℕ) → Wrote rom.word_bytes said rom.start f o now
        → Wrote rom.word_bytes (row_says rom.word_bytes lows low-bytes high-bytes stored from) (rom.start + f) count now new
        → Wrote rom.word_bytes said rom.start (f + count) o new
    row_wrote o now new i w =
        wrote_more rom.word_bytes said rom.start f count o now new i (wrote_same rom.word_bytes _ (λ q. said (f + q)) (rom.start + f) count now new row-says w)

    -- a row compared
    pub row_compared : (ok same : Bool) → (ok ≡ true → SameTurn rom said output f)
        → (same ≡ true → SameRow rom.word_bytes lows low-bytes high-bytes from stored output (rom.start + f) count)
        → ok && same ≡ true → SameTurn rom said output (f + count)
    row_compared ok same i w z a l =
        let (before, here) = both ok same z in
        elim (dec_lt a f) [
          | yes s ↦ i before a s
          | no s ↦
              let less : a - f < count = omega arith in
              let whole : f + (a - f) ≡ a = omega arith in
              let place : rom.start + f + (a - f) ≡ rom.start + a = omega arith in
              let e₁ : word rom.word_bytes output (rom.start + f + (a - f)) ≡ said (f + (a - f)) = w here (a - f) less ∙ sym (row-says (a - f) less) in
              rw (place, whole) at e₁
        ]

-- the first turn starts at the first order
pub first-turn : (rom : Rom) → turn_start rom 0 ≡ rom.first
first-turn rom = rw zero-mul (omega arith)

pub turn-first : {rom : Rom} {positions lows low-bytes high-bytes stored output : List ℕ} → Turn rom positions lows low-bytes high-bytes stored output (turn_start rom 0)
    → Turn rom positions lows low-bytes high-bytes stored output rom.first
turn-first {rom} {positions} {lows} {low-bytes} {high-bytes} {stored} {output} t =
    subst (λ e. Turn rom positions lows low-bytes high-bytes stored output e) (first-turn rom) t

-- a word has at most two bytes
pub width_two : (w : ℕ) → (w ≡ 1) ⊎ (w ≡ 2) → w ≤ 2
width_two w (inl e) = omega arith
width_two w (inr e) = omega arith

-- a turn, over an output that is as long
pub turn-long : {rom : Rom} {positions lows low-bytes high-bytes stored output : List ℕ} {e : ℕ} (o : List ℕ)
    → Turn rom positions lows low-bytes high-bytes stored output e → length o ≡ length output → Turn rom positions lows low-bytes high-bytes stored o e
turn-long o t l = record { rom_in = t.rom_in; tables = t.tables; turn = t.turn; room = rw l t.room }
