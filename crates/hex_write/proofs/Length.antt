-- How long a chip's text is. Assumes nothing.
use mathlib.Core.Path.{◌≡◌, refl, ◌∙◌, ap}
use mathlib.Core.Bool.{Bool, true, false}
use mathlib.Core.List.{List}
use Prim.Native.Nat.{ℕ, zero, suc, ◌+◌, ◌-◌, ◌*◌, ◌/◌, ◌%◌, ◌≤◌, min}
use native.Mathlib.Omega.{arith}
use lib.Dec.{ltb, eqb}
use lib.ListN.{length, drop, length-append, length-take, length-drop}
use borrow.Author.Tests.{ltb-true, ltb-false, eqb-true, eqb-false}
use Rattle.lists.specs.Tab.{joined}
use Rattle.hex_write.specs.Text.{ahead, chunk, data_bytes, hex_text, piece_text, pieces, record_text, records}
use Rattle.hex_write.specs.Length.{LengthLaw}
use Rattle.hex_write.proofs.Records.{record-length}
use Rattle.hex_write.proofs.Pieces.{first-none, within_none, block_length}

-- what stands ahead of data record k is 16 characters if it begins a later block, and nothing else
ahead-length : (k : ℕ) → length (ahead k) + 16 * ((k + 4095) / 4096 - 1) ≡ 16 * ((suc k + 4095) / 4096 - 1)
ahead-length k = by (ltb 0 k) refl (eqb (k % 4096) 0) refl
  where
    by : (s : Bool) → ltb 0 k ≡ s → (t : Bool) → eqb (k % 4096) 0 ≡ t → length (ahead k) + 16 * ((k + 4095) / 4096 - 1) ≡ 16 * ((suc k + 4095) / 4096 - 1)
    by false e t f = let h = ltb-false 0 k e in omega (arith, ap length (first-none k h))
    by true e true f = let h = ltb-true 0 k e in let m = eqb-true (k % 4096) 0 f in omega (arith, block_length k h m)
    by true e false f = let h = ltb-true 0 k e in let m = eqb-false (k % 4096) 0 f in omega (arith, ap length (within_none k h m))

pub chunk-length : (chip : List ℕ) (k : ℕ) → length (chunk chip k) ≡ min 16 (length chip - 16 * k)
chunk-length chip k = length-take 16 (drop (16 * k) chip) ∙ ap (min 16) (length-drop (16 * k) chip)

data-length : (chip : List ℕ) (k : ℕ) → length (record_text (data_bytes chip k)) ≡ 12 + 2 * min 16 (length chip - 16 * k)
data-length chip k = omega (arith, record-length (data_bytes chip k), chunk-length chip k)

-- a chunk more of n bytes
chunks_length : (k n : ℕ) → min (16 * k) n + min 16 (n - 16 * k) ≡ min (16 * suc k) n
chunks_length k n = omega arith

-- one data record more, with the one ahead of it
length-turn : (k before ahead own passed chunk all blocks later : ℕ) → before ≡ 12 * k + 2 * passed + 16 * blocks → ahead + 16 * blocks ≡ 16 * later → own ≡ 12 + 2 * chunk → passed + chunk ≡ all
    → before + (ahead + own) ≡ 12 * suc k + 2 * all + 16 * later
length-turn k before ahead own passed chunk all blocks later e f g h = omega arith

-- the first k data records, with those ahead of them
joined_length : (chip : List ℕ) (k : ℕ) → length (joined k (piece_text chip)) ≡ 12 * k + 2 * min (16 * k) (length chip) + 16 * ((k + 4095) / 4096 - 1)
unfolding joined
joined_length chip zero = omega arith
joined_length chip (suc k) = simp length-append (length-turn k _ _ _ _ _ _ _ _ (joined_length chip k) (ahead-length k) (data-length chip k) (chunks_length k (length chip)))

-- the formula grows with the records, so that the text's first records are no longer than all of them
length_more : (k m n : ℕ) → k ≤ m → 12 * k + 2 * min (16 * k) n + 16 * ((k + 4095) / 4096 - 1) ≤ 12 * m + 2 * min (16 * m) n + 16 * ((m + 4095) / 4096 - 1)
length_more k m n h = let q : (k + 4095) / 4096 ≤ (m + 4095) / 4096 = omega arith in omega arith

pub joined_more : (chip : List ℕ) (k : ℕ) → k ≤ records (length chip) → length (joined k (piece_text chip)) ≤ length (pieces chip)
joined_more chip k h = rw (joined_length chip k, joined_length chip (records (length chip))) (length_more k (records (length chip)) (length chip) h)

-- the end is 12 characters
pub pieces-length : (chip : List ℕ) → length (pieces chip) + 12 ≡ length (hex_text chip)
unfolding hex_text
pieces-length chip = simp length-append

pub length_law : LengthLaw
length_law chip = omega (arith, joined_length chip (records (length chip)), pieces-length chip)
