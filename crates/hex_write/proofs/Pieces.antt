-- What the functions that write a data record and the one ahead of it lay over the text's bytes. Assumes nothing.
use mathlib.Core.Path.{◌≡◌, refl, sym, ◌∙◌}
use mathlib.Core.List.{List, [], ◌∷◌, ◌++◌}
use Prim.Native.Nat.{ℕ, ◌+◌, ◌-◌, ◌*◌, ◌/◌, ◌%◌, ◌≤◌, ◌<◌, min}
use native.Mathlib.Omega.{arith}
use lib.ListN.{length, take, drop, set, replicate, length-take, length-drop}
use lib.Seq.{take_all, take-append-add, take-append_seam, take-take}
use borrow.Author.Tests.{lt-ltb, le-ltb, eq-eqb, ne_eqb}
use Rattle.laid_bytes.specs.Laid.{laid}
use Rattle.laid_bytes.proofs.Laids.{laid_parts}
use Rattle.hex_write.specs.Text.{ahead, block_bytes, chunk, data_bytes, record_text}
use Rattle.hex_write.proofs.Records.{record-length}

-- no record stands ahead: not of the first data record, nor of one within its block
none_ahead : (t : List ℕ) (at k : ℕ) → ahead k ≡ [] → (at ≡ at + length (ahead k)) × (t ≡ laid t at (ahead k))
unfolding laid
none_ahead t at k e = rw e (omega arith, refl)

pub first-none : (k : ℕ) → k ≤ 0 → ahead k ≡ []
first-none k h = rw (le-ltb 0 k h)

pub within_none : (k : ℕ) → 0 < k → (k % 4096 ≡ 0 → ⊥) → ahead k ≡ []
within_none k h f = rw (lt-ltb 0 k h, ne_eqb (k % 4096) 0 f)

pub ahead-first : (t : List ℕ) (at k : ℕ) → k ≤ 0 → (at ≡ at + length (ahead k)) × (t ≡ laid t at (ahead k))
ahead-first t at k h = none_ahead t at k (first-none k h)

pub ahead_within : (t : List ℕ) (at k : ℕ) → 0 < k → (k % 4096 ≡ 0 → ⊥) → (at ≡ at + length (ahead k)) × (t ≡ laid t at (ahead k))
ahead_within t at k h f = none_ahead t at k (within_none k h f)

-- one stands ahead of the first data record of a later block
pub block_ahead : (k : ℕ) → 0 < k → k % 4096 ≡ 0 → record_text (block_bytes (k / 4096)) ≡ ahead k
block_ahead k h e = rw (lt-ltb 0 k h, eq-eqb (k % 4096) 0 e)

pub block_length : (k : ℕ) → 0 < k → k % 4096 ≡ 0 → length (ahead k) ≡ 16
block_length k h e = rw (← block_ahead k h e) (record-length (block_bytes (k / 4096)))

-- the part of the chip from the chunk's place to its end is the chunk
part_chunk : (chip : List ℕ) (k to : ℕ) → to ≡ 16 * k + min 16 (length chip - 16 * k) → take (to - 16 * k) (drop (16 * k) chip) ≡ chunk chip k
part_chunk chip k to e =
    let l = drop (16 * k) chip in
    let m : length (take 16 l) ≤ to - 16 * k = omega (arith, length-take 16 l, length-drop (16 * k) chip) in
    sym (take-take (to - 16 * k) 16 l (omega arith)) ∙ take_all (to - 16 * k) (take 16 l) m

-- the bytes of a data record as they are put together: three are set, the fourth is 0, and the data stand behind them
data-laid : (count high low end : ℕ) (bytes out : List ℕ) → length bytes ≤ 16 → end ≡ 4 + length bytes
    → out ≡ laid (set (set (set (replicate 20 0) 0 count) 1 high) 2 low) 4 bytes → take end out ≡ count ∷ high ∷ low ∷ 0 ∷ bytes
data-laid count high low end bytes out h e f =
    let l = laid_parts (set (set (set (replicate 20 0) 0 count) 1 high) 2 low) 4 bytes (omega arith) in
    rw (e, f, l) (take-append-add (count ∷ high ∷ low ∷ 0 ∷ []) (bytes ++ _) (length bytes) ∙ rw (take-append_seam bytes _))

-- what is read of them up to their end are the bytes of data record k
pub data-read : (chip : List ℕ) (k to end : ℕ) (out : List ℕ) → to ≡ 16 * k + min 16 (length chip - 16 * k) → end ≡ 4 + length (take (to - 16 * k) (drop (16 * k) chip))
    → out ≡ laid (set (set (set (replicate 20 0) 0 (length (take (to - 16 * k) (drop (16 * k) chip)))) 1 (16 * k / 256 % 256)) 2 (16 * k % 256)) 4 (take (to - 16 * k) (drop (16 * k) chip))
    → (take end out ≡ data_bytes chip k) × (end ≡ length (data_bytes chip k))
data-read chip k to end out e f g =
    let p = part_chunk chip k to e in
    let f' : end ≡ 4 + length (chunk chip k) = rw p at f in
    (data-laid (length (chunk chip k)) (16 * k / 256 % 256) (16 * k % 256) end (chunk chip k) out (omega (arith, length-take 16 (drop (16 * k) chip))) f' (rw p at g), omega arith)
