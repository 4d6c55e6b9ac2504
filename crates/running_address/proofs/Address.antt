-- The address of a later index, from that of an index: the lines whose bits moved change. Assumes nothing.
use mathlib.Core.Path.{◌≡◌, sym, ◌∙◌, ap}
use mathlib.Core.List.{List}
use Prim.Native.Nat.{ℕ, ◌+◌, ◌-◌, ◌*◌, ◌/◌, ◌%◌, ◌^◌, ◌<◌}
use native.Mathlib.Omega.{arith}
use lib.Bits.{bit_xor, xor_shifted}
use lib.ListN.{get_or}
use Rattle.bits.specs.Bits.{gather, index_address}
use Rattle.bits.proofs.Xor.{gather_xor}
use Rattle.running_address.specs.Kept.{highest_moved, moved_lines}
use Rattle.running_address.specs.Design.Moves.{Next}
use Rattle.running_address.proofs.Index.{rise, lowest_in}

-- where two indices differ in bits 0 to t, their addresses do in the lines at these positions
changed : (n : ℕ) (p : ℕ → ℕ) (i j t : ℕ) → bit_xor i (2 ^ (t + 1) - 1) ≡ j → bit_xor (index_address n p i) (moved_lines n p t) ≡ index_address n p j
changed n p i j t e = sym (gather_xor n p i (2 ^ (t + 1) - 1)) ∙ ap (gather n p) e

pub address_after : (n : ℕ) (p : ℕ → ℕ) (i : ℕ) → i + 1 < 2 ^ 32
    → bit_xor (index_address n p i) (moved_lines n p (highest_moved (i + 1))) ≡ index_address n p (i + 1)
address_after n p i h = changed n p i (i + 1) (highest_moved (i + 1)) (rise 32 i h)

-- the same by a table
pub next_by_table : (moves : List ℕ) (address i : ℕ) → i + 1 < 2 ^ 32 → Next moves address i 1 (bit_xor address (get_or moves (highest_moved (i + 1)) 0))
next_by_table moves address i h n p m e = rw (e, m.up_to (highest_moved (i + 1)) (lowest_in 32 (i + 1) (omega arith) h)) (address_after n p i h)

-- the low eight bits are clear, and are all set at the row's end
row-end : (i : ℕ) → i % 256 ≡ 0 → bit_xor i 255 ≡ i + 255
row-end i z = let whole : i / 256 * 2 ^ 8 ≡ i = omega arith in rw whole at (xor_shifted (i / 256) 8 255 (omega arith))

pub row_end_by_table : (moves : List ℕ) (address i : ℕ) → i % 256 ≡ 0 → Next moves address i 255 (bit_xor address (get_or moves 7 0))
row_end_by_table moves address i z n p m e = rw (e, m.up_to 7 (omega arith)) (changed n p i (i + 255) 7 (row-end i z))

-- one index on from there
pub row_then : (moves : List ℕ) (address last i next : ℕ) → Next moves address i 255 last → Next moves last (i + 255) 1 next → Next moves address i 256 next
row_then moves address last i next f g n p m e =
    let on : i + 255 + 1 ≡ i + 256 = omega arith in
    g n p m (f n p m e) ∙ ap (gather n p) on
