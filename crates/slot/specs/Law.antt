-- Offset and socket pin over the integers. Assumes nothing.
use Rattle.std.specs.Prelude.{◌≡◌, ℕ, ◌≤◌, ℤ, pos, ◌+ℤ◌, Some}
use Rattle.slot.specs.SlotContext.{raised_of, socket_of}

pub record SocketLaw (offset : ℤ) : Type 0 where
  -- 01 Domain 5: an offset is from -4 to 4, which is from 0 to 8 once 4 is added, exactly if it can be raised to a number up to 8
  pub raised_sum : raised_of offset ≤ 8 → offset +ℤ pos 4 ≡ pos (raised_of offset)
  pub sum_raised : (k : ℕ) → k ≤ 8 → offset +ℤ pos 4 ≡ pos k → raised_of offset ≡ k
  -- 01 slot_context 2: the socket pin is the chip pin plus the offset, where that is from 1 to the board's pins
  pub on-sum : raised_of offset ≤ 8 → (pin board s : ℕ) → socket_of pin (raised_of offset) board ≡ Some s
      → (pos pin +ℤ offset ≡ pos s) × (1 ≤ s) × (s ≤ board)
  pub sum-on : raised_of offset ≤ 8 → (pin board s : ℕ) → pos pin +ℤ offset ≡ pos s → 1 ≤ s → s ≤ board
      → socket_of pin (raised_of offset) board ≡ Some s
