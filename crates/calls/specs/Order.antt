-- A byte order as the number that a caller has for it. Assumes nothing.
use Rattle.std.specs.Prelude.{ℕ, Bool, cond, ltb, eqb}
use Rattle.words.specs.declared.ByteOrder.{ByteOrder}
use Rattle.words.specs.declared.ByteOrder.TheVariants.{LowFirst, HighFirst}

-- 02 Slip 5 2: there are two orders, 0 and 1
-- 01 Number 1: any other number is outside of the domain
abbrev pub order_formed : ℕ → Bool
order_formed n = ltb n 2

-- 02 Slip 5 2: 0 has the low byte first, and 1 the high byte
abbrev pub order_at : ℕ → ByteOrder
order_at n = cond (eqb n 0) LowFirst HighFirst
