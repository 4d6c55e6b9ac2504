-- The number and the place of a code, taken out of the packed number again. Assumes nothing.
use Rattle.std.specs.Prelude.{Ok, Err}
use mathlib.Core.Path.{◌≡◌}
use mathlib.Core.Bool.{Bool, true, false, cond}
use mathlib.Core.List.{List, ◌++◌}
use Prim.Native.Nat.{ℕ, ◌/◌, ◌%◌, ◌^◌, ◌<◌}
use native.Mathlib.Omega.{arith}
use lib.Dec.{ltb}
use lib.ListN.{length, drop}
use Rattle.refusal.specs.Refusal.{Code, write_code}
use Rattle.refusal.specs.declared.Refusal.TheVariants.{ShortBuffer}
use Rattle.hex_write.specs.Write.{wrote_as, written}
use Rattle.calls.specs.Packed.{packed_code}

pub number-back : (c : Code) → packed_code c / 2 ^ 48 ≡ c.number
unfolding packed_code
number-back c = omega arith

pub place-back : (c : Code) → c.place < 2 ^ 48 → packed_code c % 2 ^ 48 ≡ c.place
unfolding packed_code
place-back c h = omega arith

-- a text that is written: 16 has no place, and a length below 2^48 is one
pub written_small : (text buffer : List ℕ) → length text < 2 ^ 48 → (write_code (written text buffer).answer).place < 2 ^ 48
written_small text buffer h = by (ltb (length buffer) (length text))
  where
    by : (t : Bool) → (write_code (cond t (wrote_as (Err ShortBuffer) buffer) (wrote_as (Ok (length text)) (text ++ drop (length text) buffer))).answer).place < 2 ^ 48
    by true = omega arith
    by false = h
