-- Hex digits. Assumes nothing.
use Rattle.std.specs.Prelude.{ℕ, ◌-◌, Bool, cond, nat_lt}
use Rattle.lists.specs.Each.{between}

-- the value of a character that is a hex digit; 16, which is no digit's, of any other
-- 02 Slip 1 2: capitals and small letters are digits alike
unfoldable pub digit_of : ℕ → ℕ
digit_of c = cond (between 48 57 c) (c - 48) (cond (between 65 70 c) (c - 55) (cond (between 97 102 c) (c - 87) 16))

abbrev pub is_digit : ℕ → Bool
is_digit c = nat_lt (digit_of c) 16
