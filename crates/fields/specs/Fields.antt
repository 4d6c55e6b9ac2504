-- Numbers in byte records, read and written. Assumes nothing.
use Rattle.std.specs.Prelude.{ℕ, ◌+◌, ◌*◌, ◌/◌, ◌%◌, Bool, ◌&&◌, List, [], ◌∷◌, leb, eqb, get_or}
use Rattle.lists.specs.Tab.{tab}

-- the byte at a place
abbrev pub byte_at : List ℕ → ℕ → ℕ
byte_at b p = get_or b p 0

-- the n bytes from a place
abbrev pub bytes_at : List ℕ → ℕ → ℕ → List ℕ
bytes_at b p n = tab n (λ k. byte_at b (p + k))

-- the number of four bytes from a place, low byte first
abbrev pub four_at : List ℕ → ℕ → ℕ
four_at b p = byte_at b p + 0x100 * byte_at b (p + 1) + 0x1_0000 * byte_at b (p + 2) + 0x100_0000 * byte_at b (p + 3)

-- "0 no, 1 yes", and three places behind it that must be 0
abbrev pub flag_formed : List ℕ → ℕ → Bool
flag_formed b p = leb (byte_at b p) 1 && eqb (byte_at b (p + 1)) 0 && eqb (byte_at b (p + 2)) 0 && eqb (byte_at b (p + 3)) 0

-- a field of n bytes
abbrev pub field : ℕ → List ℕ → List ℕ
field n l = tab n (λ k. get_or l k 0)

-- "Numbers of more than one byte are low byte first."
abbrev pub four_bytes : ℕ → List ℕ
four_bytes n = n % 0x100 ∷ n / 0x100 % 0x100 ∷ n / 0x1_0000 % 0x100 ∷ n / 0x100_0000 % 0x100 ∷ []
