-- What is read of a case: its numbers, and the bytes that they stand for. docs/CASES.md has the language. Assumes nothing.
use Rattle.std.specs.Prelude.{ℕ, ◌+◌, ◌%◌, Bool, ◌&&◌, List, eqb, ltb, length, get_or}
use Rattle.lists.specs.Each.{each}
use Rattle.lists.specs.Tab.{tab}

-- the byte that a number of a case stands for; 0 past the end
abbrev pub byte_at : List ℕ → ℕ → ℕ
byte_at case at = get_or case at 0 % 256

-- n numbers, each of them a byte
abbrev pub has_bytes : List ℕ → ℕ → Bool
has_bytes case n = eqb (length case) n && each n (λ k. ltb (get_or case k 0) 256)

-- a record of n bytes from a place on
abbrev pub bytes_from : List ℕ → ℕ → ℕ → List ℕ
bytes_from case at n = tab n (λ k. byte_at case (at + k))
