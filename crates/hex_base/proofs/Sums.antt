-- Sums modulo 256. Assumes nothing.
use Rattle.std.proofs.Common.{◌≡◌, ℕ, ◌+◌, ◌%◌, ◌^◌, ◌<◌, List, refl, add-one, arith}
use Rattle.lists.specs.Each.{total}
use Rattle.hex_base.specs.Sum.{bytes_total, checksum_of}
use Rattle.hex_base.specs.Law.{ChecksumLaw}

-- a loop that adds: before the first turn, one turn, and the end
pub sum-none : (f : ℕ → ℕ) → 0 ≡ total 0 f % 256
unfolding total
sum-none f = refl

pub sum-turn : (f : ℕ → ℕ) (k s r x : ℕ) → s ≡ total k f % 256 → x % 256 ≡ f k % 256 → r ≡ (s + x) % 2 ^ 8 → r ≡ total (k + 1) f % 256
unfolding total
sum-turn f k s r x e g h = rw add-one (omega arith)

pub sum_done : (f : ℕ → ℕ) (k n s : ℕ) → k ≡ n → s ≡ total k f % 256 → s ≡ total n f % 256
sum_done f k n s e h = rw e at h

-- a difference that wraps, from zero
pub wrapped : (bytes : List ℕ) (r s : ℕ) → r < 256 → s ≡ bytes_total bytes % 256 → (r + s) % 2 ^ 8 ≡ 0 → r ≡ checksum_of bytes
unfolding checksum_of
wrapped bytes r s h e f = omega arith

pub checksum_law : (bytes : List ℕ) → ChecksumLaw bytes
unfolding checksum_of
checksum_law bytes = record { byte = omega arith; sound = omega arith }
