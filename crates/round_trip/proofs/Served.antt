-- Every word has an entry: an index whose lines in use say its address and whose other lines pick its chip. Assumes nothing.
use mathlib.Core.Path.{◌≡◌, sym, ◌∙◌, ap}
use mathlib.Core.Bool.{cond}
use Prim.Native.Nat.{ℕ, ◌+◌, ◌-◌, ◌*◌, ◌/◌, ◌%◌, ◌^◌, ◌<◌}
use native.Mathlib.Nat.{zero-add, add-sub_cancel_left}
use native.Mathlib.Omega.{arith}
use lib.Pow.{high, shr-shr}
use lib.Dec.{ltb}
use borrow.Author.Tests.{lt-ltb, le-ltb}
use Rattle.bits.specs.Bits.{bit, gather, scatter}
use Rattle.bits.proofs.Bit.{bit_split, bit_below, bits-same}
use Rattle.bits.proofs.Gathered.{gather_lt}
use Rattle.bits.proofs.Scattered.{scatter_lt}
use Rattle.bits.proofs.Back.{bit-gather, bit-scatter}

-- bits of a number of two parts
low_bit : (h m l k : ℕ) → l < 2 ^ m → k < m → bit (h * 2 ^ m + l) k ≡ bit l k
low_bit h m l k f q = bit_split h m l k f ∙ ap (λ (x : ℕ). x + bit l k) (bit_below h m k q) ∙ zero-add (bit l k)

high_bit : (h m l j : ℕ) → l < 2 ^ m → bit (h * 2 ^ m + l) (m + j) ≡ bit h j
high_bit h m l j f = ap (λ (x : ℕ). x % 2) (sym (shr-shr (h * 2 ^ m + l) m j) ∙ ap (λ (x : ℕ). x / 2 ^ j) (high h m f))

-- n lines and m more, each at a position of its own among p: some number below 2^p has any bits there
module _ (n m p : ℕ) (f g : ℕ → ℕ) where
  abbrev both : ℕ → ℕ
  both k = cond (ltb k n) (f k) (g (k - n))

  module _ (within : (k : ℕ) → k < n + m → both k < p) (own : (j k : ℕ) → j < n + m → k < n + m → both j ≡ both k → j ≡ k)
      (l h : ℕ) (fl : l < 2 ^ n) (fh : h < 2 ^ m) where
    pub at : ℕ
    at = scatter (n + m) both p (h * 2 ^ n + l)

    pub at_lt : at < 2 ^ p
    unfolding at
    at_lt = scatter_lt (n + m) both p (h * 2 ^ n + l)

    at-bit : (k : ℕ) → k < n + m → bit at (both k) ≡ bit (h * 2 ^ n + l) k
    unfolding at
    at-bit k q = bit-scatter (n + m) both p (h * 2 ^ n + l) k q (within k q) (λ j r e. own j k r q e)

    pub low-at : gather n f at ≡ l
    low-at = bits-same n (gather n f at) l (gather_lt n f at) fl (λ k q.
        bit-gather n f at k q
        ∙ ap (λ (x : ℕ). bit at x) (sym (rw (lt-ltb k n q)))
        ∙ at-bit k (omega arith)
        ∙ low_bit h n l k fl q)

    pub high-at : gather m g at ≡ h
    high-at = bits-same m (gather m g at) h (gather_lt m g at) fh (λ k q.
        bit-gather m g at k q
        ∙ ap (λ (x : ℕ). bit at x) (sym (rw (le-ltb (n + k) n (omega arith), add-sub_cancel_left n k)))
        ∙ at-bit (n + k) (omega arith)
        ∙ high_bit h n l k fl)
