-- Tables by doubling, for any numbers that are joined bit by bit. Assumes nothing.
use mathlib.Core.Path.{◌≡◌, sym, ◌∙◌}
use mathlib.Core.List.{List}
use Prim.Native.Nat.{ℕ, ◌+◌, ◌-◌, ◌*◌, ◌%◌, ◌^◌, ◌≤◌, ◌<◌}
use native.Mathlib.Nat.{zero-mul, one-mul}
use native.Mathlib.Decide.{dec_lt}
use native.Mathlib.Omega.{arith}
use lib.Bits.{bit_or, or_comm, or_shifted}
use lib.ListN.{length, get_or}
use lib.Pow.{pow-add, shl_lt, shl_exact}
use Rattle.lists.specs.Tab.{tab}
use Rattle.lists.proofs.Tab.{tab_is}
use Rattle.bits.specs.Bits.{gather, scatter}
use Rattle.bits.proofs.Back.{gather_or}
use Rattle.bits.proofs.Gathered.{gather-zero}
use Rattle.bits.proofs.Scattered.{scatter_split, scatter-zero}
use Rattle.byte_tables.specs.Design.Doubled.{Doubled, Joined}

-- 1 << k, in 64 bits and in 32
pub one_up : (k w : ℕ) → k < w → 1 * 2 ^ k % 2 ^ w ≡ 2 ^ k
one_up k w l = shl_exact 1 k w (omega arith) (omega arith) ∙ one-mul (2 ^ k)

-- the entries below 2 ^ k are in place
pub record Half (f : ℕ → ℕ) (out : List ℕ) (k : ℕ) : Type 0 where
  pub within : k ≤ 8
  pub long : length out ≡ 256
  pub first : (q : ℕ) → q < 2 ^ k → get_or out q 0 ≡ f q

module _ (f : ℕ → ℕ) where
  -- one bit more
  module _ (joined : Joined f) where
    pub half-turn : (old new : List ℕ) (k size one : ℕ) → Half f old k → k < 8 → length new ≡ length old → size ≡ 2 ^ k → one ≡ f (2 ^ k)
        → Doubled size one old new → Half f new (k + 1)
    half-turn old new k size one h l long s₀ e d₀ = let d : Doubled (2 ^ k) one old new = rw s₀ at d₀ in record {
      within = omega arith;
      long = long ∙ h.long;
      first = λ q b. elim (dec_lt q (2 ^ k)) [
        | yes s ↦ d.first q s ∙ h.first q s
        | no s ↦
            let twice : 2 ^ (k + 1) ≡ 2 ^ k + 2 ^ k = rw (pow-add 2 k 1) (omega arith) in
            let less : q - 2 ^ k < 2 ^ k = omega arith in
            let whole : 2 ^ k + (q - 2 ^ k) ≡ q = omega arith in
            let there : get_or new (2 ^ k + (q - 2 ^ k)) 0 ≡ f (2 ^ k + (q - 2 ^ k)) =
            rw (d.again (q - 2 ^ k) less, h.first (q - 2 ^ k) less, e) (sym (joined.joins k (q - 2 ^ k) less)) in
            rw whole at there
      ];
    }

  pub half-done : (out : List ℕ) (k : ℕ) → Half f out k → 8 ≤ k → out ≡ tab 256 f
  half-done out k h l =
      let all : k ≡ 8 = omega (arith, h.within) in
      sym (tab_is f out 0 256 h.long (λ q b. sym (h.first q (rw all b))))

-- one bit more, so many bits up
high : (up k : ℕ) → 2 ^ k * 2 ^ up ≡ 1 * 2 ^ (k + up)
high up k = rw (pow-add 2 k up) (omega arith)

whole : (up k j : ℕ) → (2 ^ k + j) * 2 ^ up ≡ 1 * 2 ^ (k + up) + j * 2 ^ up
whole up k j = rw (pow-add 2 k up) (omega arith)

gather-joins : (n : ℕ) (p : ℕ → ℕ) (up k j : ℕ) → j < 2 ^ k
    → gather n p ((2 ^ k + j) * 2 ^ up) ≡ bit_or (gather n p (j * 2 ^ up)) (gather n p (2 ^ k * 2 ^ up))
gather-joins n p up k j l =
    let low : j * 2 ^ up < 2 ^ (k + up) = shl_lt k up l in
    rw (whole up k j, high up k, ← or_shifted 1 (k + up) (j * 2 ^ up) low, gather_or) (or_comm (gather n p (1 * 2 ^ (k + up))) (gather n p (j * 2 ^ up)))

pub gather-joined : (n : ℕ) (p : ℕ → ℕ) (up : ℕ) → Joined (λ q. gather n p (q * 2 ^ up))
gather-joined n p up = record { none = rw zero-mul (gather-zero n p); joins = gather-joins n p up }

scatter-joins : (n : ℕ) (p : ℕ → ℕ) (m up k j : ℕ) → j < 2 ^ k
    → scatter n p m ((2 ^ k + j) * 2 ^ up) ≡ bit_or (scatter n p m (j * 2 ^ up)) (scatter n p m (2 ^ k * 2 ^ up))
scatter-joins n p m up k j l =
    rw (whole up k j, high up k) (scatter_split n p m 1 (k + up) (j * 2 ^ up) (shl_lt k up l) ∙ or_comm (scatter n p m (1 * 2 ^ (k + up))) (scatter n p m (j * 2 ^ up)))

pub scatter-joined : (n : ℕ) (p : ℕ → ℕ) (m up : ℕ) → Joined (λ q. scatter n p m (q * 2 ^ up))
scatter-joined n p m up = record { none = rw zero-mul (scatter-zero n p m); joins = scatter-joins n p m up }
