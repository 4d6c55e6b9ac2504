-- The loops that make the tables: the lines at each position, and those that move with each bit. Assumes nothing.
use mathlib.Core.Path.{◌≡◌, sym, ◌∙◌}
use mathlib.Core.List.{List}
use Prim.Native.Nat.{ℕ, suc, ◌+◌, ◌-◌, ◌*◌, ◌%◌, ◌^◌, ◌≤◌, ◌<◌, min}
use native.Mathlib.Nat.{one-mul, pow-suc}
use native.Mathlib.Numerals.{add-one}
use native.Mathlib.Decide.{ℕ_discrete}
use native.Mathlib.Omega.{arith}
use lib.Bits.{bit_or, or_shifted_r, or_shifted}
use lib.ListN.{length, get_or, set, replicate, length-set, length-replicate, get_or-replicate}
use lib.Seq.{get_or-set_same, get_or-set_other}
use lib.Pow.{pow_pos, ones_lt}
use borrow.Author.Tests.{lt-ltb}
use Rattle.lists.proofs.Shifts.{shifted_one}
use Rattle.bits.specs.Bits.{bit, gather, index_address}
use Rattle.bits.proofs.Bit.{bit_shifted}
use Rattle.bits.proofs.Gathered.{gather_lt, gather_none, gather-turn}
use Rattle.bits.proofs.Back.{placed_other, gather_or}
use Rattle.running_address.specs.Kept.{moved_lines}
use Rattle.running_address.specs.Design.Moves.{LinesAt, Moves}

-- a number of one bit has it, and no other
bit-there : (t : ℕ) → bit (2 ^ t) t ≡ 1
bit-there t = rw one-mul at (bit_shifted 1 t (omega arith))

bit_elsewhere : (t q : ℕ) → (t ≡ q → ⊥) → bit (2 ^ t) q ≡ 0
bit_elsewhere t q n = rw (lt-ltb t (suc t) (omega arith), one-mul) at (placed_other (suc t) t q 1 (omega arith) n)

-- the ones up to t are the one there and those below it
ones-up_to : (t : ℕ) → 2 ^ (t + 1) - 1 ≡ bit_or (2 ^ t) (2 ^ t - 1)
ones-up_to t =
    let joined : bit_or (1 * 2 ^ t) (2 ^ t - 1) ≡ 1 * 2 ^ t + (2 ^ t - 1) = or_shifted 1 t (2 ^ t - 1) (ones_lt t) in
    let twice : 2 ^ (t + 1) ≡ 2 ^ t * 2 = rw add-one (pow-suc 2 t) in
    omega (arith, rw one-mul at joined, pow_pos t)

module _ (n : ℕ) (p : ℕ → ℕ) where
  -- the first k lines are each at their position
  pub record Listed (out : List ℕ) (k : ℕ) : Type 0 where
    pub within : k ≤ n
    pub long : length out ≡ 33
    pub at : (t : ℕ) → t < 32 → get_or out t 0 ≡ index_address k p (2 ^ t)

  pub listed-none : Listed (replicate 33 0) 0
  listed-none = record {
    within = omega arith;
    long = length-replicate {A = ℕ} 33 0;
    at = λ t h. get_or-replicate 33 t 0 0 (omega arith) ∙ gather_none p (2 ^ t);
  }

  -- the line k joins those at its position
  line_joins : (k t x : ℕ) → p k ≡ t → x ≡ gather k p (2 ^ t) → bit_or x (2 ^ k) ≡ gather (k + 1) p (2 ^ t)
  line_joins k t x e f =
      let there : bit (2 ^ t) (p k) ≡ 1 = rw e (bit-there t) in
      let more : bit_or x (1 * 2 ^ k) ≡ 1 * 2 ^ k + x = or_shifted_r 1 k x (rw f (gather_lt k p (2 ^ t))) in
      let turn = gather-turn p (2 ^ t) k x f in
      omega (arith, rw one-mul at more, rw there at turn)

  -- and no others
  passes : (k t x : ℕ) → (t ≡ p k → ⊥) → x ≡ gather k p (2 ^ t) → x ≡ gather (k + 1) p (2 ^ t)
  passes k t x e f =
      let turn = gather-turn p (2 ^ t) k x f in
      omega (arith, rw (bit_elsewhere t (p k) e) at turn)

  pub listed-turn : (out : List ℕ) (k at : ℕ) → Listed out k → k < n → n ≤ 32 → at ≡ min (p k) 32
      → Listed (set out at (bit_or (get_or out at 0) (1 * 2 ^ k % 2 ^ 32))) (k + 1)
  listed-turn out k at i l s e = rw (shifted_one k 32 (omega arith)) (record {
    within = omega arith;
    long = length-set out at _ ∙ i.long;
    at = λ t h. elim (ℕ_discrete t at) [
      | yes q ↦ rw q (get_or-set_same out at _ 0 (omega arith) ∙ line_joins k at _ (omega arith) (i.at at (omega arith)))
      | no q ↦ get_or-set_other out at t _ 0 q ∙ passes k t _ (λ r. q (omega arith)) (i.at t h)
    ];
  })

  pub listed-all : (out : List ℕ) (k : ℕ) → Listed out k → n ≤ k → LinesAt n p out
  listed-all out k i l = let e : k ≡ n = omega (arith, i.within) in record { long = i.long; at = rw e at i.at }

  -- the lines that move stand below t, and from there on those at each position
  pub record Joined (out : List ℕ) (t : ℕ) : Type 0 where
    pub from : 1 ≤ t
    pub within : t ≤ 32
    pub long : length out ≡ 33
    pub below : (j : ℕ) → j < t → get_or out j 0 ≡ moved_lines n p j
    pub above : (j : ℕ) → t ≤ j → j < 32 → get_or out j 0 ≡ index_address n p (2 ^ j)

  -- with bit 0 the lines at position 0 move
  pub joined-first : (out : List ℕ) → LinesAt n p out → Joined out 1
  joined-first out l = record {
    from = omega arith;
    within = omega arith;
    long = l.long;
    below = λ j h. let first : j ≡ 0 = omega arith in rw first (l.at 0 (omega arith));
    above = λ j h. l.at j;
  }

  -- the lines at t join those below it
  rest-joins : (t x y : ℕ) → 1 ≤ t → x ≡ index_address n p (2 ^ t) → y ≡ moved_lines n p (t - 1) → bit_or x y ≡ moved_lines n p t
  rest-joins t x y l e f =
      let back : t - 1 + 1 ≡ t = omega arith in
      rw (e, f, back, ones-up_to t) (sym (gather_or n p (2 ^ t) (2 ^ t - 1)))

  pub joined-turn : (out : List ℕ) (t : ℕ) → Joined out t → t < 32 → Joined (set out t (bit_or (get_or out t 0) (get_or out (t - 1) 0))) (t + 1)
  joined-turn out t i l = record {
    from = omega arith;
    within = omega arith;
    long = length-set out t _ ∙ i.long;
    below = λ j h. elim (ℕ_discrete j t) [
      | yes q ↦ rw q (get_or-set_same out t _ 0 (omega arith) ∙ rest-joins t _ _ i.from (i.above t (omega arith) l) (i.below (t - 1) (omega (arith, i.from))))
      | no q ↦ get_or-set_other out t j _ 0 q ∙ i.below j (omega arith)
    ];
    above = λ j h m. get_or-set_other out t j _ 0 (λ q. absurd (omega arith)) ∙ i.above j (omega arith) m;
  }

  pub joined-all : (out : List ℕ) (t : ℕ) → Joined out t → 32 ≤ t → Moves n p out
  joined-all out t i l = record { long = i.long; up_to = λ j h. i.below j (omega arith) }
