-- Turns of the loops over overrides and positions. Assumes nothing.
use mathlib.Core.Path.{◌≡◌, refl}
use mathlib.Core.Bool.{Bool, false, cond, ◌&&◌, ◌||◌}
use mathlib.Core.List.{List}
use Prim.Native.Nat.{ℕ, suc, ◌+◌, ◌/◌, ◌%◌, ◌^◌, ◌<◌}
use native.Mathlib.Nat.{lt_of_lt_of_le}
use native.Mathlib.Omega.{arith}
use lib.Dec.{eqb}
use lib.ListN.{get_or}
use lib.Pow.{pow_mono}
use Rattle.stored_slot.specs.Stored.{names}
use Rattle.forced_bits.specs.Design.Forced.{mask_of}
use Rattle.forced_bits.proofs.Masks.{mask_lt}

pub names-none : (l : List ℕ) (kind gpio : ℕ) → false ≡ names 0 l kind gpio
unfolding names
names-none l kind gpio = refl

pub names-turn : (l : List ℕ) (kind gpio k x : ℕ) (found b : Bool) → found ≡ names k l kind gpio → x ≡ get_or l k 0
    → b ≡ (found || (eqb (x % 64) gpio && eqb (x / 64) kind)) → b ≡ names (k + 1) l kind gpio
unfolding names
names-turn l kind gpio k x found b e r h = let next : k + 1 ≡ suc k = omega arith in rw (next, h, e, r)

pub names-done : (l : List ℕ) (kind gpio k n : ℕ) (found : Bool) → k ≡ n → found ≡ names k l kind gpio → found ≡ names n l kind gpio
names-done l kind gpio k n found e h = rw e at h

pub mask_none : (p : ℕ → Bool) → 0 ≡ mask_of 0 p
unfolding mask_of
mask_none p = refl

pub mask_turn : (p : ℕ → Bool) (k x y : ℕ) → x ≡ mask_of k p → y ≡ cond (p k) (2 ^ k) 0 → x + y ≡ mask_of (k + 1) p
unfolding mask_of
mask_turn p k x y e h = let next : k + 1 ≡ suc k = omega arith in rw (next, e, h)

pub mask_fits : (p : ℕ → Bool) (k x y : ℕ) → x ≡ mask_of k p → y ≡ cond (p k) (2 ^ k) 0 → k < 32 → x + y < 2 ^ 32
mask_fits p k x y e h l =
    let whole = mask_turn p k x y e h in
    lt_of_lt_of_le (rw whole (mask_lt (k + 1) p)) (pow_mono {i = k + 1} {j = 32} (omega arith))
