-- What the count of the words that come back needs of its definition. Assumes nothing.
use mathlib.Core.Path.{◌≡◌, refl}
use Prim.Native.Nat.{ℕ, ◌+◌, ◌^◌, ◌<◌, min}
use mathlib.Core.Bool.{Bool, true, false}
use native.Mathlib.Numerals.{add-one}
use native.Mathlib.Omega.{arith}
use lib.Dec.{leb}
use lib.Pow.{pow_mono}
use borrow.Author.Tests.{leb-true, leb-false}
use Rattle.slot.specs.declared.description.Description.{Description}
use Rattle.addr_layout.specs.declared.layout.AddrLayout.{AddrLayout}
use Rattle.premises.specs.Room.{chip_words, words_to}

pub words-none : (d : Description) (a : AddrLayout) → 0 ≡ words_to d a 0
unfolding words_to
words-none d a = refl

pub words-turn : (d : Description) (a : AddrLayout) (k words one : ℕ) → words ≡ words_to d a k → one ≡ chip_words d a k
    → words + one ≡ words_to d a (k + 1)
unfolding words_to
words-turn d a k words one e h = rw (e, h, add-one k)

-- 32 lines reach all words that a chip can have
pub reached-all : (x n : ℕ) → x < 2 ^ 32 → min x (2 ^ min n 32) ≡ min x (2 ^ n)
reached-all x n h = by (leb n 32) refl where
  by : (t : Bool) → leb n 32 ≡ t → min x (2 ^ min n 32) ≡ min x (2 ^ n)
  by true e = let few : min n 32 ≡ n = omega (arith, leb-true n 32 e) in rw few
  by false e =
      let most : min n 32 ≡ 32 = omega (arith, leb-false n 32 e) in
      let more = pow_mono {i = 32} {j = n} (omega (arith, leb-false n 32 e)) in
      rw most (omega (arith, h, more))
