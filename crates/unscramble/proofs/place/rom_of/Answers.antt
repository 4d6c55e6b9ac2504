-- `rom_of` meets its contract. The invariant: `rom` is how many of the ROMs passed end before the word. Assumes nothing.
use mathlib.Core.Path.{◌≡◌}
use mathlib.Core.Bool.{cond}
use Prim.Native.Nat.{ℕ, suc, ◌+◌}
use native.Mathlib.Omega.{arith}
use native.Mathlib.Numerals.{add-one}
use lib.Dec.{leb}
use Rattle.lists.specs.Each.{tally}
use Rattle.lists.proofs.Each.{tally-none}
use Rattle.stored_slot.specs.Words.{words_before}
use Rattle.stored_slot.specs.declared.stored.StoredSlot.{StoredSlot}
use Rattle.unscramble.proofs.place.rom_of.Goals as goal

-- a turn: whether ROM k ends before word f
ended : (s : StoredSlot) (f k rom words one : ℕ) → rom ≡ tally k (λ j. leb (words_before s (suc j)) f) → words ≡ words_before s (k + 1)
    → one ≡ cond (leb words f) 1 0 → rom + one ≡ tally (k + 1) (λ j. leb (words_before s (suc j)) f)
unfolding tally
ended s f k rom words one e h i = rw (i, h, e, add-one k)

pub loop-k-init : goal.loop-k-init
loop-k-init c = (omega arith, tally-none _, omega arith)

pub loop-k-preserved : goal.loop-k-preserved
loop-k-preserved c =
    let v = c.loop-k in
    (omega arith, ended _ _ v.k _ _ _ v.invariant.1 c.words_before.ensures.value c.one_if-rom.ensures.value, omega (arith, c.one_if-rom.ensures.upper_bound))
