-- What a loop that counts the ROMs' words needs of `words_before`. Assumes nothing.
use mathlib.Core.Path.{◌≡◌, refl}
use Prim.Native.Nat.{ℕ, ◌+◌}
use native.Mathlib.Numerals.{add-one}
use Rattle.stored_slot.specs.Words.{rom_words, words_before}
use Rattle.stored_slot.specs.declared.stored.StoredSlot.{StoredSlot}

pub words-none : (s : StoredSlot) → 0 ≡ words_before s 0
unfolding words_before
words-none s = refl

pub words-turn : (s : StoredSlot) (k words one : ℕ) → words ≡ words_before s k → one ≡ rom_words s k → words + one ≡ words_before s (k + 1)
unfolding words_before
words-turn s k words one e h = rw (e, h, add-one k)
