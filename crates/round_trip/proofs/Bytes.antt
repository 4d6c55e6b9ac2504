-- The words of some bytes in an order, written as bytes in that order, are those bytes. Assumes nothing.
use mathlib.Core.Path.{◌≡◌, sym}
use mathlib.Core.List.{List}
use Prim.Native.Nat.{ℕ, zero, suc, ◌+◌, ◌*◌, ◌≤◌, ◌<◌}
use native.Mathlib.Nat.{zero-mul, suc-mul}
use native.Mathlib.Omega.{arith}
use lib.ListN.{length, take, get_or}
use lib.Seq.{take-add}
use Rattle.lists.specs.Tab.{joined}
use Rattle.words.specs.Words.{chip_word, chip_words_bytes}
use Rattle.words.specs.declared.ByteOrder.{ByteOrder}
use Rattle.words.proofs.Chip.{chip-bytes}

pub words_take : (order : ByteOrder) (w : ℕ) (b : List ℕ) (n : ℕ) → ((k : ℕ) → get_or b k 0 < 256) → n * w ≤ length b
    → chip_words_bytes order w (chip_word order w b) n ≡ take (n * w) b
unfolding joined
words_take order w b zero h l = rw zero-mul
words_take order w b (suc n) h l =
    let m : n * w + w ≤ length b = rw suc-mul at l in
    rw (words_take order w b n h (omega arith), chip-bytes order w b (n * w) h m, suc-mul) (sym (take-add (n * w) w b))
