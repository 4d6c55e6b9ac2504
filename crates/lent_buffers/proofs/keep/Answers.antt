-- `keep` meets its contract: a word without a mark is written and marked, another is compared. Assumes nothing.
use mathlib.Core.Path.{◌≡◌}
use mathlib.Core.Bool.{true}
use mathlib.Core.List.{List, ◌++◌}
use Prim.Native.Nat.{ℕ, ◌+◌, ◌*◌, ◌<◌}
use native.Mathlib.Numerals.{add-one}
use native.Mathlib.Omega.{arith}
use lib.Dec.{eqb}
use lib.ListN.{length, take, drop, get_or, set}
use lib.Seq.{set_split}
use borrow.Author.Tests.{eq-eqb, ne_eqb}
use Rattle.words.specs.Words.{bytes_of, word_from}
use Rattle.lent_buffers.specs.Design.Buffers.{kept, keep_word}
use Rattle.lent_buffers.proofs.keep.Goals as goal

module _ (w f value : ℕ) (output marks : List ℕ) where
  new : (written : List ℕ) → get_or marks f 0 ≡ 0 → f < length marks → written ≡ take (f * w) output ++ bytes_of w value ++ drop (f * w + w) output
      → kept true written (set marks f 1) ≡ keep_word w f value output marks
  new written e l h = rw (eq-eqb (get_or marks f 0) 0 e, h, set_split marks f 1 l, add-one)

  old : (x : ℕ) → (get_or marks f 0 ≡ 0 → ⊥) → x ≡ word_from w output (f * w) → kept (eqb x value) output marks ≡ keep_word w f value output marks
  old x d e = rw (ne_eqb (get_or marks f 0) 0 d, e)

pub returns-then-marks-k-eq0 : goal.returns-then-marks-k-eq0
returns-then-marks-k-eq0 c =
    new _ _ _ _ c.args.marks.now _ (omega (arith, c.if-marks-k-eq0.true)) c.requires.mark c.put_word.ensures
