-- One word more of a row, written or compared. Assumes nothing.
use mathlib.Core.Path.{◌≡◌, sym, ◌∙◌}
use mathlib.Core.Bool.{Bool, true, ◌&&◌}
use mathlib.Core.Logic.{inl, inr}
use mathlib.Core.List.{List, ◌++◌}
use Prim.Native.Nat.{ℕ, ◌+◌, ◌*◌, ◌<◌}
use native.Mathlib.Nat.{add-zero, le_of_suc-le-suc, eq-or-lt_of_le}
use native.Mathlib.Numerals.{add-one}
use native.Mathlib.Omega.{arith}
use lib.Dec.{eqb}
use lib.ListN.{take, drop}
use borrow.Author.Tests.{eqb-true}
use Rattle.lists.proofs.Bools.{both}
use Rattle.words.specs.Words.{bytes_of}
use Rattle.words.proofs.Words.{words-turn}
use Rattle.word_rows.specs.Design.Wrote.{Wrote}

pub wrote_none : (w : ℕ) (f : ℕ → ℕ) (at : ℕ) (o : List ℕ) → Wrote w f at 0 o o
wrote_none w f at o g rest e h = rw add-zero e

pub wrote_turn : (w : ℕ) (f : ℕ → ℕ) (at q x : ℕ) (o now new : List ℕ) → Wrote w f at q o now → x ≡ f q
    → new ≡ take ((at + q) * w) now ++ bytes_of w x ++ drop ((at + q) * w + w) now → Wrote w f at (q + 1) o new
wrote_turn w f at q x o now new i e p g rest s h =
    let assoc : at + (q + 1) ≡ at + q + 1 = omega arith in
    rw assoc (words-turn w g rest (at + q) x now new (i g rest s (λ j l. h j (omega arith))) (e ∙ sym (h q (omega arith))) p)

pub wrote_done : (w : ℕ) (f : ℕ → ℕ) (at q count : ℕ) (o now : List ℕ) → q ≡ count → Wrote w f at q o now → Wrote w f at count o now
wrote_done w f at q count o now e i = rw e at i

-- so many, and so many more
pub wrote_more : (w : ℕ) (f : ℕ → ℕ) (at n m : ℕ) (a b c : List ℕ) → Wrote w f at n a b → Wrote w (λ q. f (n + q)) (at + n) m b c → Wrote w f at (n + m) a c
wrote_more w f at n m a b c i j g rest s h =
    let assoc : at + (n + m) ≡ at + n + m = omega arith in
    rw assoc (j g rest (i g rest s (λ q l. h q (omega arith))) (λ q l. let there : at + n + q ≡ at + (n + q) = omega arith in rw there (h (n + q) (omega arith))))

-- the same words
pub wrote_same : (w : ℕ) (f g : ℕ → ℕ) (at n : ℕ) (a b : List ℕ) → ((q : ℕ) → q < n → g q ≡ f q) → Wrote w f at n a b → Wrote w g at n a b
wrote_same w f g at n a b e i v rest s h = i v rest s (λ q l. h q l ∙ e q l)

-- one word compared
pub same_turn : (p f : ℕ → ℕ) (q x y : ℕ) (ok : Bool) → (ok ≡ true → (j : ℕ) → j < q → p j ≡ f j) → x ≡ p q → y ≡ f q
    → ok && eqb x y ≡ true → (j : ℕ) → j < q + 1 → p j ≡ f j
same_turn p f q x y ok i a b t j l =
    let (first, last) = both ok (eqb x y) t in
    elim (eq-or-lt_of_le (le_of_suc-le-suc (rw add-one at l))) [ inl s ↦ rw (s, ← a, ← b) (eqb-true x y last) | inr s ↦ i first j s ]
