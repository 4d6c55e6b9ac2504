-- The lines of a text, character by character. Assumes nothing.
use mathlib.Core.Path.{◌≡◌, refl, ◌∙◌, ap}
use mathlib.Core.Bool.{Bool, true, false, ◌&&◌, cond, and-false}
use mathlib.Core.List.{List, [], ◌∷◌, ◌++◌}
use mathlib.Core.Logic.{◌≢◌}
use Prim.Native.Nat.{ℕ, zero, suc, ◌-◌, ◌<◌}
use native.Mathlib.Omega.{arith}
use lib.Dec.{eqb}
use lib.ListN.{length, get_or}
use borrow.Author.Tests.{ne_eqb}
use Rattle.hex_read.specs.Lines.{onto, lines_of}
use Rattle.hex_law.specs.Lines.{NoFeed, LinesLaw}

-- a character that ends no line and is no CR ahead of LF begins the first line of what follows
plain : (c : ℕ) (text : List ℕ) → c ≢ 10 → eqb c 13 && eqb (get_or text 0 0) 10 ≡ false → lines_of (c ∷ text) ≡ onto c (lines_of text)
unfolding lines_of
plain c text h e = rw (ne_eqb c 10 h, e) refl

ahead : (c d : ℕ) → d ≢ 10 → eqb c 13 && eqb d 10 ≡ false
ahead c d h = ap (λ t. eqb c 13 && t) (ne_eqb d 10 h) ∙ and-false (eqb c 13)

others : (c : ℕ) (line : List ℕ) → NoFeed (c ∷ line) → NoFeed line
others c line n k h = n (suc k) (omega arith)

last_line : (line : List ℕ) → NoFeed line → 0 < length line → lines_of line ≡ line ∷ []
unfolding lines_of
last_line [] n h = absurd (omega arith)
last_line (c ∷ []) n h = plain c [] (n 0 (omega arith)) (ahead c 0 (λ e. omega arith))
last_line (c ∷ d ∷ line) n h =
    plain c (d ∷ line) (n 0 (omega arith)) (ahead c d (n 1 (omega arith))) ∙ ap (onto c) (last_line (d ∷ line) (others c (d ∷ line) n) (omega arith))

return_alone : (rest : List ℕ) → lines_of (13 ∷ 10 ∷ rest) ≡ [] ∷ lines_of rest
unfolding lines_of
return_alone rest = refl

return_ends : (line rest : List ℕ) → NoFeed line → lines_of (line ++ 13 ∷ 10 ∷ rest) ≡ line ∷ lines_of rest
return_ends [] rest n = return_alone rest
return_ends (c ∷ []) rest n = plain c (13 ∷ 10 ∷ rest) (n 0 (omega arith)) (ahead c 13 (λ e. omega arith)) ∙ ap (onto c) (return_alone rest)
return_ends (c ∷ d ∷ line) rest n =
    plain c (d ∷ line ++ 13 ∷ 10 ∷ rest) (n 0 (omega arith)) (ahead c d (n 1 (omega arith))) ∙ ap (onto c) (return_ends (d ∷ line) rest (others c (d ∷ line) n))

feed_alone : (rest : List ℕ) → lines_of (10 ∷ rest) ≡ [] ∷ lines_of rest
unfolding lines_of
feed_alone rest = refl

feed-ends : (line rest : List ℕ) → NoFeed line → get_or line (length line - 1) 0 ≢ 13 → lines_of (line ++ 10 ∷ rest) ≡ line ∷ lines_of rest
feed-ends [] rest n h = feed_alone rest
feed-ends (c ∷ []) rest n h = plain c (10 ∷ rest) (n 0 (omega arith)) (ap (λ t. t && true) (ne_eqb c 13 h)) ∙ ap (onto c) (feed_alone rest)
feed-ends (c ∷ d ∷ line) rest n h =
    let e : suc (suc (length line)) - 1 ≡ suc (suc (length line) - 1) = omega arith in
    plain c (d ∷ line ++ 10 ∷ rest) (n 0 (omega arith)) (ahead c d (n 1 (omega arith))) ∙ ap (onto c) (feed-ends (d ∷ line) rest (others c (d ∷ line) n) (rw e at h))

pub lines_law : LinesLaw
unfolding lines_of
lines_law = record { none = refl; last = last_line; feed = feed-ends; return_feed = return_ends }
