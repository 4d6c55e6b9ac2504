-- A text's first line, and the lines behind it. Assumes nothing.
use mathlib.Core.Path.{◌≡◌, refl, sym, ◌∙◌, ap}
use mathlib.Core.Bool.{Bool, true, false, ◌&&◌, cond}
use mathlib.Core.List.{List, [], ◌∷◌}
use mathlib.Core.Logic.{◌≢◌}
use Prim.Native.Nat.{ℕ, zero, suc, ◌+◌, ◌-◌, ◌<◌, ◌≤◌}
use native.Mathlib.Numerals.{add-one}
use native.Mathlib.Omega.{arith}
use lib.Dec.{eqb}
use lib.ListN.{length, get_or, take, drop}
use lib.Seq.{take-length, drop-length}
use borrow.Author.Tests.{eq-eqb, ne_eqb}
use Rattle.lists.proofs.Bools.{both}
use Rattle.lists.proofs.First.{never_both}
use Rattle.hex_read.specs.Lines.{onto, lines_of}
use Rattle.hex_read.specs.Design.Places.{index_of, bare_end, FirstLine}

-- a character that is no line end, and a CR that is part of one
plain_character : (c : ℕ) (s : List ℕ) → eqb c 10 ≡ false → eqb c 13 && eqb (get_or s 0 0) 10 ≡ false → lines_of (c ∷ s) ≡ onto c (lines_of s)
unfolding lines_of
plain_character c s e f = rw (e, f) refl

return_ahead : (c : ℕ) (s : List ℕ) → eqb c 10 ≡ false → eqb c 13 && eqb (get_or s 0 0) 10 ≡ true → lines_of (c ∷ s) ≡ lines_of s
unfolding lines_of
return_ahead c s e f = rw (e, f) refl

line-feed : (c : ℕ) (s : List ℕ) → eqb c 10 ≡ true → lines_of (c ∷ s) ≡ [] ∷ lines_of s
unfolding lines_of
line-feed c s e = rw e refl

-- where the LF stands
here : (c : ℕ) (s : List ℕ) → eqb c 10 ≡ true → index_of 10 (c ∷ s) ≡ 0
unfolding index_of
here c s e = rw e refl

further : (c : ℕ) (s : List ℕ) → eqb c 10 ≡ false → index_of 10 (c ∷ s) ≡ suc (index_of 10 s)
unfolding index_of
further c s e = rw e refl

no_feed : (c : ℕ) (s : List ℕ) → 0 < index_of 10 (c ∷ s) → eqb c 10 ≡ false
no_feed c s h = by (eqb c 10) refl
  where
    by : (t : Bool) → eqb c 10 ≡ t → t ≡ false
    by true e = absurd (omega (arith, here c s e))
    by false e = refl

and_false : (b : Bool) → b && false ≡ false
and_false true = refl
and_false false = refl

-- a text without LF is one line
pub one_line : (s : List ℕ) → 0 < length s → index_of 10 s ≡ length s → lines_of s ≡ s ∷ []
unfolding lines_of
one_line [] h e = absurd (omega arith)
one_line (c ∷ []) h e = plain_character c [] (no_feed c [] (omega arith)) (and_false (eqb c 13))
one_line (c ∷ d ∷ s) h e =
    let f : eqb c 10 ≡ false = no_feed c (d ∷ s) (omega arith) in
    let long : index_of 10 (d ∷ s) ≡ suc (length s) = omega (arith, further c (d ∷ s) f) in
    let g : eqb d 10 ≡ false = no_feed d s (omega arith) in
    plain_character c (d ∷ s) f (ap (λ t. eqb c 13 && t) g ∙ and_false (eqb c 13)) ∙ ap (onto c) (one_line (d ∷ s) (omega arith) long)

-- a character ahead of a line puts its end one place further, but a CR ahead of the LF
feed-first : (s : List ℕ) → index_of 10 s ≡ 0 → 0 < length s → eqb (get_or s 0 0) 10 ≡ true
feed-first [] e h = absurd (omega arith)
feed-first (d ∷ s) e h = by (eqb d 10) refl
  where
    by : (t : Bool) → eqb d 10 ≡ t → t ≡ true
    by true f = refl
    by false f = absurd (omega (arith, further d s f))

not_return : (a b : Bool) → a && b ≡ false → b ≡ true → a ≡ false
not_return true b e f = sym f ∙ e
not_return false b e f = refl

cond-suc : (t : Bool) (a b : ℕ) → cond t (suc a) (suc b) ≡ suc (cond t a b)
cond-suc true a b = refl
cond-suc false a b = refl

end_further : (c : ℕ) (s : List ℕ) (at : ℕ) → index_of 10 s ≡ at → at < length s → eqb c 13 && eqb (get_or s 0 0) 10 ≡ false → bare_end (c ∷ s) (suc at) ≡ suc (bare_end s at)
unfolding bare_end
end_further c s zero e h f = rw (not_return (eqb c 13) (eqb (get_or s 0 0) 10) f (feed-first s e h)) refl
end_further c s (suc at) e h f = cond-suc (eqb (get_or s at 0) 13) at (suc at)

-- a text whose first LF stands at a place: the line ahead of it, and the lines behind it
abbrev pub split : List ℕ → ℕ → List (List ℕ)
split s at = take (bare_end s at) s ∷ lines_of (drop (suc at) s)

feed_here : (c : ℕ) (s : List ℕ) → eqb c 10 ≡ true → lines_of (c ∷ s) ≡ split (c ∷ s) (index_of 10 (c ∷ s))
unfolding bare_end
feed_here c s e = rw (here c s e) (line-feed c s e)

return_here : (c : ℕ) (s : List ℕ) → eqb c 10 ≡ false → eqb c 13 && eqb (get_or s 0 0) 10 ≡ true → lines_of (c ∷ s) ≡ split (c ∷ s) (suc (index_of 10 s))
unfolding bare_end
return_here c [] e f = absurd (never_both (eqb c 13 && false) f (and_false (eqb c 13)))
return_here c (d ∷ s) e f =
    let (return, feed) = both (eqb c 13) (eqb d 10) f in
    rw (here d s feed, return) (return_ahead c (d ∷ s) e f ∙ line-feed d s feed)

character_here : (c : ℕ) (s : List ℕ) → eqb c 10 ≡ false → eqb c 13 && eqb (get_or s 0 0) 10 ≡ false → index_of 10 s < length s
    → lines_of s ≡ split s (index_of 10 s) → lines_of (c ∷ s) ≡ split (c ∷ s) (suc (index_of 10 s))
character_here c s e f h more = rw (end_further c s (index_of 10 s) refl h f) (plain_character c s e f ∙ ap (onto c) more)

pub first_of : (s : List ℕ) → index_of 10 s < length s → lines_of s ≡ split s (index_of 10 s)
first_of [] h = absurd (omega arith)
first_of (c ∷ s) h = by (eqb c 10) refl (λ l. first_of s l)
  where
    ahead : eqb c 10 ≡ false → (index_of 10 s < length s → lines_of s ≡ split s (index_of 10 s)) → (t : Bool) → eqb c 13 && eqb (get_or s 0 0) 10 ≡ t → lines_of (c ∷ s) ≡ split (c ∷ s) (suc (index_of 10 s))
    ahead e more true f = return_here c s e f
    ahead e more false f = let l : index_of 10 s < length s = omega (arith, further c s e) in character_here c s e f l (more l)

    by : (t : Bool) → eqb c 10 ≡ t → (index_of 10 s < length s → lines_of s ≡ split s (index_of 10 s)) → lines_of (c ∷ s) ≡ split (c ∷ s) (index_of 10 (c ∷ s))
    by true e more = feed_here c s e
    by false e more = rw (further c s e) (ahead e more (eqb c 13 && eqb (get_or s 0 0) 10) refl)

-- a line's end, by what stands ahead of its LF
pub end_return : (text : List ℕ) (at : ℕ) → 0 < at → get_or text (at - 1) 0 ≡ 13 → at - 1 ≡ bare_end text at
unfolding bare_end
end_return text zero h e = absurd (omega arith)
end_return text (suc at) h e = let p : suc at - 1 ≡ at = omega arith in rw (p, eq-eqb _ _ (rw p at e)) refl

pub end_plain : (text : List ℕ) (at : ℕ) → 0 < at → get_or text (at - 1) 0 ≢ 13 → at ≡ bare_end text at
unfolding bare_end
end_plain text zero h e = absurd (omega arith)
end_plain text (suc at) h e = let p : suc at - 1 ≡ at = omega arith in rw (ne_eqb (get_or text at 0) 13 (rw p at e)) refl

pub end-first : (text : List ℕ) (at : ℕ) → at ≤ 0 → at ≡ bare_end text at
unfolding bare_end
end-first text zero h = refl
end-first text (suc at) h = absurd (omega arith)

-- the first line, without and with an LF
pub last_line : (text : List ℕ) (at : ℕ) → 0 < length text → at ≡ index_of 10 text → at ≡ length text → FirstLine text at at
unfolding lines_of
last_line text at h e f =
    let whole : at ≡ index_of 10 text = e in
    let alone : lines_of text ≡ text ∷ [] = one_line text h (sym whole ∙ f) in
    record { ends = omega arith; forward = omega arith; inside = omega arith; lines = alone ∙ rw (f, take-length text, drop-length text) refl }

pub line-ahead : (text : List ℕ) (at end : ℕ) → at ≡ index_of 10 text → at ≤ length text → at ≢ length text → end ≤ at
    → end ≡ bare_end text at → FirstLine text end (at + 1)
line-ahead text at end e h g l f =
    let whole : at ≡ index_of 10 text = e in
    let inside : at < length text = omega arith in
    let first : lines_of text ≡ split text (index_of 10 text) = first_of text (omega arith) in
    record { ends = omega arith; forward = omega arith; inside = omega arith; lines = first ∙ rw (f, add-one, whole) refl }
