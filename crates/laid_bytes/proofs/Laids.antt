-- Bytes laid over a buffer's, piece by piece. Assumes nothing.
use mathlib.Core.Path.{◌≡◌, refl, ◌∙◌}
use mathlib.Core.List.{List, [], ◌∷◌, ◌++◌}
use mathlib.Core.Logic.{◌⊎◌, inl, inr}
use Prim.Native.Nat.{ℕ, zero, suc, ◌+◌, ◌-◌, ◌<◌, ◌≤◌}
use native.Mathlib.Nat.{add-zero, zero-add}
use native.Mathlib.Numerals.{add-one}
use native.Mathlib.Omega.{arith}
use lib.ListN.{length, get_or, take, drop, set, length-set}
use Rattle.std.proofs.Common.{append_assoc}
use lib.Seq.{drop-drop, take-suc, take_all, length-take-le, get_or-set_same, get_or-set_other, sets, sets-eq}
use Rattle.laid_bytes.specs.Laid.{laid}
use Rattle.laid_bytes.specs.Law.{LaidLaw}

-- a piece behind another is both in one
pub laid-append : (b : List ℕ) (at : ℕ) (xs ys : List ℕ) → laid (laid b at xs) (at + length xs) ys ≡ laid b at (xs ++ ys)
unfolding laid
laid-append b at [] ys = rw add-zero refl
laid-append b at (x ∷ xs) ys =
    let e : at + suc (length xs) ≡ at + 1 + length xs = omega arith in
    rw e (laid-append (set b at x) (at + 1) xs ys)

-- the same where the place has another name
pub laid-behind : (b : List ℕ) (at to : ℕ) (xs ys : List ℕ) → to ≡ at + length xs → laid (laid b at xs) to ys ≡ laid b at (xs ++ ys)
laid-behind b at to xs ys e = rw e (laid-append b at xs ys)

-- one byte more
pub laid_one : (b : List ℕ) (at to : ℕ) (xs : List ℕ) (x : ℕ) → to ≡ at + length xs → set (laid b at xs) to x ≡ laid b at (xs ++ (x ∷ []))
unfolding laid
laid_one b at to xs x e = laid-behind b at to xs (x ∷ []) e

pub laid-length : (b : List ℕ) (at : ℕ) (xs : List ℕ) → length (laid b at xs) ≡ length b
unfolding laid
laid-length b at [] = refl
laid-length b at (x ∷ xs) = laid-length (set b at x) (at + 1) xs ∙ length-set b at x

laid-outside : (b : List ℕ) (at : ℕ) (xs : List ℕ) (i : ℕ) → (i < at) ⊎ (at + length xs ≤ i) → get_or (laid b at xs) i 0 ≡ get_or b i 0
unfolding laid
laid-outside b at [] i h = refl
laid-outside b at (x ∷ xs) i (inl h) = laid-outside (set b at x) (at + 1) xs i (inl (omega arith)) ∙ get_or-set_other b at i x 0 (λ e. omega arith)
laid-outside b at (x ∷ xs) i (inr h) = laid-outside (set b at x) (at + 1) xs i (inr (omega arith)) ∙ get_or-set_other b at i x 0 (λ e. omega arith)

laid-inside : (b : List ℕ) (at : ℕ) (xs : List ℕ) (k : ℕ) → k < length xs → at + k < length b → get_or (laid b at xs) (at + k) 0 ≡ get_or xs k 0
unfolding laid
laid-inside b at [] k h m = absurd (omega arith)
laid-inside b at (x ∷ xs) zero h m =
    laid-outside (set b at x) (at + 1) xs (at + zero) (inl (omega arith)) ∙ rw (add-zero at) (get_or-set_same b at x 0 (omega arith))
laid-inside b at (x ∷ xs) (suc k) h m =
    let e : at + suc k ≡ at + 1 + k = omega arith in
    let l : length (set b at x) ≡ length b = length-set b at x in
    rw e (laid-inside (set b at x) (at + 1) xs k (omega arith) (omega arith))

-- a loop that lays bytes one by one: before the first turn, one turn, and the end
pub laid_none : (b : List ℕ) (at : ℕ) (bytes : List ℕ) → b ≡ laid b at (take 0 bytes)
unfolding laid
laid_none b at bytes = refl

pub laid-turn : (b out : List ℕ) (at : ℕ) (bytes : List ℕ) (k : ℕ) → k < length bytes → out ≡ laid b at (take k bytes)
    → set out (at + k) (get_or bytes k 0) ≡ laid b at (take (k + 1) bytes)
laid-turn b out at bytes k h e =
    let l : length (take k bytes) ≡ k = length-take-le k bytes (omega arith) in
    rw (e, add-one, take-suc bytes k 0 h) (laid_one b at (at + k) (take k bytes) (get_or bytes k 0) (rw l refl))

pub laid_done : (b out : List ℕ) (at : ℕ) (bytes : List ℕ) (k : ℕ) → length bytes ≤ k → out ≡ laid b at (take k bytes) → out ≡ laid b at bytes
laid_done b out at bytes k h e = rw (take_all k bytes h) at e

laid_sets : (b : List ℕ) (at : ℕ) (xs : List ℕ) → laid b at xs ≡ sets b at xs
unfolding laid
laid_sets b at [] = refl
laid_sets b at (x ∷ xs) = rw add-one (laid_sets (set b at x) (suc at) xs)

-- bytes that a buffer has room for, with what stands before them and behind them
pub laid_parts : (b : List ℕ) (at : ℕ) (xs : List ℕ) → at + length xs ≤ length b → laid b at xs ≡ take at b ++ xs ++ drop (at + length xs) b
laid_parts b at xs h = laid_sets b at xs ∙ sets-eq xs b at h

-- the same of a part of the buffer that holds them
pub laid_part : (b part xs : List ℕ) (at : ℕ) → at + length xs ≤ length b → part ≡ xs
    → take at b ++ (part ++ drop (at + length xs - at) (drop at b)) ≡ laid b at xs
laid_part b part xs at h e =
    let n : at + length xs - at ≡ length xs = omega arith in
    rw (laid_parts b at xs h, e, n, drop-drop, append_assoc)

pub laid-front : (b xs : List ℕ) → length xs ≤ length b → laid b 0 xs ≡ xs ++ drop (length xs) b
laid-front b xs h = rw zero-add at (laid_parts b 0 xs (omega arith))

pub laid_law : (b : List ℕ) (at : ℕ) (xs : List ℕ) → LaidLaw b at xs
laid_law b at xs = record { long = laid-length b at xs; inside = laid-inside b at xs; outside = laid-outside b at xs }
