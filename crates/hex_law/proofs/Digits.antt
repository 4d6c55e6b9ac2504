-- Bytes written as digits, read back from them, and the line that they make. Assumes nothing.
use mathlib.Core.Path.{◌≡◌, refl}
use mathlib.Core.Bool.{Bool, true, false, cond}
use mathlib.Core.List.{List, [], ◌∷◌, ◌++◌}
use Prim.Native.Nat.{ℕ, zero, suc, ◌+◌, ◌*◌, ◌/◌, ◌%◌, ◌<◌, ◌≤◌}
use native.Mathlib.Omega.{arith}
use lib.Dec.{eqb, ltb}
use lib.ListN.{length, get_or, take, drop}
use lib.Seq.{get_or-drop}
use borrow.Author.Tests.{ltb-true, ltb-false, lt-ltb, le-leb, lt-leb, ne_eqb}
use Rattle.lists.proofs.First.{never_both}
use Rattle.hex_record.specs.Digits.{digit_of, is_digit}
use Rattle.hex_record.specs.Record.{record_byte}
use Rattle.hex_read.specs.Lines.{lines_of}
use Rattle.hex_write.specs.Text.{digit_for, hex_bytes}
use Rattle.hex_law.specs.RoundTrip.{Bytes}

-- lists of bytes
pub bytes-none : Bytes []
bytes-none k = omega arith

pub bytes_cons : (x : ℕ) (l : List ℕ) → x < 256 → Bytes l → Bytes (x ∷ l)
bytes_cons x l h b zero = h
bytes_cons x l h b (suc k) = b k

pub bytes_four : (w x y z : ℕ) (l : List ℕ) → w < 256 → x < 256 → y < 256 → z < 256 → Bytes l → Bytes (w ∷ x ∷ y ∷ z ∷ l)
bytes_four w x y z l f g h i b =
    bytes_cons w (x ∷ y ∷ z ∷ l) f (bytes_cons x (y ∷ z ∷ l) g (bytes_cons y (z ∷ l) h (bytes_cons z l i b)))

pub bytes_rest : (x : ℕ) (l : List ℕ) → Bytes (x ∷ l) → Bytes l
bytes_rest x l b k = b (suc k)

pub bytes_take : (n : ℕ) (l : List ℕ) → Bytes l → Bytes (take n l)
bytes_take zero l b k = omega arith
bytes_take (suc n) [] b k = omega arith
bytes_take (suc n) (x ∷ l) b k = bytes_cons x (take n l) (b 0) (bytes_take n l (bytes_rest x l b)) k

pub bytes_drop : (n : ℕ) (l : List ℕ) → Bytes l → Bytes (drop n l)
bytes_drop n l b k = rw (get_or-drop n l k 0) (b (n + k))

pub bytes-append : (l m : List ℕ) → Bytes l → Bytes m → Bytes (l ++ m)
bytes-append [] m b c = c
bytes-append (x ∷ l) m b c = bytes_cons x (l ++ m) (b 0) (bytes-append l m (bytes_rest x l b) c)

-- a digit is read as the value that it is written for
decimal_back : (v : ℕ) → v < 10 → digit_of (v + 48) ≡ v
unfolding digit_of
decimal_back v h = rw (le-leb 48 (v + 48) (omega arith), le-leb (v + 48) 57 (omega arith)) (omega arith)

letter_back : (v : ℕ) → 10 ≤ v → v < 16 → digit_of (v + 55) ≡ v
unfolding digit_of
letter_back v h l =
    rw (le-leb 48 (v + 55) (omega arith), lt-leb (v + 55) 57 (omega arith), le-leb 65 (v + 55) (omega arith), le-leb (v + 55) 70 (omega arith))
    (omega arith)

digit-back : (v : ℕ) → v < 16 → digit_of (digit_for v) ≡ v
digit-back v h = by (ltb v 10) refl
  where
    by : (t : Bool) → ltb v 10 ≡ t → digit_of (cond t (v + 48) (v + 55)) ≡ v
    by true e = decimal_back v (ltb-true v 10 e)
    by false e = letter_back v (ltb-false v 10 e) h

is_digit_lem : (v : ℕ) → v < 16 → is_digit (digit_for v) ≡ true
is_digit_lem v h = rw (digit-back v h) (lt-ltb v 16 h)

-- the two digits of byte k
digits_at : (l : List ℕ) (k : ℕ) → k < length l
    → (get_or (hex_bytes l) (2 * k) 0 ≡ digit_for (get_or l k 0 / 16)) × (get_or (hex_bytes l) (suc (2 * k)) 0 ≡ digit_for (get_or l k 0 % 16))
unfolding hex_bytes
digits_at [] k h = absurd (omega arith)
digits_at (x ∷ l) zero h = (refl, refl)
digits_at (x ∷ l) (suc k) h = let e : 2 * suc k ≡ suc (suc (2 * k)) = omega arith in rw e (digits_at l k (omega arith))

-- a line of bytes says them
abbrev pub line_of : List ℕ → List ℕ
line_of l = 58 ∷ hex_bytes l

pub byte-back : (l : List ℕ) → Bytes l → (k : ℕ) → k < length l → record_byte (line_of l) k ≡ get_or l k 0
unfolding record_byte
byte-back l b k h =
    let small = b k in
    let (high, low) = digits_at l k h in
    let e : 2 * k + 1 ≡ suc (2 * k) = omega arith in
    let f : 2 * k + 2 ≡ suc (suc (2 * k)) = omega arith in
    rw (e, f, high, low, digit-back (get_or l k 0 / 16) (omega arith), digit-back (get_or l k 0 % 16) (omega arith)) (omega arith)

-- nothing stands behind its colon but digits
pub all_digits : (l : List ℕ) → Bytes l → (k : ℕ) → k < length (hex_bytes l) → is_digit (get_or (hex_bytes l) k 0) ≡ true
unfolding hex_bytes
all_digits [] b k h = absurd (omega arith)
all_digits (x ∷ l) b zero h = let small = b 0 in is_digit_lem (x / 16) (omega arith)
all_digits (x ∷ l) b (suc zero) h = is_digit_lem (x % 16) (omega arith)
all_digits (x ∷ l) b (suc (suc k)) h = all_digits l (bytes_rest x l b) k (omega arith)

-- no digit ends a line
not_digit : (c d : ℕ) → is_digit d ≡ false → is_digit c ≡ true → eqb c d ≡ false
not_digit c d f e = ne_eqb c d (λ q. never_both (is_digit d) (rw q at e) f)

no_feed : (c : ℕ) → is_digit c ≡ true → eqb c 10 ≡ false
unfolding digit_of
no_feed c e = not_digit c 10 refl e

no_return : (c : ℕ) → is_digit c ≡ true → eqb c 13 ≡ false
unfolding digit_of
no_return c e = not_digit c 13 refl e

-- digits ahead of an LF are a line, behind a colon too
digits_line : (s rest : List ℕ) → ((k : ℕ) → k < length s → is_digit (get_or s k 0) ≡ true) → lines_of (s ++ (10 ∷ rest)) ≡ s ∷ lines_of rest
unfolding lines_of
digits_line [] rest h = refl
digits_line (c ∷ s) rest h =
    let first = h 0 (omega arith) in
    let more = digits_line s rest (λ k l. h (suc k) (omega arith)) in
    rw (no_feed c first, no_return c first, more)

pub line-back : (l rest : List ℕ) → Bytes l → lines_of (line_of l ++ (10 ∷ rest)) ≡ line_of l ∷ lines_of rest
unfolding lines_of
line-back l rest b = rw (digits_line (hex_bytes l) rest (all_digits l b))
