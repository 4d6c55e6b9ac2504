-- A record's text: how long it is, and laid over a buffer's piece by piece. Assumes nothing.
use mathlib.Core.Path.{◌≡◌, refl, ◌∙◌, ap}
use mathlib.Core.List.{List, [], ◌∷◌, ◌++◌, append_assoc}
use Prim.Native.Nat.{ℕ, ◌+◌, ◌*◌, ◌≤◌, ◌<◌}
use native.Mathlib.Numerals.{add-one}
use native.Mathlib.Omega.{arith}
use lib.ListN.{length, get_or, take, set, length-append}
use lib.Seq.{take-suc, take_all, length-take-le}
use Rattle.hex_base.specs.Sum.{checksum_of}
use Rattle.laid_bytes.specs.Laid.{laid}
use Rattle.laid_bytes.proofs.Laids.{laid-behind, laid_one}
use Rattle.hex_write.specs.Text.{hex_byte, hex_bytes, record_text}

-- two digits a byte
pub hex_length : (bytes : List ℕ) → length (hex_bytes bytes) ≡ 2 * length bytes
unfolding hex_bytes
hex_length [] = refl
hex_length (b ∷ bytes) = omega (arith, hex_length bytes)

pub record-length : (bytes : List ℕ) → length (record_text bytes) ≡ 2 * length bytes + 4
unfolding record_text
record-length bytes = simp length-append (omega (arith, hex_length bytes))

-- the digits of bytes behind others
hex_append : (xs ys : List ℕ) → hex_bytes (xs ++ ys) ≡ hex_bytes xs ++ hex_bytes ys
unfolding hex_bytes
hex_append [] ys = refl
hex_append (x ∷ xs) ys = rw (hex_append xs ys)

hex_one : (b : ℕ) → hex_bytes (b ∷ []) ≡ hex_byte b
unfolding hex_bytes
hex_one b = refl

-- a loop that lays bytes' digits: before the first turn, one turn, and the end
pub digits_none : (t : List ℕ) (at : ℕ) (bytes : List ℕ) → t ≡ laid t at (hex_bytes (take 0 bytes))
unfolding laid hex_bytes
digits_none t at bytes = refl

pub digits_turn : (t out next : List ℕ) (at : ℕ) (bytes : List ℕ) (k : ℕ) → k < length bytes → out ≡ laid t at (hex_bytes (take k bytes))
    → next ≡ laid out (at + 2 * k) (hex_byte (get_or bytes k 0)) → next ≡ laid t at (hex_bytes (take (k + 1) bytes))
digits_turn t out next at bytes k h e f =
    let l : length (hex_bytes (take k bytes)) ≡ 2 * k = hex_length (take k bytes) ∙ rw (length-take-le k bytes (omega arith)) in
    rw (f, e, add-one, take-suc bytes k 0 h, hex_append (take k bytes) (get_or bytes k 0 ∷ []), hex_one (get_or bytes k 0))
    (laid-behind t at (at + 2 * k) (hex_bytes (take k bytes)) (hex_byte (get_or bytes k 0)) (rw l))

pub digits_done : (t out : List ℕ) (at : ℕ) (bytes : List ℕ) (k : ℕ) → length bytes ≤ k → out ≡ laid t at (hex_bytes (take k bytes)) → out ≡ laid t at (hex_bytes bytes)
digits_done t out at bytes k h e = rw (take_all k bytes h) at e

-- a colon, the digits, those of the checksum, and LF
pub record-laid : (t u v : List ℕ) (at : ℕ) (bytes : List ℕ) (sum : ℕ) → u ≡ laid (set t at 58) (at + 1) (hex_bytes bytes)
    → sum ≡ checksum_of bytes → v ≡ laid u (at + 1 + 2 * length bytes) (hex_byte sum)
    → set v (at + 1 + 2 * length bytes + 2) 10 ≡ laid t at (record_text bytes)
unfolding laid record_text
record-laid t u v at bytes sum e f g =
    let l = hex_length bytes in
    let m : length (hex_bytes bytes ++ hex_byte (checksum_of bytes)) ≡ 2 * length bytes + 2 = simp length-append (omega arith) in
    rw (g, f, e, laid-behind (set t at 58) (at + 1) (at + 1 + 2 * length bytes) (hex_bytes bytes) (hex_byte (checksum_of bytes)) (rw l))
    (rw append_assoc at (laid_one (set t at 58) (at + 1) (at + 1 + 2 * length bytes + 2) (hex_bytes bytes ++ hex_byte (checksum_of bytes)) 10 (omega arith)))

-- a record that stands for a piece of the text: room for the piece is room for it, and it is laid where the piece is
module _ (bytes piece : List ℕ) (is : record_text bytes ≡ piece) where
  pub record-room : (at m : ℕ) → at + length piece ≤ m → at + 2 * length bytes + 4 ≤ m
  record-room at m h = omega (arith, record-length bytes, ap length is)

  pub record_put : (t out : List ℕ) (at end : ℕ) → end ≡ at + 2 * length bytes + 4 → out ≡ laid t at (record_text bytes) → (end ≡ at + length piece) × (out ≡ laid t at piece)
  record_put t out at end e f = (omega (arith, record-length bytes, ap length is), f ∙ ap (laid t at) is)
