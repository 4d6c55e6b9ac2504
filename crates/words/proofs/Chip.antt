-- Words of a chip, whose bytes are in the order of its dump. Assumes nothing.
use mathlib.Core.Path.{◌≡◌, refl, ◌∙◌, ap}
use mathlib.Core.List.{List, [], ◌∷◌, reverse, reverse_aux, reverse-append, reverse-reverse}
use Prim.Native.Nat.{ℕ, zero, suc, ◌+◌, ◌*◌, ◌/◌, ◌%◌, ◌^◌, ◌≤◌, ◌<◌}
use native.Mathlib.Nat.{add-zero, suc_inj}
use native.Mathlib.Numerals.{add-one}
use native.Mathlib.Omega.{arith}
use lib.ListN.{length, take, drop, get_or, length-reverse, length-drop}
use lib.Seq.{length-take-le, take-nil, take-suc, take-take, get_or-drop, drop-drop}
use Rattle.lists.proofs.Tab.{joined_cong}
use Rattle.words.specs.Words.{word_from, bytes_of, in_order, chip_word_from, chip_bytes_of, chip_words_bytes}
use Rattle.words.specs.declared.ByteOrder.{ByteOrder}
use Rattle.words.specs.declared.ByteOrder.TheVariants.{LowFirst, HighFirst}
use Rattle.words.proofs.Words.{word_lt, word_part, bytes-length}

-- bytes in front move a word on
word-behind : (w x : ℕ) (l : List ℕ) (at : ℕ) → word_from w (x ∷ l) (at + 1) ≡ word_from w l at
unfolding word_from
word-behind zero x l at = refl
word-behind (suc w) x l at =
    let next = word-behind w x l (at + 1) in
    let here : get_or (x ∷ l) (at + 1) 0 ≡ get_or l at 0 = rw add-one in
    rw (here, next)

-- low byte first it is the word that stands there
pub chip-low : (w : ℕ) (b : List ℕ) (at : ℕ) → chip_word_from LowFirst w b at ≡ word_from w b at
unfolding chip_word_from
chip-low w b at = rw add-zero at (word_part w b at w 0 (omega arith))

-- high byte first: none, and one byte more, which is the lowest
pub high-none : (b : List ℕ) (at : ℕ) → chip_word_from HighFirst 0 b at ≡ 0
unfolding chip_word_from word_from
high-none b at = refl

pub high_more : (w : ℕ) (b : List ℕ) (at : ℕ) → at + w < length b
    → chip_word_from HighFirst (w + 1) b at ≡ get_or b (at + w) 0 + 256 * chip_word_from HighFirst w b at
unfolding chip_word_from word_from
high_more w b at h =
    let inside : w < length (drop at b) = simp length-drop (omega arith) in
    let last : reverse (take (suc w) (drop at b)) ≡ get_or b (at + w) 0 ∷ reverse (take w (drop at b)) =
    rw (take-suc (drop at b) w 0 inside, get_or-drop at b w 0) (reverse-append (take w (drop at b)) (get_or b (at + w) 0 ∷ [])) in
    rw (add-one, last) (ap (λ (v : ℕ). get_or b (at + w) 0 + 256 * v) (word-behind w (get_or b (at + w) 0) (reverse (take w (drop at b))) 0))

-- bytes that are turned are bytes
turned_lt : (l r : List ℕ) (m : ℕ) → ((k : ℕ) → get_or l k 0 < m) → ((k : ℕ) → get_or r k 0 < m) → (k : ℕ) → get_or (reverse_aux l r) k 0 < m
turned_lt [] r m h g k = g k
turned_lt (x ∷ l) r m h g k = turned_lt l (x ∷ r) m (λ j. h (suc j)) next k
  where
    next : (j : ℕ) → get_or (x ∷ r) j 0 < m
    next zero = h 0
    next (suc j) = g j

front_lt : (n : ℕ) (l : List ℕ) → ((k : ℕ) → get_or l k 0 < 256) → (k : ℕ) → get_or (take n l) k 0 < 256
front_lt zero l h k = omega arith
front_lt (suc n) [] h k = omega arith
front_lt (suc n) (x ∷ l) h zero = h 0
front_lt (suc n) (x ∷ l) h (suc k) = front_lt n l (λ j. h (suc j)) k

-- bytes of a part are bytes
pub part_lt : (b : List ℕ) (start size : ℕ) → ((k : ℕ) → get_or b k 0 < 256) → (k : ℕ) → get_or (take size (drop start b)) k 0 < 256
part_lt b start size h = front_lt size (drop start b) (λ k. rw (get_or-drop start b k 0) (h (start + k)))

pub in_order_lt : (order : ByteOrder) (l : List ℕ) → ((k : ℕ) → get_or l k 0 < 256) → (k : ℕ) → get_or (in_order order l) k 0 < 256
in_order_lt LowFirst l h k = h k
in_order_lt HighFirst l h k = turned_lt l [] 256 h (λ j. omega arith) k

pub chip_lt : (order : ByteOrder) (w : ℕ) (b : List ℕ) (at : ℕ) → ((k : ℕ) → get_or b k 0 < 256) → chip_word_from order w b at < 2 ^ (8 * w)
unfolding chip_word_from
chip_lt order w b at h =
    word_lt w _ 0 (in_order_lt order (take w (drop at b)) (part_lt b at w h))

-- a word of a part of the bytes
part_of : (at w size : ℕ) (l : List ℕ) → at + w ≤ size → take w (drop at (take size l)) ≡ take w (drop at l)
part_of zero w size l h = take-take w size l (omega arith)
part_of (suc at) w size [] h = rw (take-nil size)
part_of (suc at) w zero (x ∷ l) h = absurd (omega arith)
part_of (suc at) w (suc size) (x ∷ l) h = part_of at w size l (omega arith)

pub chip_part : (order : ByteOrder) (w : ℕ) (b : List ℕ) (start size at : ℕ) → at + w ≤ size
    → chip_word_from order w (take size (drop start b)) at ≡ chip_word_from order w b (start + at)
unfolding chip_word_from
chip_part order w b start size at h = rw (part_of at w size (drop start b) h, drop-drop)

-- the bytes of a chip's word are those that it is read from
pub in_order_twice : (order : ByteOrder) (l : List ℕ) → in_order order (in_order order l) ≡ l
in_order_twice LowFirst l = refl
in_order_twice HighFirst l = reverse-reverse l

pub in_order-length : (order : ByteOrder) (l : List ℕ) → length (in_order order l) ≡ length l
in_order-length LowFirst l = refl
in_order-length HighFirst l = length-reverse l

pub bytes_back : (w : ℕ) (l : List ℕ) → length l ≡ w → ((k : ℕ) → get_or l k 0 < 256) → bytes_of w (word_from w l 0) ≡ l
unfolding bytes_of word_from
bytes_back zero [] e h = refl
bytes_back zero (x ∷ l) e h = absurd (omega arith)
bytes_back (suc w) [] e h = absurd (omega arith)
bytes_back (suc w) (x ∷ l) e h =
    let rest = word-behind w x l 0 in
    let low : (x + 256 * word_from w l 0) % 256 ≡ x = omega (arith, h 0) in
    let high : (x + 256 * word_from w l 0) / 256 ≡ word_from w l 0 = omega (arith, h 0) in
    rw (rest, low, high, bytes_back w l (suc_inj e) (λ k. h (suc k)))

pub chip-bytes : (order : ByteOrder) (w : ℕ) (b : List ℕ) (at : ℕ) → ((k : ℕ) → get_or b k 0 < 256) → at + w ≤ length b
    → chip_bytes_of order w (chip_word_from order w b at) ≡ take w (drop at b)
unfolding chip_word_from chip_bytes_of
chip-bytes order w b at h l =
    let long : length (take w (drop at b)) ≡ w = length-take-le w (drop at b) (simp length-drop (omega arith)) in
    let bytes = in_order_lt order (take w (drop at b)) (part_lt b at w h) in
    ap (in_order order) (bytes_back w (in_order order (take w (drop at b))) (in_order-length order (take w (drop at b)) ∙ long) bytes)
    ∙ in_order_twice order (take w (drop at b))

pub chip_bytes-length : (order : ByteOrder) (w v : ℕ) → length (chip_bytes_of order w v) ≡ w
unfolding chip_bytes_of
chip_bytes-length order w v = in_order-length order (bytes_of w v) ∙ bytes-length w v

-- the same words
pub chip_words_cong : (order : ByteOrder) (w : ℕ) (f g : ℕ → ℕ) (n : ℕ) → ((i : ℕ) → i < n → f i ≡ g i) → chip_words_bytes order w f n ≡ chip_words_bytes order w g n
chip_words_cong order w f g n h = joined_cong n _ _ (λ i l. ap (chip_bytes_of order w) (h i l))
