-- What the data lines in the order of a dump's bytes say is the word in that order. Assumes nothing.
use mathlib.Core.Path.{◌≡◌, refl, sym, ◌∙◌, ap}
use Prim.Native.Nat.{ℕ, zero, suc, ◌+◌, ◌-◌, ◌*◌, ◌/◌, ◌%◌, ◌^◌, ◌≤◌, ◌<◌}
use native.Mathlib.Nat.{add-zero, add-suc, mul-add, mul_left_comm}
use native.Mathlib.Omega.{arith}
use mathlib.Core.Bool.{Bool, true, false, cond}
use lib.Dec.{eqb}
use lib.ListN.{get_or}
use lib.Pow.{pow-add}
use borrow.Author.Tests.{lt-ltb, le-ltb}
use Rattle.lists.proofs.Tab.{get_or-tab}
use Rattle.bits.specs.Bits.{bit, gather}
use Rattle.bits.proofs.Gathered.{gather_lt, gather_cong}
use Rattle.words.specs.Words.{word_from, bytes_of}
use Rattle.words.specs.declared.ByteOrder.{ByteOrder}
use Rattle.words.specs.declared.ByteOrder.TheVariants.{LowFirst, HighFirst}
use Rattle.words.proofs.Turned.{turned_word, turned_low}
use Rattle.entry_words.specs.Design.Reading.{gathered}
use Rattle.entry_words.specs.declared.Map.{Map}
use Rattle.dump_lines.specs.Design.Lines.{other_byte, turned_map, ordered_map}

-- some lines, and more above them
gather_more : (n : ℕ) (p : ℕ → ℕ) (i m : ℕ) → gather (n + m) p i ≡ gather n p i + 2 ^ n * gather m (λ k. p (n + k)) i
unfolding gather
gather_more n p i zero = rw add-zero (omega arith)
gather_more n p i (suc m) =
    rw (add-suc, gather_more n p i m, pow-add, mul-add) (omega (arith, mul_left_comm (2 ^ n) (bit i (p (n + m))) (2 ^ m)))

-- a word of two bytes, high byte first
turned_two : (low high : ℕ) → low < 256 → high < 256 → turned_word HighFirst 2 (low + 256 * high) ≡ high + 256 * low
unfolding turned_word word_from bytes_of
turned_two low high h g =
    let a : (low + 256 * high) % 256 ≡ low = omega arith in
    let b : (low + 256 * high) / 256 ≡ high = omega arith in
    let c : high % 256 ≡ high = omega arith in
    rw (a, b, c) (omega arith)

turned_one : (v : ℕ) → v < 256 → turned_word HighFirst 1 v ≡ v
unfolding turned_word word_from bytes_of
turned_one v h = let a : v % 256 ≡ v = omega arith in rw a (omega arith)

none : (p : ℕ → ℕ) (i : ℕ) → gather 0 p i ≡ turned_word HighFirst 0 (gather 0 p i)
unfolding gather turned_word word_from bytes_of
none p i = refl

-- as many lines
pub same_lines : (order : ByteOrder) (m : Map) → (ordered_map order m).lines ≡ m.lines
unfolding ordered_map
same_lines LowFirst m = refl
same_lines HighFirst m = by (eqb m.lines 16)
  where
    by : (b : Bool) → (cond b (turned_map m) m).lines ≡ m.lines
    by true = refl
    by false = refl

module _ (m : Map) (i : ℕ) where
  abbrev at : ℕ → ℕ
  at k = get_or m.positions k 0

  abbrev other : ℕ → ℕ
  other k = get_or (turned_map m).positions k 0

  other_low : (k : ℕ) → k < 8 → other k ≡ at (8 + k)
  other_low k l =
      let there : k + 8 ≡ 8 + k = omega arith in
      get_or-tab (λ j. at (other_byte j)) 32 k 0 (omega arith) ∙ rw (lt-ltb k 8 l, there)

  other_high : (k : ℕ) → k < 8 → other (8 + k) ≡ at k
  other_high k l =
      let back : 8 + k - 8 ≡ k = omega arith in
      get_or-tab (λ j. at (other_byte j)) 32 (8 + k) 0 (omega arith) ∙ rw (le-ltb (8 + k) 8 (omega arith), back)

  exchanged : gather 16 other i ≡ turned_word HighFirst 2 (gather 16 at i)
  exchanged =
      let low = gather_lt 8 at i in
      let high = gather_lt 8 (λ k. at (8 + k)) i in
      gather_more 8 other i 8
      ∙ ap (λ (x : ℕ). x + 256 * gather 8 (λ k. other (8 + k)) i) (gather_cong 8 other (λ k. at (8 + k)) i other_low)
      ∙ ap (λ (x : ℕ). gather 8 (λ k. at (8 + k)) i + 256 * x) (gather_cong 8 (λ k. other (8 + k)) at i other_high)
      ∙ sym (ap (turned_word HighFirst 2) (gather_more 8 at i 8) ∙ turned_two (gather 8 at i) (gather 8 (λ k. at (8 + k)) i) low high)

  -- a word of no byte, of one and of two
  by_bytes : (w : ℕ) → w ≤ 2 → m.lines ≡ 8 * w
      → gather m.lines (λ k. get_or (cond (eqb m.lines 16) (turned_map m) m).positions k 0) i ≡ turned_word HighFirst w (gather m.lines at i)
  by_bytes zero h e = rw e (none at i)
  by_bytes (suc zero) h e = rw e (sym (turned_one (gather 8 at i) (gather_lt 8 at i)))
  by_bytes (suc (suc zero)) h e = rw e exchanged
  by_bytes (suc (suc (suc w))) h e = absurd (omega arith)

  -- what the lines in order say
  pub ordered_says : (order : ByteOrder) (w : ℕ) → w ≤ 2 → m.lines ≡ 8 * w → gathered (ordered_map order m) i ≡ turned_word order w (gathered m i)
  unfolding gathered ordered_map
  ordered_says LowFirst w h e =
      let small : 2 ^ m.lines ≡ 2 ^ (8 * w) = ap (λ (n : ℕ). 2 ^ n) e in
      sym (turned_low w (gather m.lines at i) (omega (arith, small, gather_lt m.lines at i)))
  ordered_says HighFirst w h e = ap (λ (n : ℕ). gather n (λ k. get_or (ordered_map HighFirst m).positions k 0) i) (same_lines HighFirst m) ∙ by_bytes w h e
