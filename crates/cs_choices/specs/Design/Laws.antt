-- The law of both searches: the two parts of a choice number give the GPIOs that the number gives. Assumes nothing.
use mathlib.Core.Path.{◌≡◌, refl, sym, ◌∙◌, ap}
use mathlib.Core.Bool.{true, false, cond}
use mathlib.Core.List.{List}
use Prim.Native.Nat.{ℕ, zero, suc, ◌+◌, ◌-◌, ◌*◌, ◌^◌, ◌≤◌, ◌<◌}
use native.Mathlib.Nat.{add-zero, add-suc, zero-add}
use native.Mathlib.Omega.{arith}
use lib.Bits.{bit_or}
use lib.Dec.{leb, ltb}
use lib.ListN.{length}
use borrow.Author.Tests.{le-leb, lt-leb, le-ltb, ltb-true, ltb-false}
use Rattle.gpio.specs.Set.{with, set_of}
use Rattle.lists.proofs.Bools.{and_true}
use Rattle.gpio.proofs.Sets.{union_turn, set_cong}
use Rattle.listing.specs.Choice.{gpio_at, bit_of}
use Rattle.listing.specs.declared.Listed.{Listed}
use Rattle.listing.proofs.Parts.{gpio-low, gpio-high}
use Rattle.search.specs.Search.{better_of, best}
use Rattle.cs_verdict.specs.Verdict.{verdict_trial}
use Rattle.cs_choices.specs.Sets.{data_set, select_set, verdict_on}
use Rattle.cs_choices.specs.Design.Seen.{none_seen, seen_with, seen_onward}
use Rattle.cs_choices.specs.Design.Parts.{set_part_at, parts_of, in_row}
use Rattle.cs_choices.specs.declared.choices.Fixed.{Fixed}

module _ (ls : List Listed) (from c : ℕ) where
  -- every bit is at or past 0
  whole-turn : (k : ℕ) → set_part_at ls from false 0 c (suc k) ≡ cond (leb from k) (with (set_part_at ls from false 0 c k) (gpio_at ls c k)) (set_part_at ls from false 0 c k)
  unfolding set_part_at
  whole-turn k = rw (le-ltb (bit_of ls k) 0 (omega arith), and_true (leb from k))

  -- no pin before the first counts
  none_before : (k : ℕ) → k ≤ from → set_part_at ls from false 0 c k ≡ 0
  unfolding set_part_at
  none_before zero h = refl
  none_before (suc k) h = rw (lt-leb from k h) (none_before k (omega arith))

  -- the pins from the first on
  pub whole_set : (m : ℕ) → set_part_at ls from false 0 c (from + m) ≡ set_of m (λ j. gpio_at ls c (from + j))
  unfolding set_of
  whole_set zero = rw add-zero (none_before from (omega arith))
  whole_set (suc m) = rw (add-suc, whole-turn (from + m), le-leb from (from + m) (omega arith), whole_set m)

module _ (ls : List Listed) (from b s q : ℕ) (h : q < 2 ^ s) where
  -- the k-th pin is of one part, and has there the GPIO that it has under the whole number
  pub parts_join : (k : ℕ) → bit_or (set_part_at ls from true s q k) (set_part_at ls from false s (b * 2 ^ s) k) ≡ set_part_at ls from false 0 (b * 2 ^ s + q) k
  unfolding set_part_at
  parts_join zero = refl
  parts_join (suc k) =
      sym (whole-turn ls from (b * 2 ^ s + q) k ∙ rw (← parts_join k) (union_turn (set_part_at ls from true s q k) (set_part_at ls from false s (b * 2 ^ s) k) (gpio_at ls (b * 2 ^ s + q) k) (gpio_at ls q k)
      (gpio_at ls (b * 2 ^ s) k) (leb from k) (ltb (bit_of ls k) s) (λ e. gpio-low ls b s q k h (ltb-true _ _ e)) (λ e. gpio-high ls b s q k h (ltb-false _ _ e))))

module _ (ls : List Listed) (n c : ℕ) where
  pub data-whole : set_part_at ls 0 false 0 c n ≡ data_set ls n c
  data-whole = ap (λ (x : ℕ). set_part_at ls 0 false 0 c x) (sym (zero-add n)) ∙ whole_set ls 0 c n ∙ set_cong n (λ j. gpio_at ls c (0 + j)) (λ j. gpio_at ls c j) (λ j l. rw zero-add)

  pub select-whole : n ≤ length ls → (excess : ℕ) → bit_or (set_part_at ls n false 0 c (length ls)) excess ≡ select_set ls n excess c
  select-whole h excess =
      let e : n + (length ls - n) ≡ length ls = omega arith in
      ap (λ (x : ℕ). bit_or x excess) (ap (λ (x : ℕ). set_part_at ls n false 0 c x) (sym e) ∙ whole_set ls n c (length ls - n))

-- a choice of a row has the GPIOs of its two parts
pub row-verdict : (ls : List Listed) (f : Fixed) (b s q : ℕ) → f.num_data ≤ length ls → q < 2 ^ s
    → in_row f (parts_of ls f.num_data true s q) (parts_of ls f.num_data false s (b * 2 ^ s)) ≡ verdict_on ls f (b * 2 ^ s + q)
row-verdict ls f b s q l h =
    let n = f.num_data in
    let c = b * 2 ^ s + q in
    rw (parts_join ls 0 b s q h n, parts_join ls n b s q h (length ls), data-whole ls n c, select-whole ls n c l f.excess)

-- with a choice's two parts passed, it is passed
pub row-passes : (ls : List Listed) (f : Fixed) (k row q : ℕ) → f.num_data ≤ length ls → q < 2 ^ k →
    let trial = λ (c : ℕ). verdict_trial (verdict_on ls f c) in
    better_of (best trial (row * 2 ^ k + q)) (row * 2 ^ k + q) (verdict_trial (in_row f (parts_of ls f.num_data true k q) (parts_of ls f.num_data false k (row * 2 ^ k)))) ≡ best trial (suc (row * 2 ^ k + q))
unfolding best
row-passes ls f k row q l h = rw (row-verdict ls f row k q l h)

-- with a choice's two parts passed, it is passed
pub row-seen : (ls : List Listed) (f : Fixed) (ignored k row q : ℕ) → f.num_data ≤ length ls → q < 2 ^ k
    → seen_with ignored (seen_onward ignored none_seen (verdict_on ls f) (row * 2 ^ k + q)) (in_row f (parts_of ls f.num_data true k q) (parts_of ls f.num_data false k (row * 2 ^ k))) ≡ seen_onward ignored none_seen (verdict_on ls f) (suc (row * 2 ^ k + q))
unfolding seen_onward
row-seen ls f ignored k row q l h = rw (row-verdict ls f row k q l h)
