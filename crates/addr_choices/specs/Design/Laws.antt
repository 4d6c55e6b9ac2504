-- The law of the search: the two parts of a choice number span what the number spans. Assumes nothing.
use mathlib.Core.Path.{◌≡◌, sym}
use mathlib.Core.Bool.{true, false}
use mathlib.Core.List.{List}
use Prim.Native.Nat.{ℕ, zero, suc, ◌+◌, ◌*◌, ◌^◌, ◌<◌}
use lib.Dec.{ltb}
use lib.ListN.{length}
use borrow.Author.Tests.{ltb-true, ltb-false}
use Rattle.gpio.specs.Design.Span.{spans_joined}
use Rattle.addr_choices.specs.declared.Spanning.{Spanning}
use Rattle.gpio.proofs.Spans.{joined-turn, joined_same}
use Rattle.listing.specs.Choice.{gpio_at, bit_of}
use Rattle.listing.specs.declared.Listed.{Listed}
use Rattle.listing.proofs.Parts.{gpio-low, gpio-high}
use Rattle.search.specs.Search.{better_of, best}
use Rattle.addr_choices.specs.Choices.{spanned, span_up_to, choice_span, span_trial}
use Rattle.addr_choices.specs.Design.Parts.{span_part_at, part_span}

module _ (ls : List Listed) (f : Spanning) (b s q : ℕ) (h : q < 2 ^ s) where
  pub parts_join : (k : ℕ) → span_up_to ls f (b * 2 ^ s + q) k ≡ spans_joined (span_part_at ls f true s q k) (span_part_at ls f false s (b * 2 ^ s) k)
  unfolding span_part_at span_up_to
  parts_join zero = sym (joined_same f.fixed)
  parts_join (suc k) =
      -- the k-th pin is of one part, and has there the GPIO that it has under the whole number
      rw (parts_join k) (joined-turn (span_part_at ls f true s q k) (span_part_at ls f false s (b * 2 ^ s) k) (gpio_at ls (b * 2 ^ s + q) k) (gpio_at ls q k) (gpio_at ls (b * 2 ^ s) k)
      (spanned f k) (ltb (bit_of ls k) s) (λ e. gpio-low ls b s q k h (ltb-true _ _ e)) (λ e. gpio-high ls b s q k h (ltb-false _ _ e)))

-- with a choice's two parts passed, it is passed
pub row-passes : (ls : List Listed) (f : Spanning) (k row q : ℕ) → q < 2 ^ k →
    let trial = λ (c : ℕ). span_trial (choice_span ls f c) in
    better_of (best trial (row * 2 ^ k + q)) (row * 2 ^ k + q) (span_trial (spans_joined (part_span ls f true k q) (part_span ls f false k (row * 2 ^ k)))) ≡ best trial (suc (row * 2 ^ k + q))
unfolding best
row-passes ls f k row q h = rw (parts_join ls f row k q h (length ls))
