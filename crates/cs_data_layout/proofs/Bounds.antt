-- What the domain says of the numbers that the select search uses. Assumes nothing.
use mathlib.Core.Path.{◌≡◌}
use mathlib.Core.Bool.{true, ◌&&◌}
use Prim.Native.Nat.{ℕ, ◌+◌, ◌≤◌, ◌<◌}
use native.Mathlib.Omega.{arith}
use lib.Dec.{leb, ltb}
use lib.ListN.{get_or}
use borrow.Author.Tests.{leb-true, ltb-true}
use Rattle.gpio.specs.Candidates.{gpio_in}
use Rattle.lists.specs.Each.{each, between}
use Rattle.lists.proofs.Bools.{and_left, and_right}
use Rattle.lists.proofs.Each.{each_at}
use Rattle.slot.specs.declared.description.Description.{Description}
use Rattle.domain.specs.Domain.{description_in, qualifier_gpio, qualifier_in, qualifiers_in}
use Rattle.domain.proofs.Bounds.{between_is}
use Rattle.listing.specs.Listing.{twos}
use Rattle.gpio.specs.Line.{line_gpio_in}
use Rattle.addr_layout.specs.Layout.{all_lines, layout_in}
use Rattle.addr_layout.specs.declared.layout.AddrLayout.{AddrLayout}
use Rattle.cs_pins.specs.Pins.{numbered, cs_search_in}
use Rattle.cs_data_layout.specs.Choices.{excess_gpio}

module _ (d : Description) where
  pub described : cs_search_in d ≡ true → description_in d ≡ true
  unfolding cs_search_in
  described e = and_left (description_in d) (leb (twos (numbered d)) 16) e

  pub few-twos : cs_search_in d ≡ true → twos (numbered d) ≤ 16
  unfolding cs_search_in
  few-twos e = leb-true (twos (numbered d)) 16 (and_right (description_in d) (leb (twos (numbered d)) 16) e)

-- the lines of a layout that is handed in
module _ (h : AddrLayout) (e : layout_in h ≡ true) where
  lines_in : leb (all_lines h) 24 && each (all_lines h) (λ k. between 0 47 (get_or h.gpios k 0)) ≡ true
  unfolding layout_in
  lines_in =
      and_right (gpio_in h.gpio_base && leb h.num_addr_pins 48 && (line_gpio_in h.x1_gpio && line_gpio_in h.x2_gpio))
      (leb (all_lines h) 24 && each (all_lines h) (λ k. between 0 47 (get_or h.gpios k 0))) e

  pub few-lines : all_lines h ≤ 24
  few-lines = leb-true (all_lines h) 24 (and_left (leb (all_lines h) 24) (each (all_lines h) (λ k. between 0 47 (get_or h.gpios k 0))) lines_in)

  pub line_in : (k : ℕ) → k < all_lines h → get_or h.gpios k 0 ≤ 47
  line_in k l =
      (between_is 0 47 (get_or h.gpios k 0)
      (each_at (λ j. between 0 47 (get_or h.gpios j 0)) (all_lines h) (and_right (leb (all_lines h) 24) (each (all_lines h) (λ j. between 0 47 (get_or h.gpios j 0))) lines_in) k l)).1

  pub excess_in : (k : ℕ) → k < h.num_excess → excess_gpio h k ≤ 47
  excess_in k l = line_in (h.num_lines + k) (omega arith)

  module _ (d : Description) (q : qualifiers_in d.qualifiers d.num_qualifiers h.gpios h.num_lines ≡ true) where
    pub qualifier_line_in : (k : ℕ) → k < d.num_qualifiers → qualifier_gpio d.qualifiers h.gpios k ≤ 47
    unfolding qualifier_in
    qualifier_line_in k l =
        let n = d.num_qualifiers in
        let all = and_right (leb n 8) (each n (λ j. qualifier_in d.qualifiers n h.gpios h.num_lines j)) q in
        let one = each_at (λ j. qualifier_in d.qualifiers n h.gpios h.num_lines j) n all k l in
        let index = ltb-true (get_or d.qualifiers k 0) h.num_lines (and_left (ltb (get_or d.qualifiers k 0) h.num_lines) (each n (λ j. leb (qualifier_gpio d.qualifiers h.gpios k) (qualifier_gpio d.qualifiers h.gpios j + 7))) one) in
        line_in (get_or d.qualifiers k 0) (omega (arith, index))
