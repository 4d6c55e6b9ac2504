-- What the search is given, and what the layout of a choice is made from. No answer is defined by it: `addr_answer_of` and `addr_layout_of`
-- say what they come to. Assumes nothing.
use Rattle.std.specs.Prelude.{ℕ, ◌+◌, ◌-◌, ◌≤◌, ◌≡◌, Bool, cond, ltb, Some}
use Rattle.lists.specs.Tab.{tab}
use Rattle.slot.specs.declared.description.Description.{Description}
use Rattle.listing.specs.Listing.{twos}
use Rattle.listing.specs.Design.Packed.{list_of}
use Rattle.listing.specs.declared.Listing.{Listing}
use Rattle.addr_lines.specs.Lines.{lines, addr_listed}
use Rattle.addr_choices.specs.Choices.{spanning_of, choice_span, span_trial}
use Rattle.addr_choices.specs.declared.Spanning.{Spanning}
use Rattle.addr_layout.specs.Layouts.{line_gpio}
use Rattle.addr_layout.specs.declared.layout.AddrLayout.{AddrLayout}

-- the pins and the lines have room, and so has the number of a choice
pub record SearchIn (d : Description) (l : Listing) (bits : ℕ) : Type 0 where
  pub pins : l.count ≤ 30
  pub address-lines : lines d ≤ 24
  pub listed : list_of l ≡ addr_listed d
  pub counted : bits ≡ twos (list_of l)
  pub few_bits : bits ≤ 16

-- the layout of so many pins from a base: `addr_layout_from` has those of a span
abbrev pub laid_from : ℕ → ℕ → (ℕ → ℕ) → Bool → Bool → ℕ → ℕ → AddrLayout
laid_from base pins gpio one both n u = record {
  gpio_base = base;
  num_addr_pins = pins;
  x1_gpio = line_gpio one (gpio n);
  x2_gpio = line_gpio both (gpio (n + 1));
  gpios = tab 24 (λ k. cond (ltb k n) (gpio k) 0);
  num_lines = u;
  num_excess = n - u;
}

-- the pins and the lines have room, and the choice fits
pub record Laying (d : Description) (every : Spanning) (l : Listing) (choice score : ℕ) : Type 0 where
  pub pins : l.count ≤ 30
  pub address-lines : lines d ≤ 24
  pub spanning : every ≡ spanning_of d
  pub fits : span_trial (choice_span (list_of l) (spanning_of d) choice) ≡ Some score
