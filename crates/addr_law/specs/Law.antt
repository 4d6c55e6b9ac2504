-- Demand 2's law of the address search, and what a found layout keeps. Assumes nothing.
use Rattle.std.specs.Prelude.{◌≡◌, true, false, ◌⊎◌, ℕ, ◌+◌, ◌-◌, ◌*◌, ◌^◌, ◌≤◌, ◌<◌, length, get_or, Option, Some, None, Ok, Err}
use Rattle.gpio.specs.Window.{fits}
use Rattle.gpio.specs.declared.candidates.Candidates.{Candidates}
use Rattle.gpio.specs.declared.candidates.Candidates.TheVariants.{Absent, One, Two}
use Rattle.slot.specs.Description.{is_single, is_multi}
use Rattle.slot.specs.declared.description.Description.{Description}
use Rattle.listing.specs.Listing.{twos, first_fault}
use Rattle.listing.specs.Choice.{CandidateOf, gpio_at}
use Rattle.listing.specs.Law.{Assigned, Numbers}
use Rattle.refusal.specs.declared.Refusal.TheVariants.{NoValidLayout}
use Rattle.addr_lines.specs.Lines.{line_listed, addr_listed}
use Rattle.addr_lines.specs.Range.{in_range}
use Rattle.select_span.specs.Selects.{kind_candidates}
use Rattle.addr_choices.specs.Choices.{spanning_of, spanned}
use Rattle.addr_layout.specs.Layouts.{addr_layout_of}
use Rattle.addr_layout.specs.Search.{addr_search_in, addr_answer}
use Rattle.addr_layout.specs.declared.layout.AddrLayout.{AddrLayout}

-- 00 Demand 2: the tests before the search are past: the description is in the domain, and every listed pin has a candidate
pub record PastTests (d : Description) : Type 0 where
  pub domain : addr_search_in d ≡ true
  pub no_fault : first_fault (addr_listed d) ≡ None

-- a GPIO is the first of a pin's candidates
abbrev pub FirstOf : Candidates → ℕ → Type 0
FirstOf Absent g = ⊥
FirstOf (One a) g = g ≡ a
FirstOf (Two a b) g = g ≡ a

-- 01 addr_layout 8: a GPIO that is spanned: the one picked for an in-range line or for an X pin behind the lines; in Multi, also
-- the one that comes first among the candidates of the select line or of a commoned line
pub data Spanned (d : Description) (pick : ℕ → ℕ) (g : ℕ) : Type 0 where
  of_pin : (k : ℕ) → k < length (addr_listed d) → spanned (spanning_of d) k ≡ true → g ≡ pick k → Spanned d pick g
  of_select : is_multi d.set_type ≡ true → FirstOf (kind_candidates d d.multi.select) g → Spanned d pick g
  of_commoned : is_multi d.set_type ≡ true → (k : ℕ) → k < d.multi.num_commoned
      → FirstOf (kind_candidates d (get_or d.multi.commoned k 0)) g → Spanned d pick g

-- the base and the pins of GPIOs that were picked
pub record Extent (d : Description) (pick : ℕ → ℕ) (base pins : ℕ) : Type 0 where
  -- 01 addr_layout 9: the base is the lowest GPIO that is spanned
  pub attained : Spanned d pick base
  pub lowest : (g : ℕ) → Spanned d pick g → base ≤ g
  -- 01 addr_layout 8: the pins reach to the highest GPIO that is spanned, and are never fewer than 8
  pub inside : (g : ℕ) → Spanned d pick g → g < base + pins
  pub wide : 8 ≤ pins
  pub tight : (pins ≡ 8) ⊎ Spanned d pick (base + pins - 1)

-- GPIOs that were picked fit, with this base and these pins
pub record Fit (d : Description) (pick : ℕ → ℕ) (base pins : ℕ) : Type 0 where
  pub extent : Extent d pick base pins
  -- 01 gpio_window 1: one window of the PIO holds base and pins
  pub window : fits base pins ≡ true

-- a GPIO in a layout's window
abbrev pub InWindow : AddrLayout → ℕ → Type 0
InWindow l g = (l.gpio_base ≤ g) × (g < l.gpio_base + l.num_addr_pins)

-- the GPIO of an X pin that picks: a candidate of the pin, in the window
abbrev pub XLaid : AddrLayout → Candidates → Option ℕ → Type 0
XLaid l x used = (g : ℕ) × (used ≡ Some g) × CandidateOf x g × InWindow l g

-- what a found layout's own fields keep, l being the layout of choice c
pub record SoundLayout (d : Description) (c : ℕ) (l : AddrLayout) : Type 0 where
  -- 01 Well wired 1: as many lines are in use as are in range
  pub in_use : l.num_lines ≡ in_range d
  -- the GPIO of each is a candidate of its pin or of the X pin that it took, in the window
  pub line-gpio : (n : ℕ) → n < l.num_lines → get_or l.gpios n 0 ≡ gpio_at (addr_listed d) c n
  pub line-candidate : (n : ℕ) → n < l.num_lines → CandidateOf (line_listed d n).gpios (get_or l.gpios n 0)
  pub line-window : (n : ℕ) → n < l.num_lines → InWindow l (get_or l.gpios n 0)
  -- 01 addr_layout 5: in any set but Single the layout has X1, at a candidate in the window
  pub x1 : is_single d.set_type ≡ false → XLaid l d.board.x1 l.x1_gpio
  -- 01 addr_layout 5: in such a set of at least 3 chips it has X2, likewise
  pub x2 : is_single d.set_type ≡ false → 3 ≤ d.num_chips → XLaid l d.board.x2 l.x2_gpio

-- 01 addr_layout 10: fewer pins score lower, and of as many pins the lower base does
abbrev pub score_of : ℕ → ℕ → ℕ
score_of base pins = pins * 1000 + base

-- 00 Demand 2: l is the layout of choice c, which fits; no choice of candidates that fits scores lower, and every earlier one that
-- fits scores higher
pub record FoundBest (d : Description) (c : ℕ) (l : AddrLayout) : Type 0 where
  pub within : c < 2 ^ twos (addr_listed d)
  pub layout : l ≡ addr_layout_of d (addr_listed d) c
  pub fit : Fit d (λ k. gpio_at (addr_listed d) c k) l.gpio_base l.num_addr_pins
  pub lowest : (pick : ℕ → ℕ) (base pins : ℕ) → Assigned (addr_listed d) pick → Fit d pick base pins
      → score_of l.gpio_base l.num_addr_pins ≤ score_of base pins
  pub earliest : (j base pins : ℕ) → j < c → Fit d (λ k. gpio_at (addr_listed d) j k) base pins
      → score_of l.gpio_base l.num_addr_pins < score_of base pins
  -- what the layout's own fields keep
  pub sound : SoundLayout d c l

-- no choice of candidates fits
abbrev pub NoneFits : Description → Type 0
NoneFits d = (pick : ℕ → ℕ) (base pins : ℕ) → Assigned (addr_listed d) pick → Fit d pick base pins → ⊥

-- 00 Demand 2: past its tests the address search finds a layout exactly if some choice of candidates fits, and then the best
pub record AddrDemand (d : Description) : Type 0 where
  -- choices of candidates go by their numbers
  pub numbers : Numbers (addr_listed d)
  pub some-found : (pick : ℕ → ℕ) (base pins : ℕ) → Assigned (addr_listed d) pick → Fit d pick base pins
      → (l : AddrLayout) × (addr_answer d ≡ Ok l)
  pub found-best : (l : AddrLayout) → addr_answer d ≡ Ok l → (c : ℕ) × FoundBest d c l
  -- there is one such layout, so that a law which said less would not do
  pub one-best : (b c : ℕ) (l m : AddrLayout) → FoundBest d b l → FoundBest d c m → l ≡ m
  -- 01 Number 9: the answer is 9 exactly if no choice fits
  pub none-nine : NoneFits d → addr_answer d ≡ Err NoValidLayout
  pub nine-none : addr_answer d ≡ Err NoValidLayout → NoneFits d
