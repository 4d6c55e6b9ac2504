-- Demand 2 of the exported searches: past the earlier tests a layout is found exactly if some choice of candidates fits, and what is
-- written then is the best one's record. Assumes nothing.
use Rattle.std.specs.Prelude.{◌≡◌, true, List, ◌⊎◌, ℕ, ◌+◌, ◌-◌, ◌*◌, ◌≤◌, ◌<◌, length, get_or, take, Ok, None, Option}
use Rattle.gpio.specs.Set.{gapless}
use Rattle.slot.specs.Description.{is_multi}
use Rattle.slot.specs.declared.description.Description.{Description}
use Rattle.listing.specs.Listing.{first_fault}
use Rattle.listing.specs.Choice.{CandidateOf, pin_at, gpio_at}
use Rattle.listing.specs.declared.Listed.{Listed}
use Rattle.addr_lines.specs.Lines.{addr_listed}
use Rattle.addr_layout.specs.Search.{addr_search_in}
use Rattle.addr_layout.specs.declared.layout.AddrLayout.{AddrLayout}
use Rattle.addr_law.specs.Law.{Spanned}
use Rattle.cs_pins.specs.Pins.{numbered, cs_search_in}
use Rattle.cs_verdict.specs.Verdict.{selectable, in_one_window}
use Rattle.cs_data_layout.specs.Search.{given_in, earlier}
use Rattle.cs_data_layout.specs.declared.layout.CsDataLayout.{CsDataLayout}
use Rattle.cs_data_law.specs.Law.{data_picked, select_picked, all_picked, preference, total_span}
use Rattle.description_record.specs.Record.{decoded_of}
use Rattle.addr_record.specs.AddrRecord.{addr_size, layout_at, given_at, given_formed}
use Rattle.cs_data_record.specs.CsDataRecord.{cs_data_size, cs_data_at}
use Rattle.calls.specs.Calls.{addr_call, cs_data_call, Returned, search_result}
use Rattle.demands.specs.Refused.{number_in}

-- what the bytes describe
abbrev pub described : List ℕ → Description
described bytes = (decoded_of bytes).description

-- 00 Demand 2: a choice of candidates: for each listed pin one of its candidates
abbrev pub ChoiceOf : List Listed → (ℕ → ℕ) → Type 0
ChoiceOf ls pick = (k : ℕ) → k < length ls → CandidateOf (pin_at ls k) (pick k)

-- 00 Demand 2: a PIO block sees 32 GPIOs from base 0 or 16, so many from a lowest one among them
abbrev pub Seen : ℕ → ℕ → Type 0
Seen low pins = (low + pins ≤ 32) ⊎ ((16 ≤ low) × (low + pins ≤ 48))

-- the address search: the GPIOs picked fit, spanning so many from a lowest one on
pub record AddressFits (d : Description) (pick : ℕ → ℕ) (low pins : ℕ) : Type 0 where
  pub lowest : Spanned d pick low
  pub above : (g : ℕ) → Spanned d pick g → low ≤ g
  pub below : (g : ℕ) → Spanned d pick g → g < low + pins
  pub eight : 8 ≤ pins
  pub tight : (pins ≡ 8) ⊎ Spanned d pick (low + pins - 1)
  pub seen : Seen low pins

-- 01 addr_layout 10: a choice's score
abbrev pub address_score : ℕ → ℕ → ℕ
address_score low pins = pins * 1000 + low

-- 00 Demand 2: a layout is that of a choice which fits, has the lowest score of all that fit, and is the earliest of those that have it
pub record BestAddress (d : Description) (l : AddrLayout) : Type 0 where
  pub choice : ℕ
  pub lines : (n : ℕ) → n < l.num_lines → get_or l.gpios n 0 ≡ gpio_at (addr_listed d) choice n
  pub fits : AddressFits d (λ k. gpio_at (addr_listed d) choice k) l.gpio_base l.num_addr_pins
  pub lowest : (pick : ℕ → ℕ) (low pins : ℕ) → ChoiceOf (addr_listed d) pick → AddressFits d pick low pins
      → address_score l.gpio_base l.num_addr_pins ≤ address_score low pins
  pub earliest : (j low pins : ℕ) → j < choice → AddressFits d (λ k. gpio_at (addr_listed d) j k) low pins
      → address_score l.gpio_base l.num_addr_pins < address_score low pins

abbrev pub address_called : List ℕ → List ℕ → Returned
address_called description buffer = search_result (addr_call description buffer)

-- 00 Demand 2: 01's earlier tests are past: the bytes are a description in the domain, each listed pin has a candidate, and the buffer has
-- room for the record
pub record AddressPast (description buffer : List ℕ) : Type 0 where
  pub formed : (decoded_of description).answer ≡ Ok tt
  pub domain : addr_search_in (described description) ≡ true
  pub no_fault : first_fault (addr_listed (described description)) ≡ None
  pub room : addr_size ≤ length buffer

pub record AddressDemand (description buffer : List ℕ) : Type 0 where
  pub found : (pick : ℕ → ℕ) (low pins : ℕ) → ChoiceOf (addr_listed (described description)) pick
      → AddressFits (described description) pick low pins → (address_called description buffer).result ≡ 0
  pub best : (address_called description buffer).result ≡ 0
      → BestAddress (described description) (layout_at (take addr_size (address_called description buffer).buffer))
  -- there is one such choice, so that a demand which said less would not do
  pub one : (l m : AddrLayout) (p : BestAddress (described description) l) (q : BestAddress (described description) m)
      → (p.choice ≡ q.choice) × (l.gpio_base ≡ m.gpio_base) × (l.num_addr_pins ≡ m.num_addr_pins)
  pub none : ((pick : ℕ → ℕ) (low pins : ℕ) → ChoiceOf (addr_listed (described description)) pick
      → AddressFits (described description) pick low pins → ⊥) → number_in (address_called description buffer).result ≡ 9

-- the select search: the GPIOs picked fit
pub record SelectFits (d : Description) (a : Option AddrLayout) (pick : ℕ → ℕ) : Type 0 where
  pub data-gapless : gapless (data_picked d pick) ≡ true
  pub select-gap : selectable (is_multi d.set_type) (select_picked d a pick) ≡ true
  pub window : in_one_window (all_picked d a pick) ≡ true

-- 00 Demand 2: the same of a select layout; a score is the preference first, and then the span of all GPIOs
pub record BestSelect (d : Description) (a : Option AddrLayout) (l : CsDataLayout) : Type 0 where
  pub choice : ℕ
  pub lines : (k : ℕ) → k < l.num_data_pins → get_or l.data_pin_gpios k 0 ≡ gpio_at (numbered d) choice k
  pub fits : SelectFits d a (λ k. gpio_at (numbered d) choice k)
  pub lowest : (pick : ℕ → ℕ) → ChoiceOf (numbered d) pick → SelectFits d a pick
      → (preference d a (λ k. gpio_at (numbered d) choice k) < preference d a pick)
      ⊎ ((preference d a (λ k. gpio_at (numbered d) choice k) ≡ preference d a pick)
      × (total_span d a (λ k. gpio_at (numbered d) choice k) ≤ total_span d a pick))
  pub earliest : (j : ℕ) → j < choice → SelectFits d a (λ k. gpio_at (numbered d) j k)
      → (preference d a (λ k. gpio_at (numbered d) choice k) < preference d a (λ k. gpio_at (numbered d) j k))
      ⊎ ((preference d a (λ k. gpio_at (numbered d) choice k) ≡ preference d a (λ k. gpio_at (numbered d) j k))
      × (total_span d a (λ k. gpio_at (numbered d) choice k) < total_span d a (λ k. gpio_at (numbered d) j k)))

abbrev pub select_called : List ℕ → List ℕ → List ℕ → Returned
select_called description layout buffer = search_result (cs_data_call description layout buffer)

-- 00 Demand 2: of this search the earlier tests are past too
pub record SelectPast (description layout buffer : List ℕ) : Type 0 where
  pub formed : (decoded_of description).answer ≡ Ok tt
  pub layout-formed : given_formed layout ≡ true
  pub domain : cs_search_in (described description) ≡ true
  pub given_domain : given_in (described description) (given_at layout) ≡ true
  pub no_fault : earlier (described description) (given_at layout) ≡ None
  pub room : cs_data_size ≤ length buffer

pub record SelectDemand (description layout buffer : List ℕ) : Type 0 where
  pub found : (pick : ℕ → ℕ) → ChoiceOf (numbered (described description)) pick
      → SelectFits (described description) (given_at layout) pick → (select_called description layout buffer).result ≡ 0
  pub best : (select_called description layout buffer).result ≡ 0
      → BestSelect (described description) (given_at layout) (cs_data_at (take cs_data_size (select_called description layout buffer).buffer))
  pub one : (l m : CsDataLayout) (p : BestSelect (described description) (given_at layout) l)
      (q : BestSelect (described description) (given_at layout) m) → p.choice ≡ q.choice
  -- 01 cs_data_layout 9: why nothing fits is 8, 7 or 9
  pub none : ((pick : ℕ → ℕ) → ChoiceOf (numbered (described description)) pick
      → SelectFits (described description) (given_at layout) pick → ⊥)
      → (number_in (select_called description layout buffer).result ≡ 8) ⊎ (number_in (select_called description layout buffer).result ≡ 7)
      ⊎ (number_in (select_called description layout buffer).result ≡ 9)

-- 00 Demand 2: for all bytes handed in
pub record SecondDemand : Type 0 where
  pub address : (description buffer : List ℕ) → AddressPast description buffer → AddressDemand description buffer
  pub select : (description layout buffer : List ℕ) → SelectPast description layout buffer → SelectDemand description layout buffer
