-- Demand 2's law of the select search, and why a search in which nothing fits refuses. Assumes nothing.
use Rattle.std.specs.Prelude.{◌≡◌, true, false, ◌&&◌, ◌⊎◌, ℕ, ◌+◌, ◌-◌, ◌^◌, ◌≤◌, ◌<◌, length, Option, None, Ok, Err}
use Rattle.std.specs.Int.Bits.{bit_and, bit_or}
use Rattle.gpio.specs.Set.{set_of, lowest, width, gapless, gap}
use Rattle.slot.specs.Description.{is_multi}
use Rattle.slot.specs.declared.description.Description.{Description}
use Rattle.refusal.specs.declared.Refusal.{Refusal}
use Rattle.refusal.specs.declared.Refusal.TheVariants.{NonContiguousSelect, InteriorIgnoredLine, NoValidLayout}
use Rattle.listing.specs.Listing.{twos}
use Rattle.listing.specs.Choice.{gpio_at}
use Rattle.listing.specs.Law.{Assigned, Numbers}
use Rattle.cs_pins.specs.Pins.{numbered, cs_search_in}
use Rattle.cs_verdict.specs.Verdict.{selectable, all_of, in_one_window, preference_by}
use Rattle.cs_data_layout.specs.Layout.{handed}
use Rattle.cs_data_layout.specs.Choices.{num_data, excess_set, qualifier_set, cs_data_layout_of, ignored_set}
use Rattle.cs_data_layout.specs.Search.{given_in, earlier, cs_data_answer}
use Rattle.addr_layout.specs.declared.layout.AddrLayout.{AddrLayout}
use Rattle.cs_data_layout.specs.declared.layout.CsDataLayout.{CsDataLayout}
use Rattle.cs_data_law.specs.Sound.{SoundLayout, SoundLines, SoundSelects, SoundQualifiers, SoundWindow}

-- 00 Demand 2: the tests before the search are past: what is handed in is in the domain, and none of the other tests refuses it
pub record PastTests (d : Description) (a : Option AddrLayout) : Type 0 where
  pub domain : cs_search_in d && given_in d a ≡ true
  pub no_fault : earlier d a ≡ None

-- how many choices there are, and the GPIO that choice c takes for the k-th numbered pin
abbrev pub choices : Description → ℕ
choices d = 2 ^ twos (numbered d)

abbrev pub choice : Description → ℕ → ℕ → ℕ
choice d c k = gpio_at (numbered d) c k

-- what GPIOs picked for the numbered pins come to, `pick k` being that of the k-th
-- 01 cs_data_layout 5: the data GPIOs are those picked for the first numbered pins, as many as there are data pins
abbrev pub data_picked : Description → (ℕ → ℕ) → ℕ
data_picked d pick = set_of (num_data d) pick

-- 01 cs_data_layout 3: those picked for the pins behind the data pins, select and commoned, make one set with the excess lines
abbrev pub select_picked : Description → Option AddrLayout → (ℕ → ℕ) → ℕ
select_picked d a pick = bit_or (set_of (length (numbered d) - num_data d) (λ k. pick (num_data d + k))) (excess_set (handed a))

-- 01 cs_data_layout 3: the window has to hold data, select and qualifier GPIOs
abbrev pub all_picked : Description → Option AddrLayout → (ℕ → ℕ) → ℕ
all_picked d a pick = all_of (data_picked d pick) (select_picked d a pick) (qualifier_set d (handed a))

-- GPIOs that were picked fit
pub record Fit (d : Description) (a : Option AddrLayout) (pick : ℕ → ℕ) : Type 0 where
  -- 01 cs_data_layout 3: the data GPIOs have no gap
  pub data-gapless : gapless (data_picked d pick) ≡ true
  -- 01 cs_data_layout 3: the select GPIOs have no gap, or the one that is allowed
  pub select-gap : selectable (is_multi d.set_type) (select_picked d a pick) ≡ true
  -- 01 cs_data_layout 3: one window holds all GPIOs
  pub window : in_one_window (all_picked d a pick) ≡ true

-- 01 Number 7: the select set of GPIOs that were picked is refused: the data GPIOs have no gap, and the select GPIOs have one that
-- is not allowed
pub record SelectRefused (d : Description) (a : Option AddrLayout) (pick : ℕ → ℕ) : Type 0 where
  pub data-gapless : gapless (data_picked d pick) ≡ true
  pub select-gap : selectable (is_multi d.set_type) (select_picked d a pick) ≡ false

-- 01 cs_data_layout 4: choices are compared by their preference first
abbrev pub preference : Description → Option AddrLayout → (ℕ → ℕ) → ℕ
preference d a pick = preference_by (select_picked d a pick) (qualifier_set d (handed a))

-- 01 cs_data_layout 4: choices that are preferred alike are compared by the span of all their GPIOs
abbrev pub total_span : Description → Option AddrLayout → (ℕ → ℕ) → ℕ
total_span d a pick = width (all_picked d a pick)

-- 01 cs_data_layout 4: the GPIOs p are no worse than the GPIOs q: preferred, or as preferred and no wider
abbrev pub NoWorse : Description → Option AddrLayout → (ℕ → ℕ) → (ℕ → ℕ) → Type 0
NoWorse d a p q =
    (preference d a p < preference d a q) ⊎ ((preference d a p ≡ preference d a q) × (total_span d a p ≤ total_span d a q))

-- no choice of candidates fits
abbrev pub NoneFits : Description → Option AddrLayout → Type 0
NoneFits d a = (pick : ℕ → ℕ) → Assigned (numbered d) pick → Fit d a pick → ⊥

-- the ignored GPIOs in the gap of the select GPIOs that were picked
abbrev pub seen : Description → Option AddrLayout → (ℕ → ℕ) → ℕ
seen d a pick = bit_and (gap (select_picked d a pick)) (ignored_set d)

-- the select set is refused, and some ignored GPIO is in its gap
pub record Sees (d : Description) (a : Option AddrLayout) (pick : ℕ → ℕ) : Type 0 where
  pub refused : SelectRefused d a pick
  pub some : seen d a pick ≡ 0 → ⊥

-- the first choice that sees one
pub record FirstSeen (d : Description) (a : Option AddrLayout) (c : ℕ) : Type 0 where
  pub within : c < choices d
  pub sees : Sees d a (choice d c)
  pub earlier-none : (j : ℕ) → j < c → Sees d a (choice d j) → ⊥

-- the last choice whose set is refused
pub record LastRefused (d : Description) (a : Option AddrLayout) (c : ℕ) : Type 0 where
  pub within : c < choices d
  pub refused : SelectRefused d a (choice d c)
  pub later_none : (j : ℕ) → c < j → j < choices d → SelectRefused d a (choice d j) → ⊥

-- no choice of candidates sees an ignored GPIO; the set of none is refused
abbrev pub NoneSeen : Description → Option AddrLayout → Type 0
NoneSeen d a = (pick : ℕ → ℕ) → Assigned (numbered d) pick → Sees d a pick → ⊥

abbrev pub NoneRefused : Description → Option AddrLayout → Type 0
NoneRefused d a = (pick : ℕ → ℕ) → Assigned (numbered d) pick → SelectRefused d a pick → ⊥

-- 01 cs_data_layout 9: why nothing fits: 8 with the lowest ignored GPIO that the first choice to see any sees; if none sees any, 7
-- with the set of the last choice whose set is refused; if there is no such choice, 9
pub data WhyNone (d : Description) (a : Option AddrLayout) (why : Refusal) : Type 0 where
  eight : (c : ℕ) → FirstSeen d a c → why ≡ InteriorIgnoredLine (lowest (seen d a (choice d c))) → WhyNone d a why
  seven : (c : ℕ) → NoneSeen d a → LastRefused d a c → why ≡ NonContiguousSelect (record { bits = select_picked d a (choice d c) })
      → WhyNone d a why
  nine : NoneRefused d a → why ≡ NoValidLayout → WhyNone d a why

-- 00 Demand 2: l is the layout of choice c, which fits; it is no worse than any choice of candidates that fits, and no earlier one
-- that fits is as good
pub record FoundBest (d : Description) (a : Option AddrLayout) (c : ℕ) (l : CsDataLayout) : Type 0 where
  pub within : c < choices d
  pub layout : l ≡ cs_data_layout_of d (handed a) (numbered d) c
  pub fit : Fit d a (choice d c)
  pub lowest : (pick : ℕ → ℕ) → Assigned (numbered d) pick → Fit d a pick → NoWorse d a (choice d c) pick
  pub earliest : (j : ℕ) → j < c → Fit d a (choice d j) → NoWorse d a (choice d j) (choice d c) → ⊥
  -- what the layout's own fields keep
  pub sound : SoundLayout d c l
  pub lines : SoundLines d a c l
  pub selects : SoundSelects d l
  pub qualifiers : SoundQualifiers d a l
  pub window : SoundWindow d a l

-- 00 Demand 2: past its tests the select search finds a layout exactly if some choice of candidates fits, and then the best
pub record CsDataDemand (d : Description) (a : Option AddrLayout) : Type 0 where
  -- choices of candidates go by their numbers
  pub numbers : Numbers (numbered d)
  pub some-found : (pick : ℕ → ℕ) → Assigned (numbered d) pick → Fit d a pick → (l : CsDataLayout) × (cs_data_answer d a ≡ Ok l)
  pub found-best : (l : CsDataLayout) → cs_data_answer d a ≡ Ok l → (c : ℕ) × FoundBest d a c l
  -- there is one such layout, so that a law which said less would not do
  pub one-best : (b c : ℕ) (l m : CsDataLayout) → FoundBest d a b l → FoundBest d a c m → l ≡ m
  -- 01 cs_data_layout 9: the answer is a refusal exactly if no choice fits, for the one reason that there is
  pub none-refused : NoneFits d a → (why : Refusal) × (cs_data_answer d a ≡ Err why)
  pub refused_none : (why : Refusal) → cs_data_answer d a ≡ Err why → NoneFits d a × WhyNone d a why
  pub one-why : (v w : Refusal) → WhyNone d a v → WhyNone d a w → v ≡ w
