-- What the search is given and keeps while it runs over the choices in rows. No answer is defined by it: `data_set` and
-- `select_set` say which GPIOs a choice has. Assumes nothing.
use Rattle.std.specs.Prelude.{ℕ, zero, suc, ◌≤◌, Bool, ◌&&◌, cond, List, leb, length}
use Rattle.std.specs.Int.Bits.{bit_or}
use Rattle.gpio.specs.Set.{with}
use Rattle.listing.specs.Choice.{gpio_at, bit_of, GpiosIn}
use Rattle.listing.specs.Design.Packed.{list_of}
use Rattle.listing.specs.Design.Parts.{in_part}
use Rattle.listing.specs.declared.Listed.{Listed}
use Rattle.listing.specs.declared.Listing.{Listing}
use Rattle.cs_verdict.specs.Verdict.{verdict_of}
use Rattle.cs_choices.specs.Sets.{data_set, select_set}
use Rattle.cs_choices.specs.declared.choices.Sets.{Sets}
use Rattle.cs_choices.specs.declared.choices.Fixed.{Fixed}
use Rattle.cs_verdict.specs.declared.Verdict.{Verdict}

-- of the GPIOs that choice c gives the pins from one on, those of pins whose bit is in one part of the number, the first k
-- numbered pins passed
unfoldable pub set_part_at : List Listed → ℕ → Bool → ℕ → ℕ → ℕ → ℕ
set_part_at ls from low split c zero = 0
set_part_at ls from low split c (suc k) =
    cond (leb from k && in_part low split (bit_of ls k)) (with (set_part_at ls from low split c k) (gpio_at ls c k))
    (set_part_at ls from low split c k)

-- the same of data and select pins, the first n being the data pins
abbrev pub parts_of : List Listed → ℕ → Bool → ℕ → ℕ → Sets
parts_of ls n low split c = record { data_gpios = set_part_at ls 0 low split c n; select_gpios = set_part_at ls n low split c (length ls) }

-- the GPIOs of a choice
abbrev pub sets_of : List Listed → ℕ → ℕ → ℕ → Sets
sets_of ls n excess c = record { data_gpios = data_set ls n c; select_gpios = select_set ls n excess c }

-- the verdict on the choice that two parts of a number make
abbrev pub in_row : Fixed → Sets → Sets → Verdict
in_row f low high =
    verdict_of f.multi f.qualifiers (bit_or low.data_gpios high.data_gpios)
    (bit_or (bit_or low.select_gpios high.select_gpios) f.excess)

-- n pins and more are listed, no more than there is room for, and each candidate is a GPIO
pub record PinsIn (l : Listing) (n : ℕ) : Type 0 where
  pub listed : n ≤ l.count
  pub few : l.count ≤ 30
  pub gpios : GpiosIn (list_of l)

-- such pins, and so many bits at most in their choice number or in a part of it
pub record BitsIn (l : Listing) (n bits most : ℕ) : Type 0 where
  pub pins : PinsIn l n
  pub few_bits : bits ≤ most

-- such pins in a list that has them all
pub record SearchIn (l : Listing) (f : Fixed) : Type 0 where
  pub pins : PinsIn l f.num_data
  pub lines : f.num_data ≤ length (list_of l)
