-- cs_data_layout.rs: the GPIOs of a choice. Assumes nothing.
use Rattle.std.specs.Prelude.{ℕ, ◌+◌, ◌-◌, List, length}
use Rattle.std.specs.Int.Bits.{bit_or}
use Rattle.gpio.specs.Set.{set_of}
use Rattle.listing.specs.Choice.{gpio_at}
use Rattle.listing.specs.declared.Listed.{Listed}
use Rattle.cs_verdict.specs.Verdict.{verdict_of}
use Rattle.cs_choices.specs.declared.choices.Fixed.{Fixed}
use Rattle.cs_verdict.specs.declared.Verdict.{Verdict}

-- 01 cs_data_layout 5: the data GPIOs are those of the first n numbered pins, n being the number of data pins
abbrev pub data_set : List Listed → ℕ → ℕ → ℕ
data_set ls n c = set_of n (λ k. gpio_at ls c k)

-- 01 cs_data_layout 3: the pins behind the data pins, select and commoned, make one set with the excess lines
abbrev pub select_set : List Listed → ℕ → ℕ → ℕ → ℕ
select_set ls n excess c = bit_or (set_of (length ls - n) (λ k. gpio_at ls c (n + k))) excess

-- the verdict on choice c, beside what no choice changes
abbrev pub verdict_on : List Listed → Fixed → ℕ → Verdict
verdict_on ls f c =
    verdict_of f.multi f.qualifiers (data_set ls f.num_data c) (select_set ls f.num_data f.excess c)
