-- A layout that a search found has a record that reads back as it. Assumes nothing.
use mathlib.Core.Path.{◌≡◌, refl, sym, ◌∙◌, ap}
use mathlib.Core.Bool.{Bool, true, false, not, ◌&&◌, cond}
use Prim.Native.Nat.{ℕ, ◌+◌, ◌-◌, ◌≤◌, ◌<◌}
use native.Mathlib.Omega.{arith}
use lib.Dec.{leb}
use lib.ListN.{length}
use lib.Count.{trailing_le}
use Rattle.lists.proofs.Tab.{tab-length}
use Rattle.gpio.specs.Set.{lowest, gapless, gap}
use Rattle.slot.specs.Description.{is_single}
use Rattle.slot.specs.declared.description.Description.{Description}
use Rattle.domain.specs.Domain.{description_in}
use Rattle.listing.specs.Choice.{gpio_at}
use Rattle.listing.proofs.InDomain.{gpio_in_lem}
use Rattle.addr_lines.specs.Lines.{addr_listed, lines}
use Rattle.addr_layout.specs.Layouts.{line_gpio, addr_layout_of}
use Rattle.addr_law.proofs.InDomain.{listed_in}
use Rattle.addr_record.specs.AddrRecord.{XNamed, ValuedAddr}
use Rattle.cs_pins.specs.Pins.{numbered}
use Rattle.addr_layout.specs.declared.layout.AddrLayout.{AddrLayout}
use Rattle.cs_data_layout.specs.Choices.{ignore_index, cs_data_layout_of}
use Rattle.cs_data_record.specs.CsDataRecord.{IgnoreNamed, ValuedCsData}

named : (used : Bool) (g : ℕ) → g ≤ 47 → XNamed (line_gpio used g)
named true g l = omega arith
named false g l = tt

pub addr-valued : (d : Description) (c : ℕ) → description_in d ≡ true → ValuedAddr (addr_layout_of d (addr_listed d) c)
addr-valued d c e =
    let small = gpio_in_lem (addr_listed d) (listed_in d e) c in
    record {
      gpios = tab-length _ 24;
      x1_gpio = named (not (is_single d.set_type)) _ (small (lines d));
      x2_gpio = named (not (is_single d.set_type) && leb 3 d.num_chips) _ (small (lines d + 1));
    }

ignored : (s : ℕ) (t : Bool) → gapless s ≡ t → IgnoreNamed (ignore_index s)
ignored s true e = rw e tt
ignored s false e = rw e (omega (arith, trailing_le 64 (gap s)))

pub cs_data_valued : (d : Description) (h : AddrLayout) (c : ℕ) → ValuedCsData (cs_data_layout_of d h (numbered d) c)
cs_data_valued d h c = record {
  data_pin_gpios = tab-length _ 16;
  cs_ignore_index = ignored _ _ refl;
  select_lines = tab-length _ 30;
  commoned_lines = tab-length _ 6;
}
