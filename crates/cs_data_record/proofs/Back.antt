-- A record that is written is no refused one, and reads back as the layout that it was written from. Assumes nothing.
use Rattle.std.specs.Prelude.{Option, Some, None, ℕ}
use mathlib.Core.Path.{◌≡◌, refl}
use mathlib.Core.Bool.{true}
use mathlib.Core.List.{◌++◌}
use lib.Dec.{leb}
use lib.ListN.{replicate}
use Rattle.lists.specs.Tab.{tab}
use Rattle.fields.specs.Fields.{byte_at}
use Rattle.fields.proofs.Parts.{array_is, not_none}
use Rattle.cs_data_layout.specs.Layout.{line}
use Rattle.cs_data_layout.specs.declared.layout.Qualifiers.{Qualifiers}
use Rattle.cs_data_layout.specs.declared.layout.CsDataLayout.{CsDataLayout}
use Rattle.cs_data_record.specs.CsDataRecord.{ignore_byte, ignore_of, qualifier_bytes, qualifiers_at, lines_bytes, cs_data_bytes, cs_data_at, cs_data_formed, IgnoreNamed, ValuedCsData}

ignore_back : (x : Option ℕ) → IgnoreNamed x → ignore_of (ignore_byte x) ≡ x
ignore_back None h = refl
ignore_back (Some k) h = rw (not_none h)

qualifiers-back : (q : Option Qualifiers) → qualifiers_at (replicate 8 0 ++ qualifier_bytes q) ≡ q
qualifiers-back None = refl
qualifiers-back (Some q) = refl

pub cs_data_back : (l : CsDataLayout) → ValuedCsData l → cs_data_at (cs_data_bytes l) ≡ l
unfolding cs_data_at cs_data_bytes lines_bytes tab
cs_data_back l v = λ i. record {
  gpio_base = l.gpio_base;
  base_data_pin = l.base_data_pin;
  num_data_pins = l.num_data_pins;
  data_pin_gpios = array_is 0 l.data_pin_gpios 16 v.data_pin_gpios i;
  base_cs_pin = l.base_cs_pin;
  num_cs_pins = l.num_cs_pins;
  cs_ignore_index = ignore_back l.cs_ignore_index v.cs_ignore_index i;
  select_lines = array_is (line 0 0) l.select_lines 30 v.select_lines i;
  num_select_lines = l.num_select_lines;
  commoned_lines = array_is (line 0 0) l.commoned_lines 6 v.commoned_lines i;
  num_commoned_lines = l.num_commoned_lines;
  qualifiers = qualifiers-back l.qualifiers i;
}

qualified : (q : Option Qualifiers) → leb (byte_at (qualifier_bytes q) 0) 1 ≡ true
qualified None = refl
qualified (Some q) = refl

pub cs_data_formed_lem : (l : CsDataLayout) → cs_data_formed (cs_data_bytes l) ≡ true
unfolding cs_data_formed cs_data_bytes lines_bytes tab
cs_data_formed_lem l = qualified l.qualifiers
