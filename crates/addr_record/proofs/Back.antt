-- A record that is written is no refused one, and reads back as the layout that it was written from. Assumes nothing.
use Rattle.std.specs.Prelude.{Option, Some, None, ℕ}
use mathlib.Core.Path.{◌≡◌, refl}
use mathlib.Core.Bool.{true}
use Rattle.lists.specs.Tab.{tab}
use Rattle.fields.proofs.Parts.{array_is, not_none}
use Rattle.addr_layout.specs.declared.layout.AddrLayout.{AddrLayout}
use Rattle.addr_record.specs.AddrRecord.{x_byte, x_of, layout_bytes, layout_at, layout_formed, XNamed, ValuedAddr}

x_back : (x : Option ℕ) → XNamed x → x_of (x_byte x) ≡ x
x_back None h = refl
x_back (Some g) h = rw (not_none h)

pub layout-back : (l : AddrLayout) → ValuedAddr l → layout_at (layout_bytes l) ≡ l
unfolding layout_at layout_bytes tab
layout-back l v = λ i. record {
  gpio_base = l.gpio_base;
  num_addr_pins = l.num_addr_pins;
  x1_gpio = x_back l.x1_gpio v.x1_gpio i;
  x2_gpio = x_back l.x2_gpio v.x2_gpio i;
  gpios = array_is 0 l.gpios 24 v.gpios i;
  num_lines = l.num_lines;
  num_excess = l.num_excess;
}

pub layout-formed : (l : AddrLayout) → layout_formed (layout_bytes l) ≡ true
unfolding layout_formed layout_bytes tab
layout-formed l = refl
