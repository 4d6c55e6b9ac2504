-- The address layout record of docs/INTERFACE.md, place by place: the bytes of a layout, and the layout that bytes give.
-- Assumes nothing.
use Rattle.std.specs.Prelude.{◌≡◌, ℕ, ◌<◌, Bool, cond, ◌&&◌, ◌||◌, List, [], ◌∷◌, ◌++◌, eqb, length, Option, Some, None}
use Rattle.fields.specs.Fields.{byte_at, bytes_at, four_at, field}
use Rattle.addr_layout.specs.declared.layout.AddrLayout.{AddrLayout}

-- "36 bytes"
abbrev pub addr_size : ℕ
addr_size = 36

-- "255 none"
-- 01 Shape 10: an X pin that has no GPIO is a byte of 255
abbrev pub x_byte : Option ℕ → ℕ
x_byte None = 255
x_byte (Some g) = g

abbrev pub x_of : ℕ → Option ℕ
x_of x = cond (eqb x 255) None (Some x)

-- places 0 to 7
abbrev pub addr_head : AddrLayout → List ℕ
addr_head l =
    l.gpio_base ∷ l.num_addr_pins ∷ x_byte l.x1_gpio ∷ x_byte l.x2_gpio ∷ l.num_lines ∷ l.num_excess
    ∷ 0 ∷ 0 ∷ []

-- "kept for the marks of inverted lines"
abbrev pub inverted_bytes : List ℕ
inverted_bytes = 0 ∷ 0 ∷ 0 ∷ 0 ∷ []

unfoldable pub layout_bytes : AddrLayout → List ℕ
layout_bytes l = addr_head l ++ field 24 l.gpios ++ inverted_bytes

-- what the record lays out
unfoldable pub layout_at : List ℕ → AddrLayout
layout_at b = record {
  gpio_base = byte_at b 0;
  num_addr_pins = byte_at b 1;
  x1_gpio = x_of (byte_at b 2);
  x2_gpio = x_of (byte_at b 3);
  gpios = bytes_at b 8 24;
  num_lines = byte_at b 4;
  num_excess = byte_at b 5;
}

-- what the type and the search say of a layout: the array's length, and X GPIOs that are not the byte for none
abbrev pub XNamed : Option ℕ → Type 0
XNamed None = Unit
XNamed (Some g) = g < 255

pub record ValuedAddr (l : AddrLayout) : Type 0 where
  pub gpios : length l.gpios ≡ 24
  pub x1_gpio : XNamed l.x1_gpio
  pub x2_gpio : XNamed l.x2_gpio

-- the length, and the places that must be 0
unfoldable pub layout_formed : List ℕ → Bool
layout_formed b = eqb (length b) addr_size && eqb (byte_at b 6) 0 && eqb (byte_at b 7) 0 && eqb (four_at b 32) 0

-- "no bytes: no layout is given"
abbrev pub none_given : List ℕ → Bool
none_given b = eqb (length b) 0

abbrev pub given_at : List ℕ → Option AddrLayout
given_at b = cond (none_given b) None (Some (layout_at b))

abbrev pub given_formed : List ℕ → Bool
given_formed b = none_given b || layout_formed b
