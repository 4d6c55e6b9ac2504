-- The select and data layout record of docs/INTERFACE.md, place by place: the bytes of a layout, and the layout that bytes
-- give. Assumes nothing.
use Rattle.std.specs.Prelude.{◌≡◌, ℕ, ◌+◌, ◌*◌, ◌-◌, ◌/◌, ◌%◌, ◌<◌, Bool, cond, ◌&&◌, List, [], ◌∷◌, ◌++◌, leb, ltb, eqb, length, get_or, Option, Some, None}
use Rattle.lists.specs.Tab.{tab}
use Rattle.fields.specs.Fields.{byte_at, bytes_at, field}
use Rattle.cs_data_layout.specs.Layout.{line}
use Rattle.cs_data_layout.specs.declared.layout.SelectLine.{SelectLine}
use Rattle.cs_data_layout.specs.declared.layout.Qualifiers.{Qualifiers}
use Rattle.cs_data_layout.specs.declared.layout.CsDataLayout.{CsDataLayout}

-- "100 bytes"
abbrev pub cs_data_size : ℕ
cs_data_size = 100

-- "255 none"
abbrev pub ignore_byte : Option ℕ → ℕ
ignore_byte None = 255
ignore_byte (Some k) = k

abbrev pub ignore_of : ℕ → Option ℕ
ignore_of x = cond (eqb x 255) None (Some x)

-- places 8 to 11: "1 with qualifiers, else 0", and their three numbers, "0 without qualifiers"
abbrev pub qualifier_bytes : Option Qualifiers → List ℕ
qualifier_bytes None = 0 ∷ 0 ∷ 0 ∷ 0 ∷ []
qualifier_bytes (Some q) = 1 ∷ q.base_qualifier_pin ∷ q.num_qualifier_pins ∷ q.qualifier_inactive_pattern ∷ []

-- places 0 to 11
abbrev pub cs_data_head : CsDataLayout → List ℕ
cs_data_head l =
    l.gpio_base ∷ l.base_data_pin ∷ l.num_data_pins ∷ l.base_cs_pin ∷ l.num_cs_pins ∷ ignore_byte l.cs_ignore_index
    ∷ l.num_select_lines ∷ l.num_commoned_lines
    ∷ byte_at (qualifier_bytes l.qualifiers) 0 ∷ byte_at (qualifier_bytes l.qualifiers) 1
    ∷ byte_at (qualifier_bytes l.qualifiers) 2 ∷ byte_at (qualifier_bytes l.qualifiers) 3 ∷ []

-- "30 select lines, then 6 commoned lines"
abbrev pub select_line_at : CsDataLayout → ℕ → SelectLine
select_line_at l k = cond (ltb k 30) (get_or l.select_lines k (line 0 0)) (get_or l.commoned_lines (k - 30) (line 0 0))

-- "two bytes a line: role, GPIO"
abbrev pub line_byte : SelectLine → ℕ → ℕ
line_byte x j = cond (eqb j 0) x.role x.gpio

unfoldable pub lines_bytes : CsDataLayout → List ℕ
lines_bytes l = tab 72 (λ j. line_byte (select_line_at l (j / 2)) (j % 2))

unfoldable pub cs_data_bytes : CsDataLayout → List ℕ
cs_data_bytes l = cs_data_head l ++ field 16 l.data_pin_gpios ++ lines_bytes l

-- the line at a place
abbrev pub line_from : List ℕ → ℕ → SelectLine
line_from b p = line (byte_at b p) (byte_at b (p + 1))

abbrev pub lines_from : List ℕ → ℕ → ℕ → List SelectLine
lines_from b p n = tab n (λ k. line_from b (p + 2 * k))

-- "1 with qualifiers"; without them what stands at the other three places counts for nothing
abbrev pub qualifiers_at : List ℕ → Option Qualifiers
qualifiers_at b =
    cond (eqb (byte_at b 8) 1)
    (Some (record { base_qualifier_pin = byte_at b 9; num_qualifier_pins = byte_at b 10; qualifier_inactive_pattern = byte_at b 11 })) None

-- what the record lays out
unfoldable pub cs_data_at : List ℕ → CsDataLayout
cs_data_at b = record {
  gpio_base = byte_at b 0;
  base_data_pin = byte_at b 1;
  num_data_pins = byte_at b 2;
  data_pin_gpios = bytes_at b 12 16;
  base_cs_pin = byte_at b 3;
  num_cs_pins = byte_at b 4;
  cs_ignore_index = ignore_of (byte_at b 5);
  select_lines = lines_from b 28 30;
  num_select_lines = byte_at b 6;
  commoned_lines = lines_from b 88 6;
  num_commoned_lines = byte_at b 7;
  qualifiers = qualifiers_at b;
}

-- what the type and the search say of a layout: the arrays' lengths, and an ignore index that is not the byte for none
abbrev pub IgnoreNamed : Option ℕ → Type 0
IgnoreNamed None = Unit
IgnoreNamed (Some k) = k < 255

pub record ValuedCsData (l : CsDataLayout) : Type 0 where
  pub data_pin_gpios : length l.data_pin_gpios ≡ 16
  pub cs_ignore_index : IgnoreNamed l.cs_ignore_index
  pub select_lines : length l.select_lines ≡ 30
  pub commoned_lines : length l.commoned_lines ≡ 6

-- the length, and whether there are qualifiers
unfoldable pub cs_data_formed : List ℕ → Bool
cs_data_formed b = eqb (length b) cs_data_size && leb (byte_at b 8) 1
