-- cs_data_layout.rs: the GPIOs of a choice, and the layout that it makes. Assumes nothing.
use Rattle.std.specs.Prelude.{ℕ, zero, suc, ◌+◌, ◌-◌, ◌/◌, ◌%◌, ◌^◌, cond, List, ltb, eqb, length, get_or, Option, Some, None}
use Rattle.gpio.specs.Set.{with, set_of, lowest, width, gapless, gap}
use Rattle.lists.specs.Tab.{tab}
use Rattle.gpio.specs.declared.candidates.Candidates.{Candidates}
use Rattle.gpio.specs.declared.candidates.Candidates.TheVariants.{Absent, One, Two}
use Rattle.slot.specs.Description.{is_multi, chip0}
use Rattle.slot.specs.declared.description.Description.{Description}
use Rattle.domain.specs.Domain.{qualifier_gpio}
use Rattle.listing.specs.Choice.{gpio_at}
use Rattle.listing.specs.declared.Listed.{Listed}
use Rattle.addr_layout.specs.declared.layout.AddrLayout.{AddrLayout}
use Rattle.cs_pins.specs.Pins.{kind_listed, numbered}
use Rattle.cs_roles.specs.Roles.{select_roles, half_role}
use Rattle.cs_data_layout.specs.Layout.{line}
use Rattle.cs_verdict.specs.Verdict.{all_of, base_of}
use Rattle.cs_choices.specs.Sets.{data_set, select_set, verdict_on}
use Rattle.cs_choices.specs.declared.choices.Fixed.{Fixed}
use Rattle.cs_data_layout.specs.declared.layout.SelectLine.{SelectLine}
use Rattle.cs_data_layout.specs.declared.layout.Qualifiers.{Qualifiers}
use Rattle.cs_data_layout.specs.declared.layout.CsDataLayout.{CsDataLayout}
use Rattle.cs_verdict.specs.declared.Verdict.{Verdict}

-- 01 cs_data_layout 6: there are as many data lines as chip 0 has data pins
abbrev pub num_data : Description → ℕ
num_data d = (chip0 d).num_data_pins

-- the excess lines of the layout handed in, behind its lines in use
abbrev pub excess_gpio : AddrLayout → ℕ → ℕ
excess_gpio h k = get_or h.gpios (h.num_lines + k) 0

abbrev pub excess_set : AddrLayout → ℕ
excess_set h = set_of h.num_excess (λ k. excess_gpio h k)

abbrev pub qualifier_set : Description → AddrLayout → ℕ
qualifier_set d h = set_of d.num_qualifiers (λ k. qualifier_gpio d.qualifiers h.gpios k)

-- what no choice changes
abbrev pub fixed_of : Description → AddrLayout → Fixed
fixed_of d h = record {
  multi = is_multi d.set_type;
  num_data = num_data d;
  excess = excess_set h;
  qualifiers = qualifier_set d h;
}

-- what choice c comes to
abbrev pub cs_verdict : Description → AddrLayout → ℕ → Verdict
cs_verdict d h c = verdict_on (numbered d) (fixed_of d h) c

-- 01 cs_data_layout 3: the ignore index is the missing GPIO, counted from the lowest select; there is none without a gap
abbrev pub ignore_index : ℕ → Option ℕ
ignore_index selectGpios = cond (gapless selectGpios) None (Some (lowest (gap selectGpios) - lowest selectGpios))

-- 01 cs_data_layout 6: the base pin of the qualifiers is their lowest GPIO counted from the base, and their count is their span
-- 01 cs_data_layout 7: each qualifier GPIO sets a bit of the pattern, the lowest of them bit 0; 8 bits will do, as they span at
-- most 8
abbrev pub qualifiers_from : ℕ → ℕ → Option Qualifiers
qualifiers_from qualifiers base =
    cond (eqb qualifiers 0) None
    (Some (record {
      base_qualifier_pin = lowest qualifiers - base;
      num_qualifier_pins = width qualifiers;
      qualifier_inactive_pattern = qualifiers / 2 ^ lowest qualifiers % 0x100;
    }))

-- 01 cs_data_layout 6: the select lines are those of the select pins with their roles, then the excess ones as half selects
abbrev pub select_line : List ℕ → AddrLayout → (ℕ → ℕ) → ℕ → SelectLine
select_line roles h gpio k =
    cond (ltb k (length roles)) (line (get_or roles k 0) (gpio k))
    (cond (ltb k (length roles + h.num_excess)) (line half_role (excess_gpio h (k - length roles))) (line 0 0))

-- the commoned lines of a Multi set, behind the select lines
abbrev pub num_commoned : Description → ℕ
num_commoned d = cond (is_multi d.set_type) d.multi.num_commoned 0

abbrev pub commoned_line : Description → (ℕ → ℕ) → ℕ → SelectLine
commoned_line d gpio k = cond (ltb k (num_commoned d)) (line (get_or d.multi.commoned k 0) (gpio k)) (line 0 0)

-- the layout of numbered pins resolved to GPIOs
-- 01 cs_data_layout 6: the base pins of data and select are their lowest GPIOs counted from the base, the select count is the span
-- of the select GPIOs, and there are as many data lines as the chip has data pins
abbrev pub cs_data_layout_from : Description → AddrLayout → (ℕ → ℕ) → ℕ → ℕ → ℕ → CsDataLayout
cs_data_layout_from d h gpio dataGpios selectGpios base = record {
  gpio_base = base;
  base_data_pin = lowest dataGpios - base;
  num_data_pins = num_data d;
  data_pin_gpios = tab 16 (λ k. cond (ltb k (num_data d)) (gpio k) 0);
  base_cs_pin = lowest selectGpios - base;
  num_cs_pins = width selectGpios;
  cs_ignore_index = ignore_index selectGpios;
  select_lines = tab 30 (λ k. select_line (select_roles d) h (λ j. gpio (num_data d + j)) k);
  num_select_lines = length (select_roles d) + h.num_excess;
  commoned_lines = tab 6 (λ k. commoned_line d (λ j. gpio (num_data d + length (select_roles d) + j)) k);
  num_commoned_lines = num_commoned d;
  qualifiers = qualifiers_from (qualifier_set d h) base;
}

-- 01 cs_data_layout 3: the layout that choice c makes has the base of the window that holds all its GPIOs
abbrev pub cs_data_layout_of : Description → AddrLayout → List Listed → ℕ → CsDataLayout
cs_data_layout_of d h ls c =
    cs_data_layout_from d h (λ k. gpio_at ls c k) (data_set ls (num_data d) c) (select_set ls (num_data d) (excess_set h) c)
    (base_of (all_of (data_set ls (num_data d) c) (select_set ls (num_data d) (excess_set h) c) (qualifier_set d h)))

-- 01 cs_data_layout 8: of an ignored line both candidates count, where it has two
abbrev pub with_candidates : ℕ → Candidates → ℕ
with_candidates s Absent = s
with_candidates s (One g) = with s g
with_candidates s (Two g h) = with (with s g) h

-- 01 cs_data_layout 8: the candidates of the first k ignored lines
unfoldable pub ignored_at : Description → ℕ → ℕ
ignored_at d zero = 0
ignored_at d (suc k) = with_candidates (ignored_at d k) (kind_listed d (get_or d.multi.ignored k 0)).gpios

-- 01 cs_data_layout 8: the ignored lines are those of a Multi set; other sets have none
abbrev pub ignored_set : Description → ℕ
ignored_set d = cond (is_multi d.set_type) (ignored_at d d.multi.num_ignored) 0
