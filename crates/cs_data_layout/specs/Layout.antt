-- The layout of a call that has none, and the address layout that is handed in. Assumes nothing.
use Rattle.std.specs.Prelude.{ℕ, replicate, Option, Some, None, Result, Ok, Err}
use Rattle.refusal.specs.Refusal.{Code, success, refusal_code}
use Rattle.refusal.specs.declared.Refusal.{Refusal}
use Rattle.addr_layout.specs.Layout.{no_layout}
use Rattle.addr_layout.specs.declared.layout.AddrLayout.{AddrLayout}
use Rattle.cs_data_layout.specs.declared.layout.SelectLine.{SelectLine}
use Rattle.cs_data_layout.specs.declared.layout.CsDataLayout.{CsDataLayout}

abbrev pub line : ℕ → ℕ → SelectLine
line role gpio = record { role = role; gpio = gpio }

abbrev pub no_cs_data_layout : CsDataLayout
no_cs_data_layout = record {
  gpio_base = 0;
  base_data_pin = 0;
  num_data_pins = 0;
  data_pin_gpios = replicate 16 0;
  base_cs_pin = 0;
  num_cs_pins = 0;
  cs_ignore_index = None;
  select_lines = replicate 30 (line 0 0);
  num_select_lines = 0;
  commoned_lines = replicate 6 (line 0 0);
  num_commoned_lines = 0;
  qualifiers = None;
}

-- 01 Numbers 1: the code of a select search
abbrev pub cs_data_code : Result CsDataLayout Refusal → Code
cs_data_code (Ok l) = success
cs_data_code (Err why) = refusal_code why

-- the layout that is handed in; one that is not given has no line
abbrev pub handed : Option AddrLayout → AddrLayout
handed None = no_layout
handed (Some l) = l
