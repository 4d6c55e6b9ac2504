-- A slot on A whose address span is padded past GPIO 29. Assumes nothing.
use Rattle.std.specs.Prelude.{ℕ, ◌≡◌, Ok}
use Rattle.gpio.specs.declared.candidates.Candidates.TheVariants.{One}
use Rattle.slot.specs.declared.description.Package.TheVariants.{A}
use Rattle.slot.specs.declared.description.Description.{Description}
use Rattle.addr_layout.specs.Search.{addr_answer}
use Rattle.addr_layout.specs.declared.layout.AddrLayout.{AddrLayout}
use Rattle.joint_table.specs.Slots.{lines_at}
use Rattle.package_law.specs.Law.{on}

-- three address lines, on the last three GPIOs of A
abbrev pub last_three : Description
last_three = on A (lines_at (One 27) (One 28) (One 29))

-- 02 Slip 3 4: such a slot is laid out, and the 8 pins from base 27 reach up to GPIO 34
pub record PaddedLaw : Type 0 where
  pub layout : AddrLayout
  pub found : addr_answer last_three ≡ Ok layout
  pub base : ◌≡◌ {A = ℕ} layout.gpio_base 27
  pub pins : ◌≡◌ {A = ℕ} layout.num_addr_pins 8
